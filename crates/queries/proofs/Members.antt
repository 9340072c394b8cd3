-- Rows that lead to one another in a sound catalogue.
use Rattle.std.proofs.Common.{◌≡◌, ℕ, ◌+◌, ◌-◌, ◌<◌, ◌≤◌, true, ◌⊎◌, List, length, get_or, sym, refl, subst, inl, inr, arith}
use mathlib.Core.Logic.{∥∥₁_elim}
use native.Mathlib.Nat.{ℕ_set}
use native.Mathlib.Decide.{dec_lt, ℕ_discrete}
use denote.Struct.Props.{props}
use Rattle.std.proofs.lemmas.List.{length-take-le}
use Rattle.model.specs.Plain.{Bytes, Path, Catalogue, no_path}
use Rattle.model.specs.Fits.{Sound, refers}
use Rattle.model.specs.Closure.{Closure, itself, through}
use Rattle.model.proofs.Rows.{one_row, reference_row}
use Rattle.order.specs.declared.rows.RowSet.{RowSet}
use Rattle.order.specs.Rows.{HasJust, Holds}
use Rattle.queries.specs.Reach.{Leads, Needs, hash_at}

-- The rows found so far, where all rows from i on have been looked at.
pub record Walked (paths : List Path) (row : ℕ) (s : RowSet) (i : ℕ) : Type 0 where
  pub start : Holds s row
  pub only : (k : ℕ) → Holds s k → Needs paths row k
  pub shut : (k j : ℕ) → i ≤ k → Holds s k → Leads paths k j → Holds s j

module _ (n : ℕ) (cat : Catalogue) (sound : ∥ Sound n cat ∥₁) where
  abbrev paths : List Path
  paths = cat.paths

  pub one_hash : (i j : ℕ) → i < length paths → j < length paths → hash_at paths i ≡ hash_at paths j → i ≡ j
  one_hash i j li lj e = ∥∥₁_elim sound (ℕ_set i j) (λ s. one_row n paths s.rows i j li lj e)

  -- A reference leads to an earlier row or to the path itself.
  pub leads_down : (i k : ℕ) → Leads paths i k → k ≤ i
  leads_down i k l =
      let fit : (x : ℕ) → x ≤ i → k ≡ x → k ≤ i = λ x h e. omega arith in
      ∥∥₁_elim sound (hlevel props)
      (λ s.
      let row = reference_row n paths s.rows i (hash_at paths k) l.from l.refers_to in
      fit row.0 row.1.0 (one_hash k row.0 l.to (omega (arith, l.from, row.1.0)) (sym row.1.1)))

  -- Few enough for a set of rows.
  pub few_rows : length paths ≤ 40
  few_rows =
      elim (dec_lt 0 (length paths)) [
        | yes some ↦
            ∥∥₁_elim sound (hlevel props)
            (λ s.
            let last = (s.rows (length paths - 1) (omega arith)).room in
            let long = length-take-le (length paths - 1) paths (omega arith) in
            let fit : length paths ≤ 40 = omega arith in fit)
        | no none ↦ omega arith
      ]

  module _ (row : ℕ) (s t r : RowSet) (b i : ℕ) (next : b ≡ i + 1) where
    -- Row i is a member, and what it leads to joins.
    pub walked_joins : Holds s i → HasJust r (Leads paths i) → HasJust t (λ k. Holds s k ⊎ Holds r k) → Walked paths row s b → Walked paths row t i
    walked_joins here refs both w = record {
      start = (both row).1 (inl w.start);
      only = λ k h.
          elim ((both k).0 h) [
            | inl old ↦ w.only k old
            | inr new ↦
                let l = (refs k).0 new in
                let at = w.only i here in
                record { from = at.from; to = l.to; within = through i l.from at.within l.refers_to }
          ];
      shut = λ k j up h l.
          elim (ℕ_discrete k i) [
            | yes e ↦ (both j).1 (inr ((refs j).1 (subst (λ (x : ℕ). Leads paths x j) e l)))
            | no ne ↦
                elim ((both k).0 h) [
                  | inl old ↦ (both j).1 (inl (w.shut k j (omega arith) old l))
                  | inr new ↦ absurd (omega (arith, leads_down i k ((refs k).0 new)))
                ]
          ];
    }

  module _ (row : ℕ) (there : row < length paths) (s : RowSet) where
    pub walked_none : (e : RowSet) → HasJust e (λ k. ⊥) → HasJust s (λ k. Holds e k ⊎ ((k ≡ row) × (k < 64))) → Walked paths row s (length paths)
    walked_none e none one = record {
      start = (one row).1 (inr (refl, omega (arith, few_rows)));
      only = λ k h.
          elim ((one k).0 h) [
            | inl old ↦ absurd ((none k).0 old)
            | inr new ↦ subst (Needs paths row) (sym new.0) (record { from = there; to = there; within = itself })
          ];
      shut = λ k j up h l. absurd (omega (arith, l.from));
    }

    members_by : (whole : (k j : ℕ) → Holds s k → Leads paths k j → Holds s j) → Holds s row
        → (q : Bytes) → Closure paths (hash_at paths row) q → (k : ℕ) → k < length paths → hash_at paths k ≡ q → Holds s k
    members_by whole start q itself k less e = subst (Holds s) (one_hash row k there less (sym e)) start
    members_by whole start q (through j inside member ref) k less e =
        whole j k (members_by whole start (hash_at paths j) member j inside refl)
        (record { from = inside; to = less; refers_to = subst (λ (h : Bytes). refers (get_or paths j no_path) h ≡ true) (sym e) ref })

    pub walked_all : (end : ℕ) → end ≤ 0 → Walked paths row s end → HasJust s (Needs paths row)
    walked_all end low w k = (w.only k, λ need. members_by (λ i j. w.shut i j (omega arith)) w.start _ need.within k need.to refl)

  pub needs_none : (row : ℕ) (s : RowSet) → length paths ≤ row → HasJust s (λ k. ⊥) → HasJust s (Needs paths row)
  needs_none row s past none k = (λ h. absurd ((none k).0 h), λ h. absurd (omega (arith, h.from)))

  pub leads_few : (row : ℕ) (s : RowSet) → HasJust s (λ k. Leads paths row k × (k < 64)) → HasJust s (Leads paths row)
  leads_few row s few k = (λ h. ((few k).0 h).0, λ h. (few k).1 (h, omega (arith, h.to, few_rows)))
