-- A set of rows that grows by one row after the other.
use Rattle.std.proofs.Common.{◌≡◌, ℕ, ◌+◌, ◌<◌, ◌≤◌, true, false, ◌⊎◌, List, map, length, get_or, sym, ap, ◌∙◌, subst, ap₂, inl, inr, arith}
use native.Mathlib.Decide.{ℕ_discrete}
use Rattle.std.proofs.lemmas.List.{length-map, get_or-map}
use Rattle.std.proofs.lemmas.Bool.{both_ways}
use Rattle.order.specs.declared.rows.RowSet.{RowSet}
use Rattle.order.specs.Rows.{HasJust, Holds}
use Rattle.model.specs.Plain.{Path, no_path}
use Rattle.model.specs.Fits.{refers}
use Rattle.records.specs.declared.records.PathRecord.{PathRecord}
use Rattle.records.specs.View.{path_of}
use Rattle.queries.specs.Reach.{Leads, hash_at}

module _ (P : ℕ → Type 0) where
  -- Of the rows below i, the set has those of which P says so.
  abbrev pub Found : ℕ → RowSet → Type 0
  Found i s = HasJust s (λ k. (k < i) × (P k × (k < 64)))

  pub found_none : (s : RowSet) → HasJust s (λ k. ⊥) → Found 0 s
  found_none s none k = (λ h. absurd ((none k).0 h), λ h. absurd (omega (arith, h.0)))

  pub found_yes : (i : ℕ) (s t : RowSet) → P i → HasJust t (λ k. Holds s k ⊎ ((k ≡ i) × (k < 64))) → Found i s → Found (i + 1) t
  found_yes i s t here grown found k = (
    λ h.
        elim ((grown k).0 h) [
          | inl old ↦ let was = (found k).0 old in (omega (arith, was.0), was.1)
          | inr new ↦ (omega (arith, new.0), (subst P (sym new.0) here, new.1))
        ],
    λ h.
        (grown k).1
        (elim (ℕ_discrete k i) [
          | yes e ↦ inr (e, h.1.1)
          | no ne ↦ inl ((found k).1 (omega (arith, h.0), h.1))
        ]),
  )

  pub found_no : (i : ℕ) (s : RowSet) → (P i → ⊥) → Found i s → Found (i + 1) s
  found_no i s out found k = (
    λ h. let was = (found k).0 h in (omega (arith, was.0), was.1),
    λ h.
        elim (ℕ_discrete k i) [
          | yes e ↦ absurd (out (subst P e h.1.0))
          | no ne ↦ (found k).1 (omega (arith, h.0), h.1)
        ],
  )

-- What the test of a path's reference tells.
module _ (xs : List PathRecord) (row i : ℕ) (p q : PathRecord) (from : row < length xs) (to : i < length xs)
    (p-is : p ≡ get_or xs row p) (q-is : q ≡ get_or xs i q) where
  at_view : (k : ℕ) (x : PathRecord) → k < length xs → x ≡ get_or xs k x → get_or (map path_of xs) k no_path ≡ path_of x
  at_view k x less is = get_or-map path_of xs k x no_path less ∙ ap path_of (sym is)

  same_test : refers (get_or (map path_of xs) row no_path) (hash_at (map path_of xs) i) ≡ refers (path_of p) q.hash.bytes
  same_test = ap₂ (λ (a b : Path). refers a b.hash) (at_view row p from p-is) (at_view i q to q-is)

  pub leads_yes : true ≡ refers (path_of p) q.hash.bytes → Leads (map path_of xs) row i
  leads_yes e = record { from = (rw (length-map xs path_of) from); to = (rw (length-map xs path_of) to); refers_to = same_test ∙ sym e }

  pub leads_no : false ≡ refers (path_of p) q.hash.bytes → Leads (map path_of xs) row i → ⊥
  leads_no e l = both_ways (refers (path_of p) q.hash.bytes) (sym e) (sym same_test ∙ l.refers_to)

pub leads_all : (xs : List PathRecord) (row i : ℕ) (s : RowSet) → length xs ≤ i → Found (Leads (map path_of xs) row) i s
    → HasJust s (λ k. Leads (map path_of xs) row k × (k < 64))
leads_all xs row i s all found k =
    let long = length-map xs path_of in
    (λ h. ((found k).0 h).1, λ h. (found k).1 (omega (arith, h.0.to), h))

-- As many rows as a slice has that lends the paths.
pub row_count : (slice items : List PathRecord) → slice ≡ items → length slice ≡ length (map path_of items)
row_count slice items lent = ap length lent ∙ sym (length-map items path_of)
