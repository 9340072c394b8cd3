-- The entry that a granted call writes fits the catalogue.
use Rattle.std.proofs.Common.{◌≡◌, ℕ, zero, suc, ◌+◌, ◌-◌, ◌^◌, ◌<◌, ◌≤◌, Bool, true, false, ◌||◌, ◌⊎◌, List, [], ◌∷◌, length, get_or, Some, refl, subst, inl, inr, arith}
use Rattle.std.specs.Str.{bytes_eq}
use Rattle.std.proofs.lemmas.Bool.{cases_Bool, cases_lt, or_cases, or_left, or_right, or_from, both_ways}
use Rattle.model.specs.Plain.{Bytes, Generation, Catalogue, Entry, commit, no_generation, unused}
use Rattle.model.specs.Fits.{has_hash, has_number, names_path, profile, Registrable, Removable, Fits, Sound}
use Rattle.model.proofs.Chains.{any_from, any_place}
use Rattle.model.proofs.Sounds.{same_is, is_same}
use Rattle.model.specs.Standing.{next_number}
use Rattle.ledger.specs.State.{Ledger, Build, Collection, has, catalogue, paths, leased, building, named, on_lease, root}
use Rattle.ledger.specs.Calls.{Call, Seal, Commit, Open}
use Rattle.ledger.specs.Rows.{generations, greatest, References, Removal, sealed_path, Due, due_seal, due_commit, due_rollback, due_switch, due_forget, due_removal, Granted, shut, seal_holder, seal_many, commit_profile, rollback_profile, switch_profile, forget_profile, commit_unknown, switch_none, forget_none, forget_current, commit_six, commit_greatest, numbers_spent}
use Rattle.ledger.specs.Sound.{SoundLedger}
use Rattle.ledger.proofs.Sets.{somes_place}

-- What is not refused.
pub not_below : (a b : ℕ) → (a < b → ⊥) → b ≤ a
not_below a b none = elim (cases_lt a b) [ inl l ↦ absurd (none l) | inr g ↦ g ]

pub not_false_is_true : (b : Bool) → (b ≡ false → ⊥) → b ≡ true
not_false_is_true b none = elim (cases_Bool b) [ inl t ↦ t | inr f ↦ absurd (none f) ]

pub granted_live : (l : Ledger) (call : Call) → Granted l call → (call ≡ Open → ⊥) → l.live ≡ true
granted_live l call granted not-open = not_false_is_true l.live (λ dark. granted 1 (shut dark not-open))

pub due_numbered : (l : Ledger) (call : Call) (e : Entry) → Granted l call → Due l call e → next_number l.now.place ≤ 2 ^ 62 - 128
due_numbered l call e granted due = not_below (2 ^ 62 - 128) (next_number l.now.place) (λ more. granted 16 (numbers_spent due more))

-- The greatest number is no less than any.
pub greatest_most : (gens : List Generation) (k : ℕ) → k < length gens → (get_or gens k no_generation).number ≤ greatest gens
greatest_most [] k less = absurd (omega arith)
greatest_most (g ∷ gs) zero less = omega arith
greatest_most (g ∷ gs) (suc k) less = omega (arith, greatest_most gs k (omega arith))

-- A path on lease, or named by a generation, is registered.
pub leased_on_lease : (l : Ledger) (h : ℕ) (q : Bytes) → h < length l.leases → has q (leased l h) ≡ true → on_lease l q ≡ true
leased_on_lease l h q less e = any_from (λ hs. has q hs) l.leases [] h less e

pub named_at : (cat : Catalogue) (q : Bytes) → named cat q ≡ true → (p : ℕ) × ((p < length cat.profiles) × (names_path q (profile cat p).generations ≡ true))
named_at cat q e = any_place (λ f. names_path q f.generations) cat.profiles unused e

pub named_from : (cat : Catalogue) (q : Bytes) (p : ℕ) → p < length cat.profiles → names_path q (profile cat p).generations ≡ true → named cat q ≡ true
named_from cat q p less e = any_from (λ f. names_path q f.generations) cat.profiles unused p less e

pub named_registered : (n : ℕ) (cat : Catalogue) (q : Bytes) → Sound n cat → named cat q ≡ true → has_hash q cat.paths ≡ true
named_registered n cat q s e =
    let at = named_at cat q e in
    let g = any_place (λ x. bytes_eq x.path q) (profile cat at.0).generations no_generation at.1.1 in
    let three : at.0 < 3 = omega (arith, at.1.0, s.three) in
    subst (λ (x : Bytes). has_hash x cat.paths ≡ true) (same_is _ q g.1.1) ((s.profiles at.0 three).rising g.0 g.1.0).there

-- A root is named or leased, and what is named or leased is a root.
pub root_cases : (l : Ledger) (q : Bytes) → root l q ≡ true → (named (catalogue l) q ≡ true) ⊎ (on_lease l q ≡ true)
root_cases l q e = grind arith

pub root_named : (l : Ledger) (q : Bytes) → named (catalogue l) q ≡ true → root l q ≡ true
root_named l q e = grind arith

pub root_leased : (l : Ledger) (q : Bytes) → on_lease l q ≡ true → root l q ≡ true
root_leased l q e = or_right (named (catalogue l) q) (on_lease l q) e

pub root_registered : (l : Ledger) (q : Bytes) → SoundLedger l → root l q ≡ true → has_hash q (paths l) ≡ true
root_registered l q s e =
    elim (root_cases l q e) [ inl name ↦ named_registered l.n (catalogue l) q s.standing.catalogue name | inr lease ↦ s.leases q lease ]

seal_fits : (l : Ledger) (h : ℕ) (b : Build) (rs : List Bytes) → SoundLedger l → Granted l (Seal h) → building l h ≡ Some b → References l h b rs → Registrable l.n (paths l) (sealed_path b rs)
seal_fits l h b rs s granted builds refs =
    let fine = s.builds h b builds in
    let at = somes_place l.builds h b b builds in
    let holder : h ≤ 7 = not_below 7 h (λ m. granted 2 (seal_holder m)) in
    record {
      whole = fine.whole;
      new = fine.new;
      room = omega (arith, s.few, at.1.0);
      lawful = fine.lawful;
      small = fine.small;
      placed = fine.placed;
      apart = fine.apart;
      few = not_below 8 (length rs) (λ m. granted 12 (seal_many builds refs m));
      climbing = refs.climbing;
      known = λ k less.
          let r = get_or rs k [] in
          elim (or_cases (has r (leased l h)) (bytes_eq b.hash r) (refs.found r (any_from (λ x. bytes_eq x r) rs [] k less (is_same r r refl))).0) [
            | inl lease ↦ or_left (has_hash r (paths l)) (bytes_eq b.hash r) (s.leases r (leased_on_lease l h r (omega (arith, s.holders.0)) lease))
            | inr self ↦ or_right (has_hash r (paths l)) (bytes_eq b.hash r) self
          ];
    }

commit_fits : (l : Ledger) (p : ℕ) (q : Bytes) → Granted l (Commit p q) → Fits l.n (catalogue l) (commit p (greatest (generations l p) + 1) q)
commit_fits l p q granted = (
  omega (arith, not_below 2 p (λ m. granted 2 (commit_profile m))),
  record {
    room = elim (cases_lt (length (generations l p)) 6) [ inl less ↦ less | inr six ↦ absurd (granted 15 (commit_six six)) ];
    there = not_false_is_true (has_hash q (paths l)) (λ unknown. granted 3 (commit_unknown unknown));
    above = λ k less. omega (arith, greatest_most (generations l p) k less);
    low = elim (cases_lt (greatest (generations l p)) 999999) [ inl less ↦ omega arith | inr most ↦ absurd (granted 15 (commit_greatest most)) ];
  },
)

removal_fits : (l : Ledger) (c : Collection) (h : Bytes) → SoundLedger l → l.collection ≡ Some c → Removal l c h → Removable (catalogue l) h
removal_fits l c h s runs removal =
    let sound = s.collection c runs in
    let idle : has h c.waiting ≡ false = rw removal.idle refl in
    record {
      there = removal.loose.there;
      unnamed = λ p less. elim (cases_Bool (names_path h (profile (catalogue l) p).generations)) [
        | inl names ↦
            let rooted : root l h ≡ true = root_named l h (named_from (catalogue l) h p less names) in
            absurd (both_ways (has h c.waiting || has h c.marked) (or_from (has h c.waiting) (has h c.marked) idle removal.loose.unmarked) (sound.roots h rooted))
        | inr f ↦ f
      ];
      unneeded = removal.loose.unneeded;
    }

pub due_fits : (l : Ledger) (call : Call) (e : Entry) → SoundLedger l → Granted l call → Due l call e → Fits l.n (catalogue l) e
due_fits l call e s granted (due_seal {h = h} {b = b} {rs = rs} builds refs) = seal_fits l h b rs s granted builds refs
due_fits l call e s granted (due_commit {p = p} {h = q}) = commit_fits l p q granted
due_fits l call e s granted (due_rollback {p = p} {k = k} before) = (omega (arith, not_below 2 p (λ m. granted 2 (rollback_profile m))), before.there)
due_fits l call e s granted (due_switch {p = p} {k = k}) =
    (omega (arith, not_below 2 p (λ m. granted 2 (switch_profile m))), not_false_is_true (has_number k (generations l p)) (λ none. granted 13 (switch_none none)))
due_fits l call e s granted (due_forget {p = p} {k = k}) =
    (omega (arith, not_below 2 p (λ m. granted 2 (forget_profile m))), not_false_is_true (has_number k (generations l p)) (λ none. granted 13 (forget_none none)), λ current. granted 14 (forget_current current))
due_fits l call e s granted (due_removal {c = c} {h = h} runs removal) = removal_fits l c h s runs removal
