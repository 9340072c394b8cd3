-- The worked examples hold.
use Rattle.std.proofs.Common.{◌≡◌, ℕ, zero, suc, ◌-◌, ◌^◌, ◌<◌, ◌≤◌, true, false, ◌||◌, [], ◌∷◌, get_or, Some, None, codes, sym, refl, subst, inl, inr, arith}
use Rattle.std.specs.Str.{bytes_eq}
use Rattle.std.proofs.lemmas.Bool.{or_cases, both_ways}
use Rattle.naming.specs.Hash.{hash_part, number_of}
use Rattle.naming.specs.Name.{allowed}
use Rattle.model.specs.Plain.{Bytes, no_path, blocks}
use Rattle.model.specs.Fits.{refers}
use Rattle.model.proofs.Sounds.{same_is}
use Rattle.model.specs.Standing.{next_number}
use Rattle.ledger.specs.State.{Ledger, Collection, has, fresh}
use Rattle.ledger.specs.Calls.{Collect, Step, Done, Marked, Removed, Ended}
use Rattle.ledger.specs.Rows.{shut, numbers_spent, collect_running, Granted, Removal, due_removal}
use Rattle.ledger.specs.Rules.{with_collection, with_entry, NextWaiting, AllMarked, Reserved, collects, marks, removes, ends, Run, start, then}
use Rattle.ledger.specs.Examples.{letters_a, letters_d, empty_path, two_paths, Examples}
use Rattle.ledger.proofs.Progress.{step_row}
use Rattle.model.specs.Plain.{remove}

-- The free run with the greatest first block on an empty card of 256 blocks.
reserved_at : (size : ℕ) → 0 < blocks size → blocks size ≤ 127 → Reserved (fresh 256) size (256 - blocks size)
reserved_at size some few = record {
  none = λ none. absurd (omega arith);
  some = λ _. record {
    free = record { low = omega arith; high = omega arith; apart = λ k less. absurd (omega arith) };
    last = λ x free. omega (arith, free.high);
  };
}

granted_collect : Granted two_paths Collect
granted_collect k (shut dark no-open) = both_ways true dark refl
granted_collect k (numbers_spent due more) = elim due [ ]
granted_collect k (collect_running runs) = let z : ◌≡◌ {A = ℕ} 0 1 = cc in omega arith

granted_step : (l : Ledger) (c : Collection) → l.live ≡ true → l.collection ≡ Some c → next_number l.now.place ≤ 2 ^ 62 - 128 → Granted l Step
granted_step l c live runs low k row = omega (arith, (step_row l c k live runs row).2)

-- The collection after the collect, and after the first path is marked.
abbrev waits_a : Collection
waits_a = record { waiting = letters_a ∷ []; marked = [] }

abbrev marked_a : Collection
marked_a = record { waiting = []; marked = letters_a ∷ [] }

abbrev one : Ledger
one = with_collection two_paths (Some waits_a)

abbrev two : Ledger
two = with_collection two_paths (Some marked_a)

abbrev three : Ledger
three = with_entry two (remove letters_d)

one_of : (q x : Bytes) → has q (x ∷ []) ≡ true → x ≡ q
one_of q x e = elim (or_cases (bytes_eq x q) false e) [ inl is ↦ same_is x q is | inr f ↦ absurd (both_ways false refl f) ]

next_a : NextWaiting waits_a letters_a
next_a = record { there = refl; first = λ q e. subst (λ (y : Bytes). number_of letters_a ≤ number_of y) (one_of q letters_a e) (omega arith) }

no_references : (k : ℕ) (q : Bytes) → refers (get_or (empty_path letters_a ∷ (empty_path letters_d ∷ [])) k no_path) q ≡ true → ⊥
no_references zero q e = both_ways false refl e
no_references (suc zero) q e = both_ways false refl e
no_references (suc (suc k)) q e = both_ways false refl e

removes_d : Removal two marked_a letters_d
removes_d = record {
  idle = refl;
  loose = record { there = refl; unmarked = refl; unneeded = λ k less ref. absurd (no_references k letters_d ref) };
  first = λ q loose. elim (or_cases (bytes_eq letters_a q) (bytes_eq letters_d q || false) loose.there) [
    | inl a ↦ absurd (both_ways (has q (letters_a ∷ [])) loose.unmarked (subst (λ (y : Bytes). has y (letters_a ∷ []) ≡ true) (same_is letters_a q a) refl))
    | inr d ↦ subst (λ (y : Bytes). number_of letters_d ≤ number_of y) (one_of q letters_d d) (omega arith)
  ];
}

all_marked : AllMarked three marked_a
all_marked = record { idle = refl; marked = λ q there. subst (λ (y : Bytes). has y (letters_a ∷ []) ≡ true) (one_of q letters_a there) refl }

collects_two : Run two_paths (Collect ∷ (Step ∷ (Step ∷ (Step ∷ [])))) (Done ∷ (Marked letters_a ∷ (Removed letters_d ∷ (Ended ∷ [])))) (with_collection three None)
collects_two =
    then {m = three} {calls = Collect ∷ (Step ∷ (Step ∷ []))} {answers = Done ∷ (Marked letters_a ∷ (Removed letters_d ∷ []))}
    (then {m = two} {calls = Collect ∷ (Step ∷ [])} {answers = Done ∷ (Marked letters_a ∷ [])}
    (then {m = one} {calls = Collect ∷ []} {answers = Done ∷ []}
    (then {m = two_paths} {calls = []} {answers = []} start (collects granted_collect))
    (marks waits_a (granted_step one waits_a refl refl (omega arith)) refl next_a))
    (removes (granted_step two marked_a refl refl (omega arith)) (due_removal refl removes_d)))
    (ends marked_a (granted_step three marked_a refl refl (omega arith)) refl all_marked)

pub examples : Examples
unfolding hash_part
examples = record {
  low_byte = refl;
  high_byte = refl;
  all_a = refl;
  all_d = refl;
  name = (omega arith, omega arith, λ k less. let zeroth : k ≡ 0 = omega arith in subst (λ (i : ℕ). allowed (get_or (codes "a") i 0) ≡ true) (sym zeroth) refl, λ e. omega arith);
  no_name = λ lawful. lawful.3 refl;
  size_0 = record { none = λ _. refl; some = λ some. absurd (omega arith) };
  size_256 = reserved_at 256 (omega arith) (omega arith);
  size_257 = reserved_at 257 (omega arith) (omega arith);
  collected = (with_collection three None, collects_two);
}
