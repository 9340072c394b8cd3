-- A walk from the end of the card down, past every run that is in the way.
use Rattle.std.proofs.Common.{◌≡◌, ℕ, ◌+◌, ◌-◌, ◌<◌, ◌≤◌, max, true, false, ◌&&◌, ltb, List, [], ◌∷◌, ◌++◌, map, length, get_or, is_some, Some, None, Option, MatchOption, sym, refl, ap, ◌∙◌, subst, arith}
use native.Mathlib.Decide.{dec_le}
use Rattle.std.proofs.lemmas.List.{get_or-append-add, get_or_append_left, get_or-map, length-append, length-map, map-append}
use Rattle.std.proofs.lemmas.Bool.{and_parts, both_ways, false≢true, ltb-true, or_from}
use Rattle.model.specs.Plain.{Span, run}
use Rattle.model.specs.Fits.{Apart}
use Rattle.model.specs.Free.{Free, LastFree, nowhere}
use Rattle.model.proofs.Chains.{any_append, none_at}
use Rattle.records.specs.declared.records.PathRecord.{PathRecord}
use Rattle.records.specs.declared.runs.Run.{Run}
use Rattle.records.specs.Runs.{meets, span_of}
use Rattle.records.specs.View.{path_of}
use Rattle.records.proofs.Apart.{shares_meets}
use Rattle.records.proofs.Finds.{any_map, unmet_all}
use Rattle.std.specs.List.{AllWithin, HoldsAt}
use Rattle.queries.specs.Room.{Met, taken_by}

pub record Crossing (s t : Span) : Type 0 where
  pub some : 0 < s.count
  pub any_other : 0 < t.count
  pub before : s.start < t.start + t.count
  pub after : t.start < s.start + s.count

crosses : (s t : Span) → meets s t ≡ true → Crossing s t
crosses s t e =
    let both = and_parts (ltb 0 s.count && ltb 0 t.count) (ltb s.start (t.start + t.count) && ltb t.start (s.start + s.count)) e in
    let full = and_parts (ltb 0 s.count) (ltb 0 t.count) both.0 in
    let cross = and_parts (ltb s.start (t.start + t.count)) (ltb t.start (s.start + s.count)) both.1 in
    record {
      some = ltb-true 0 s.count full.0;
      any_other = ltb-true 0 t.count full.1;
      before = ltb-true s.start (t.start + t.count) cross.0;
      after = ltb-true t.start (s.start + s.count) cross.1;
    }

-- The runs that are taken, as the code meets them.
pub run_from : Span → Run
run_from s = record { first = s.start; count = s.count }

abbrev pub path_run : PathRecord → Run
path_run p = run_from (run (path_of p))

pub run_back : (r : Run) (s : Span) → span_of r ≡ s → r ≡ run_from s
unfolding run_from
run_back r s e = ap (λ (t : Span). record { first = t.start; count = t.count }) e

abbrev pub taken_runs : List PathRecord → List Run → List Run
taken_runs paths building = map path_run paths ++ building

pub taken_is : (paths : List PathRecord) (building : List Run) → map span_of (taken_runs paths building) ≡ taken_by (map path_of paths) building
unfolding run_from
taken_is [] building = refl
taken_is (p ∷ paths) building = ap (λ ts. run (path_of p) ∷ ts) (taken_is paths building)

-- The first of them that shares a block with s, or that none does.
pub met_first : (runs : List Run) (s : Span) (r : Option Run)
    → MatchOption r (AllWithin (λ t. meets s (span_of t) ≡ false) runs 0 (length runs))
    (λ t. (meets s (span_of t) ≡ true) × (i : ℕ) × (i < length runs) × HoldsAt (λ u. u ≡ t) runs i × AllWithin (λ u. meets s (span_of u) ≡ false) runs 0 i)
    → Met (map span_of runs) s r
met_first runs s None none =
    any_map span_of (meets s) runs ∙ unmet_all (λ t. meets s (span_of t)) runs (length runs) (omega arith) (λ k d less. none k d (omega arith) less)
met_first runs s (Some t) (shares, i, less, here, rest) =
    (i, (rw (length-map runs span_of) less, get_or-map span_of runs i t nowhere less ∙ ap span_of (here t), shares))

-- What is met among some runs is met among these and others; where none of them is met, it is what is met among the others.
met_over : (xs ys : List Run) (s : Span) (t : Run) → Met (map span_of xs) s (Some t) → Met (map span_of (xs ++ ys)) s (Some t)
met_over xs ys s t (k, (less, here, shares)) =
    subst (λ ts. Met ts s (Some t)) (sym (map-append span_of xs ys))
    (k, (omega (arith, length-append (map span_of xs) (map span_of ys), less), get_or_append_left (map span_of xs) (map span_of ys) nowhere k less ∙ here, shares))

met_past : (xs ys : List Run) (s : Span) (r : Option Run) → Met (map span_of xs) s None → Met (map span_of ys) s r → Met (map span_of (xs ++ ys)) s r
met_past xs ys s None none rest =
    subst (λ ts. Met ts s None) (sym (map-append span_of xs ys)) (any_append (meets s) (map span_of xs) (map span_of ys) ∙ or_from _ _ none rest)
met_past xs ys s (Some t) none (k, (less, here, shares)) =
    let longer = length-append (map span_of xs) (map span_of ys) in
    subst (λ ts. Met ts s (Some t)) (sym (map-append span_of xs ys))
    (length (map span_of xs) + k, (omega (arith, longer, less), get_or-append-add (map span_of xs) (map span_of ys) k nowhere ∙ here, shares))

pub met_before : (xs ys : List Run) (s : Span) (r : Option Run) → is_some r ≡ true → Met (map span_of xs) s r → Met (map span_of (xs ++ ys)) s r
met_before xs ys s None some met = absurd (false≢true some)
met_before xs ys s (Some t) some met = met_over xs ys s t met

pub met_after : (xs ys : List Run) (s : Span) (q r : Option Run) → is_some q ≡ false → Met (map span_of xs) s q → Met (map span_of ys) s r
    → Met (map span_of (xs ++ ys)) s r
met_after xs ys s None r none first rest = met_past xs ys s r first rest
met_after xs ys s (Some t) r none first rest = absurd (false≢true (sym none))

-- Every free run ends at this block or before.
pub record Limit (n : ℕ) (taken : List Span) (count end : ℕ) : Type 0 where
  pub inside : end ≤ n
  pub ends : (x : ℕ) → Free n taken (record { start = x; count = count }) → x + count ≤ end

module _ (n : ℕ) (taken : List Span) (count : ℕ) (some : 0 < count) where
  abbrev pub at : ℕ → Span
  at x = record { start = x; count = count }

  pub falls : (end : ℕ) (t : Run) → count ≤ end → Met taken (at (end - count)) (Some t) → t.first < end
  falls end t room met = let cross = crosses (at (end - count)) (span_of t) met.1.2 in omega (arith, cross.after)

  pub limit_more : (end : ℕ) (t : Run) → count ≤ end → Met taken (at (end - count)) (Some t) → Limit n taken count end → Limit n taken count t.first
  limit_more end t room met limit = record {
    inside = omega (arith, limit.inside, falls end t room met);
    ends = λ x free.
        elim (dec_le (x + count) t.first) [
          | yes p ↦ p
          | no q ↦
              let cross = crosses (at (end - count)) (span_of t) met.1.2 in
              let most = limit.ends x free in
              let apart = subst (Apart (at x)) met.1.1 (free.apart met.0 met.1.0) in
              absurd (apart (max x t.first) (omega arith, omega arith) (omega arith, omega (arith, cross.any_other, cross.before)))
        ];
  }

  pub limit_none : (end : ℕ) → end < 129 + count → Limit n taken count end → (x : ℕ) → Free n taken (at x) → ⊥
  limit_none end low limit x free = omega (arith, limit.ends x free, free.low)

  pub limit_last : (end : ℕ) → 129 + count ≤ end → Met taken (at (end - count)) None → Limit n taken count end → LastFree n taken count (end - count)
  limit_last end room met limit = record {
    free = record {
      low = omega arith;
      high = omega (arith, limit.inside);
      apart = λ k less x i j. both_ways (meets (at (end - count)) (get_or taken k nowhere)) (none_at (meets (at (end - count))) taken nowhere k met less) (shares_meets (at (end - count)) (get_or taken k nowhere) x i j);
    };
    last = λ x free. omega (arith, limit.ends x free);
  }

-- What was met among the paths of a slice was met among those that it lends.
pub met_lent : (slice items : List PathRecord) (building : List Run) (s : Span) (r : Option Run) → slice ≡ items
    → Met (taken_by (map path_of slice) building) s r → Met (taken_by (map path_of items) building) s r
met_lent slice items building s r lent = subst (λ (xs : List PathRecord). Met (taken_by (map path_of xs) building) s r) lent
