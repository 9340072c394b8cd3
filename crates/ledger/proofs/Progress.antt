-- While a collection runs, a step has an answer.
use Rattle.std.proofs.Common.{◌≡◌, ℕ, zero, suc, ◌-◌, ◌^◌, ◌<◌, ◌≤◌, Bool, true, false, not, ◌&&◌, ◌||◌, ◌⊎◌, List, [], ◌∷◌, map, length, get_or, Some, filter, sym, refl, ap, ◌∙◌, subst, inl, inr, arith}
use Rattle.std.specs.Str.{bytes_eq}
use Rattle.std.proofs.lemmas.Bool.{cases_Bool, cases_lt, cases_eq, or_from, both_ways, not-true, not_from_false, and_parts, and_from}
use Rattle.naming.specs.Hash.{number_of}
use Rattle.model.specs.Plain.{Bytes, Path, no_path}
use Rattle.model.specs.Fits.{any, has_hash, refers}
use Rattle.model.proofs.Chains.{any_from, any_place, any_kept, any_of_kept, kept_each_passes}
use Rattle.model.proofs.Sounds.{same_is, is_same}
use Rattle.model.proofs.Rows.{row_of_hash, hash_of_row, one_row, reference_row}
use Rattle.ledger.specs.declared.refusals.Refusal.TheVariants.{NumbersSpent}
use Rattle.model.specs.Standing.{next_number}
use Rattle.ledger.specs.State.{Ledger, Collection, has, paths}
use Rattle.ledger.specs.Calls.{Step, Answer, Marked, Removed, Ended, Refused}
use Rattle.ledger.specs.Rows.{Row, shut, numbers_spent, step_none, Granted, Loose, Removal, due_removal}
use Rattle.ledger.specs.Rules.{AllMarked, Answered, refused, marks, removes, ends}
use Rattle.ledger.specs.Sound.{SoundLedger}
use Rattle.ledger.proofs.Sets.{has_head, has_tail, has_cases, some_same}
use Rattle.ledger.proofs.Keeps.{has_hashes}

-- A list of hashes is empty, or has one that is first in hash order.
least : (qs : List Bytes) → (qs ≡ []) ⊎ ((w : Bytes) × ((has w qs ≡ true) × ((q : Bytes) → has q qs ≡ true → number_of w ≤ number_of q)))
least [] = inl refl
least (x ∷ xs) =
    inr (elim (least xs) [
      | inl none ↦ (
        x,
        (
          has_head x xs,
          λ q e. elim (has_cases q x xs e) [
            | inl is ↦ subst (λ (y : Bytes). number_of x ≤ number_of y) is (omega arith)
            | inr t ↦ absurd (both_ways (has q xs) (subst (λ (l : List Bytes). has q l ≡ false) (sym none) refl) t)
          ],
        ),
      )
      | inr best ↦ elim (cases_lt (number_of x) (number_of best.0)) [
        | inl lower ↦ (
          x,
          (
            has_head x xs,
            λ q e. elim (has_cases q x xs e) [
              | inl is ↦ subst (λ (y : Bytes). number_of x ≤ number_of y) is (omega arith)
              | inr t ↦ omega (arith, best.1.1 q t)
            ],
          ),
        )
        | inr higher ↦ (
          best.0,
          (
            has_tail best.0 x xs best.1.0,
            λ q e. elim (has_cases q x xs e) [
              | inl is ↦ subst (λ (y : Bytes). number_of best.0 ≤ number_of y) is higher
              | inr t ↦ best.1.1 q t
            ],
          ),
        )
      ]
    ])

-- The last place below n at which a test fails, unless it fails nowhere.
last_failing : (test : ℕ → Bool) (n : ℕ) → ((k : ℕ) → k < n → test k ≡ true) ⊎ ((k : ℕ) × ((k < n) × (test k ≡ false) × ((j : ℕ) → k < j → j < n → test j ≡ true)))
last_failing test zero = inl (λ k less. absurd (omega arith))
last_failing test (suc n) =
    elim (cases_Bool (test n)) [
      | inr f ↦ inr (n, (omega arith, f, λ j above below. absurd (omega arith)))
      | inl t ↦ elim (last_failing test n) [
        | inl each ↦ inl (λ k less. elim (cases_eq k n) [ inl e ↦ rw e t | inr ne ↦ each k (omega arith) ])
        | inr at ↦ inr (at.0, (omega (arith, at.1.0), at.1.1, λ j above below. elim (cases_eq j n) [ inl e ↦ rw e t | inr ne ↦ at.1.2 j above (omega arith) ]))
      ]
    ]

-- Whether another path refers to this one; whether it is neither marked nor so needed.
abbrev needed : List Path → Bytes → Bool
needed ps h = any (λ p. refers p h && not (bytes_eq p.hash h)) ps

abbrev loose_test : List Path → Collection → Bytes → Bool
loose_test ps c h = not (has h c.marked) && not (needed ps h)

module _ (l : Ledger) (c : Collection) where
  loose_from : (h : Bytes) → has_hash h (paths l) ≡ true → loose_test (paths l) c h ≡ true → Loose l c h
  loose_from h there passes =
      let parts = and_parts (not (has h c.marked)) (not (needed (paths l) h)) passes in
      record {
        there = there;
        unmarked = not-true (has h c.marked) parts.0;
        unneeded = λ k less ref.
            let p = get_or (paths l) k no_path in
            elim (cases_Bool (bytes_eq p.hash h)) [
              | inl same ↦ same_is p.hash h same
              | inr differs ↦ absurd (both_ways (needed (paths l) h) (not-true (needed (paths l) h) parts.1)
                  (any_from (λ x. refers x h && not (bytes_eq x.hash h)) (paths l) no_path k less (and_from (refers p h) (not (bytes_eq p.hash h)) ref (not_from_false (bytes_eq p.hash h) differs))))
            ];
      }

  from_loose : (h : Bytes) → Loose l c h → loose_test (paths l) c h ≡ true
  from_loose h loose =
      and_from (not (has h c.marked)) (not (needed (paths l) h)) (not_from_false (has h c.marked) loose.unmarked) (not_from_false (needed (paths l) h) (elim (cases_Bool (needed (paths l) h)) [
        | inl need ↦
            let at = any_place (λ x. refers x h && not (bytes_eq x.hash h)) (paths l) no_path need in
            let p = get_or (paths l) at.0 no_path in
            let parts = and_parts (refers p h) (not (bytes_eq p.hash h)) at.1.1 in
            absurd (both_ways (bytes_eq p.hash h) (not-true (bytes_eq p.hash h) parts.1) (is_same p.hash h (loose.unneeded at.0 at.1.0 parts.0)))
        | inr f ↦ f
      ]))

  abbrev loose_hashes : List Bytes
  loose_hashes = filter (loose_test (paths l) c) (map (λ p. p.hash) (paths l))

  loose_listed : (h : Bytes) → Loose l c h → has h loose_hashes ≡ true
  loose_listed h loose =
      any_kept (λ x. bytes_eq x h) (loose_test (paths l) c) (map (λ p. p.hash) (paths l))
      (λ x is. subst (λ (y : Bytes). loose_test (paths l) c y ≡ true) (sym (same_is x h is)) (from_loose h loose)) (has_hashes (paths l) h ∙ loose.there)

  listed_loose : (h : Bytes) → has h loose_hashes ≡ true → Loose l c h
  listed_loose h listed =
      let at = any_place (λ x. bytes_eq x h) loose_hashes [] listed in
      let passes = kept_each_passes [] (loose_test (paths l) c) (map (λ p. p.hash) (paths l)) at.0 at.1.0 in
      loose_from h (sym (has_hashes (paths l) h) ∙ any_of_kept (λ x. bytes_eq x h) (loose_test (paths l) c) (map (λ p. p.hash) (paths l)) listed)
      (subst (λ (y : Bytes). loose_test (paths l) c y ≡ true) (same_is (get_or loose_hashes at.0 []) h at.1.1) passes)

  -- With none waiting, a path is first among the loose ones, or all are marked: the last unmarked row has no other referrer.
  removal_or_marked : SoundLedger l → l.collection ≡ Some c → c.waiting ≡ [] → ((h : Bytes) × Removal l c h) ⊎ AllMarked l c
  removal_or_marked s runs idle =
      elim (least loose_hashes) [
        | inr best ↦ inl (best.0, record { idle = idle; loose = listed_loose best.0 best.1.0; first = λ q loose. best.1.1 q (loose_listed q loose) })
        | inl none ↦ inr (record {
          idle = idle;
          marked = elim (last_failing (λ k. has (get_or (paths l) k no_path).hash c.marked) (length (paths l))) [
            | inl each ↦ λ h there. let row = row_of_hash h (paths l) there in subst (λ (y : Bytes). has y c.marked ≡ true) row.1.1 (each row.0 row.1.0)
            | inr last ↦
                let ps = paths l in
                let h = (get_or ps last.0 no_path).hash in
                let rows = s.standing.catalogue.rows in
                let loose : Loose l c h = record {
                  there = hash_of_row h ps last.0 last.1.0 refl;
                  unmarked = last.1.1;
                  unneeded = λ k less ref.
                      let lead = reference_row l.n ps rows k h less ref in
                      let is : lead.0 ≡ last.0 = one_row l.n ps rows lead.0 last.0 (omega (arith, lead.1.0)) last.1.0 lead.1.1 in
                      elim (cases_eq k last.0) [
                        | inl same ↦ ap (λ i. (get_or ps i no_path).hash) same
                        | inr other ↦
                            let marked-too : has (get_or ps k no_path).hash c.marked ≡ true = last.1.2 k (omega (arith, lead.1.0)) less in
                            let follows = (s.collection c runs).references k h less marked-too ref in
                            absurd (both_ways (has h c.waiting || has h c.marked) (or_from (has h c.waiting) (has h c.marked) (subst (λ (w : List Bytes). has h w ≡ false) (sym idle) refl) last.1.1) follows)
                      ];
                } in
                absurd (both_ways (has h loose_hashes) (subst (λ (w : List Bytes). has h w ≡ false) (sym none) refl) (loose_listed h loose))
          ];
        })
      ]

-- A row that could refuse a step of a running collection is the one of spent numbers.
pub step_row : (l : Ledger) (c : Collection) (k : ℕ) → l.live ≡ true → l.collection ≡ Some c → Row l Step k → (k ≡ 16) × ((h : Bytes) × Removal l c h) × (2 ^ 62 - 128 < next_number l.now.place)
step_row l c k live runs (shut dark no-open) = absurd (both_ways l.live dark live)
step_row l c k live runs (numbers_spent (due_removal {c = e} {h = h} here removal) more) = (refl, (h, subst (λ (x : Collection). Removal l x h) (some_same (sym here ∙ runs)) removal), more)
step_row l c k live runs (step_none none) = let z : ◌≡◌ {A = ℕ} 0 1 = cc in absurd (omega arith)

pub step_answered : (l : Ledger) (c : Collection) → SoundLedger l → l.live ≡ true → l.collection ≡ Some c → (answer : Answer) × ((m : Ledger) × Answered l Step answer m)
step_answered l c s live runs =
    elim (least c.waiting) [
      | inr best ↦
          let granted : Granted l Step = λ k row. let why = step_row l c k live runs row in
          both_ways (has best.0 c.waiting) (subst (λ (w : List Bytes). has best.0 w ≡ false) (sym why.1.1.idle) refl) best.1.0 in
          (Marked best.0, (_, marks c granted runs (record { there = best.1.0; first = best.1.1 })))
      | inl idle ↦ elim (removal_or_marked l c s runs idle) [
        | inl goes ↦ elim (cases_lt (2 ^ 62 - 128) (next_number l.now.place)) [
          | inl spent ↦ (
            Refused NumbersSpent,
            (
              l,
              refused NumbersSpent (record {
                applies = numbers_spent (due_removal runs goes.1) spent;
                above = λ j less row. omega (arith, (step_row l c j live runs row).0);
              }),
            ),
          )
          | inr left ↦ (Removed goes.0, (_, removes (λ k row. omega (arith, (step_row l c k live runs row).2)) (due_removal runs goes.1)))
        ]
        | inr all ↦ (
          Ended,
          (
            _,
            ends c (λ k row.
                let why = step_row l c k live runs row in
                both_ways (has why.1.0 c.marked) why.1.1.loose.unmarked (all.marked why.1.0 why.1.1.loose.there)) runs all,
          ),
        )
      ]
    ]
