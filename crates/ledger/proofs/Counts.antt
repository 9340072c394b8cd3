-- How many steps a collection takes.
use Rattle.std.proofs.Common.{◌≡◌, ℕ, zero, suc, ◌+◌, ◌<◌, ◌≤◌, Bool, true, false, cond, not, ◌&&◌, ◌||◌, ltb, ◌≢◌, ◌⊎◌, List, [], ◌∷◌, ◌++◌, length, get_or, take, Some, filter, sym, refl, ap, ◌∙◌, subst, inl, inr, add-one, arith}
use Rattle.std.specs.List.{AllByRecursion}
use Rattle.std.specs.Str.{bytes_eq}
use Rattle.std.proofs.lemmas.List.{take_all, length-append, length_push}
use Rattle.std.proofs.lemmas.List.Elements.{filter-append}
use Rattle.std.proofs.lemmas.List.Filters.{length-filter_more}
use Rattle.std.proofs.lemmas.Bool.{cases_Bool, cases_lt, cases_eq, both_ways, cond-true, cond-false, not_from_false, not_from_true, lt-ltb, le-ltb, and_left}
use Rattle.model.specs.Lists.{Chain}
use Rattle.model.specs.Plain.{Bytes, Path, no_path}
use Rattle.model.specs.Fits.{has_hash, Registrable}
use Rattle.model.proofs.Sounds.{same_is, is_same}
use Rattle.model.proofs.Rows.{row_of_hash, hash_of_row, one_row}
use Rattle.ledger.specs.declared.refusals.Refusal.{Refusal}
use Rattle.ledger.specs.State.{Ledger, Collection, has, paths}
use Rattle.ledger.specs.Calls.{Call, Lease, Release, Begin, Put, Seal, Scrap, Commit, Rollback, Switch, Forget, Collect, Step, Open, Find, ClosureOf, Read, Answer, Done, Ended, Refused}
use Rattle.ledger.specs.Rows.{due_removal, collect_running}
use Rattle.ledger.specs.Rules.{mark, also_waits, roots, Answered, refused, leases, releases, begins, puts, seals, scraps, commits, rolls_back, switches, forgets, collects, marks, removes, ends, opens, finds, finds_none, closes, reads, cuts_put, cuts_seal, cuts_entry, Run, start, then}
use Rattle.ledger.specs.Sound.{SoundLedger}
use Rattle.ledger.specs.Promise.{step_count, seal_count, steps_of, seals_of}
use Rattle.ledger.proofs.Sets.{has_head, some_same}
use Rattle.ledger.proofs.Dues.{granted_live}
use Rattle.ledger.proofs.Cases.{refused_or_granted}
use Rattle.ledger.proofs.Keeps.{keeps, run_sound}

abbrev one_if : Bool → ℕ
one_if b = cond b 1 0

module _ {A : Type 0} (d : A) where
  -- Two filters that differ at one place, where only the wider one keeps the element.
  kept_but_one_upto : (wide narrow : A → Bool) (xs : List A) (at : ℕ) → wide (get_or xs at d) ≡ true → narrow (get_or xs at d) ≡ false
      → ((i : ℕ) → i < length xs → i ≢ at → narrow (get_or xs i d) ≡ wide (get_or xs i d))
      → (m : ℕ) → m ≤ length xs → length (filter narrow (take m xs)) + one_if (ltb at m) ≡ length (filter wide (take m xs))
  kept_but_one_upto wide narrow xs at passes fails agree zero le = rw (le-ltb at 0 (omega arith)) refl
  kept_but_one_upto wide narrow xs at passes fails agree (suc m) le =
      let before = kept_but_one_upto wide narrow xs at passes fails agree m (omega arith) in
      let a : length (filter narrow (take (suc m) xs)) ≡ length (filter narrow (take m xs)) + one_if (narrow (get_or xs m d)) = rw (← add-one) (length-filter_more narrow xs m d (omega arith)) in
      let b : length (filter wide (take (suc m) xs)) ≡ length (filter wide (take m xs)) + one_if (wide (get_or xs m d)) = rw (← add-one) (length-filter_more wide xs m d (omega arith)) in
      elim (cases_eq m at) [
        | inl here ↦
            let n : one_if (narrow (get_or xs m d)) ≡ 0 = cond-false (narrow (get_or xs m d)) 1 0 (ap (λ i. narrow (get_or xs i d)) here ∙ fails) in
            let w : one_if (wide (get_or xs m d)) ≡ 1 = cond-true (wide (get_or xs m d)) 1 0 (ap (λ i. wide (get_or xs i d)) here ∙ passes) in
            let past : one_if (ltb at (suc m)) ≡ 1 = cond-true (ltb at (suc m)) 1 0 (lt-ltb at (suc m) (omega arith)) in
            let short : one_if (ltb at m) ≡ 0 = cond-false (ltb at m) 1 0 (le-ltb at m (omega arith)) in
            omega arith
        | inr other ↦
            let same : one_if (narrow (get_or xs m d)) ≡ one_if (wide (get_or xs m d)) = ap one_if (agree m (omega arith) other) in
            let still : one_if (ltb at (suc m)) ≡ one_if (ltb at m) = elim (cases_lt at m) [
              | inl l ↦ ap one_if (lt-ltb at (suc m) (omega arith) ∙ sym (lt-ltb at m l))
              | inr g ↦ ap one_if (le-ltb at (suc m) (omega arith) ∙ sym (le-ltb at m g))
            ] in
            omega arith
      ]

  kept_but_one : (wide narrow : A → Bool) (xs : List A) (at : ℕ) → at < length xs → wide (get_or xs at d) ≡ true → narrow (get_or xs at d) ≡ false
      → ((i : ℕ) → i < length xs → i ≢ at → narrow (get_or xs i d) ≡ wide (get_or xs i d)) → length (filter narrow xs) + 1 ≡ length (filter wide xs)
  kept_but_one wide narrow xs at within passes fails agree =
      let whole : take (length xs) xs ≡ xs = take_all (length xs) xs (omega arith) in
      let all = kept_but_one_upto wide narrow xs at passes fails agree (length xs) (omega arith) in
      let past : one_if (ltb at (length xs)) ≡ 1 = cond-true (ltb at (length xs)) 1 0 (lt-ltb at (length xs) within) in
      let n : length (filter narrow (take (length xs) xs)) ≡ length (filter narrow xs) = ap (λ l. length (filter narrow l)) whole in
      let w : length (filter wide (take (length xs) xs)) ≡ length (filter wide xs) = ap (λ l. length (filter wide l)) whole in
      omega arith

  -- All pass, and none.
  kept_all : (test : A → Bool) (xs : List A) → ((i : ℕ) → i < length xs → test (get_or xs i d) ≡ true) → length (filter test xs) ≡ length xs
  kept_all test [] each = refl
  kept_all test (x ∷ xs) each = ap length (cond-true (test x) (x ∷ filter test xs) (filter test xs) (each 0 (omega arith))) ∙ ap suc (kept_all test xs (λ i less. each (suc i) (omega arith)))

  kept_none : (test : A → Bool) (xs : List A) → ((i : ℕ) → i < length xs → test (get_or xs i d) ≡ false) → length (filter test xs) ≡ 0
  kept_none test [] each = refl
  kept_none test (x ∷ xs) each = ap length (cond-false (test x) (x ∷ filter test xs) (filter test xs) (each 0 (omega arith))) ∙ kept_none test xs (λ i less. each (suc i) (omega arith))

kept_twice : {A : Type 0} (first second : A → Bool) (xs : List A) → filter second (filter first xs) ≡ filter (λ x. first x && second x) xs
kept_twice first second [] = refl
kept_twice first second (x ∷ xs) =
    elim (first x) as (λ t. filter second (cond t (x ∷ filter first xs) (filter first xs)) ≡ cond (t && second x) (x ∷ filter (λ y. first y && second y) xs) (filter (λ y. first y && second y) xs)) [
      | true ↦ ap (λ l. cond (second x) (x ∷ l) l) (kept_twice first second xs)
      | false ↦ kept_twice first second xs
    ]

-- How many paths are not marked.
abbrev pub unmarked : List Path → Collection → ℕ
unmarked ps c = length (filter (λ p. not (has p.hash c.marked)) ps)

module _ (n : ℕ) (ps : List Path) (rows : Chain (Registrable n) no_path ps) where
  -- Marking a path that is registered and not marked.
  unmarked_mark : (c e : Collection) (w : Bytes) → has_hash w ps ≡ true → has w c.marked ≡ false → e.marked ≡ w ∷ c.marked → unmarked ps e + 1 ≡ unmarked ps c
  unmarked_mark c e w there fresh is =
      let row = row_of_hash w ps there in
      let marks-now : (p : Path) → not (has p.hash e.marked) ≡ not (has p.hash (w ∷ c.marked)) = λ p. ap (λ m. not (has p.hash m)) is in
      kept_but_one no_path (λ p. not (has p.hash c.marked)) (λ p. not (has p.hash e.marked)) ps row.0 row.1.0
      (subst (λ (x : Bytes). not (has x c.marked) ≡ true) (sym row.1.1) (not_from_false (has w c.marked) fresh))
      (marks-now (get_or ps row.0 no_path) ∙ subst (λ (x : Bytes). not (has x (w ∷ c.marked)) ≡ false) (sym row.1.1) (not_from_true (has w (w ∷ c.marked)) (has_head w c.marked)))
      (λ i less ne.
      let h = (get_or ps i no_path).hash in
      let differs : bytes_eq w h ≡ false = elim (cases_Bool (bytes_eq w h)) [
        | inl same ↦ absurd (ne (one_row n ps rows i row.0 less row.1.0 (sym (same_is w h same) ∙ sym row.1.1)))
        | inr f ↦ f
      ] in
      marks-now (get_or ps i no_path) ∙ ap (λ b. not (b || has h c.marked)) differs)

  -- Removing a path that is registered and not marked.
  unmarked_remove : (c : Collection) (h : Bytes) → has_hash h ps ≡ true → has h c.marked ≡ false → unmarked (filter (λ p. not (bytes_eq p.hash h)) ps) c + 1 ≡ unmarked ps c
  unmarked_remove c h there fresh =
      let row = row_of_hash h ps there in
      let pass : Path → Bool = λ p. not (bytes_eq p.hash h) in
      let free : Path → Bool = λ p. not (has p.hash c.marked) in
      let twice : length (filter free (filter pass ps)) ≡ length (filter (λ p. pass p && free p) ps) = ap length (kept_twice pass free ps) in
      let less_one : length (filter (λ p. pass p && free p) ps) + 1 ≡ length (filter free ps) =
      kept_but_one no_path free (λ p. pass p && free p) ps row.0 row.1.0
      (subst (λ (x : Bytes). not (has x c.marked) ≡ true) (sym row.1.1) (not_from_false (has h c.marked) fresh))
      (and_left (pass (get_or ps row.0 no_path)) (free (get_or ps row.0 no_path)) (not_from_true _ (is_same _ h row.1.1)))
      (λ i less ne.
      let p = get_or ps i no_path in
      let differs : pass p ≡ true = not_from_false (bytes_eq p.hash h) (elim (cases_Bool (bytes_eq p.hash h)) [
        | inl same ↦ absurd (ne (one_row n ps rows i row.0 less row.1.0 (same_is p.hash h same ∙ sym row.1.1)))
        | inr f ↦ f
      ]) in
      ap (λ b. b && free p) differs) in
      omega arith

-- One more path, not marked.
unmarked_register : (ps : List Path) (c : Collection) (p : Path) → has p.hash c.marked ≡ false → unmarked (ps ++ (p ∷ [])) c ≡ unmarked ps c + 1
unmarked_register ps c p fresh =
    let free : Path → Bool = λ x. not (has x.hash c.marked) in
    ap length (filter-append free ps (p ∷ [])) ∙ (length-append (filter free ps) (filter free (p ∷ [])) ∙ ap (λ k. length (filter free ps) + k) (ap length (cond-true (free p) (p ∷ []) [] (not_from_false (has p.hash c.marked) fresh))))

-- What comes to a collection marks nothing.
also_waits_marked : (q : Bytes) (c e : Collection) → also_waits q (Some c) ≡ Some e → e.marked ≡ c.marked
also_waits_marked q c e is =
    elim (cases_Bool (has q c.waiting || has q c.marked)) [
      | inl t ↦ ap (λ x. x.marked) (sym (some_same is)) ∙ ap (λ x. x.marked) (cond-true (has q c.waiting || has q c.marked) c (record { waiting = q ∷ c.waiting; marked = c.marked }) t)
      | inr f ↦ ap (λ x. x.marked) (sym (some_same is)) ∙ ap (λ x. x.marked) (cond-false (has q c.waiting || has q c.marked) c (record { waiting = q ∷ c.waiting; marked = c.marked }) f)
    ]

unmarked_same : (ps : List Path) (c e : Collection) → e.marked ≡ c.marked → unmarked ps e ≡ unmarked ps c
unmarked_same ps c e is = ap (λ m. length (filter (λ p. not (has p.hash m)) ps)) is

refused_no_seal : (call : Call) (r : Refusal) → seal_count call (Refused r) ≡ 0
refused_no_seal (Lease h q) r = refl
refused_no_seal (Release h) r = refl
refused_no_seal (Begin h q name size) r = refl
refused_no_seal (Put h piece) r = refl
refused_no_seal (Seal h) r = refl
refused_no_seal (Scrap h) r = refl
refused_no_seal (Commit p q) r = refl
refused_no_seal (Rollback p) r = refl
refused_no_seal (Switch p k) r = refl
refused_no_seal (Forget p k) r = refl
refused_no_seal Collect r = refl
refused_no_seal Step r = refl
refused_no_seal Open r = refl
refused_no_seal (Find q) r = refl
refused_no_seal (ClosureOf q) r = refl
refused_no_seal (Read q i room) r = refl

-- The ledger is dark; or the collection runs on, and each path that was not marked and each that was sealed is not marked yet or had its step.
abbrev Counted : Ledger → ℕ → ℕ → ℕ → Type 0
Counted m steps before made = (m.live ≡ false) ⊎ ((e : Collection) × ((m.collection ≡ Some e) × (unmarked (paths m) e + steps ≡ before + made)))

on_with : (l m : Ledger) (c : Collection) (q : Bytes) → l.collection ≡ Some c → m.collection ≡ also_waits q l.collection → (e : Collection) × ((m.collection ≡ Some e) × (e.marked ≡ c.marked))
on_with l m c q runs is =
    let whole : m.collection ≡ also_waits q (Some c) = is ∙ ap (also_waits q) runs in (_, (whole, also_waits_marked q c _ refl))

counted : (l m : Ledger) (call : Call) (answer : Answer) (c : Collection) → SoundLedger l → (call ≡ Open → ⊥) → (answer ≡ Ended → ⊥) → l.collection ≡ Some c → Answered l call answer m
    → Counted m (step_count answer) (unmarked (paths l) c) (seal_count call answer)
counted l m call answer c s no-open no_end runs (refused r first) = inr (c, (runs, ap (λ k. unmarked (paths l) c + k) (sym (refused_no_seal call r))))
counted l m call answer c s no-open no_end runs (leases {q = q} granted) = let e = on_with l m c q runs refl in inr (e.0, (e.1.0, ap (λ k. k + 0) (unmarked_same (paths l) c e.0 e.1.1)))
counted l m call answer c s no-open no_end runs (releases granted) = inr (c, (runs, refl))
counted l m call answer c s no-open no_end runs (begins first granted whole reserved) = inr (c, (runs, refl))
counted l m call answer c s no-open no_end runs (puts b granted builds) = inr (c, (runs, refl))
counted l m call answer c s no-open no_end runs (seals {h = h} b rs granted builds refs) =
    let e = on_with l m c b.hash runs refl in
    let new : has b.hash c.marked ≡ false = elim (cases_Bool (has b.hash c.marked)) [
      | inl marked ↦ absurd (both_ways (has_hash b.hash (paths l)) (s.builds h b builds).new ((s.collection c runs).marked b.hash marked))
      | inr f ↦ f
    ] in
    let grown : unmarked (paths m) e.0 ≡ unmarked (paths l) c + 1 = unmarked_same (paths m) c e.0 e.1.1 ∙ unmarked_register (paths l) c _ new in
    inr (e.0, (e.1.0, omega arith))
counted l m call answer c s no-open no_end runs (scraps granted) = inr (c, (runs, refl))
counted l m call answer c s no-open no_end runs (commits {q = q} granted) = let e = on_with l m c q runs refl in inr (e.0, (e.1.0, ap (λ k. k + 0) (unmarked_same (paths l) c e.0 e.1.1)))
counted l m call answer c s no-open no_end runs (rolls_back granted before) = inr (c, (runs, refl))
counted l m call answer c s no-open no_end runs (switches granted) = inr (c, (runs, refl))
counted l m call answer c s no-open no_end runs (forgets granted) = inr (c, (runs, refl))
counted l m call answer c s no-open no_end runs (collects granted) = absurd (granted 17 (collect_running runs))
counted l m call answer c s no-open no_end runs (marks {w = w} d granted here next) =
    let same : d ≡ c = some_same (sym here ∙ runs) in
    let sound = s.collection d here in
    let one : unmarked (paths l) (mark (paths l) d w) + 1 ≡ unmarked (paths l) d = unmarked_mark l.n (paths l) s.standing.catalogue.rows d (mark (paths l) d w) w (sound.waiting w next.there) (sound.apart w next.there) refl in
    inr (mark (paths l) d w, (refl, omega (arith, ap (unmarked (paths l)) same)))
counted l m call answer c s no-open no_end runs (removes {h = h} granted (due_removal {c = d} here removal)) =
    let same : d ≡ c = some_same (sym here ∙ runs) in
    let one : unmarked (paths m) d + 1 ≡ unmarked (paths l) d = unmarked_remove l.n (paths l) s.standing.catalogue.rows d h removal.loose.there removal.loose.unmarked in
    inr (c, (runs, omega (arith, ap (unmarked (paths l)) same, ap (unmarked (paths m)) same)))
counted l m call answer c s no-open no_end runs (ends d granted here all) = absurd (no_end refl)
counted l m call answer c s no-open no_end runs (opens standing found) = absurd (no-open refl)
counted l m call answer c s no-open no_end runs (finds granted there) = inr (c, (runs, refl))
counted l m call answer c s no-open no_end runs (finds_none granted missing) = inr (c, (runs, refl))
counted l m call answer c s no-open no_end runs (closes bits granted right) = inr (c, (runs, refl))
counted l m call answer c s no-open no_end runs (reads granted) = inr (c, (runs, refl))
counted l m call answer c s no-open no_end runs (cuts_put b granted builds writes) = inl refl
counted l m call answer c s no-open no_end runs (cuts_seal b rs granted builds refs) = inl refl
counted l m call answer c s no-open no_end runs (cuts_entry e granted no-seal due) = inl refl

-- A dark ledger stays dark until an open.
stays_dark : (l m : Ledger) (call : Call) (answer : Answer) → (call ≡ Open → ⊥) → l.live ≡ false → Answered l call answer m → m.live ≡ false
stays_dark l m call answer no-open dark step =
    elim (refused_or_granted l m call answer no-open step) [
      | inl row ↦ ap (λ x. x.live) row.1.2 ∙ dark
      | inr granted ↦ absurd (both_ways l.live dark (granted_live l call granted no-open))
    ]

-- Sums and conditions over one more call.
steps_push : (answers : List Answer) (a : Answer) → steps_of (answers ++ (a ∷ [])) ≡ steps_of answers + step_count a
steps_push [] a = omega arith
steps_push (x ∷ xs) a = let r = steps_push xs a in omega arith

seals_push : (calls : List Call) (answers : List Answer) (call : Call) (a : Answer) → length calls ≡ length answers → seals_of (calls ++ (call ∷ [])) (answers ++ (a ∷ [])) ≡ seals_of calls answers + seal_count call a
seals_push [] [] call a same = omega arith
seals_push [] (y ∷ ys) call a same = absurd (omega arith)
seals_push (x ∷ xs) [] call a same = absurd (omega arith)
seals_push (x ∷ xs) (y ∷ ys) call a same = let r = seals_push xs ys call a (omega arith) in omega arith

all_push_parts : {A : Type 0} (P : A → Type 0) (xs : List A) (x : A) → AllByRecursion P (xs ++ (x ∷ [])) → AllByRecursion P xs × P x
all_push_parts P [] x each = (tt, each.0)
all_push_parts P (y ∷ ys) x each = let r = all_push_parts P ys x each.1 in ((each.0, r.0), r.1)

run_even : (l m : Ledger) (calls : List Call) (answers : List Answer) → Run l calls answers m → length calls ≡ length answers
run_even l m calls answers start = refl
run_even l m calls answers (then {m = k} {calls = before} {answers = said} {call = call} {answer = answer} run step) =
    length_push before call ∙ (ap (λ i. i + 1) (run_even l k before said run) ∙ sym (length_push said answer))

counted_run : (k m : Ledger) (calls : List Call) (answers : List Answer) (c : Collection) → SoundLedger k → k.collection ≡ Some c
    → AllByRecursion (λ call. call ≡ Open → ⊥) calls → AllByRecursion (λ answer. answer ≡ Ended → ⊥) answers → Run k calls answers m → Counted m (steps_of answers) (unmarked (paths k) c) (seals_of calls answers)
counted_run k m calls answers c s runs no-opens no-ends start = inr (c, (runs, refl))
counted_run k m calls answers c s runs no-opens no-ends (then {m = j} {calls = before} {answers = said} {call = call} {answer = answer} run step) =
    let opens-parts = all_push_parts (λ x. x ≡ Open → ⊥) before call no-opens in
    let ends-parts = all_push_parts (λ x. x ≡ Ended → ⊥) said answer no-ends in
    let more-steps = steps_push said answer in
    let more-seals = seals_push before said call answer (run_even k j before said run) in
    elim (counted_run k j before said c s runs opens-parts.0 ends-parts.0 run) [
      | inl dark ↦ inl (stays_dark j m call answer opens-parts.1 dark step)
      | inr on ↦ elim (counted j m call answer on.0 (run_sound k j before said s run) opens-parts.1 ends-parts.1 on.1.0 step) [
        | inl dark ↦ inl dark
        | inr next ↦ inr (next.0, (next.1.0, omega (arith, on.1.1, next.1.1)))
      ]
    ]

-- All are marked where a collection ends.
unmarked_none : (ps : List Path) (c : Collection) → ((h : Bytes) → has_hash h ps ≡ true → has h c.marked ≡ true) → unmarked ps c ≡ 0
unmarked_none ps c all = kept_none no_path (λ p. not (has p.hash c.marked)) ps (λ i less. not_from_true _ (all (get_or ps i no_path).hash (hash_of_row (get_or ps i no_path).hash ps i less refl)))

pub steps_counted : (l k m z : Ledger) (calls : List Call) (answers : List Answer) → SoundLedger l → Answered l Collect Done k → Run k calls answers m
    → AllByRecursion (λ call. call ≡ Open → ⊥) calls → AllByRecursion (λ answer. answer ≡ Ended → ⊥) answers → Answered m Step Ended z → steps_of (answers ++ (Ended ∷ [])) ≡ length (paths l) + seals_of calls answers + 1
steps_counted l k m z calls answers s (collects granted) run no-opens no-ends (ends c live runs all) =
    let first : unmarked (paths l) (record { waiting = roots l; marked = [] }) ≡ length (paths l) = kept_all no_path (λ p. not (has p.hash [])) (paths l) (λ i less. refl) in
    let last : unmarked (paths m) c ≡ 0 = unmarked_none (paths m) c all.marked in
    let more-steps = steps_push answers Ended in
    elim (counted_run k m calls answers (record { waiting = roots l; marked = [] }) (keeps l k Collect Done s (collects granted)) refl no-opens no-ends run) [
      | inl dark ↦ absurd (both_ways m.live dark (granted_live m Step live (λ e. let z : ◌≡◌ {A = ℕ} 0 1 = cc in omega arith)))
      | inr on ↦ let same : on.0 ≡ c = some_same (sym on.1.0 ∙ runs) in omega (arith, on.1.1, ap (unmarked (paths m)) same)
    ]
