-- The rules leave no two answers.
use Rattle.std.proofs.Common.{◌≡◌, ℕ, zero, suc, ◌+◌, ◌<◌, ◌≤◌, Bool, true, false, List, [], ◌∷◌, length, get_or, Some, None, count_by, sym, refl, ap, ◌∙◌, subst, inl, inr, arith}
use Rattle.std.specs.Str.{bytes_eq}
use Rattle.std.proofs.lemmas.List.{ext_get_or}
use Rattle.std.proofs.lemmas.Bool.{cases_Bool, cases_eq, cases_order, or_cases, both_ways}
use Rattle.naming.specs.Hash.{number_of}
use Rattle.naming.specs.Laws.{same_bytes}
use Rattle.naming.proofs.Digits.{each_below}
use Rattle.model.specs.Plain.{Bytes, Profile, blocks, register, switch, remove}
use Rattle.model.specs.Fits.{has_hash, Whole, Climbing, profile}
use Rattle.model.proofs.Chains.{any_place}
use Rattle.model.proofs.Sounds.{same_is}
use Rattle.model.proofs.Rows.{row_of_hash}
use Rattle.ledger.specs.declared.refusals.Refusal.{Refusal}
use Rattle.ledger.specs.declared.refusals.Refusal.TheVariants.{Shut, BadArgument, NotRegistered, HashTaken, AlreadyBuilding, NotBuilding, WrongLength, PathsFull, NoFreeRun, TooManyReferences, NoGeneration, GenerationCurrent, ProfileFull, NumbersSpent, CollectionState, WrongSize, BadLabel, BadEntry}
use Rattle.ledger.specs.State.{Ledger, Build, Collection, has, catalogue, paths, leased, building}
use Rattle.ledger.specs.Calls.{Call, Seal, Open, Answer, Number, Marked, Removed, Members, Refused, row}
use Rattle.ledger.specs.Rows.{Row, First, Granted, BeforeCurrent, References, Removal, due_removal, sealed_path, shut, lease_holder, release_holder, begin_holder, begin_name, begin_size, put_holder, put_empty, put_long, seal_holder, scrap_holder, commit_profile, rollback_profile, switch_profile, forget_profile, read_room, read_past, lease_unknown, commit_unknown, closure_unknown, read_unknown, begin_taken, begin_building, put_nothing, seal_nothing, scrap_nothing, put_past, seal_early, begin_full, begin_room, seal_many, rollback_none, switch_none, forget_none, forget_current, commit_six, commit_greatest, numbers_spent, collect_running, step_none}
use Rattle.ledger.specs.Rules.{with_collection, with_entry, build, lease, seal, waits, begun, longer, mark, NextWaiting, Reserved, ClosureBits, Answered, refused, leases, releases, begins, puts, seals, scraps, commits, rolls_back, switches, forgets, collects, marks, removes, ends, opens, finds, finds_none, closes, reads, cuts_put, cuts_seal, cuts_entry}
use Rattle.ledger.specs.Sound.{SoundLedger}
use Rattle.ledger.proofs.Sets.{some_same, has_head, has_tail, has_cases}
use Rattle.ledger.proofs.Dues.{granted_live, leased_on_lease, not_below}
use Rattle.ledger.proofs.Cases.{refused_or_granted}

-- A row stands for one refusal.
row_low : (l : Ledger) (call : Call) (k : ℕ) → Row l call k → k ≤ 17
row_low l call k (shut x0 x1) = omega arith
row_low l call k (lease_holder x0) = omega arith
row_low l call k (release_holder x0) = omega arith
row_low l call k (begin_holder x0) = omega arith
row_low l call k (begin_name x0) = omega arith
row_low l call k (begin_size x0) = omega arith
row_low l call k (put_holder x0) = omega arith
row_low l call k (put_empty x0) = omega arith
row_low l call k (put_long x0) = omega arith
row_low l call k (seal_holder x0) = omega arith
row_low l call k (scrap_holder x0) = omega arith
row_low l call k (commit_profile x0) = omega arith
row_low l call k (rollback_profile x0) = omega arith
row_low l call k (switch_profile x0) = omega arith
row_low l call k (forget_profile x0) = omega arith
row_low l call k (read_room x0) = omega arith
row_low l call k (read_past x0 x1) = omega arith
row_low l call k (lease_unknown x0) = omega arith
row_low l call k (commit_unknown x0) = omega arith
row_low l call k (closure_unknown x0) = omega arith
row_low l call k (read_unknown x0) = omega arith
row_low l call k (begin_taken x0) = omega arith
row_low l call k (begin_building x0) = omega arith
row_low l call k (put_nothing x0) = omega arith
row_low l call k (seal_nothing x0) = omega arith
row_low l call k (scrap_nothing x0) = omega arith
row_low l call k (put_past x0 x1) = omega arith
row_low l call k (seal_early x0 x1) = omega arith
row_low l call k (begin_full x0) = omega arith
row_low l call k (begin_room x0 x1) = omega arith
row_low l call k (seal_many x0 x1 x2) = omega arith
row_low l call k (rollback_none x0) = omega arith
row_low l call k (switch_none x0) = omega arith
row_low l call k (forget_none x0) = omega arith
row_low l call k (forget_current x0) = omega arith
row_low l call k (commit_six x0) = omega arith
row_low l call k (commit_greatest x0) = omega arith
row_low l call k (numbers_spent x0 x1) = omega arith
row_low l call k (collect_running x0) = omega arith
row_low l call k (step_none x0) = omega arith

abbrev refusal_of : ℕ → Refusal
refusal_of k =
    get_or (Shut ∷ (Shut ∷ (BadArgument ∷ (NotRegistered ∷ (HashTaken ∷ (AlreadyBuilding ∷ (NotBuilding ∷ (WrongLength ∷ (Shut ∷ (Shut ∷ (PathsFull ∷ (NoFreeRun ∷ (TooManyReferences ∷ (NoGeneration ∷ (GenerationCurrent ∷ (ProfileFull ∷ (NumbersSpent ∷ (CollectionState ∷ (WrongSize ∷ (BadLabel ∷ [])))))))))))))))))))) k Shut

refusal_is : (r : Refusal) → row r ≤ 17 → refusal_of (row r) ≡ r
refusal_is Shut low = refl
refusal_is BadArgument low = refl
refusal_is NotRegistered low = refl
refusal_is HashTaken low = refl
refusal_is AlreadyBuilding low = refl
refusal_is NotBuilding low = refl
refusal_is WrongLength low = refl
refusal_is PathsFull low = refl
refusal_is NoFreeRun low = refl
refusal_is TooManyReferences low = refl
refusal_is NoGeneration low = refl
refusal_is GenerationCurrent low = refl
refusal_is ProfileFull low = refl
refusal_is NumbersSpent low = refl
refusal_is CollectionState low = refl
refusal_is WrongSize low = refl
refusal_is BadLabel low = refl
refusal_is (BadEntry block) low = absurd (omega arith)

first_once : (l : Ledger) (call : Call) (j k : ℕ) → First l call j → First l call k → j ≡ k
first_once l call j k a b =
    elim (cases_order j k) [ inl same ↦ same | inr other ↦ elim other [ inl less ↦ absurd (b.above j less a.applies) | inr more ↦ absurd (a.above k more b.applies) ] ]

refusal_once : (l : Ledger) (call : Call) (r s : Refusal) → First l call (row r) → First l call (row s) → r ≡ s
refusal_once l call r s a b =
    sym (refusal_is r (row_low l call (row r) a.applies)) ∙ (ap refusal_of (first_once l call (row r) (row s) a b) ∙ refusal_is s (row_low l call (row s) b.applies))

-- Hashes of one number are one hash.
whole_once : (g h : Bytes) → Whole g → Whole h → number_of g ≡ number_of h → g ≡ h
whole_once g h a b e = same_bytes g h (a.0 ∙ sym b.0) (each_below 256 g (omega arith) (λ k less. a.1 k)) (each_below 256 h (omega arith) (λ k less. b.1 k)) e

registered_whole : (l : Ledger) (q : Bytes) → SoundLedger l → has_hash q (paths l) ≡ true → Whole q
registered_whole l q s there =
    let at = row_of_hash q (paths l) there in subst Whole at.1.1 (s.standing.catalogue.rows at.0 at.1.0).whole

least_once : (g h : Bytes) → Whole g → Whole h → number_of g ≤ number_of h → number_of h ≤ number_of g → g ≡ h
least_once g h a b le ge = whole_once g h a b (omega arith)

waiting_once : (l : Ledger) (c : Collection) (v w : Bytes) → SoundLedger l → l.collection ≡ Some c → NextWaiting c v → NextWaiting c w → v ≡ w
waiting_once l c v w s runs a b =
    let sound = s.collection c runs in
    least_once v w (registered_whole l v s (sound.waiting v a.there)) (registered_whole l w s (sound.waiting w b.there)) (a.first w b.there) (b.first v a.there)

removal_once : (l : Ledger) (c : Collection) (g h : Bytes) → SoundLedger l → Removal l c g → Removal l c h → g ≡ h
removal_once l c g h s a b = least_once g h (registered_whole l g s a.loose.there) (registered_whole l h s b.loose.there) (a.first h b.loose) (b.first g a.loose)

before_once : (f : Profile) (j k : ℕ) → BeforeCurrent f j → BeforeCurrent f k → j ≡ k
before_once f j k a b = omega (arith, a.greatest k b.there b.below, b.greatest j a.there a.below)

reserved_once : (l : Ledger) (size x y : ℕ) → Reserved l size x → Reserved l size y → x ≡ y
reserved_once l size x y a b =
    elim (cases_eq (blocks size) 0) [
      | inl none ↦ a.none none ∙ sym (b.none none)
      | inr some ↦ let p : 0 < blocks size = omega arith in omega (arith, (a.some p).last y (b.some p).free, (b.some p).last x (a.some p).free)
    ]

bits_once : (l : Ledger) (q : Bytes) (xs ys : List Bool) → ClosureBits l q xs → ClosureBits l q ys → xs ≡ ys
bits_once l q xs ys a b =
    ext_get_or false xs ys (a.each ∙ sym b.each) (λ k less.
    let there : k < length ys = omega (arith, a.each, b.each) in
    elim (cases_Bool (get_or xs k false)) [
      | inl t ↦ t ∙ sym ((b.right k there).1 ((a.right k less).0 t))
      | inr f ↦ elim (cases_Bool (get_or ys k false)) [ inl t ↦ absurd (both_ways (get_or xs k false) f ((a.right k less).1 ((b.right k there).0 t))) | inr g ↦ f ∙ sym g ]
    ])

-- Hashes in hash order, with the same members, are the same list.
climbing_tail : (x : Bytes) (xs : List Bytes) → Climbing (x ∷ xs) → Climbing xs
climbing_tail x xs climbs k less = let e : suc k + 1 ≡ suc (k + 1) = omega arith in rw e at (climbs (suc k) (omega arith))

climbing_head : (x : Bytes) (xs : List Bytes) → Climbing (x ∷ xs) → (k : ℕ) → k < length xs → number_of x < number_of (get_or xs k [])
climbing_head x xs climbs zero less = climbs 0 (omega arith)
climbing_head x xs climbs (suc k) less =
    let e : k + 1 ≡ suc k = omega arith in
    let step : number_of (get_or xs k []) < number_of (get_or xs (suc k) []) = rw e at (climbing_tail x xs climbs k (omega arith)) in
    omega (arith, climbing_head x xs climbs k (omega arith))

head_below : (x : Bytes) (xs : List Bytes) (q : Bytes) → Climbing (x ∷ xs) → has q xs ≡ true → number_of x < number_of q
head_below x xs q climbs e =
    let at = any_place (λ y. bytes_eq y q) xs [] e in subst (λ (y : Bytes). number_of x < number_of y) (same_is (get_or xs at.0 []) q at.1.1) (climbing_head x xs climbs at.0 at.1.0)

same_climbing : (xs ys : List Bytes) → Climbing xs → Climbing ys → ((q : Bytes) → has q xs ≡ true → Whole q) → ((q : Bytes) → has q xs ≡ true → has q ys ≡ true) → ((q : Bytes) → has q ys ≡ true → has q xs ≡ true) → xs ≡ ys
same_climbing [] [] cx cy whole to from = refl
same_climbing [] (y ∷ ys) cx cy whole to from = absurd (both_ways false refl (from y (has_head y ys)))
same_climbing (x ∷ xs) [] cx cy whole to from = absurd (both_ways false refl (to x (has_head x xs)))
same_climbing (x ∷ xs) (y ∷ ys) cx cy whole to from =
    let up : number_of y ≤ number_of x = elim (has_cases x y ys (to x (has_head x xs))) [ inl is ↦ subst (λ (z : Bytes). number_of y ≤ number_of z) is (omega arith) | inr t ↦ omega (arith, head_below y ys x cy t) ] in
    let down : number_of x ≤ number_of y = elim (has_cases y x xs (from y (has_head y ys))) [ inl is ↦ subst (λ (z : Bytes). number_of x ≤ number_of z) is (omega arith) | inr t ↦ omega (arith, head_below x xs y cx t) ] in
    let heads : x ≡ y = least_once x y (whole x (has_head x xs)) (whole y (from y (has_head y ys))) down up in
    let tails : xs ≡ ys = same_climbing xs ys (climbing_tail x xs cx) (climbing_tail y ys cy) (λ q e. whole q (has_tail q x xs e))
    (λ q e. elim (has_cases q y ys (to q (has_tail q x xs e))) [ inl is ↦ absurd (omega (arith, head_below x xs q cx e, ap number_of heads, ap number_of is)) | inr t ↦ t ])
    (λ q e. elim (has_cases q x xs (from q (has_tail q y ys e))) [ inl is ↦ absurd (omega (arith, head_below y ys q cy e, ap number_of heads, ap number_of is)) | inr t ↦ t ]) in
    ap (λ z. z ∷ xs) heads ∙ ap (λ zs. y ∷ zs) tails

references_once : (l : Ledger) (h : ℕ) (b : Build) (rs ss : List Bytes) → SoundLedger l → h < length l.leases → building l h ≡ Some b → References l h b rs → References l h b ss → rs ≡ ss
references_once l h b rs ss s holder builds a c =
    same_climbing rs ss a.climbing c.climbing
    (λ q e. elim (or_cases (has q (leased l h)) (bytes_eq b.hash q) (a.found q e).0) [
      | inl lease-of ↦ registered_whole l q s (s.leases q (leased_on_lease l h q holder lease-of))
      | inr self ↦ subst Whole (same_is b.hash q self) (s.builds h b builds).whole
    ])
    (λ q e. let found = a.found q e in c.all q found.0 found.1)
    (λ q e. let found = c.found q e in a.all q found.0 found.1)

seals_once : (l : Ledger) (h : ℕ) (b c : Build) (rs ss : List Bytes) → SoundLedger l → Granted l (Seal h) → building l h ≡ Some b → building l h ≡ Some c → References l h b rs → References l h c ss
    → waits (lease (build (seal (with_entry l (register (sealed_path b rs))) b rs) h None) h b.hash) b.hash ≡ waits (lease (build (seal (with_entry l (register (sealed_path c ss))) c ss) h None) h c.hash) c.hash
seals_once l h b c rs ss s granted builds builds2 refs refs2 =
    let same : b ≡ c = some_same (sym builds ∙ builds2) in
    let holder : h < length l.leases = omega (arith, not_below 7 h (λ m. granted 2 (seal_holder m)), s.holders.0) in
    let lists : rs ≡ ss = references_once l h b rs ss s holder builds refs (subst (λ (x : Build). References l h x ss) (sym same) refs2) in
    let result : Build → List Bytes → Ledger = λ x ts. waits (lease (build (seal (with_entry l (register (sealed_path x ts))) x ts) h None) h x.hash) x.hash in
    ap (λ x. result x rs) same ∙ ap (result c) lists

granted_once : (l m k : Ledger) (call : Call) (a b : Answer) → SoundLedger l → Granted l call → (a ≡ Refused Shut → ⊥) → (b ≡ Refused Shut → ⊥) → (call ≡ Open → ⊥) → Answered l call a m → Answered l call b k → (a ≡ b) × (m ≡ k)
granted_once l m k call a b s granted na nb unopened (refused r first) second = absurd (granted _ first.applies)
granted_once l m k call a b s granted na nb unopened (opens standing found) second = absurd (unopened refl)
granted_once l m k call a b s granted na nb unopened (cuts_put b1 g1 builds writes) second = absurd (na refl)
granted_once l m k call a b s granted na nb unopened (cuts_seal b1 rs g1 builds refs) second = absurd (na refl)
granted_once l m k call a b s granted na nb unopened (cuts_entry e g1 no-seal due) second = absurd (na refl)
granted_once l m k call a b s granted na nb unopened (leases g1) (refused r first) = absurd (granted _ first.applies)
granted_once l m k call a b s granted na nb unopened (leases g1) (cuts_entry e g2 no-seal due) = absurd (nb refl)
granted_once l m k call a b s granted na nb unopened (leases g1) (leases g2) = (refl, refl)
granted_once l m k call a b s granted na nb unopened (releases g1) (refused r first) = absurd (granted _ first.applies)
granted_once l m k call a b s granted na nb unopened (releases g1) (cuts_entry e g2 no-seal due) = absurd (nb refl)
granted_once l m k call a b s granted na nb unopened (releases g1) (releases g2) = (refl, refl)
granted_once l m k call a b s granted na nb unopened (begins {h = h} {q = q} {name = name} {size = size} x g1 whole reserved) (refused r first) = absurd (granted _ first.applies)
granted_once l m k call a b s granted na nb unopened (begins {h = h} {q = q} {name = name} {size = size} x g1 whole reserved) (cuts_entry e g2 no-seal due) = absurd (nb refl)
granted_once l m k call a b s granted na nb unopened (begins {h = h} {q = q} {name = name} {size = size} x g1 whole reserved) (begins y g2 whole2 reserved2) = (refl, ap (λ z. build l h (Some (begun q name size z))) (reserved_once l size x y reserved reserved2))
granted_once l m k call a b s granted na nb unopened (puts {h = h} {piece = piece} b1 g1 builds) (refused r first) = absurd (granted _ first.applies)
granted_once l m k call a b s granted na nb unopened (puts {h = h} {piece = piece} b1 g1 builds) (cuts_entry e g2 no-seal due) = absurd (nb refl)
granted_once l m k call a b s granted na nb unopened (puts {h = h} {piece = piece} b1 g1 builds) (puts b2 g2 builds2) = (refl, ap (λ z. build l h (Some (longer z piece))) (some_same (sym builds ∙ builds2)))
granted_once l m k call a b s granted na nb unopened (puts {h = h} {piece = piece} b1 g1 builds) (cuts_put b2 g2 builds2 writes) = absurd (nb refl)
granted_once l m k call a b s granted na nb unopened (seals {h = h} b1 rs g1 builds refs) (refused r first) = absurd (granted _ first.applies)
granted_once l m k call a b s granted na nb unopened (seals {h = h} b1 rs g1 builds refs) (cuts_entry e g2 no-seal due) = absurd (nb refl)
granted_once l m k call a b s granted na nb unopened (seals {h = h} b1 rs g1 builds refs) (seals b2 ss g2 builds2 refs2) = (refl, seals_once l h b1 b2 rs ss s g1 builds builds2 refs refs2)
granted_once l m k call a b s granted na nb unopened (seals {h = h} b1 rs g1 builds refs) (cuts_seal b2 ss g2 builds2 refs2) = absurd (nb refl)
granted_once l m k call a b s granted na nb unopened (scraps g1) (refused r first) = absurd (granted _ first.applies)
granted_once l m k call a b s granted na nb unopened (scraps g1) (cuts_entry e g2 no-seal due) = absurd (nb refl)
granted_once l m k call a b s granted na nb unopened (scraps g1) (scraps g2) = (refl, refl)
granted_once l m k call a b s granted na nb unopened (commits g1) (refused r first) = absurd (granted _ first.applies)
granted_once l m k call a b s granted na nb unopened (commits g1) (cuts_entry e g2 no-seal due) = absurd (nb refl)
granted_once l m k call a b s granted na nb unopened (commits g1) (commits g2) = (refl, refl)
granted_once l m k call a b s granted na nb unopened (rolls_back {p = p} {k = i} g1 before) (refused r first) = absurd (granted _ first.applies)
granted_once l m k call a b s granted na nb unopened (rolls_back {p = p} {k = i} g1 before) (cuts_entry e g2 no-seal due) = absurd (nb refl)
granted_once l m k call a b s granted na nb unopened (rolls_back {p = p} {k = i} g1 before) (rolls_back {k = j} g2 before2) = let is : i ≡ j = before_once (profile (catalogue l) p) i j before before2 in (ap Number is, ap (λ z. with_entry l (switch p z)) is)
granted_once l m k call a b s granted na nb unopened (switches g1) (refused r first) = absurd (granted _ first.applies)
granted_once l m k call a b s granted na nb unopened (switches g1) (cuts_entry e g2 no-seal due) = absurd (nb refl)
granted_once l m k call a b s granted na nb unopened (switches g1) (switches g2) = (refl, refl)
granted_once l m k call a b s granted na nb unopened (forgets g1) (refused r first) = absurd (granted _ first.applies)
granted_once l m k call a b s granted na nb unopened (forgets g1) (cuts_entry e g2 no-seal due) = absurd (nb refl)
granted_once l m k call a b s granted na nb unopened (forgets g1) (forgets g2) = (refl, refl)
granted_once l m k call a b s granted na nb unopened (collects g1) (refused r first) = absurd (granted _ first.applies)
granted_once l m k call a b s granted na nb unopened (collects g1) (cuts_entry e g2 no-seal due) = absurd (nb refl)
granted_once l m k call a b s granted na nb unopened (collects g1) (collects g2) = (refl, refl)
granted_once l m k call a b s granted na nb unopened (marks {w = v} c g1 runs next) (refused r first) = absurd (granted _ first.applies)
granted_once l m k call a b s granted na nb unopened (marks {w = v} c g1 runs next) (cuts_entry e g2 no-seal due) = absurd (nb refl)
granted_once l m k call a b s granted na nb unopened (marks {w = v} c g1 runs next) (marks {w = w} e g2 runs2 next2) = let same : e ≡ c = some_same (sym runs2 ∙ runs) in let is : v ≡ w = waiting_once l c v w s runs next (subst (λ (x : Collection). NextWaiting x w) same next2) in (ap Marked is, ap (λ z. with_collection l (Some (mark (paths l) c z))) is ∙ ap (λ z. with_collection l (Some (mark (paths l) z w))) (sym same))
granted_once l m k call a b s granted na nb unopened (marks {w = v} c g1 runs next) (removes g2 (due_removal {c = e} runs2 removal)) = let same : e ≡ c = some_same (sym runs2 ∙ runs) in absurd (both_ways (has v c.waiting) (subst (λ (x : List Bytes). has v x ≡ false) (sym (subst (λ (x : Collection). x.waiting ≡ []) same removal.idle)) refl) next.there)
granted_once l m k call a b s granted na nb unopened (marks {w = v} c g1 runs next) (ends e g2 runs2 all) = let same : e ≡ c = some_same (sym runs2 ∙ runs) in absurd (both_ways (has v c.waiting) (subst (λ (x : List Bytes). has v x ≡ false) (sym (subst (λ (x : Collection). x.waiting ≡ []) same all.idle)) refl) next.there)
granted_once l m k call a b s granted na nb unopened (removes {h = g} g1 (due_removal {c = c} runs removal)) (refused r first) = absurd (granted _ first.applies)
granted_once l m k call a b s granted na nb unopened (removes {h = g} g1 (due_removal {c = c} runs removal)) (cuts_entry e g2 no-seal due) = absurd (nb refl)
granted_once l m k call a b s granted na nb unopened (removes {h = g} g1 (due_removal {c = c} runs removal)) (marks {w = v} e g2 runs2 next) = let same : e ≡ c = some_same (sym runs2 ∙ runs) in absurd (both_ways (has v c.waiting) (subst (λ (x : List Bytes). has v x ≡ false) (sym removal.idle) refl) (subst (λ (x : Collection). has v x.waiting ≡ true) same next.there))
granted_once l m k call a b s granted na nb unopened (removes {h = g} g1 (due_removal {c = c} runs removal)) (removes {h = h} g2 (due_removal {c = e} runs2 removal2)) = let is : g ≡ h = removal_once l c g h s removal (subst (λ (x : Collection). Removal l x h) (some_same (sym runs2 ∙ runs)) removal2) in (ap Removed is, ap (λ z. with_entry l (remove z)) is)
granted_once l m k call a b s granted na nb unopened (removes {h = g} g1 (due_removal {c = c} runs removal)) (ends e g2 runs2 all) = let same : e ≡ c = some_same (sym runs2 ∙ runs) in absurd (both_ways (has g c.marked) removal.loose.unmarked (subst (λ (x : Collection). has g x.marked ≡ true) same (all.marked g removal.loose.there)))
granted_once l m k call a b s granted na nb unopened (ends c g1 runs all) (refused r first) = absurd (granted _ first.applies)
granted_once l m k call a b s granted na nb unopened (ends c g1 runs all) (cuts_entry e g2 no-seal due) = absurd (nb refl)
granted_once l m k call a b s granted na nb unopened (ends c g1 runs all) (marks {w = v} e g2 runs2 next) = let same : e ≡ c = some_same (sym runs2 ∙ runs) in absurd (both_ways (has v c.waiting) (subst (λ (x : List Bytes). has v x ≡ false) (sym all.idle) refl) (subst (λ (x : Collection). has v x.waiting ≡ true) same next.there))
granted_once l m k call a b s granted na nb unopened (ends c g1 runs all) (removes {h = g} g2 (due_removal {c = e} runs2 removal)) = let same : e ≡ c = some_same (sym runs2 ∙ runs) in absurd (both_ways (has g c.marked) (subst (λ (x : Collection). has g x.marked ≡ false) same removal.loose.unmarked) (all.marked g removal.loose.there))
granted_once l m k call a b s granted na nb unopened (ends c g1 runs all) (ends e g2 runs2 all2) = (refl, refl)
granted_once l m k call a b s granted na nb unopened (finds {q = q} g1 there) (refused r first) = absurd (granted _ first.applies)
granted_once l m k call a b s granted na nb unopened (finds {q = q} g1 there) (cuts_entry e g2 no-seal due) = absurd (nb refl)
granted_once l m k call a b s granted na nb unopened (finds {q = q} g1 there) (finds g2 there2) = (refl, refl)
granted_once l m k call a b s granted na nb unopened (finds {q = q} g1 there) (finds_none g2 missing) = absurd (both_ways (has_hash q (paths l)) missing there)
granted_once l m k call a b s granted na nb unopened (finds_none {q = q} g1 missing) (refused r first) = absurd (granted _ first.applies)
granted_once l m k call a b s granted na nb unopened (finds_none {q = q} g1 missing) (cuts_entry e g2 no-seal due) = absurd (nb refl)
granted_once l m k call a b s granted na nb unopened (finds_none {q = q} g1 missing) (finds g2 there) = absurd (both_ways (has_hash q (paths l)) missing there)
granted_once l m k call a b s granted na nb unopened (finds_none {q = q} g1 missing) (finds_none g2 missing2) = (refl, refl)
granted_once l m k call a b s granted na nb unopened (closes {q = q} xs g1 right) (refused r first) = absurd (granted _ first.applies)
granted_once l m k call a b s granted na nb unopened (closes {q = q} xs g1 right) (cuts_entry e g2 no-seal due) = absurd (nb refl)
granted_once l m k call a b s granted na nb unopened (closes {q = q} xs g1 right) (closes ys g2 right2) = (ap (λ z. Members z (count_by (λ t. t) z)) (bits_once l q xs ys right right2), refl)
granted_once l m k call a b s granted na nb unopened (reads g1) (refused r first) = absurd (granted _ first.applies)
granted_once l m k call a b s granted na nb unopened (reads g1) (cuts_entry e g2 no-seal due) = absurd (nb refl)
granted_once l m k call a b s granted na nb unopened (reads g1) (reads g2) = (refl, refl)

pub one_answer : (l m k : Ledger) (call : Call) (a b : Answer) → SoundLedger l → (call ≡ Open → ⊥) → (l.live ≡ true → (a ≡ Refused Shut → ⊥) × (b ≡ Refused Shut → ⊥)) → Answered l call a m → Answered l call b k → (a ≡ b) × (m ≡ k)
one_answer l m k call a b s unopened unshut first second =
    elim (refused_or_granted l m call a unopened first) [
      | inl r ↦ elim (refused_or_granted l k call b unopened second) [
        | inl r2 ↦ (r.1.0 ∙ (ap Refused (refusal_once l call r.0 r2.0 r.1.1 r2.1.1) ∙ sym r2.1.0), r.1.2 ∙ sym r2.1.2)
        | inr granted ↦ absurd (granted _ r.1.1.applies)
      ]
      | inr granted ↦ let live = unshut (granted_live l call granted unopened) in granted_once l m k call a b s granted live.0 live.1 unopened first second
    ]
