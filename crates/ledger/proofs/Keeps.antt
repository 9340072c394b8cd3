-- Every answered call leaves a sound ledger.
use Rattle.std.proofs.Common.{◌≡◌, ℕ, ◌+◌, ◌<◌, ◌≤◌, Bool, true, false, not, ◌||◌, ◌≢◌, ◌⊎◌, List, [], ◌∷◌, ◌++◌, map, length, get_or, set, replicate, Some, None, filter, Option, sym, refl, ap, ◌∙◌, subst, inl, inr, arith}
use Rattle.std.specs.Str.{bytes_eq}
use Rattle.std.proofs.lemmas.List.{length-set, length_push, length-append, length-map, get_or_append_left, get_or-append-add, get_or_push, get_or-map}
use Rattle.std.proofs.lemmas.Bool.{cases_Bool, cases_lt, cases_eq, or_cases, or_left, or_from, or_parts, both_ways}
use Rattle.model.specs.Plain.{Bytes, Path, Profile, Catalogue, Entry, register, commit, switch, forget, remove, no_path, Span, blocks, run}
use Rattle.model.specs.Fits.{has_hash, names_path, profile, with_profile, Whole, Apart, InData, after}
use Rattle.model.specs.Free.{nowhere}
use Rattle.model.proofs.Chains.{any_append, any_left, any_from, any_of_kept, any_kept, kept_each, kept_by_le}
use Rattle.model.proofs.Sounds.{same_is, is_same, sound_nothing}
use Rattle.model.proofs.Rows.{paths_few, needs_registered}
use Rattle.model.specs.Standing.{Standing, entered}
use Rattle.ledger.specs.State.{Ledger, Build, Content, Collection, has, catalogue, paths, leased, building, somes, half_built, builds_hash, build_run, taken, named, on_lease, root, fresh}
use Rattle.ledger.specs.Calls.{Call, Answer, Lease, Begin, Put, Seal, Commit, Rollback, Switch, Forget, Step}
use Rattle.ledger.specs.Rows.{generations, greatest, References, Removal, Due, due_seal, due_commit, due_rollback, due_switch, due_forget, due_removal, Granted, sealed_path, lease_holder, lease_unknown, begin_holder, begin_name, begin_size, begin_taken, begin_building, begin_full, put_past, seal_holder, seal_early, commit_profile, commit_unknown, forget_profile}
use Rattle.ledger.specs.Rules.{with_leases, with_entry, with_collection, lease, release, build, seal, also_waits, waits, roots, Reserved, begun, longer, MayFind, as_now, as_spare, content_with, Answered, refused, leases, releases, begins, puts, seals, scraps, commits, rolls_back, switches, forgets, collects, marks, removes, ends, opens, finds, finds_none, closes, reads, cuts_put, cuts_seal, cuts_entry, Kept, Run, start, then}
use Rattle.ledger.specs.Sound.{SoundCollection, SoundBuild, BuildsApart, SoundStanding, SoundLedger}
use Rattle.ledger.proofs.Sets.{any_set, has_cases, somes_none_le, somes_end, somes_begin, somes_change, somes_has, somes_place, still_there, there_or_new, none_there, none_unless, some_same}
use Rattle.ledger.proofs.Names.{lawful_unless}
use Rattle.ledger.proofs.Collections.{joined_by, collection_fewer, collection_joined, collection_registered, collection_removed, collection_marked}
use Rattle.ledger.proofs.Dues.{not_below, not_false_is_true, granted_live, due_numbered, due_fits, leased_on_lease, named_from, root_cases, root_named, root_leased, root_registered}
use Rattle.ledger.proofs.Standings.{contents_with, contents_registered, contents_after, RegistersNone, standing_with, standing_entered, spares_sound}

-- What of a root one more or one less changes.
abbrev MoreRoots : (Bytes → Bool) → (Bytes → Bool) → Bytes → Type 0
MoreRoots rooted more q = (x : Bytes) → more x ≡ true → (rooted x ≡ true) ⊎ (q ≡ x)

abbrev FewerRoots : (Bytes → Bool) → (Bytes → Bool) → Type 0
FewerRoots rooted less = (x : Bytes) → less x ≡ true → rooted x ≡ true

collection_waits : (ps : List Path) (rooted more : Bytes → Bool) (o : Option Collection) (q : Bytes) → has_hash q ps ≡ true → MoreRoots rooted more q
    → ((c : Collection) → o ≡ Some c → SoundCollection ps rooted c) → (c : Collection) → also_waits q o ≡ Some c → SoundCollection ps more c
collection_waits ps rooted more None q there new sound c e = let z : ◌≡◌ {A = ℕ} 0 1 = cc in absurd (omega arith)
collection_waits ps rooted more (Some old) q there new sound c e =
    let is : joined_by q old ≡ c = cc in subst (SoundCollection ps more) is (collection_joined ps rooted more old q there new (sound old refl))

-- Roots after a lease, a release, and a change to a profile.
lease_roots : (l : Ledger) (h : ℕ) (q : Bytes) → h < length l.leases → (x : Bytes) → on_lease (lease l h q) x ≡ true → (on_lease l x ≡ true) ⊎ (q ≡ x)
lease_roots l h q less x e =
    elim (any_set (λ hs. has x hs) l.leases h (q ∷ leased l h) e) [
      | inl here ↦ elim (has_cases x q (leased l h) here) [ inl is ↦ inr is | inr old ↦ inl (leased_on_lease l h x less old) ]
      | inr there ↦ inl there
    ]

release_roots : (l : Ledger) (h : ℕ) (x : Bytes) → on_lease (release l h) x ≡ true → on_lease l x ≡ true
release_roots l h x e = elim (any_set (λ hs. has x hs) l.leases h [] e) [ inl none ↦ absurd (both_ways false refl none) | inr there ↦ there ]

named_with : (cat : Catalogue) (p : ℕ) (f : Profile) (x : Bytes) → named (with_profile cat p f) x ≡ true → (names_path x f.generations ≡ true) ⊎ (named cat x ≡ true)
named_with cat p f x e = any_set (λ g. names_path x g.generations) cat.profiles p f e

-- A switch and a forget name no other path.
switch_named : (cat : Catalogue) (p k : ℕ) (x : Bytes) → p < length cat.profiles → named (after cat (switch p k)) x ≡ true → named cat x ≡ true
switch_named cat p k x less e =
    elim (named_with cat p (record { generations = (profile cat p).generations; current = k }) x e) [ inl names ↦ named_from cat x p less names | inr there ↦ there ]

forget_named : (cat : Catalogue) (p k : ℕ) (x : Bytes) → p < length cat.profiles → named (after cat (forget p k)) x ≡ true → named cat x ≡ true
forget_named cat p k x less e =
    elim (named_with cat p _ x e) [
      | inl names ↦ named_from cat x p less (any_of_kept (λ g. bytes_eq g.path x) _ (profile cat p).generations names)
      | inr there ↦ there
    ]

commit_named : (cat : Catalogue) (p k : ℕ) (q x : Bytes) → p < length cat.profiles → named (after cat (commit p k q)) x ≡ true → (named cat x ≡ true) ⊎ (q ≡ x)
commit_named cat p k q x less e =
    elim (named_with cat p _ x e) [
      | inl names ↦ elim (or_cases (names_path x (profile cat p).generations) (names_path x (record { number = k; path = q } ∷ [])) (sym (any_append (λ g. bytes_eq g.path x) (profile cat p).generations (record { number = k; path = q } ∷ [])) ∙ names)) [
        | inl old ↦ inl (named_from cat x p less old)
        | inr new ↦ elim (or_cases (bytes_eq q x) false new) [ inl is ↦ inr (same_is q x is) | inr f ↦ absurd (both_ways false refl f) ]
      ]
      | inr there ↦ inl there
    ]

either_root : (l m : Ledger) (x : Bytes) → (named (catalogue m) x ≡ true → named (catalogue l) x ≡ true) → (on_lease m x ≡ true → on_lease l x ≡ true) → root m x ≡ true → root l x ≡ true
either_root l m x names leasing e =
    elim (root_cases m x e) [
      | inl a ↦ root_named l x (names a)
      | inr b ↦ root_leased l x (leasing b)
    ]

more_root : (l m : Ledger) (q x : Bytes) → (named (catalogue m) x ≡ true → (named (catalogue l) x ≡ true) ⊎ (q ≡ x)) → (on_lease m x ≡ true → (on_lease l x ≡ true) ⊎ (q ≡ x)) → root m x ≡ true → (root l x ≡ true) ⊎ (q ≡ x)
more_root l m q x names leasing e =
    elim (root_cases m x e) [
      | inl a ↦ elim (names a) [ inl old ↦ inl (root_named l x old) | inr is ↦ inr is ]
      | inr b ↦ elim (leasing b) [ inl old ↦ inl (root_leased l x old) | inr is ↦ inr is ]
    ]

keeps_lease : (l : Ledger) (h : ℕ) (q : Bytes) → SoundLedger l → Granted l (Lease h q) → SoundLedger (waits (lease l h q) q)
keeps_lease l h q s granted =
    let holder : h < length l.leases = omega (arith, not_below 7 h (λ m. granted 2 (lease_holder m)), s.holders.0) in
    let there : has_hash q (paths l) ≡ true = not_false_is_true (has_hash q (paths l)) (λ f. granted 3 (lease_unknown f)) in
    record {
      standing = s.standing;
      spare = s.spare;
      clean = s.clean;
      holders = (length-set l.leases h (q ∷ leased l h) ∙ s.holders.0, s.holders.1);
      leases = λ x e. elim (lease_roots l h q holder x e) [ inl old ↦ s.leases x old | inr is ↦ subst (λ (y : Bytes). has_hash y (paths l) ≡ true) is there ];
      builds = s.builds;
      builds_apart = s.builds_apart;
      few = s.few;
      collection = collection_waits (paths l) (root l) (root (lease l h q)) l.collection q there
          (λ x e. more_root l (lease l h q) q x (λ a. inl a) (lease_roots l h q holder x) e) s.collection;
    }

-- A holder's build ends, and with it, or without, its leases.
keeps_ended : (l m : Ledger) (h : ℕ) → SoundLedger l → m ≡ build (with_leases l m.leases) h None → length m.leases ≡ 8 → ((x : Bytes) → on_lease m x ≡ true → on_lease l x ≡ true) → SoundLedger m
keeps_ended l m h s is eight fewer = subst SoundLedger (sym is) (record {
  standing = s.standing;
  spare = s.spare;
  clean = s.clean;
  holders = (eight, length-set l.builds h None ∙ s.holders.1);
  leases = λ x e. s.leases x (fewer x e);
  builds = λ k b e. s.builds k b (still_there l.builds h k b e).0;
  builds_apart = λ j k b c ne eb ec. s.builds_apart j k b c ne (still_there l.builds h j b eb).0 (still_there l.builds h k c ec).0;
  few = omega (arith, s.few, somes_none_le l.builds h);
  collection = λ c e. collection_fewer (paths l) (root l) _ c (λ x r. either_root l (with_leases l m.leases) x (λ a. a) (fewer x) r) (s.collection c e);
})

-- The run of a new build is apart from those that are taken.
empty_apart : (s t : Span) → s.count ≡ 0 → Apart s t
empty_apart s t none x within other = omega (arith, within.0, within.1)

apart_turned : (s t : Span) → Apart s t → Apart t s
apart_turned s t apart x a b = apart x b a

-- A holder builds something new, or more of it.
keeps_built : (l : Ledger) (h : ℕ) (new : Build) → SoundLedger l → SoundBuild l.n (paths l) new
    → ((k : ℕ) (c : Build) → k ≢ h → building l k ≡ Some c → BuildsApart new c)
    → length (paths l) + length (somes (set l.builds h (Some new))) ≤ 40 → SoundLedger (build l h (Some new))
keeps_built l h new s fine apart few = record {
  standing = s.standing;
  spare = s.spare;
  clean = s.clean;
  holders = (s.holders.0, length-set l.builds h (Some new) ∙ s.holders.1);
  leases = s.leases;
  builds = λ k b e. elim (there_or_new l.builds h k new b e) [ inl i ↦ subst (SoundBuild l.n (paths l)) i.1 fine | inr o ↦ s.builds k b o.1 ];
  builds_apart = λ j k b c ne eb ec. elim (there_or_new l.builds h j new b eb) [
    | inl i ↦ elim (there_or_new l.builds h k new c ec) [
      | inl i2 ↦ absurd (ne (i.0 ∙ sym i2.0))
      | inr o2 ↦ subst (λ (x : Build). BuildsApart x c) i.1 (apart k c o2.0 o2.1)
    ]
    | inr o ↦ elim (there_or_new l.builds h k new c ec) [
      | inl i2 ↦ let a = apart j b o.0 o.1 in subst (λ (x : Build). BuildsApart b x) i2.1 (record { hashes = λ e. a.hashes (sym e); runs = apart_turned (build_run new) (build_run b) a.runs })
      | inr o2 ↦ s.builds_apart j k b c ne o.1 o2.1
    ]
  ];
  few = few;
  collection = s.collection;
}

keeps_begin : (l : Ledger) (h : ℕ) (q name : Bytes) (size first : ℕ) → SoundLedger l → Granted l (Begin h q name size) → Whole q → Reserved l size first
    → SoundLedger (build l h (Some (begun q name size first)))
keeps_begin l h q name size first s granted whole reserved =
    let new : Build = begun q name size first in
    let free : (has_hash q (paths l) || builds_hash q (half_built l)) ≡ false = elim (cases_Bool (has_hash q (paths l) || builds_hash q (half_built l))) [ inl t ↦ absurd (granted 4 (begin_taken t)) | inr f ↦ f ] in
    let parts = or_parts (has_hash q (paths l)) (builds_hash q (half_built l)) free in
    let idle : building l h ≡ None = none_unless (building l h) (λ b e. granted 5 (begin_building e)) in
    let holder : h < length l.builds = omega (arith, not_below 7 h (λ m. granted 2 (begin_holder m)), s.holders.1) in
    let clear : (k : ℕ) → k < length (taken l) → Apart (build_run new) (get_or (taken l) k nowhere) =
    λ k less. elim (cases_eq (blocks size) 0) [ inl none ↦ empty_apart (build_run new) _ none | inr some ↦ (reserved.some (omega arith)).free.apart k less ] in
    let placed : InData l.n (build_run new) = (λ some. ((reserved.some some).free.low, (reserved.some some).free.high), λ none. reserved.none none) in
    let fine : SoundBuild l.n (paths l) new = record {
      whole = whole;
      lawful = lawful_unless name (λ not-lawful. granted 2 (begin_name not-lawful));
      small = not_below 16384 size (λ m. granted 2 (begin_size m));
      placed = placed;
      short = omega arith;
      new = parts.0;
      apart = λ k less.
          let at : get_or (taken l) k nowhere ≡ run (get_or (paths l) k no_path) =
          get_or_append_left (map run (paths l)) (map build_run (half_built l)) nowhere k (simp length-map (less)) ∙ get_or-map run (paths l) k no_path nowhere less in
          subst (Apart (build_run new)) at (clear k (simp (length-append, length-map) (omega arith)));
    } in
    let apart : (k : ℕ) (c : Build) → building l k ≡ Some c → BuildsApart new c =
    λ k c e.
    let place = somes_place l.builds k c c e in
    let at : get_or (taken l) (length (paths l) + place.0) nowhere ≡ build_run c =
    ap (λ i. get_or (taken l) (i + place.0) nowhere) (sym (length-map (paths l) run)) ∙ (get_or-append-add (map run (paths l)) (map build_run (half_built l)) place.0 nowhere
    ∙ (get_or-map build_run (half_built l) place.0 c nowhere place.1.0 ∙ ap build_run place.1.1)) in
    record {
      hashes = λ is. both_ways (builds_hash q (half_built l)) parts.1 (somes_has (λ b. bytes_eq b.hash q) l.builds k c e (is_same c.hash q (sym is)));
      runs = subst (Apart (build_run new)) at (clear (length (paths l) + place.0) (simp (length-append, length-map) (omega (arith, place.1.0))));
    } in
    keeps_built l h new s fine (λ k c _ e. apart k c e) (elim (cases_lt (length (paths l) + length (half_built l)) 40) [
      | inl less ↦ omega (arith, somes_begin l.builds h new holder idle)
      | inr most ↦ absurd (granted 10 (begin_full most))
    ])

keeps_put : (l : Ledger) (h : ℕ) (piece : Bytes) (b : Build) → SoundLedger l → Granted l (Put h piece) → building l h ≡ Some b → SoundLedger (build l h (Some (longer b piece)))
keeps_put l h piece b s granted builds =
    let new : Build = longer b piece in
    let old = s.builds h b builds in
    let fits : length b.put + length piece ≤ b.size = not_below b.size (length b.put + length piece) (λ m. granted 7 (put_past builds m)) in
    let fine : SoundBuild l.n (paths l) new = record {
      whole = old.whole;
      lawful = old.lawful;
      small = old.small;
      placed = old.placed;
      short = simp length-append fits;
      new = old.new;
      apart = old.apart;
    } in
    keeps_built l h new s fine
    (λ k c ne e. let a = s.builds_apart h k b c (λ is. ne (sym is)) builds e in record { hashes = a.hashes; runs = a.runs })
    (omega (arith, s.few, somes_change l.builds h b new builds))

-- An entry that changes no path; `next` is the collection then.
abbrev SamePaths : Ledger → Entry → Type 0
SamePaths l e = (after (catalogue l) e).paths ≡ paths l

-- Only a seal registers.
due_registers_none : (l : Ledger) (call : Call) (e : Entry) → ((h : ℕ) → call ≡ Seal h → ⊥) → Due l call e → RegistersNone e
due_registers_none l call e no-seal (due_seal {h = h} builds refs) = no-seal h refl
due_registers_none l call e no-seal due_commit = tt
due_registers_none l call e no-seal (due_rollback before) = tt
due_registers_none l call e no-seal due_switch = tt
due_registers_none l call e no-seal due_forget = tt
due_registers_none l call e no-seal (due_removal runs removal) = tt

keeps_entry : (l : Ledger) (call : Call) (e : Entry) (next : Option Collection) → SoundLedger l → Granted l call → Due l call e → SamePaths l e → RegistersNone e
    → ((c : Collection) → next ≡ Some c → SoundCollection (paths l) (root (with_entry l e)) c) → SoundLedger (with_collection (with_entry l e) next)
keeps_entry l call e next s granted due unchanged none collection = record {
  standing = standing_entered l.n l.now l.sealed e (due_numbered l call e granted due) (due_fits l call e s granted due)
      (contents_after l.sealed (catalogue l) e none s.standing.contents) s.standing.catalogue s.standing.first s.standing.used;
  spare = s.spare;
  clean = s.clean;
  holders = s.holders;
  leases = λ x o. subst (λ (ps : List Path). has_hash x ps ≡ true) (sym unchanged) (s.leases x o);
  builds = λ k b o. subst (λ (ps : List Path). SoundBuild l.n ps b) (sym unchanged) (s.builds k b o);
  builds_apart = s.builds_apart;
  few = subst (λ (ps : List Path). length ps + length (half_built l) ≤ 40) (sym unchanged) s.few;
  collection = λ c o. subst (λ (ps : List Path). SoundCollection ps (root (with_entry l e)) c) (sym unchanged) (collection c o);
}

keeps_commit : (l : Ledger) (p : ℕ) (q : Bytes) → SoundLedger l → Granted l (Commit p q) → SoundLedger (waits (with_entry l (commit p (greatest (generations l p) + 1) q)) q)
keeps_commit l p q s granted =
    let e : Entry = commit p (greatest (generations l p) + 1) q in
    let there : has_hash q (paths l) ≡ true = not_false_is_true (has_hash q (paths l)) (λ f. granted 3 (commit_unknown f)) in
    let within : p < length (catalogue l).profiles = omega (arith, not_below 2 p (λ m. granted 2 (commit_profile m)), s.standing.catalogue.three) in
    keeps_entry l (Commit p q) e (also_waits q l.collection) s granted due_commit refl tt
    (collection_waits (paths l) (root l) (root (with_entry l e)) l.collection q there
    (λ x r. more_root l (with_entry l e) q x (commit_named (catalogue l) p (greatest (generations l p) + 1) q x within) (λ o. inl o) r) s.collection)

keeps_switch : (l : Ledger) (call : Call) (p k : ℕ) → SoundLedger l → Granted l call → Due l call (switch p k) → SoundLedger (with_entry l (switch p k))
keeps_switch l call p k s granted due =
    let within : p < length (catalogue l).profiles = omega (arith, (due_fits l call (switch p k) s granted due).0, s.standing.catalogue.three) in
    keeps_entry l call (switch p k) l.collection s granted due refl tt
    (λ c o. collection_fewer (paths l) (root l) (root (with_entry l (switch p k))) c (λ x r. either_root l (with_entry l (switch p k)) x (switch_named (catalogue l) p k x within) (λ y. y) r) (s.collection c o))

keeps_forget : (l : Ledger) (p k : ℕ) → SoundLedger l → Granted l (Forget p k) → SoundLedger (with_entry l (forget p k))
keeps_forget l p k s granted =
    let within : p < length (catalogue l).profiles = omega (arith, not_below 2 p (λ m. granted 2 (forget_profile m)), s.standing.catalogue.three) in
    keeps_entry l (Forget p k) (forget p k) l.collection s granted due_forget refl tt
    (λ c o. collection_fewer (paths l) (root l) (root (with_entry l (forget p k))) c (λ x r. either_root l (with_entry l (forget p k)) x (forget_named (catalogue l) p k x within) (λ y. y) r) (s.collection c o))

-- A seal registers the build, leases it to the holder, and ends the build.
module _ (l : Ledger) (h : ℕ) (b : Build) (rs : List Bytes) (s : SoundLedger l) (granted : Granted l (Seal h)) (builds : building l h ≡ Some b) (refs : References l h b rs) where
  abbrev new_path : Path
  new_path = sealed_path b rs

  abbrev new_content : Content
  new_content = record { bytes = b.put; refs = rs }

  seal_whole : length b.put ≡ b.size
  seal_whole = omega (arith, (s.builds h b builds).short, not_below (length b.put) b.size (λ m. granted 7 (seal_early builds m)))

  sealed_standing : SoundStanding l.n (content_with l.sealed b.hash new_content) (entered l.now (register new_path))
  sealed_standing =
      standing_entered l.n l.now (content_with l.sealed b.hash new_content) (register new_path) (due_numbered l (Seal h) (register new_path) granted (due_seal builds refs))
      (due_fits l (Seal h) (register new_path) s granted (due_seal builds refs))
      (contents_registered l.sealed (paths l) new_path new_content (s.builds h b builds).new refl seal_whole s.standing.contents)
      s.standing.catalogue s.standing.first s.standing.used

  -- What stood before stands, since the hash is new.
  standing_before : SoundStanding l.n (content_with l.sealed b.hash new_content) l.now
  standing_before =
      standing_with l.n l.now l.sealed (content_with l.sealed b.hash new_content) (contents_with l.sealed (paths l) b.hash new_content (s.builds h b builds).new s.standing.contents) s.standing

  keeps_seal : SoundLedger (waits (lease (build (seal (with_entry l (register new_path)) b rs) h None) h b.hash) b.hash)
  keeps_seal =
      let ps : List Path = paths l ++ (new_path ∷ []) in
      let long : length ps ≡ length (paths l) + 1 = length_push (paths l) new_path in
      let holder : h < length l.leases = omega (arith, not_below 7 h (λ m. granted 2 (seal_holder m)), s.holders.0) in
      let grown : (x : Bytes) → has_hash x (paths l) ≡ true → has_hash x ps ≡ true = λ x e. any_left (λ p. bytes_eq p.hash x) (paths l) (new_path ∷ []) e in
      let there : has_hash b.hash ps ≡ true = any_from (λ p. bytes_eq p.hash b.hash) ps no_path (length (paths l)) (omega arith)
      (is_same _ b.hash (ap (λ p. p.hash) (get_or_push (paths l) new_path no_path (length (paths l)) refl))) in
      let clear : l.spare ≡ [] = s.clean (granted_live l (Seal h) granted (λ e. let z : ◌≡◌ {A = ℕ} 0 1 = cc in omega arith)) in
      record {
        standing = sealed_standing;
        spare = λ k d less. absurd (omega (arith, ap length clear));
        clean = s.clean;
        holders = (length-set l.leases h (b.hash ∷ leased l h) ∙ s.holders.0, length-set l.builds h None ∙ s.holders.1);
        leases = λ x e. elim (lease_roots l h b.hash holder x e) [ inl old ↦ grown x (s.leases x old) | inr is ↦ subst (λ (y : Bytes). has_hash y ps ≡ true) is there ];
        builds = λ k c e.
            let old = still_there l.builds h k c e in
            let fine = s.builds k c old.0 in
            let away = s.builds_apart k h c b old.1 old.0 builds in
            record {
              whole = fine.whole;
              lawful = fine.lawful;
              small = fine.small;
              placed = fine.placed;
              short = fine.short;
              new = any_append (λ p. bytes_eq p.hash c.hash) (paths l) (new_path ∷ []) ∙ or_from (has_hash c.hash (paths l)) (bytes_eq b.hash c.hash || false) fine.new
                  (or_from (bytes_eq b.hash c.hash) false (elim (cases_Bool (bytes_eq b.hash c.hash)) [ inl is ↦ absurd (away.hashes (sym (same_is b.hash c.hash is))) | inr f ↦ f ]) refl);
              apart = λ j less. elim (cases_lt j (length (paths l))) [
                | inl lj ↦ subst (λ (p : Path). Apart (build_run c) (run p)) (sym (get_or_append_left (paths l) (new_path ∷ []) no_path j lj)) (fine.apart j lj)
                | inr g ↦ subst (λ (p : Path). Apart (build_run c) (run p)) (sym (get_or_push (paths l) new_path no_path j (omega arith))) away.runs
              ];
            };
        builds_apart = λ j k c d ne ec ed. s.builds_apart j k c d ne (still_there l.builds h j c ec).0 (still_there l.builds h k d ed).0;
        few = omega (arith, s.few, somes_end l.builds h b builds);
        collection = collection_waits ps (root l) _ l.collection b.hash there
            (λ x e. more_root l (lease (with_entry l (register new_path)) h b.hash) b.hash x (λ a. inl a) (lease_roots l h b.hash holder x) e)
            (λ c o. collection_registered (paths l) (root l) c new_path (s.builds h b builds).new (s.collection c o));
      }

keeps_collection : (l : Ledger) (next : Option Collection) → SoundLedger l → ((c : Collection) → next ≡ Some c → SoundCollection (paths l) (root l) c) → SoundLedger (with_collection l next)
keeps_collection l next s collection = record {
  standing = s.standing;
  spare = s.spare;
  clean = s.clean;
  holders = s.holders;
  leases = s.leases;
  builds = s.builds;
  builds_apart = s.builds_apart;
  few = s.few;
  collection = collection;
}

-- A collection begins with every root waiting.
pub has_hashes : (ps : List Path) (q : Bytes) → has q (map (λ p. p.hash) ps) ≡ has_hash q ps
has_hashes [] q = refl
has_hashes (p ∷ ps) q = ap (λ b. bytes_eq p.hash q || b) (has_hashes ps q)

collects_sound : (l : Ledger) → SoundLedger l → SoundCollection (paths l) (root l) (record { waiting = roots l; marked = [] })
collects_sound l s = record {
  waiting = λ q e. sym (has_hashes (paths l) q) ∙ any_of_kept (λ x. bytes_eq x q) (root l) (map (λ p. p.hash) (paths l)) e;
  marked = λ q e. absurd (both_ways false refl e);
  apart = λ q e. refl;
  roots = λ q e. or_left (has q (roots l)) false (any_kept (λ x. bytes_eq x q) (root l) (map (λ p. p.hash) (paths l))
      (λ x is. subst (λ (y : Bytes). root l y ≡ true) (sym (same_is x q is)) e) (has_hashes (paths l) q ∙ root_registered l q s e));
  references = λ k r less m ref. absurd (both_ways false refl m);
}

keeps_remove : (l : Ledger) (c : Collection) (h : Bytes) → SoundLedger l → Granted l Step → l.collection ≡ Some c → Removal l c h → SoundLedger (with_entry l (remove h))
keeps_remove l c h s granted runs removal =
    let due : Due l Step (remove h) = due_removal runs removal in
    let pass : Path → Bool = λ p. not (bytes_eq p.hash h) in
    let sound = s.collection c runs in
    let idle : has h c.waiting ≡ false = rw removal.idle refl in
    let unmarked = removal.loose.unmarked in
    let gone : SoundCollection (filter pass (paths l)) (root l) c = collection_removed (paths l) (root l) c h idle unmarked sound in
    record {
      standing = standing_entered l.n l.now l.sealed (remove h) (due_numbered l Step (remove h) granted due) (due_fits l Step (remove h) s granted due)
          (contents_after l.sealed (catalogue l) (remove h) tt s.standing.contents) s.standing.catalogue s.standing.first s.standing.used;
      spare = s.spare;
      clean = s.clean;
      holders = s.holders;
      leases = λ x e. elim (or_cases (has x c.waiting) (has x c.marked) (sound.roots x (root_leased l x e))) [
        | inl w ↦ gone.waiting x w
        | inr m ↦ gone.marked x m
      ];
      builds = λ k b e. let fine = s.builds k b e in record {
        whole = fine.whole;
        lawful = fine.lawful;
        small = fine.small;
        placed = fine.placed;
        short = fine.short;
        new = elim (cases_Bool (has_hash b.hash (filter pass (paths l)))) [
          | inl t ↦ absurd (both_ways (has_hash b.hash (paths l)) fine.new (any_of_kept (λ p. bytes_eq p.hash b.hash) pass (paths l) t))
          | inr f ↦ f
        ];
        apart = kept_each (λ p. Apart (build_run b) (run p)) no_path pass (paths l) fine.apart;
      };
      builds_apart = s.builds_apart;
      few = omega (arith, s.few, kept_by_le pass (paths l));
      collection = λ d o. let is : c ≡ d = some_same (sym runs ∙ o) in subst (SoundCollection (filter pass (paths l)) (root l)) is gone;
    }

-- Nothing is leased, built or collected in a store that was shut or opened anew.
pub keeps_bare : (n : ℕ) (live : Bool) (now : Standing) (spare : List Standing) (sealed : Bytes → Content) → SoundStanding n sealed now → ((k : ℕ) (d : Standing) → k < length spare → SoundStanding n sealed (get_or spare k d))
    → (live ≡ true → spare ≡ []) → SoundLedger (record { n = n; live = live; now = now; spare = spare; sealed = sealed; leases = replicate 8 []; builds = replicate 8 None; collection = None })
keeps_bare n live now spare sealed standing others clean = record {
  standing = standing;
  spare = others;
  clean = clean;
  holders = (refl, refl);
  leases = λ x e. absurd (both_ways false refl e);
  builds = λ k b e. absurd (none_there 8 k b e);
  builds_apart = λ j k b c ne eb ec. absurd (none_there 8 j b eb);
  few = omega (arith, paths_few n now.catalogue.paths standing.catalogue.rows);
  collection = λ c e. let z : ◌≡◌ {A = ℕ} 0 1 = cc in absurd (omega arith);
}

pub sound_fresh : (n : ℕ) → SoundLedger (fresh n)
sound_fresh n =
    keeps_bare n true _ [] _ (record { catalogue = sound_nothing n; contents = λ k less. absurd (omega arith); first = omega arith; used = omega arith; numbers = omega arith }) (λ k d less. absurd (omega arith)) (λ _. refl)

pub found_sound : (l : Ledger) (s : Standing) → SoundLedger l → MayFind l s → SoundStanding l.n l.sealed s
found_sound l s sound as_now = sound.standing
found_sound l s sound (as_spare k d less) = sound.spare k d less

pub keeps : (l m : Ledger) (call : Call) (answer : Answer) → SoundLedger l → Answered l call answer m → SoundLedger m
keeps l m call answer s (refused r first) = s
keeps l m call answer s (leases {h = h} {q = q} granted) = keeps_lease l h q s granted
keeps l m call answer s (releases {h = h} granted) = keeps_ended l _ h s refl (length-set l.leases h [] ∙ s.holders.0) (release_roots l h)
keeps l m call answer s (begins {h = h} {q = q} {name = name} {size = size} first granted whole reserved) = keeps_begin l h q name size first s granted whole reserved
keeps l m call answer s (puts {h = h} {piece = piece} b granted builds) = keeps_put l h piece b s granted builds
keeps l m call answer s (seals {h = h} b rs granted builds refs) = keeps_seal l h b rs s granted builds refs
keeps l m call answer s (scraps {h = h} granted) = keeps_ended l _ h s refl s.holders.0 (λ x e. e)
keeps l m call answer s (commits {p = p} {q = q} granted) = keeps_commit l p q s granted
keeps l m call answer s (rolls_back {p = p} {k = k} granted before) = keeps_switch l (Rollback p) p k s granted (due_rollback before)
keeps l m call answer s (switches {p = p} {k = k} granted) = keeps_switch l (Switch p k) p k s granted due_switch
keeps l m call answer s (forgets {p = p} {k = k} granted) = keeps_forget l p k s granted
keeps l m call answer s (collects granted) = keeps_collection l _ s (λ c e. subst (SoundCollection (paths l) (root l)) (some_same e) (collects_sound l s))
keeps l m call answer s (marks {w = w} c granted runs next) =
    keeps_collection l _ s (λ d e. subst (SoundCollection (paths l) (root l)) (some_same e) (collection_marked l.n (paths l) (root l) c w s.standing.catalogue.rows next (s.collection c runs)))
keeps l m call answer s (removes {h = h} granted (due_removal {c = c} runs removal)) = keeps_remove l c h s granted runs removal
keeps l m call answer s (ends c granted runs all) = keeps_collection l None s (λ d e. let z : ◌≡◌ {A = ℕ} 0 1 = cc in absurd (omega arith))
keeps l m call answer s (opens standing found) = keeps_bare l.n true standing [] l.sealed (found_sound l standing s found) (λ k d less. absurd (omega arith)) (λ _. refl)
keeps l m call answer s (finds granted there) = s
keeps l m call answer s (finds_none granted missing) = s
keeps l m call answer s (closes bits granted right) = s
keeps l m call answer s (reads granted) = s
keeps l m call answer s (cuts_put b granted builds writes) = keeps_bare l.n false l.now [] l.sealed s.standing (λ k d less. absurd (omega arith)) (λ _. refl)
keeps l m call answer s (cuts_seal {h = h} b rs granted builds refs) =
    let before = standing_before l h b rs s granted builds refs in
    keeps_bare l.n false l.now _ _ before
    (spares_sound l.n l.now _ (register (sealed_path b rs)) (due_numbered l (Seal h) (register (sealed_path b rs)) granted (due_seal builds refs)) before (sealed_standing l h b rs s granted builds refs))
    (λ e. absurd (both_ways false refl e))
keeps l m call answer s (cuts_entry e granted no-seal due) =
    keeps_bare l.n false l.now _ l.sealed s.standing
    (spares_sound l.n l.now l.sealed e (due_numbered l call e granted due) s.standing
    (standing_entered l.n l.now l.sealed e (due_numbered l call e granted due) (due_fits l call e s granted due)
    (contents_after l.sealed (catalogue l) e (due_registers_none l call e no-seal due) s.standing.contents) s.standing.catalogue s.standing.first s.standing.used))
    (λ e. absurd (both_ways false refl e))

pub run_sound : (l m : Ledger) (calls : List Call) (answers : List Answer) → SoundLedger l → Run l calls answers m → SoundLedger m
run_sound l m calls answers s start = s
run_sound l m calls answers s (then {m = k} {calls = before} {answers = said} {call = call} {answer = answer} run step) = keeps k m call answer (run_sound l k before said s run) step

-- At every live ledger that a run reaches, what each root needs is registered.
pub sound_kept : (l : Ledger) → SoundLedger l → Kept l
sound_kept l s live h q rooted member = needs_registered l.n (paths l) s.standing.catalogue.rows h q (root_registered l h s rooted) member
