-- A collection stays sound, whatever comes while it runs.
use Rattle.std.proofs.Common.{◌≡◌, ℕ, ◌+◌, Bool, true, false, cond, not, ◌||◌, ◌⊎◌, List, [], ◌∷◌, ◌++◌, length, get_or, filter, sym, ◌∙◌, subst, inl, inr, arith}
use Rattle.std.specs.Str.{bytes_eq}
use Rattle.std.proofs.lemmas.List.{get_or_append_left, get_or_push, length_push}
use Rattle.std.proofs.lemmas.Bool.{cases_Bool, cases_lt, or_cases, or_left, or_right, or_from, or_parts, both_ways, cond-true, cond-false, not-true, not_from_false}
use Rattle.model.specs.Lists.{Chain}
use Rattle.model.specs.Plain.{Bytes, Path, no_path}
use Rattle.model.specs.Fits.{has_hash, refers, Registrable}
use Rattle.model.proofs.Chains.{any_append, any_left, any_right, any_place, any_kept, any_of_kept, kept_each, kept_each_passes}
use Rattle.model.proofs.Sounds.{same_is, is_same}
use Rattle.model.proofs.Rows.{reference_row, hash_of_row, one_row}
use Rattle.ledger.specs.State.{Collection, has, the_path}
use Rattle.ledger.specs.Rules.{mark, NextWaiting}
use Rattle.ledger.specs.Sound.{SoundCollection}
use Rattle.ledger.proofs.Sets.{has_head, has_tail, has_cases, the_path_row}

-- Fewer roots.
pub collection_fewer : (ps : List Path) (rooted less : Bytes → Bool) (c : Collection) → ((q : Bytes) → less q ≡ true → rooted q ≡ true) → SoundCollection ps rooted c → SoundCollection ps less c
collection_fewer ps rooted less c sub s = record { waiting = s.waiting; marked = s.marked; apart = s.apart; roots = λ q e. s.roots q (sub q e); references = s.references }

-- One more root, which waits unless it is marked.
abbrev pub joined_by : Bytes → Collection → Collection
joined_by q c = cond (has q c.waiting || has q c.marked) c (record { waiting = q ∷ c.waiting; marked = c.marked })

pub collection_joined : (ps : List Path) (rooted more : Bytes → Bool) (c : Collection) (q : Bytes) → has_hash q ps ≡ true → ((x : Bytes) → more x ≡ true → (rooted x ≡ true) ⊎ (q ≡ x))
    → SoundCollection ps rooted c → SoundCollection ps more (joined_by q c)
collection_joined ps rooted more c q there new s =
    elim (cases_Bool (has q c.waiting || has q c.marked)) [
      | inl already ↦
          rw (cond-true (has q c.waiting || has q c.marked) c (record { waiting = q ∷ c.waiting; marked = c.marked }) already) (record {
            waiting = s.waiting;
            marked = s.marked;
            apart = s.apart;
            roots = λ x e. elim (new x e) [ inl old ↦ s.roots x old | inr is ↦ rw (← is) already ];
            references = s.references;
          })
      | inr missing ↦
          rw (cond-false (has q c.waiting || has q c.marked) c (record { waiting = q ∷ c.waiting; marked = c.marked }) missing) (
          let widen : (x : Bytes) → (has x c.waiting || has x c.marked) ≡ true → (has x (q ∷ c.waiting) || has x c.marked) ≡ true =
          λ x e. elim (or_cases (has x c.waiting) (has x c.marked) e) [
            | inl w ↦ or_left (has x (q ∷ c.waiting)) (has x c.marked) (has_tail x q c.waiting w)
            | inr m ↦ or_right (has x (q ∷ c.waiting)) (has x c.marked) m
          ] in
          record {
            waiting = λ x e. elim (has_cases x q c.waiting e) [ inl is ↦ rw (← is) there | inr w ↦ s.waiting x w ];
            marked = s.marked;
            apart = λ x e. elim (has_cases x q c.waiting e) [ inl is ↦ rw (← is) (or_parts (has q c.waiting) (has q c.marked) missing).1 | inr w ↦ s.apart x w ];
            roots = λ x e. elim (new x e) [ inl old ↦ widen x (s.roots x old) | inr is ↦ subst (λ (y : Bytes). (has y (q ∷ c.waiting) || has y c.marked) ≡ true) is (or_left (has q (q ∷ c.waiting)) (has q c.marked) (has_head q c.waiting)) ];
            references = λ k r less m ref. widen r (s.references k r less m ref);
          })
    ]

-- One more path, which is not marked.
pub collection_registered : (ps : List Path) (rooted : Bytes → Bool) (c : Collection) (p : Path) → has_hash p.hash ps ≡ false → SoundCollection ps rooted c → SoundCollection (ps ++ (p ∷ [])) rooted c
collection_registered ps rooted c p new s = record {
  waiting = λ q e. any_left (λ x. bytes_eq x.hash q) ps (p ∷ []) (s.waiting q e);
  marked = λ q e. any_left (λ x. bytes_eq x.hash q) ps (p ∷ []) (s.marked q e);
  apart = s.apart;
  roots = s.roots;
  references = λ k r less m ref.
      let long : length (ps ++ (p ∷ [])) ≡ length ps + 1 = length_push ps p in
      elim (cases_lt k (length ps)) [
        | inl l ↦
            let is : get_or (ps ++ (p ∷ [])) k no_path ≡ get_or ps k no_path = get_or_append_left ps (p ∷ []) no_path k l in
            s.references k r l (rw is at m) (rw is at ref)
        | inr g ↦
            let is : get_or (ps ++ (p ∷ [])) k no_path ≡ p = get_or_push ps p no_path k (omega arith) in
            absurd (both_ways (has_hash p.hash ps) new (s.marked p.hash (rw is at m)))
      ];
}

-- A path that is neither waiting nor marked goes.
pub collection_removed : (ps : List Path) (rooted : Bytes → Bool) (c : Collection) (h : Bytes) → has h c.waiting ≡ false → has h c.marked ≡ false
    → SoundCollection ps rooted c → SoundCollection (filter (λ p. not (bytes_eq p.hash h)) ps) rooted c
collection_removed ps rooted c h unwaiting unmarked s =
    let pass : Path → Bool = λ p. not (bytes_eq p.hash h) in
    let stays : (q : Bytes) → bytes_eq q h ≡ false → has_hash q ps ≡ true → has_hash q (filter pass ps) ≡ true =
    λ q differs there. any_kept (λ p. bytes_eq p.hash q) pass ps (λ p e. not_from_false (bytes_eq p.hash h) (rw (same_is p.hash q e) differs)) there in
    let other : (q : Bytes) (qs : List Bytes) → has h qs ≡ false → has q qs ≡ true → bytes_eq q h ≡ false =
    λ q qs no-h e. elim (cases_Bool (bytes_eq q h)) [ inl is ↦ absurd (both_ways (has h qs) no-h (rw (same_is q h is) at e)) | inr ne ↦ ne ] in
    record {
      waiting = λ q e. stays q (other q c.waiting unwaiting e) (s.waiting q e);
      marked = λ q e. stays q (other q c.marked unmarked e) (s.marked q e);
      apart = s.apart;
      roots = s.roots;
      references = λ k r less m ref.
          kept_each (λ p. (x : Bytes) → has p.hash c.marked ≡ true → refers p x ≡ true → (has x c.waiting || has x c.marked) ≡ true) no_path pass ps (λ j lj x. s.references j x lj) k less r m ref;
    }

-- The first waiting path is marked.
pub collection_marked : (n : ℕ) (ps : List Path) (rooted : Bytes → Bool) (c : Collection) (w : Bytes) → Chain (Registrable n) no_path ps → NextWaiting c w → SoundCollection ps rooted c → SoundCollection ps rooted (mark ps c w)
collection_marked n ps rooted c w rows next s =
    let left : List Bytes = filter (λ q. not (bytes_eq q w)) c.waiting in
    let row = the_path_row w ps (s.waiting w next.there) in
    let fresh-refs : List Bytes = filter (λ r. not (has r c.waiting || has r (w ∷ c.marked))) (the_path w ps).refs in
    -- what waited or was marked still does
    let widen : (x : Bytes) → (has x c.waiting || has x c.marked) ≡ true → (has x (left ++ fresh-refs) || has x (w ∷ c.marked)) ≡ true =
    λ x e. elim (cases_Bool (bytes_eq w x)) [
      | inl is ↦ or_right (has x (left ++ fresh-refs)) (has x (w ∷ c.marked)) (or_left (bytes_eq w x) (has x c.marked) is)
      | inr differs ↦ elim (or_cases (has x c.waiting) (has x c.marked) e) [
        | inl waits ↦ or_left (has x (left ++ fresh-refs)) (has x (w ∷ c.marked)) (any_left (λ y. bytes_eq y x) left fresh-refs
            (any_kept (λ y. bytes_eq y x) (λ q. not (bytes_eq q w)) c.waiting
            (λ y same. not_from_false (bytes_eq y w) (elim (cases_Bool (bytes_eq y w)) [
              | inl yw ↦ absurd (both_ways (bytes_eq w x) differs (is_same w x (sym (same_is y w yw) ∙ same_is y x same)))
              | inr ne ↦ ne
            ])) waits))
        | inr m ↦ or_right (has x (left ++ fresh-refs)) (has x (w ∷ c.marked)) (has_tail x w c.marked m)
      ]
    ] in
    -- the references of the path that is marked now
    let follows : (r : Bytes) → refers (the_path w ps) r ≡ true → (has r (left ++ fresh-refs) || has r (w ∷ c.marked)) ≡ true =
    λ r ref. elim (cases_Bool (has r c.waiting || has r (w ∷ c.marked))) [
      | inl known ↦ elim (or_cases (has r c.waiting) (has r (w ∷ c.marked)) known) [
        | inl waits ↦ widen r (or_left (has r c.waiting) (has r c.marked) waits)
        | inr m ↦ or_right (has r (left ++ fresh-refs)) (has r (w ∷ c.marked)) m
      ]
      | inr new ↦ or_left (has r (left ++ fresh-refs)) (has r (w ∷ c.marked)) (any_right (λ y. bytes_eq y r) left fresh-refs
          (any_kept (λ y. bytes_eq y r) (λ x. not (has x c.waiting || has x (w ∷ c.marked))) (the_path w ps).refs
          (λ y same. not_from_false (has y c.waiting || has y (w ∷ c.marked)) (subst (λ (z : Bytes). (has z c.waiting || has z (w ∷ c.marked)) ≡ false) (sym (same_is y r same)) new)) ref))
    ] in
    -- a reference of the path that now waits
    let fresh-ref : (q : Bytes) → has q fresh-refs ≡ true → (refers (the_path w ps) q ≡ true) × (has q (w ∷ c.marked) ≡ false) =
    λ q e.
    let at = any_place (λ y. bytes_eq y q) fresh-refs [] e in
    let pass = kept_each_passes [] (λ x. not (has x c.waiting || has x (w ∷ c.marked))) (the_path w ps).refs at.0 at.1.0 in (
      any_of_kept (λ y. bytes_eq y q) (λ x. not (has x c.waiting || has x (w ∷ c.marked))) (the_path w ps).refs e,
      (or_parts (has q c.waiting) (has q (w ∷ c.marked))
          (subst (λ (z : Bytes). (has z c.waiting || has z (w ∷ c.marked)) ≡ false) (same_is (get_or fresh-refs at.0 []) q at.1.1) (not-true _ pass))).1,
    ) in
    let split : (q : Bytes) → has q (left ++ fresh-refs) ≡ true → (has q left ≡ true) ⊎ (has q fresh-refs ≡ true) =
    λ q e. or_cases (has q left) (has q fresh-refs) (sym (any_append (λ y. bytes_eq y q) left fresh-refs) ∙ e) in
    record {
      waiting = λ q e. elim (split q e) [
        | inl old ↦ s.waiting q (any_of_kept (λ y. bytes_eq y q) (λ x. not (bytes_eq x w)) c.waiting old)
        | inr new ↦
            let ref = reference_row n ps rows row.0 q row.1.0 (rw row.1.1 at (fresh-ref q new).0) in
            hash_of_row q ps ref.0 (omega (arith, ref.1.0, row.1.0)) ref.1.1
      ];
      marked = λ q e. elim (has_cases q w c.marked e) [ inl is ↦ rw (← is) (s.waiting w next.there) | inr m ↦ s.marked q m ];
      apart = λ q e. elim (split q e) [
        | inl old ↦
            let at = any_place (λ y. bytes_eq y q) left [] old in
            let pass = kept_each_passes [] (λ x. not (bytes_eq x w)) c.waiting at.0 at.1.0 in
            let ne : bytes_eq q w ≡ false = rw (same_is (get_or left at.0 []) q at.1.1) at (not-true _ pass) in
            or_from (bytes_eq w q) (has q c.marked)
            (elim (cases_Bool (bytes_eq w q)) [ inl is ↦ absurd (both_ways (bytes_eq q w) ne (is_same q w (sym (same_is w q is)))) | inr f ↦ f ])
            (s.apart q (any_of_kept (λ y. bytes_eq y q) (λ x. not (bytes_eq x w)) c.waiting old))
        | inr new ↦ (fresh-ref q new).1
      ];
      roots = λ q e. widen q (s.roots q e);
      references = λ k r less m ref. elim (has_cases (get_or ps k no_path).hash w c.marked m) [
        | inl is ↦
            let same : k ≡ row.0 = one_row n ps rows k row.0 less row.1.0 (sym is ∙ sym row.1.2) in
            follows r (rw row.1.1 (rw same at ref))
        | inr old ↦ widen r (s.references k r less old ref)
      ];
    }
