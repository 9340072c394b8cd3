-- Every fitting entry keeps a catalogue sound.
use Rattle.std.proofs.Common.{◌≡◌, ℕ, ◌<◌, Bool, true, false, not, eqb, ◌≢◌, List, [], ◌∷◌, ◌++◌, length, get_or, take, filter, sym, refl, ap, ◌∙◌, inl, inr, arith}
use Rattle.std.specs.Str.{bytes_eq}
use Rattle.std.proofs.lemmas.List.{length_push, length-set, get_or-set_same, get_or-set_other}
use Rattle.std.proofs.lemmas.Slice.Eq.{bytes_eq-Decides}
use Rattle.std.proofs.lemmas.Bool.{cases_Bool, cases_eq, or_cases, or_left, or_right, both_ways, not-true, not_from_false, eqb-true, eq-eqb, ne_eqb}
use Rattle.model.specs.Plain.{Bytes, Path, Generation, Profile, Catalogue, Entry, register, commit, switch, forget, remove, unused, nothing, no_path, no_generation, run}
use Rattle.model.specs.Fits.{has_hash, has_number, names_path, refers, profile, Registrable, Committable, Removable, Fits, with_profile, after, Makes, start, then, SoundProfile, Sound, Apart}
use Rattle.model.proofs.Chains.{chain_push, chain_kept, any_left, any_push, any_from, any_place, none_at, any_kept, any_of_kept, kept_each, kept_by_le}

-- Two rows of bytes that differ in the test differ.
pub same_is : (a b : Bytes) → bytes_eq a b ≡ true → a ≡ b
same_is a b e = (bytes_eq-Decides a b).0 e

pub is_same : (a b : Bytes) → a ≡ b → bytes_eq a b ≡ true
is_same a b e = (bytes_eq-Decides a b).1 e

-- One profile after a change to it, and the others.
pub profile_set_same : (cat : Catalogue) (p : ℕ) (f : Profile) → p < length cat.profiles → profile (with_profile cat p f) p ≡ f
profile_set_same cat p f less = get_or-set_same cat.profiles p f unused less

pub profile_set_other : (cat : Catalogue) (p q : ℕ) (f : Profile) → q ≢ p → profile (with_profile cat p f) q ≡ profile cat q
profile_set_other cat p q f ne = get_or-set_other cat.profiles p q f unused ne

-- A catalogue stays sound where one profile is replaced by a sound one.
pub sound_with : (n : ℕ) (cat : Catalogue) (p : ℕ) (f : Profile) → p < 3 → Sound n cat → SoundProfile cat.paths f → Sound n (with_profile cat p f)
sound_with n cat p f less s fine = record {
  rows = s.rows;
  three = length-set cat.profiles p f ∙ s.three;
  profiles = λ q lq. elim (cases_eq q p) [
    | inl e ↦ let is : profile (with_profile cat p f) q ≡ f = ap (profile (with_profile cat p f)) e ∙ profile_set_same cat p f (omega (arith, s.three)) in rw is fine
    | inr ne ↦ let is : profile (with_profile cat p f) q ≡ profile cat q = profile_set_other cat p q f ne in rw is (s.profiles q lq)
  ];
}

-- More paths leave a profile sound.
sound_profile_more : (paths more : List Path) (f : Profile) → ((g : Generation) → has_hash g.path paths ≡ true → names_path g.path f.generations ≡ true → has_hash g.path more ≡ true) → SoundProfile paths f → SoundProfile more f
sound_profile_more paths more f keeps s = record {
  rising = λ i less. let c = s.rising i less in record {
    room = c.room;
    there = keeps (get_or f.generations i no_generation) c.there (any_from (λ g. bytes_eq g.path (get_or f.generations i no_generation).path) f.generations no_generation i less (is_same (get_or f.generations i no_generation).path (get_or f.generations i no_generation).path refl));
    above = c.above;
    low = c.low;
  };
  chosen = s.chosen;
  none = s.none;
}

sound_register : (n : ℕ) (cat : Catalogue) (p : Path) → Sound n cat → Registrable n cat.paths p → Sound n (after cat (register p))
sound_register n cat p s fits = record {
  rows = chain_push (Registrable n) no_path cat.paths p s.rows fits;
  three = s.three;
  profiles = λ q less. sound_profile_more cat.paths (cat.paths ++ (p ∷ [])) (profile cat q) (λ g there _. any_left (λ r. bytes_eq r.hash g.path) cat.paths (p ∷ []) there) (s.profiles q less);
}

sound_commit : (n : ℕ) (cat : Catalogue) (p k : ℕ) (h : Bytes) → Sound n cat → Fits n cat (commit p k h) → Sound n (after cat (commit p k h))
sound_commit n cat p k h s fits =
    let g : Generation = record { number = k; path = h } in
    let old = profile cat p in
    sound_with n cat p (record { generations = old.generations ++ (g ∷ []); current = k }) fits.0 s (record {
      rising = chain_push (Committable cat.paths) no_generation old.generations g (s.profiles p fits.0).rising fits.1;
      chosen = λ _. any_push (λ x. eqb x.number k) old.generations g (eq-eqb k k refl);
      none = λ e. absurd (omega (arith, length_push old.generations g));
    })

sound_switch : (n : ℕ) (cat : Catalogue) (p k : ℕ) → Sound n cat → Fits n cat (switch p k) → Sound n (after cat (switch p k))
sound_switch n cat p k s fits =
    let old = profile cat p in
    sound_with n cat p (record { generations = old.generations; current = k }) fits.0 s (record {
      rising = (s.profiles p fits.0).rising;
      chosen = λ _. fits.1;
      none = λ e. let at = any_place (λ x. eqb x.number k) old.generations no_generation fits.1 in absurd (omega (arith, at.1.0));
    })

sound_forget : (n : ℕ) (cat : Catalogue) (p k : ℕ) → Sound n cat → Fits n cat (forget p k) → Sound n (after cat (forget p k))
sound_forget n cat p k s fits =
    let old = profile cat p in
    let pass : Generation → Bool = λ g. not (eqb g.number k) in
    let fine = s.profiles p fits.0 in
    let at = any_place (λ x. eqb x.number k) old.generations no_generation fits.1 in
    let chosen : has_number old.current (filter pass old.generations) ≡ true =
    any_kept (λ x. eqb x.number old.current) pass old.generations
    (λ x e. not_from_false (eqb x.number k) (ne_eqb x.number k (λ same. fits.2 (sym (eqb-true x.number old.current e) ∙ same))))
    (fine.chosen (omega (arith, at.1.0))) in
    sound_with n cat p (record { generations = filter pass old.generations; current = old.current }) fits.0 s (record {
      rising = chain_kept (Committable cat.paths) no_generation pass old.generations (λ i less _. let c = fine.rising i less in record {
        room = omega (arith, c.room, kept_by_le pass (take i old.generations));
        there = c.there;
        above = kept_each (λ g. g.number < (get_or old.generations i no_generation).number) no_generation pass (take i old.generations) c.above;
        low = c.low;
      });
      chosen = λ _. chosen;
      none = λ e. let q = any_place (λ x. eqb x.number old.current) (filter pass old.generations) no_generation chosen in absurd (omega (arith, q.1.0));
    })

sound_remove : (n : ℕ) (cat : Catalogue) (h : Bytes) → Sound n cat → Removable cat h → Sound n (after cat (remove h))
sound_remove n cat h s fits =
    let pass : Path → Bool = λ p. not (bytes_eq p.hash h) in
    let paths = cat.paths in
    let stays : (q : Bytes) (rows : List Path) → bytes_eq q h ≡ false → has_hash q rows ≡ true → has_hash q (filter pass rows) ≡ true =
    λ q rows differs there. any_kept (λ p. bytes_eq p.hash q) pass rows
    (λ p e. not_from_false (bytes_eq p.hash h) (rw (same_is p.hash q e) differs)) there in
    record {
      rows = chain_kept (Registrable n) no_path pass paths (λ i less passes.
          let c = s.rows i less in
          let p = get_or paths i no_path in
          let front = take i paths in
          let other : bytes_eq p.hash h ≡ false = not-true (bytes_eq p.hash h) passes in
          let unneeding : refers p h ≡ false = elim (cases_Bool (refers p h)) [
            | inl e ↦ absurd (both_ways (bytes_eq p.hash h) other (is_same p.hash h (fits.unneeded i less e)))
            | inr e ↦ e
          ] in
          record {
            whole = c.whole;
            new = elim (cases_Bool (has_hash p.hash (filter pass front))) [
              | inl e ↦ absurd (both_ways (has_hash p.hash front) c.new (any_of_kept (λ q. bytes_eq q.hash p.hash) pass front e))
              | inr e ↦ e
            ];
            room = omega (arith, c.room, kept_by_le pass front);
            lawful = c.lawful;
            small = c.small;
            placed = c.placed;
            apart = kept_each (λ q. Apart (run p) (run q)) no_path pass front c.apart;
            few = c.few;
            climbing = c.climbing;
            known = λ k lk.
                let r = get_or p.refs k [] in
                elim (or_cases (has_hash r front) (bytes_eq p.hash r) (c.known k lk)) [
                  | inl there ↦ or_left (has_hash r (filter pass front)) (bytes_eq p.hash r) (stays r front (none_at (λ x. bytes_eq x h) p.refs [] k unneeding lk) there)
                  | inr self ↦ or_right (has_hash r (filter pass front)) (bytes_eq p.hash r) self
                ];
          });
      three = s.three;
      profiles = λ q less. sound_profile_more paths (filter pass paths) (profile cat q)
          (λ g there named. stays g.path paths
          (elim (cases_Bool (bytes_eq g.path h)) [
            | inl e ↦ absurd (both_ways (names_path h (profile cat q).generations) (fits.unnamed q (omega (arith, s.three))) (rw (same_is g.path h e) at named))
            | inr e ↦ e
          ]) there)
          (s.profiles q less);
    }

pub sound_after : (n : ℕ) (cat : Catalogue) (e : Entry) → Sound n cat → Fits n cat e → Sound n (after cat e)
sound_after n cat (register p) s fits = sound_register n cat p s fits
sound_after n cat (commit p k h) s fits = sound_commit n cat p k h s fits
sound_after n cat (switch p k) s fits = sound_switch n cat p k s fits
sound_after n cat (forget p k) s fits = sound_forget n cat p k s fits
sound_after n cat (remove h) s fits = sound_remove n cat h s fits

pub sound_nothing : (n : ℕ) → Sound n nothing
sound_nothing n = record {
  rows = λ i less. absurd (omega arith);
  three = refl;
  profiles = λ q less.
      let is : profile nothing q ≡ unused = elim (cases_eq q 0) [
        | inl e ↦ ap (profile nothing) e
        | inr n0 ↦ elim (cases_eq q 1) [ inl e ↦ ap (profile nothing) e | inr n1 ↦ let two : q ≡ 2 = omega arith in ap (profile nothing) two ]
      ] in
      rw is (record { rising = λ i l. absurd (omega arith); chosen = λ l. absurd (omega arith); none = λ _. refl });
}

-- Every catalogue that entries make is sound.
pub makes_sound : {n : ℕ} {entries : List Entry} {cat : Catalogue} → Makes n entries cat → Sound n cat
makes_sound {n} start = sound_nothing n
makes_sound {n} (then {cat = cat} e made fits) = sound_after n cat e (makes_sound made) fits
