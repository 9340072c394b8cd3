-- Entries make one catalogue, and each of them fits what those before it make.
use Rattle.std.proofs.Common.{◌≡◌, ℕ, ◌<◌, List, [], ◌∷◌, ◌++◌, length, get_or, take, sym, refl, ap, ◌∙◌, subst, inl, inr, arith}
use Rattle.std.proofs.lemmas.List.{length_push, get_or_append_left, get_or_push, take-append-le, take_all}
use Rattle.std.proofs.lemmas.Bool.{cases_lt}
use Rattle.model.specs.Plain.{Catalogue, Entry, nothing}
use Rattle.model.specs.Fits.{Fits, after, Makes, start, then}

-- What entries leave of a catalogue, one after the other.
abbrev all_after : Catalogue → List Entry → Catalogue
all_after cat [] = cat
all_after cat (e ∷ es) = all_after (after cat e) es

all_after_push : (cat : Catalogue) (es : List Entry) (e : Entry) → all_after cat (es ++ (e ∷ [])) ≡ after (all_after cat es) e
all_after_push cat [] e = refl
all_after_push cat (d ∷ es) e = all_after_push (after cat d) es e

makes_is : {n : ℕ} {es : List Entry} {cat : Catalogue} → Makes n es cat → cat ≡ all_after nothing es
makes_is start = refl
makes_is (then {entries = es} e made fits) = ap (λ c. after c e) (makes_is made) ∙ sym (all_after_push nothing es e)

pub makes_once : {n : ℕ} (es fs : List Entry) (cat dog : Catalogue) → es ≡ fs → Makes n es cat → Makes n fs dog → cat ≡ dog
makes_once es fs cat dog same one other = makes_is one ∙ (ap (all_after nothing) same ∙ sym (makes_is other))

-- The entry at place i fits the catalogue that those before it make.
pub makes_fits : {n : ℕ} {es : List Entry} {cat : Catalogue} (d : Entry) (i : ℕ) → Makes n es cat → i < length es → (c : Catalogue) × (Makes n (take i es) c × Fits n c (get_or es i d))
makes_fits d i start less = absurd (omega arith)
makes_fits {n} d i (then {entries = es} {cat = c} e made fits) less =
    let long = length_push es e in
    elim (cases_lt i (length es)) [
      | inl l ↦
          let before = makes_fits d i made l in (
            before.0,
            (
              subst (λ (fs : List Entry). Makes n fs before.0) (sym (take-append-le i es (e ∷ []) (omega arith))) before.1.0,
              subst (Fits n before.0) (sym (get_or_append_left es (e ∷ []) d i l)) before.1.1,
            ),
          )
      | inr g ↦
          let here : i ≡ length es = omega arith in
          let all : take i (es ++ (e ∷ [])) ≡ es = take-append-le i es (e ∷ []) (omega arith) ∙ take_all i es (omega arith) in
          (c, (subst (λ (fs : List Entry). Makes n fs c) (sym all) made, subst (Fits n c) (sym (get_or_push es e d i (sym here))) fits))
    ]
