-- A text that is copied to the front of 24 zeros.
use Rattle.std.proofs.Common.{◌≡◌, ℕ, ◌-◌, List, ◌++◌, length, take, drop, replicate, ap, ◌∙◌, subst, sym, arith, take_all}
use Rattle.std.proofs.lemmas.List.{drop-append-le, drop-replicate, drop_all, take-append-le}

pub copied_text : (text front rest : List ℕ) → front ≡ text → take (length text) (front ++ rest) ≡ text
copied_text text front rest same =
    subst (λ f. take (length text) (f ++ rest) ≡ text) (sym same) (take-append-le (length text) text rest (omega arith) ∙ take_all (length text) text (omega arith))

pub copied_rest : (text front : List ℕ) → front ≡ text → drop (length text) (front ++ drop (length text) (replicate 24 0)) ≡ replicate (24 - length text) 0
copied_rest text front same =
    subst (λ f. drop (length text) (f ++ drop (length text) (replicate 24 0)) ≡ replicate (24 - length text) 0) (sym same)
    (drop-append-le (length text) text (drop (length text) (replicate 24 0)) (omega arith)
    ∙ ap (λ t. t ++ drop (length text) (replicate 24 0)) (drop_all (length text) text (omega arith)) ∙ drop-replicate (length text) 24 0)
