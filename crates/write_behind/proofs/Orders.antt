-- What is held stays in order.
use Rattle.std.proofs.Common.{◌≡◌, ℕ, ◌<◌, List, [], ◌∷◌, ◌++◌, length, set, sym, ◌∙◌, inl, inr, arith, length-set}
use Rattle.std.proofs.lemmas.List.{length_push}
use Rattle.disk.specs.Meaning.{Block}
use Rattle.write_behind.specs.declared.held.Pending.{Pending}
use Rattle.write_behind.specs.Behind.{Free, Last, Holds, Replaced, Added, Inside, Apart, Orderly}
use Rattle.write_behind.proofs.Helds.{free_push}

pub orderly_none : (n : ℕ) (qs : List Pending) → qs ≡ [] → Orderly n qs
orderly_none n qs none = rw none record { few = omega arith; inside = tt; apart = tt }

pub orderly_same : (n n' : ℕ) (ps qs : List Pending) → n' ≡ n → qs ≡ ps → Orderly n ps → Orderly n' qs
orderly_same n n' ps qs size same o = rw (size, same) o

-- A place replaced, by what is held for the same block.
module _ (b : ℕ) (x : Block) (p : Pending) (holds : Holds b x p) where
  free_set : (k : ℕ) (ps : List Pending) (i : ℕ) → Last b ps i → Free k ps → Free k (set ps i p)
  free_set k [] i last free = absurd last
  free_set k (q ∷ ps) i (inl first) free = rw first.0 ((λ e. free.0 (first.1 ∙ sym holds.0 ∙ e)), free.1)
  free_set k (q ∷ ps) i (inr later) free = rw later.1.0 (free.0, free_set k ps later.0 later.1.1 free.1)

  inside_set : (n : ℕ) (ps : List Pending) (i : ℕ) → b < n → Last b ps i → Inside n ps → Inside n (set ps i p)
  inside_set n [] i within last inside = absurd last
  inside_set n (q ∷ ps) i within (inl first) inside = rw first.0 (omega (arith, holds.0), inside.1)
  inside_set n (q ∷ ps) i within (inr later) inside = rw later.1.0 (inside.0, inside_set n ps later.0 within later.1.1 inside.1)

  apart_set : (ps : List Pending) (i : ℕ) → Last b ps i → Apart ps → Apart (set ps i p)
  apart_set [] i last apart = absurd last
  apart_set (q ∷ ps) i (inl first) apart = rw first.0 (rw holds.0 first.2, apart.1)
  apart_set (q ∷ ps) i (inr later) apart = rw later.1.0 (free_set q.at ps later.0 later.1.1 apart.0, apart_set ps later.0 later.1.1 apart.1)

  -- One more.
  inside_push : (n : ℕ) (ps : List Pending) → b < n → Inside n ps → Inside n (ps ++ (p ∷ []))
  inside_push n [] within inside = (omega (arith, holds.0), tt)
  inside_push n (q ∷ ps) within inside = (inside.0, inside_push n ps within inside.1)

  apart_push : (ps : List Pending) → Free b ps → Apart ps → Apart (ps ++ (p ∷ []))
  apart_push [] free apart = (tt, tt)
  apart_push (q ∷ ps) free apart = (free_push q.at ps p apart.0 (λ e. free.0 (sym e ∙ holds.0)), apart_push ps free.1 apart.1)

module _ (n b : ℕ) (x : Block) (ps qs : List Pending) (within : b < n) (o : Orderly n ps) where
  pub orderly_replaced : Replaced b x ps qs → Orderly n qs
  orderly_replaced (i, (p, (last, holds, is))) = rw is record {
    few = simp length-set o.few;
    inside = inside_set b x p holds n ps i within last o.inside;
    apart = apart_set b x p holds ps i last o.apart;
  }

  pub orderly_added : Free b ps → length ps < 16 → Added b x ps qs → Orderly n qs
  orderly_added free less (p, (holds, is)) = rw is record {
    few = omega (arith, length_push ps p);
    inside = inside_push b x p holds n ps within o.inside;
    apart = apart_push b x p holds ps free o.apart;
  }

-- The first let go.
pub orderly_rest : (n b : ℕ) (ps rest : List Pending) (p : Pending) → ps ≡ p ∷ rest → Free b ps → Orderly n ps → Orderly n rest × Free b rest × (length rest < 16)
orderly_rest n b ps rest p is free o =
    let o' : Orderly n (p ∷ rest) = rw is at o in
    let free' : Free b (p ∷ rest) = rw is at free in
    let less : length rest < 16 = omega (arith, o'.few) in
    (record { few = omega arith; inside = o'.inside.1; apart = o'.apart.1 }, free'.1, less)
