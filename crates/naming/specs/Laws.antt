-- When two hashes are the same, and two names: their equality tells them apart, and the order of hashes agrees with it.
use Rattle.std.specs.Prelude.{◌≡◌, ℕ, ◌-◌, ◌<◌, ◌≤◌, ◌&&◌, suc, List, [], ◌∷◌, length, take, drop, replicate, slice_index, Decides, ◌==◌}
use mathlib.Core.HLevel.{is_prop→PathP}
use mathlib.Core.Path.{refl, sym, ◌∙◌, ap, ap₂}
use denote.Struct.Props.{props}
use Rattle.std.specs.Bool.{one_answer}
use Rattle.std.specs.Cmp.{first_so, second_so, unsigned_Decides, unsigned_ties}
use Rattle.std.specs.Cmp.Lexicographic.{bytes_decides}
use Rattle.std.specs.Ordering.{is_eq, nat_cmp}
use Rattle.std.specs.Str.{bytes_eq}
use Rattle.std.proofs.Common.{arith}
use Rattle.naming.specs.Digits.{EachBelow, value}
use Rattle.naming.specs.Hash.{number_of}
use Rattle.naming.specs.Name.{Lawful}
use Rattle.naming.specs.declared.hash.Hash.{Hash}
use Rattle.naming.specs.declared.name.Name.{Name}

-- What a struct states of its fields has one proof.
pub same_hash : (g h : Hash) → g.bytes ≡ h.bytes → g ≡ h
same_hash g h e = λ i. record {
  bytes = e i;
  whole = is_prop→PathP (λ j. length (e j) ≡ 20) (λ j. hlevel props) g.whole h.whole i;
  small = is_prop→PathP (λ j. (k : ℕ) → slice_index (e j) k < 256) (λ j. hlevel props) g.small h.small i;
}

pub same_name : (m n : Name) → m.len ≡ n.len → m.bytes ≡ n.bytes → m ≡ n
same_name m n l e = λ i. record {
  len = l i;
  bytes = e i;
  whole = is_prop→PathP (λ j. length (e j) ≡ 24) (λ j. hlevel props) m.whole n.whole i;
  fits = is_prop→PathP (λ j. l j ≤ 24) (λ j. hlevel props) m.fits n.fits i;
  lawful = is_prop→PathP (λ j. Lawful (take (l j) (e j))) (λ j. hlevel props) m.lawful n.lawful i;
  rest = is_prop→PathP (λ j. drop (l j) (e j) ≡ replicate (24 - l j) 0) (λ j. hlevel props) m.rest n.rest i;
}

pub exact_hash : (g h : Hash) → Decides (bytes_eq g.bytes h.bytes) (g ≡ h)
exact_hash g h =
    let told : Decides (bytes_eq g.bytes h.bytes) (g.bytes ≡ h.bytes) = bytes_decides g.bytes h.bytes in
    (λ e. same_hash g h (told.0 e), λ e. told.1 (ap (λ x. x.bytes) e))

pub exact_name : (m n : Name) → Decides (m.len == n.len && bytes_eq m.bytes n.bytes) (m ≡ n)
exact_name m n =
    let lens : Decides (m.len == n.len) (m.len ≡ n.len) = unsigned_Decides m.len n.len in
    let texts : Decides (bytes_eq m.bytes n.bytes) (m.bytes ≡ n.bytes) = bytes_decides m.bytes n.bytes in (
      λ e. same_name m n (lens.0 (first_so (m.len == n.len) (bytes_eq m.bytes n.bytes) e)) (texts.0 (second_so (m.len == n.len) (bytes_eq m.bytes n.bytes) e)),
      λ e. ap₂ ◌&&◌ (lens.1 (ap (λ x. x.len) e)) (texts.1 (ap (λ x. x.bytes) e)),
    )

pub same_bytes : (xs ys : List ℕ) → length xs ≡ length ys → EachBelow 256 xs → EachBelow 256 ys → value 256 xs ≡ value 256 ys → xs ≡ ys
same_bytes [] [] long lowx lowy same = refl
same_bytes [] (y ∷ ys) long lowx lowy same = absurd (omega arith)
same_bytes (x ∷ xs) [] long lowx lowy same = absurd (omega arith)
same_bytes (x ∷ xs) (y ∷ ys) long lowx lowy same =
    ap₂ ◌∷◌ (omega (arith, lowx 0, lowy 0)) (same_bytes xs ys (omega arith) (λ k. lowx (suc k)) (λ k. lowy (suc k)) (omega (arith, lowx 0, lowy 0)))

-- Two hashes are equal where their numbers are level.
pub equal_by_number : (g h : Hash) → bytes_eq g.bytes h.bytes ≡ is_eq (nat_cmp (number_of g.bytes) (number_of h.bytes))
equal_by_number g h =
    let n = number_of g.bytes in
    let m = number_of h.bytes in
    one_answer (bytes_eq g.bytes h.bytes) (n == m) (exact_hash g h)
    (λ e. same_hash g h (same_bytes g.bytes h.bytes (g.whole ∙ sym h.whole) g.small h.small ((unsigned_Decides n m).0 e)), λ e. (unsigned_Decides n m).1 (ap (λ x. number_of x.bytes) e))
    ∙ unsigned_ties n m
