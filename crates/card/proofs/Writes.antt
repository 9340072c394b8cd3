-- A write to a place of a block: what stands there after it, and what is as it was.
use Rattle.std.proofs.Common.{◌≡◌, ℕ, ◌+◌, ◌-◌, ◌<◌, ◌≤◌, List, [], ◌∷◌, length, get_or, take, drop, replicate, sym, refl, ap, ◌∙◌, arith}
use borrow.Rule.Slice.PartMut.{put_mid}
use Rattle.std.proofs.lemmas.List.{drop-drop, drop_more, drop-take, get_or-drop, get_or-take, get_or-replicate, take-take}
use Rattle.std.proofs.lemmas.Slice.{between-put_mid, take-put_mid_below, drop-put_mid}
use Rattle.naming.specs.Digits.{value}
use Rattle.card.specs.Fields.{Field, field, get, read, Zero}
use Rattle.card.specs.Written.{Kept}

-- Bytes ys, which are bs, over the part of xs from `at` on; `w` is the length of that part as the code counts it.
module _ (at w : ℕ) (xs ys bs : List ℕ) (is : ys ≡ bs) (wide : w ≡ length bs) (within : at + length bs ≤ length xs) where
  pub put_here : get (field at (length bs)) (put_mid at w xs ys) ≡ bs
  put_here =
      let count : at + length bs - at ≡ length bs = omega arith in
      let long = ap length is in
      rw count at (between-put_mid at w xs ys (at + length bs) (omega arith) (omega arith)) ∙ is

  pub put_kept : Kept at (at + length bs) xs (put_mid at w xs ys)
  put_kept = record {
    below = take-put_mid_below at w xs ys at (omega arith) (omega arith);
    past = drop-put_mid at w xs ys (at + length bs) (omega arith) (omega arith) (ap length is ∙ sym wide);
  }

-- What stands below a place is as it was through two writes.
pub below_both : (b c d : List ℕ) (m n : ℕ) → m ≤ n → take m c ≡ take m b → take n d ≡ take n c → take m d ≡ take m b
below_both b c d m n less one two = sym (take-take m n d less) ∙ ap (take m) two ∙ take-take m n c less ∙ one

-- A field that lies below a place, or past one, keeps its bytes where those are as they were.
pub field_below : (f : Field) (b c : List ℕ) (m : ℕ) → f.at + f.width ≤ m → take m c ≡ take m b → get f c ≡ get f b
field_below f b c m less same =
    sym (drop-take f.at f.width c)
    ∙ ap (drop f.at) (sym (take-take (f.at + f.width) m c less) ∙ ap (take (f.at + f.width)) same ∙ take-take (f.at + f.width) m b less)
    ∙ drop-take f.at f.width b

byte_below : (b c : List ℕ) (m k : ℕ) → k < m → take m c ≡ take m b → get_or c k 0 ≡ get_or b k 0
byte_below b c m k less same = sym (get_or-take m c k 0 less) ∙ ap (λ t. get_or t k 0) same ∙ get_or-take m b k 0 less

byte_past : (b c : List ℕ) (m k : ℕ) → m ≤ k → drop m c ≡ drop m b → get_or c k 0 ≡ get_or b k 0
byte_past b c m k past same =
    let sum : m + (k - m) ≡ k = omega arith in
    rw sum at (sym (get_or-drop m c (k - m) 0) ∙ ap (λ t. get_or t (k - m) 0) same ∙ get_or-drop m b (k - m) 0)

-- Bytes that are zero stay so below a write and past it.
pub zero_below : (b c : List ℕ) (from to m : ℕ) → to ≤ m → take m c ≡ take m b → Zero from to b → Zero from to c
zero_below b c from to m less same zeros k low high = byte_below b c m k (omega arith) same ∙ zeros k low high

pub zero_past : (b c : List ℕ) (from to low high : ℕ) → high ≤ from → Kept low high b c → Zero from to b → Zero from to c
zero_past b c from to low high past kept zeros k less more = byte_past b c high k (omega arith) kept.past ∙ zeros k less more

-- A smaller stretch of zeros.
pub zero_less : (b : List ℕ) (from to more less : ℕ) → from ≤ more → less ≤ to → Zero from to b → Zero more less b
zero_less b from to more less low high zeros k above below = zeros k (omega arith) (omega arith)

pub zero_blank : (n : ℕ) → Zero 0 n (replicate n 0)
zero_blank n k low high = get_or-replicate n k 0 0 high

-- A number in a field below a place.
pub read_below : (f : Field) (b c : List ℕ) (m : ℕ) → f.at + f.width ≤ m → take m c ≡ take m b → read f c ≡ read f b
read_below f b c m less same = ap (value 256) (field_below f b c m less same)

-- A number of one byte.
pub one_byte : (f : Field) (c : List ℕ) (n : ℕ) → get f c ≡ n ∷ [] → read f c ≡ n
one_byte f c n is = ap (value 256) is ∙ (omega arith)

-- Four bytes in a row are the field where they begin.
pub four_at : (xs : List ℕ) (a i j k l : ℕ) → i ≡ a → i + 1 ≡ j → j + 1 ≡ k → k + 1 ≡ l → l < length xs
    → get_or xs i 0 ∷ (get_or xs j 0 ∷ (get_or xs k 0 ∷ (get_or xs l 0 ∷ []))) ≡ get (field a 4) xs
four_at xs a i j k l at one two three within =
    sym (ap (λ x. take 4 (drop x xs)) (sym at)
    ∙ ap (take 4) (next i j one (omega arith))
    ∙ ap (λ t. take 4 (get_or xs i 0 ∷ t)) (next j k two (omega arith))
    ∙ ap (λ t. take 4 (get_or xs i 0 ∷ (get_or xs j 0 ∷ t))) (next k l three (omega arith))
    ∙ ap (λ t. take 4 (get_or xs i 0 ∷ (get_or xs j 0 ∷ (get_or xs k 0 ∷ t)))) (next l (l + 1) refl within))
  where
    next : (m n : ℕ) → m + 1 ≡ n → m < length xs → drop m xs ≡ get_or xs m 0 ∷ drop n xs
    next m n e less = drop_more xs m 0 less ∙ ap (λ x. get_or xs m 0 ∷ drop x xs) e

-- What stands past a place is as it was through two writes.
pub past_both : (b c d : List ℕ) (m n : ℕ) → m ≤ n → drop m c ≡ drop m b → drop n d ≡ drop n c → drop n d ≡ drop n b
past_both b c d m n less one two =
    let sum : m + (n - m) ≡ n = omega arith in
    two ∙ rw sum at (sym (drop-drop (n - m) m c) ∙ ap (drop (n - m)) one ∙ drop-drop (n - m) m b)

-- Bytes in a field as wide as they are.
pub as_wide : (at : ℕ) (c bs : List ℕ) (w : ℕ) → length bs ≡ w → get (field at (length bs)) c ≡ bs → get (field at w) c ≡ bs
as_wide at c bs w wide here = ap (λ n. get (field at n) c) (sym wide) ∙ here
