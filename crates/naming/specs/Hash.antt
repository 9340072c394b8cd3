-- What a hash means as a number, and the text that is its hash part.
use Rattle.std.specs.Prelude.{◌≡◌, ℕ, ◌-◌, ◌/◌, ◌%◌, ◌^◌, ◌<◌, cond, List, [], ◌∷◌, map, length, codes, ◌==◌, nat_lt, slice_index}
use Rattle.std.specs.declared.cmp.Ordering.TheVariants.{Less, Equal, Greater}
use Rattle.std.specs.declared.cmp.Ordering.{Ordering}
use Rattle.std.specs.List.{range_with_len}
use Rattle.std.specs.Ordering.{MatchOrdering, ordering_then}
use Rattle.naming.specs.Digits.{value, EachBelow}

-- The number of a hash: the sum of byte i times 256 ^ i.
abbrev pub number_of : List ℕ → ℕ
number_of h = value 256 h

-- The digits of base 32, in rising order of their codes.
abbrev pub alphabet : List ℕ
alphabet = codes "0123456789abcdfghijklmnpqrsvwxyz"

abbrev pub character : ℕ → ℕ
character d = slice_index alphabet d

-- The hash part: the number in base 32 with 32 digits, the highest first.
unfoldable pub hash_part : List ℕ → List ℕ
hash_part h = map (λ j. character (number_of h / 32 ^ (31 - j) % 32)) (range_with_len 0 32)

-- The digits ds, the lowest first, are the text: character k from the end is digit k.
pub record Spelled (ds text : List ℕ) : Type 0 where
  pub long : length ds ≡ 32
  pub low : EachBelow 32 ds
  pub read : length text ≡ 32
  pub each : (k : ℕ) → k < 32 → character (slice_index ds k) ≡ slice_index text (31 - k)

-- The order of two numbers.
abbrev pub number_order : ℕ → ℕ → Ordering
number_order a b = cond (nat_lt a b) Less (cond (a == b) Equal Greater)

-- o says which of the numbers a and b is the smaller.
abbrev pub Orders : Ordering → ℕ → ℕ → Type 0
Orders o a b = MatchOrdering o (a < b) (a ≡ b) (b < a)

-- The byte order of texts.
abbrev pub text_order : List ℕ → List ℕ → Ordering
text_order [] [] = Equal
text_order [] (y ∷ ys) = Less
text_order (x ∷ xs) [] = Greater
text_order (x ∷ xs) (y ∷ ys) = ordering_then (number_order x y) (text_order xs ys)
