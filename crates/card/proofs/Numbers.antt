-- Numbers of four and of eight bytes, the lowest byte first.
use Rattle.std.proofs.Common.{◌≡◌, ℕ, zero, suc, ◌+◌, ◌*◌, ◌/◌, ◌%◌, ◌^◌, ◌<◌, ◌≤◌, List, [], ◌∷◌, length, get_or, drop, sym, refl, ap, ◌∙◌, subst, mod-eq_of_lt, div-one, arith}
use Rattle.std.proofs.lemmas.List.{drop_all, length-drop, length-take-le}
use Rattle.std.specs.Int.{from_le_bytes, to_le_bytes, w32, w64}
use Rattle.naming.specs.Digits.{value}
use Rattle.naming.proofs.Digits.{digits_value}
use Rattle.card.specs.Fields.{field, get, read}
use Rattle.card.specs.Written.{Kept, Wrote, WroteNumber}

pub four_bytes : (n : ℕ) → n < 2 ^ 32 → value 256 (n % 256 ∷ (n / 256 % 256 ∷ (n / 65536 % 256 ∷ (n / 16777216 % 256 ∷ [])))) ≡ n
four_bytes n low = rw div-one at (digits_value 256 n 4 (omega arith)) ∙ mod-eq_of_lt low

pub eight_bytes : (n : ℕ) → n < 2 ^ 64
    → value 256 (n % 256 ∷ (n / 256 % 256 ∷ (n / 65536 % 256 ∷ (n / 16777216 % 256 ∷ (n / 4294967296 % 256 ∷ (n / 1099511627776 % 256 ∷ (n / 281474976710656 % 256 ∷ (n / 72057594037927936 % 256 ∷ []))))))))
    ≡ n
eight_bytes n low = rw div-one at (digits_value 256 n 8 (omega arith)) ∙ mod-eq_of_lt low

-- The number that bytes are, taken apart at byte i.
value_from : (xs : List ℕ) (i : ℕ) → value 256 (drop i xs) ≡ get_or xs i 0 + 256 * value 256 (drop (suc i) xs)
value_from [] zero = refl
value_from [] (suc i) = refl
value_from (x ∷ xs) zero = refl
value_from (x ∷ xs) (suc i) = value_from xs i

none_left : (xs : List ℕ) (n : ℕ) → length xs ≡ n → value 256 (drop n xs) ≡ 0
none_left xs n long = ap (value 256) (drop_all n xs (omega arith))

-- The number of four bytes and of eight, by their places.
pub read_four : (xs : List ℕ) (n : ℕ) → length xs ≡ 4 → n ≡ get_or xs 0 0 + get_or xs 1 0 * 256 + get_or xs 2 0 * 65536 + get_or xs 3 0 * 16777216 → n ≡ value 256 xs
read_four xs n long is = omega (arith, value_from xs 0, value_from xs 1, value_from xs 2, value_from xs 3, none_left xs 4 long)

pub read_eight : (xs : List ℕ) (n : ℕ) → length xs ≡ 8
    → n
    ≡ get_or xs 0 0 + get_or xs 1 0 * 256 + get_or xs 2 0 * 65536 + get_or xs 3 0 * 16777216 + get_or xs 4 0 * 4294967296 + get_or xs 5 0 * 1099511627776
    + get_or xs 6 0 * 281474976710656 + get_or xs 7 0 * 72057594037927936
    → n ≡ value 256 xs
read_eight xs n long is =
    omega (
      arith,
      value_from xs 0,
      value_from xs 1,
      value_from xs 2,
      value_from xs 3,
      value_from xs 4,
      value_from xs 5,
      value_from xs 6,
      value_from xs 7,
      none_left xs 8 long,
    )

-- The number whose bytes a field has.
wide : (at w : ℕ) (xs : List ℕ) → at + w ≤ length xs → length (get (field at w) xs) ≡ w
wide at w xs within = length-take-le w (drop at xs) (simp length-drop (omega arith))

pub got_four : (at n : ℕ) (xs bytes : List ℕ) → at + 4 ≤ length xs → bytes ≡ get (field at 4) xs → n ≡ from_le_bytes w32 bytes → n ≡ read (field at 4) xs
got_four at n xs bytes within got is = read_four bytes n (ap length got ∙ wide at 4 xs within) is ∙ ap (value 256) got

pub got_eight : (at n : ℕ) (xs bytes : List ℕ) → at + 8 ≤ length xs → bytes ≡ get (field at 8) xs → n ≡ from_le_bytes w64 bytes → n ≡ read (field at 8) xs
got_eight at n xs bytes within got is = read_eight bytes n (ap length got ∙ wide at 8 xs within) is ∙ ap (value 256) got

-- A number's bytes, written to a field.
pub wrote_number : (at w n : ℕ) (before after bytes : List ℕ) → length bytes ≡ w → value 256 bytes ≡ n → Wrote (field at (length bytes)) bytes before after
    → WroteNumber (field at w) n before after
wrote_number at w n before after bytes wide is wrote = record {
  here = ap (λ m. value 256 (get (field at m) after)) (sym wide) ∙ ap (value 256) wrote.here ∙ is;
  kept = subst (λ m. Kept at (at + m) before after) wide wrote.kept;
}

pub wrote_four : (at n : ℕ) (before after bytes : List ℕ) → n < 2 ^ 32 → bytes ≡ to_le_bytes w32 n → Wrote (field at (length bytes)) bytes before after
    → WroteNumber (field at 4) n before after
wrote_four at n before after bytes low is wrote =
    wrote_number at 4 n before after bytes (ap length is) (ap (value 256) is ∙ four_bytes n low) wrote

pub wrote_eight : (at n : ℕ) (before after bytes : List ℕ) → n < 2 ^ 64 → bytes ≡ to_le_bytes w64 n → Wrote (field at (length bytes)) bytes before after
    → WroteNumber (field at 8) n before after
wrote_eight at n before after bytes low is wrote =
    wrote_number at 8 n before after bytes (ap length is) (ap (value 256) is ∙ eight_bytes n low) wrote
