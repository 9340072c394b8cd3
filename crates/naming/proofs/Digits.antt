-- Digits in any base: a digit of a number, the number of its digits, and a field of bits that spans digits.
use Rattle.std.proofs.Common.{◌≡◌, ℕ, zero, suc, ◌+◌, ◌-◌, ◌*◌, ◌/◌, ◌%◌, ◌^◌, ◌<◌, ◌≤◌, List, [], ◌∷◌, map, length, get_or, drop, sym, refl, ap, ◌∙◌, subst, ap₂, inl, inr, zero-le, lt_of_lt_of_le, add-zero, mod-lt, mod-eq_of_lt, mul_assoc, mul_comm, div-lt_iff_lt-mul, add_comm, pow-suc, mul-zero, zero-add, mul-suc, mul-add, div-mul-le_self, div-one, add-one, arith, pow-add, shr-shr}
use native.Mathlib.Nat.{add-mul-div_left, add-mul-mod_self_left, div-add-mod, div-div-eq-div-mul, div-eq_of_lt, mod-one, pow-le-pow_right, pow-succ', pow-zero, zero-div}
use lib.Arith.{mod-mul}
use lib.Bits.{bit_and}
use Rattle.std.specs.List.{range_with_len}
use Rattle.std.proofs.lemmas.Nat.{and_mask, field_of, one_shl, shl_whole}
use Rattle.std.proofs.lemmas.List.{drop_all, drop-drop, ext_get_or, get_or-drop, get_or_past, length-drop}
use Rattle.std.proofs.lemmas.Bool.{cases_lt}
use Rattle.naming.specs.Digits.{value, EachBelow}

pub pow_pos_of : (b k : ℕ) → 0 < b → 0 < b ^ k
pow_pos_of b k pos = rw (pow-zero b) at (pow-le-pow_right {n = b} pos {i = 0} {j = k} zero-le)

pub pow_mul : (n a i : ℕ) → n ^ (a * i) ≡ (n ^ a) ^ i
pow_mul n a zero = simp (mul-zero, pow-zero)
pow_mul n a (suc i) = simp (mul-suc, pow-add, pow-suc) (ap (λ x. x * n ^ a) (pow_mul n a i))

-- It is enough to look at the digits that are there.
pub each_below : (b : ℕ) (ds : List ℕ) → 0 < b → ((k : ℕ) → k < length ds → get_or ds k 0 < b) → EachBelow b ds
each_below b ds pos there k = elim (cases_lt k (length ds)) [
  | inl h ↦ there k h
  | inr past ↦ subst (λ d. d < b) (sym (get_or_past ds k 0 past)) pos
]

-- The digits from k on are the number without its lowest k digits.
pub value_drop : (b : ℕ) (ds : List ℕ) (k : ℕ) → EachBelow b ds → value b ds / b ^ k ≡ value b (drop k ds)
value_drop b ds zero low = rw (pow-zero b) (div-one (value b ds))
value_drop b [] (suc k) low = zero-div (b ^ suc k)
value_drop b (d ∷ ds) (suc k) low =
    let small : d < b = low 0 in
    let pos : 0 < b = omega arith in
    let tail : (d + b * value b ds) / b ≡ value b ds =
    add-mul-div_left d (value b ds) pos ∙ ap (λ x. x + value b ds) (div-eq_of_lt small) ∙ zero-add (value b ds)
    in
    ap (λ x. (d + b * value b ds) / x) (pow-succ' b k) ∙ sym (div-div-eq-div-mul (d + b * value b ds) b (b ^ k))
    ∙ ap (λ x. x / b ^ k) tail ∙ value_drop b ds k (λ j. low (suc j))

value_first : (b : ℕ) (ds : List ℕ) → value b ds ≡ get_or ds 0 0 + b * value b (drop 1 ds)
value_first b [] = omega arith
value_first b (d ∷ ds) = refl

pub value_at : (b : ℕ) (ds : List ℕ) (i j : ℕ) → i + 1 ≡ j → value b (drop i ds) ≡ get_or ds i 0 + b * value b (drop j ds)
value_at b ds i j next =
    value_first b (drop i ds)
    ∙ ap₂ (λ x y. x + b * value b y) (get_or-drop i ds 0 0 ∙ ap (λ x. get_or ds x 0) (add-zero i)) (drop-drop 1 i ds ∙ ap (λ x. drop x ds) next)

-- A digit of a number is the digit that was written.
pub digit_of : (b : ℕ) (ds : List ℕ) (k : ℕ) → EachBelow b ds → value b ds / b ^ k % b ≡ get_or ds k 0
digit_of b ds k low =
    ap (λ x. x % b) (value_drop b ds k low ∙ value_at b ds k (k + 1) refl) ∙ add-mul-mod_self_left (get_or ds k 0) b (value b (drop (k + 1) ds))
    ∙ mod-eq_of_lt (low k)

-- n digits write a number below b ^ n.
pub value_below : (b : ℕ) (ds : List ℕ) → EachBelow b ds → value b ds < b ^ length ds
value_below b ds low =
    let first = low 0 in
    let pos : 0 < b ^ length ds = pow_pos_of b (length ds) (omega arith) in
    let none : value b ds / b ^ length ds ≡ 0 = value_drop b ds (length ds) low ∙ ap (value b) (drop_all (length ds) ds (omega arith)) in
    omega (arith, (div-lt_iff_lt-mul {k = b ^ length ds} {x = value b ds} {y = 1} pos).0 (omega arith))

-- The lowest m digits of n, from digit a on, write n without its lowest a digits, as far as m digits go.
digits_value_from : (b n a m : ℕ) → 0 < b → value b (map (λ k. n / b ^ k % b) (range_with_len a m)) ≡ n / b ^ a % b ^ m
digits_value_from b n a zero pos = rw (pow-zero b) (sym (mod-one (n / b ^ a)))
digits_value_from b n a (suc m) pos =
    let rest : n / b ^ (a + 1) ≡ n / b ^ a / b =
    ap (λ x. n / x) (ap (λ x. b ^ x) (add-one a) ∙ pow-suc b a) ∙ sym (div-div-eq-div-mul n (b ^ a) b)
    in
    ap (λ x. n / b ^ a % b + b * x) (digits_value_from b n (a + 1) m pos ∙ ap (λ x. x % b ^ m) rest)
    ∙ add_comm (n / b ^ a % b) (b * (n / b ^ a / b % b ^ m)) ∙ ap (λ x. x + n / b ^ a % b) (mul_comm b (n / b ^ a / b % b ^ m))
    ∙ sym (ap (λ x. n / b ^ a % x) (pow-suc b m) ∙ mod-mul (n / b ^ a) (pow_pos_of b m pos) pos)

pub digits_value : (b n m : ℕ) → 0 < b → value b (map (λ k. n / b ^ k % b) (range_with_len 0 m)) ≡ n % b ^ m
digits_value b n m pos = digits_value_from b n 0 m pos ∙ ap (λ x. x % b ^ m) (ap (λ x. n / x) (pow-zero b) ∙ div-one n)

-- As many digits that write the same number are the same digits.
pub same_digits : (b : ℕ) (xs ys : List ℕ) → length xs ≡ length ys → EachBelow b xs → EachBelow b ys → value b xs ≡ value b ys → xs ≡ ys
same_digits b xs ys long lowx lowy same =
    ext_get_or 0 xs ys long (λ k h. sym (digit_of b xs k lowx) ∙ ap (λ v. v / b ^ k % b) same ∙ digit_of b ys k lowy)

-- The highest digit in which they differ decides which number is the smaller.
pub digit_decides : (b : ℕ) (xs ys : List ℕ) (i : ℕ) → length xs ≡ length ys → EachBelow b xs → EachBelow b ys
    → ((k : ℕ) → i < k → get_or xs k 0 ≡ get_or ys k 0) → get_or xs i 0 < get_or ys i 0 → value b xs < value b ys
digit_decides b xs ys i long lowx lowy above less =
    lt_of_lt_of_le ((div-lt_iff_lt-mul {k = b ^ i} {x = value b xs} {y = value b ys / b ^ i} pos).0 high) (div-mul-le_self (value b ys) (b ^ i))
  where
    pos : 0 < b ^ i
    pos = pow_pos_of b i (omega (arith, lowx 0))

    tops : drop (i + 1) xs ≡ drop (i + 1) ys
    tops =
        ext_get_or 0 (drop (i + 1) xs) (drop (i + 1) ys) (length-drop (i + 1) xs ∙ ap (λ n. n - (i + 1)) long ∙ sym (length-drop (i + 1) ys))
        (λ k h. get_or-drop (i + 1) xs k 0 ∙ above (i + 1 + k) (omega arith) ∙ sym (get_or-drop (i + 1) ys k 0))

    high : value b xs / b ^ i < value b ys / b ^ i
    high =
        omega (
          arith,
          less,
          value_drop b xs i lowx ∙ value_at b xs i (i + 1) refl,
          value_drop b ys i lowy ∙ value_at b ys i (i + 1) refl,
          ap (λ ds. b * value b ds) tops,
        )

-- What stands above a field of bits does not matter to it.
field_low : (m t s w : ℕ) → (m + 2 ^ (w + s) * t) / 2 ^ s % 2 ^ w ≡ m / 2 ^ s % 2 ^ w
field_low m t s w =
    sym (field_of (m + 2 ^ (w + s) * t) w s) ∙ ap (λ x. x / 2 ^ s) (add-mul-mod_self_left m (2 ^ (w + s)) t) ∙ field_of m w s

horner : (b x y z t : ℕ) → x + b * (y + b * (z + b * t)) ≡ x + y * b + z * (b * b) + b * (b * b) * t
horner b x y z t = rw (mul_comm z (b * b)) (simp (mul-add, mul_assoc) (omega arith))

-- Three digits, and what stands above them, which is a multiple of 2 ^ n.
three_digits : (a : ℕ) (ds : List ℕ) (i n : ℕ) → n ≤ 3 * a
    → value (2 ^ a) (drop i ds)
    ≡ get_or ds i 0 + get_or ds (i + 1) 0 * 2 ^ a + get_or ds (i + 2) 0 * 2 ^ (2 * a) + 2 ^ n * (2 ^ (3 * a - n) * value (2 ^ a) (drop (i + 3) ds))
three_digits a ds i n fits =
    let b = 2 ^ a in
    let two : a + a ≡ 2 * a = omega arith in
    let cube : a + (a + a) ≡ n + (3 * a - n) = omega arith in
    value_at b ds i (i + 1) refl
    ∙ ap (λ v. get_or ds i 0 + b * v) (value_at b ds (i + 1) (i + 2) (omega arith))
    ∙ ap (λ v. get_or ds i 0 + b * (get_or ds (i + 1) 0 + b * v)) (value_at b ds (i + 2) (i + 3) (omega arith))
    ∙ horner b (get_or ds i 0) (get_or ds (i + 1) 0) (get_or ds (i + 2) 0) (value b (drop (i + 3) ds))
    ∙ ap₂
    (λ p q. get_or ds i 0 + get_or ds (i + 1) 0 * b + get_or ds (i + 2) 0 * p + q)
    (sym (pow-add 2 a a) ∙ ap (λ x. 2 ^ x) two)
    (ap (λ x. x * value b (drop (i + 3) ds)) (ap (λ x. b * x) (sym (pow-add 2 a a)) ∙ sym (pow-add 2 a (a + a)) ∙ ap (λ x. 2 ^ x) cube ∙ pow-add 2 n (3 * a - n))
    ∙ mul_assoc (2 ^ n) (2 ^ (3 * a - n)) (value b (drop (i + 3) ds)))

-- A field of w bits from bit s of digit i on, of digits of a bits each: three neighbouring digits hold it.
pub window : (a : ℕ) (ds : List ℕ) (i s w : ℕ) → EachBelow (2 ^ a) ds → s + w ≤ 3 * a
    → value (2 ^ a) ds / 2 ^ (a * i + s) % 2 ^ w
    ≡ (get_or ds i 0 + get_or ds (i + 1) 0 * 2 ^ a + get_or ds (i + 2) 0 * 2 ^ (2 * a)) / 2 ^ s % 2 ^ w
window a ds i s w low fits =
    ap (λ x. x % 2 ^ w)
    (sym (shr-shr (value (2 ^ a) ds) (a * i) s)
    ∙ ap (λ x. x / 2 ^ s) (ap (λ x. value (2 ^ a) ds / x) (pow_mul 2 a i) ∙ value_drop (2 ^ a) ds i low ∙ three_digits a ds i (w + s) (omega arith)))
    ∙ field_low (get_or ds i 0 + get_or ds (i + 1) 0 * 2 ^ a + get_or ds (i + 2) 0 * 2 ^ (2 * a)) (2 ^ (3 * a - (w + s)) * value (2 ^ a) (drop (i + 3) ds)) s w

-- The same field, from bit n on, by shifts and a mask at 32 bits.
pub shifted_window : (a n w : ℕ) (ds : List ℕ) (x y z : ℕ) → 0 < a → a ≤ 8 → w ≤ 8 → w ≤ 2 * a + 1 → EachBelow (2 ^ a) ds
    → x ≡ get_or ds (n / a) 0 → y ≡ get_or ds (n / a + 1) 0 → z ≡ get_or ds (n / a + 2) 0
    → bit_and ((x + y * 2 ^ a % 2 ^ 32 + z * 2 ^ (2 * a) % 2 ^ 32) / 2 ^ (n % a)) (1 * 2 ^ w % 2 ^ 32 - 1) ≡ value (2 ^ a) ds / 2 ^ n % 2 ^ w
shifted_window a n w ds x y z pos most narrow fits low xs ys zs =
    let i = n / a in
    let s = n % a in
    let over : s < a = mod-lt n pos in
    let yl : y < 2 ^ a = subst (λ v. v < 2 ^ a) (sym ys) (low (i + 1)) in
    let zl : z < 2 ^ a = subst (λ v. v < 2 ^ a) (sym zs) (low (i + 2)) in
    ap₂ (λ p q. bit_and ((x + p + q) / 2 ^ s) (1 * 2 ^ w % 2 ^ 32 - 1)) (shl_whole y a a 32 yl (omega arith)) (shl_whole z a (2 * a) 32 zl (omega arith))
    ∙ ap (λ m. bit_and ((x + y * 2 ^ a + z * 2 ^ (2 * a)) / 2 ^ s) (m - 1)) (one_shl w 32 (omega arith))
    ∙ and_mask ((x + y * 2 ^ a + z * 2 ^ (2 * a)) / 2 ^ s) w
    ∙ ap (λ v. v / 2 ^ s % 2 ^ w) (ap₂ (λ p q. p + q * 2 ^ a + z * 2 ^ (2 * a)) xs ys ∙ ap (λ v. get_or ds i 0 + get_or ds (i + 1) 0 * 2 ^ a + v * 2 ^ (2 * a)) zs)
    ∙ sym (window a ds i s w low (omega arith))
    ∙ ap (λ k. value (2 ^ a) ds / 2 ^ k % 2 ^ w) (div-add-mod n a)
