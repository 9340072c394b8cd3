-- The order of numbers is the byte order of their digits, written with the highest first in rising characters.
use Rattle.std.proofs.Common.{◌≡◌, ℕ, zero, suc, ◌+◌, ◌-◌, ◌*◌, ◌/◌, ◌%◌, ◌^◌, ◌<◌, Bool, true, ◌&&◌, ltb, List, [], ◌∷◌, ◌++◌, map, reverse, length, get_or, Ordering, Less, Equal, Greater, sym, refl, ap, ◌∙◌, subst, ap₂, inl, inr, mod-lt, zero-add, add_comm, mul_comm, arith}
use native.Mathlib.Nat.{mod-one, pow-succ', pow-zero}
use lib.Arith.{digits_lt, mod-mul}
use Rattle.std.specs.Cmp.Lexicographic.{slice_cmp}
use Rattle.std.specs.List.{range_with_len}
use Rattle.std.specs.Ordering.{nat_cmp, ordering_then}
use Rattle.std.proofs.lemmas.Grind.{reverse_onto}
use Rattle.std.proofs.lemmas.List.{length-reverse}
use Rattle.std.proofs.lemmas.Bool.{and_parts, cases_order, eq-eqb, le-ltb, lt-ltb, ltb-true, ne_eqb}
use Rattle.naming.specs.Digits.{EachBelow, value}
use Rattle.naming.specs.Hash.{Orders, number_order, text_order}
use Rattle.naming.proofs.Digits.{pow_pos_of}

pub order_less : (a b : ℕ) → a < b → number_order a b ≡ Less
order_less a b h = simp (lt-ltb a b h)

pub order_equal : (a b : ℕ) → a ≡ b → number_order a b ≡ Equal
order_equal a b e = simp (le-ltb a b (omega arith), eq-eqb a b e)

pub order_greater : (a b : ℕ) → b < a → number_order a b ≡ Greater
order_greater a b h = simp (le-ltb a b (omega arith), ne_eqb a b (λ e. omega arith))

-- The order of two numbers, by its three cases.
by_order : (P : Ordering → Type 0) (a b : ℕ) → (a < b → P Less) → (a ≡ b → P Equal) → (b < a → P Greater) → P (number_order a b)
by_order P a b less same more = elim (cases_order a b) [
  | inl e ↦ subst P (sym (order_equal a b e)) (same e)
  | inr apart ↦ elim apart [
    | inl l ↦ subst P (sym (order_less a b l)) (less l)
    | inr g ↦ subst P (sym (order_greater a b g)) (more g)
  ]
]

pub ranked : (a b : ℕ) → Orders (number_order a b) a b
ranked a b = by_order (λ o. Orders o a b) a b (λ h. h) (λ h. h) (λ h. h)

pub ranked_is : (o : Ordering) (a b : ℕ) → Orders o a b → o ≡ number_order a b
ranked_is Less a b h = sym (order_less a b h)
ranked_is Equal a b h = sym (order_equal a b h)
ranked_is Greater a b h = sym (order_greater a b h)

-- A table rises: each is above the one before it, and the first above low.
abbrev pub rises : ℕ → List ℕ → Bool
rises low [] = true
rises low (x ∷ xs) = ltb low x && rises x xs

above : (low : ℕ) (xs : List ℕ) → rises low xs ≡ true → (k : ℕ) → k < length xs → low < get_or xs k 0
above low [] up k h = absurd (omega arith)
above low (x ∷ xs) up zero h = ltb-true low x (and_parts (ltb low x) (rises x xs) up).0
above low (x ∷ xs) up (suc k) h =
    let both = and_parts (ltb low x) (rises x xs) up in
    omega (arith, ltb-true low x both.0, above x xs both.1 k (omega arith))

pub rising : (low : ℕ) (xs : List ℕ) → rises low xs ≡ true → (i j : ℕ) → i < j → j < length xs → get_or xs i 0 < get_or xs j 0
rising low [] up i j less h = absurd (omega arith)
rising low (x ∷ xs) up i zero less h = absurd (omega arith)
rising low (x ∷ xs) up zero (suc j) less h = above x xs (and_parts (ltb low x) (rises x xs) up).1 j (omega arith)
rising low (x ∷ xs) up (suc i) (suc j) less h = rising x xs (and_parts (ltb low x) (rises x xs) up).1 i j (omega arith) (omega arith)

-- A number of two parts, the lower below p: the higher decides, then the lower.
pub order_parts : (p x y r s : ℕ) → r < p → s < p → ordering_then (number_order x y) (number_order r s) ≡ number_order (x * p + r) (y * p + s)
order_parts p x y r s lowr lows =
    let n = x * p + r in
    let m = y * p + s in
    by_order (λ o. ordering_then o (number_order r s) ≡ number_order n m) x y
    (λ less. sym (order_less n m (omega (arith, digits_lt {q = x} {m = y} {r = r} {c = p} less lowr))))
    (λ same. let times : x * p ≡ y * p = ap (λ z. z * p) same in
    by_order (λ o. o ≡ number_order n m) r s
    (λ h. sym (order_less n m (omega arith)))
    (λ h. sym (order_equal n m (omega arith)))
    (λ h. sym (order_greater n m (omega arith))))
    (λ more. sym (order_greater n m (omega (arith, digits_lt {q = y} {m = x} {r = s} {c = p} more lows))))

-- f rises below b.
abbrev pub Rises : (ℕ → ℕ) → ℕ → Type 0
Rises f b = (i j : ℕ) → i < j → j < b → f i < f j

order_rising : (f : ℕ → ℕ) (b : ℕ) → Rises f b → (x y : ℕ) → x < b → y < b → number_order (f x) (f y) ≡ number_order x y
order_rising f b up x y lowx lowy =
    by_order (λ o. number_order (f x) (f y) ≡ o) x y
    (λ less. order_less (f x) (f y) (up x y less lowy))
    (λ same. order_equal (f x) (f y) (ap f same))
    (λ more. order_greater (f x) (f y) (up y x more lowx))

pub rising_apart : (f : ℕ → ℕ) (b : ℕ) → Rises f b → (x y : ℕ) → x < b → y < b → f x ≡ f y → x ≡ y
rising_apart f b up x y lowx lowy same = elim (cases_order x y) [
  | inl e ↦ e
  | inr apart ↦ elim apart [
    | inl l ↦ absurd (omega (arith, up x y l lowy))
    | inr g ↦ absurd (omega (arith, up y x g lowx))
  ]
]

-- The values of g at m - 1, m - 2 and so on down to 0.
abbrev downward : (ℕ → ℕ) → ℕ → List ℕ
downward g zero = []
downward g (suc m) = g m ∷ downward g m

downward_from : (g : ℕ → ℕ) (a m : ℕ) → map (λ j. g (a + m - 1 - j)) (range_with_len a m) ≡ downward g m
downward_from g a zero = refl
downward_from g a (suc m) =
    let first : a + suc m - 1 - a ≡ m = omega arith in
    let rest : a + suc m ≡ a + 1 + m = omega arith in
    ap₂ ◌∷◌ (ap g first) (ap (λ n. map (λ j. g (n - 1 - j)) (range_with_len (a + 1) m)) rest ∙ downward_from g (a + 1) m)

order_downward : (f : ℕ → ℕ) (b : ℕ) → Rises f b → 0 < b → (x y m : ℕ)
    → text_order (downward (λ k. f (x / b ^ k % b)) m) (downward (λ k. f (y / b ^ k % b)) m) ≡ number_order (x % b ^ m) (y % b ^ m)
order_downward f b up pos x y zero = rw (pow-zero b) (rw (mod-one x, mod-one y) refl)
order_downward f b up pos x y (suc m) =
    let most = pow_pos_of b m pos in
    let split : (n : ℕ) → n / b ^ m % b * b ^ m + n % b ^ m ≡ n % b ^ suc m =
    λ n. sym (ap (λ p. n % p) (pow-succ' b m) ∙ mod-mul n pos most)
    in
    ap₂ ordering_then (order_rising f b up (x / b ^ m % b) (y / b ^ m % b) (mod-lt (x / b ^ m) pos) (mod-lt (y / b ^ m) pos)) (order_downward f b up pos x y m)
    ∙ order_parts (b ^ m) (x / b ^ m % b) (y / b ^ m % b) (x % b ^ m) (y % b ^ m) (mod-lt x most) (mod-lt y most)
    ∙ ap₂ number_order (split x) (split y)

-- The law: m digits of base b, the highest first, in characters that rise, are ordered as the numbers that they write.
pub order_written : (f : ℕ → ℕ) (b : ℕ) → Rises f b → 0 < b → (x y m : ℕ)
    → text_order (map (λ j. f (x / b ^ (m - 1 - j) % b)) (range_with_len 0 m)) (map (λ j. f (y / b ^ (m - 1 - j) % b)) (range_with_len 0 m)) ≡ number_order (x % b ^ m) (y % b ^ m)
order_written f b up pos x y m =
    ap₂ text_order (written x) (written y) ∙ order_downward f b up pos x y m
  where
    written : (n : ℕ) → map (λ j. f (n / b ^ (m - 1 - j) % b)) (range_with_len 0 m) ≡ downward (λ k. f (n / b ^ k % b)) m
    written n = ap (λ t. map (λ j. f (n / b ^ (t - 1 - j) % b)) (range_with_len 0 m)) (sym (zero-add m)) ∙ downward_from (λ k. f (n / b ^ k % b)) 0 m

then_level : (o : Ordering) → ordering_then o Equal ≡ o
then_level Less = refl
then_level Equal = refl
then_level Greater = refl

then_then : (o p q : Ordering) → ordering_then o (ordering_then p q) ≡ ordering_then (ordering_then o p) q
then_then Less p q = refl
then_then Equal p q = refl
then_then Greater p q = refl

-- Of lists that are as long, a further element of each decides where all before are level.
order_last : (xs ys : List ℕ) (x y : ℕ) → length xs ≡ length ys → slice_cmp nat_cmp (xs ++ (x ∷ [])) (ys ++ (y ∷ [])) ≡ ordering_then (slice_cmp nat_cmp xs ys) (nat_cmp x y)
order_last [] [] x y long = then_level (nat_cmp x y)
order_last [] (b ∷ ys) x y long = absurd (omega arith)
order_last (a ∷ xs) [] x y long = absurd (omega arith)
order_last (a ∷ xs) (b ∷ ys) x y long =
    ap (ordering_then (nat_cmp a b)) (order_last xs ys x y (omega arith)) ∙ then_then (nat_cmp a b) (slice_cmp nat_cmp xs ys) (nat_cmp x y)

-- The law: as many digits, compared from the highest down, are ordered as the numbers that they write.
pub order_reversed : (base : ℕ) (xs ys : List ℕ) → length xs ≡ length ys → EachBelow base xs → EachBelow base ys
    → slice_cmp nat_cmp (reverse xs) (reverse ys) ≡ number_order (value base xs) (value base ys)
order_reversed base [] [] long lowx lowy = refl
order_reversed base [] (y ∷ ys) long lowx lowy = absurd (omega arith)
order_reversed base (x ∷ xs) [] long lowx lowy = absurd (omega arith)
order_reversed base (x ∷ xs) (y ∷ ys) long lowx lowy =
    let upper : (d : ℕ) (ds : List ℕ) → value base ds * base + d ≡ value base (d ∷ ds) = λ d ds. add_comm (value base ds * base) d ∙ ap (λ v. d + v) (mul_comm (value base ds) base) in
    ap₂ (slice_cmp nat_cmp) (reverse_onto xs x []) (reverse_onto ys y [])
    ∙ order_last (reverse xs) (reverse ys) x y (length-reverse xs ∙ (omega arith ∙ sym (length-reverse ys)))
    ∙ ap (λ o. ordering_then o (nat_cmp x y)) (order_reversed base xs ys (omega arith) (λ k. lowx (suc k)) (λ k. lowy (suc k)))
    ∙ order_parts base (value base xs) (value base ys) x y (lowx 0) (lowy 0)
    ∙ ap₂ number_order (upper x xs) (upper y ys)
