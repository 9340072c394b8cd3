-- The bits of a number, one by one.
use Rattle.std.proofs.Common.{◌≡◌, ℕ, zero, suc, ◌+◌, ◌-◌, ◌*◌, ◌/◌, ◌%◌, ◌^◌, ◌<◌, ◌≤◌, ◌⊎◌, sym, refl, ap, ◌∙◌, subst, inl, inr, mod-lt, mul_assoc, pow-suc, div-one, one-add, arith, pow_pos, pow_mono, pow-add, shr-shr}
use native.Mathlib.Nat.{div-eq_of_lt, div_self, zero-div, mul-add-mod_self_right, mul-add-div_right}
use native.Mathlib.Decide.{dec_lt}
use lib.Bits.{bit_or, bit_xor, or_shr, or_mod, xor_shr, xor_mod}
use lib.Count.{ones, ones_cat, count_trailing_zeros, under}
use lib.Pow.{pow-lt, ones_split, ones_lt, high, mod-pow-add}
use Rattle.order.specs.Rows.{bit}

pub digit_cases : (x : ℕ) → x < 2 → (x ≡ 0) ⊎ (x ≡ 1)
digit_cases x h = elim (dec_lt x 1) [ yes p ↦ inl (omega arith) | no q ↦ inr (omega arith) ]

pub bit_cases : (n k : ℕ) → (bit n k ≡ 0) ⊎ (bit n k ≡ 1)
bit_cases n k = digit_cases (bit n k) (omega arith)

pub bit_small : (n k : ℕ) → n < 2 ^ k → bit n k ≡ 0
bit_small n k h = ap (λ (x : ℕ). x % 2) (div-eq_of_lt h)

-- A bit that is one stands below the number's width.
pub bit_below : (n w k : ℕ) → n < 2 ^ w → bit n k ≡ 1 → k < w
bit_below n w k h one =
    elim (dec_lt k w) [
      | yes p ↦ p
      | no q ↦
          let far : 2 ^ w ≤ 2 ^ k = pow_mono (omega arith) in
          let unset = bit_small n k (omega arith) in
          absurd (omega arith)
    ]

shifted : (a m j : ℕ) → a * 2 ^ (suc m + j) ≡ (a * 2 ^ m * 2) * 2 ^ j
shifted a m j =
    rw (pow-add 2 (suc m) j, pow-suc 2 m)
    (sym (mul_assoc a (2 ^ m * 2) (2 ^ j)) ∙ ap (λ (x : ℕ). x * 2 ^ j) (sym (mul_assoc a (2 ^ m) 2)))

low_by : (a b m j : ℕ) → bit (a * 2 ^ (suc m + j) + b) j ≡ bit b j
low_by a b m j =
    rw (shifted a m j)
    (ap (λ (x : ℕ). x % 2) (mul-add-div_right (pow_pos j) (a * 2 ^ m * 2) b) ∙ mul-add-mod_self_right (a * 2 ^ m) 2 (b / 2 ^ j))

-- The bits of a * 2 ^ k + b: b's below k, and a's from there on.
pub bit_low : (a b k j : ℕ) → j < k → bit (a * 2 ^ k + b) j ≡ bit b j
bit_low a b k j less =
    let apart : suc (k - suc j) + j ≡ k = omega arith in
    subst (λ (x : ℕ). bit (a * 2 ^ x + b) j ≡ bit b j) apart (low_by a b (k - suc j) j)

pub bit_high : (a b k j : ℕ) → b < 2 ^ k → bit (a * 2 ^ k + b) (k + j) ≡ bit a j
bit_high a b k j h = ap (λ (x : ℕ). x % 2) (sym (shr-shr (a * 2 ^ k + b) k j) ∙ ap (λ (x : ℕ). x / 2 ^ j) (high a k h))

pub bit_next : (n j : ℕ) → bit n (suc j) ≡ bit (n / 2) j
bit_next n j = ap (λ (x : ℕ). x % 2) (rw (← one-add j) (sym (shr-shr n 1 j)))

-- The bits of 2 ^ k: the k-th alone.
pub bit_power : (k : ℕ) → bit (2 ^ k) k ≡ 1
bit_power k = ap (λ (x : ℕ). x % 2) (div_self (pow_pos k))

pub bit_power_other : (k j : ℕ) → (j ≡ k → ⊥) → bit (2 ^ k) j ≡ 0
bit_power_other k j other =
    elim (dec_lt j k) [
      | yes p ↦
          let one : 1 * 2 ^ k + 0 ≡ 2 ^ k = omega arith in
          rw one at (bit_low 1 0 k j p) ∙ ap (λ (x : ℕ). x % 2) (zero-div (2 ^ j))
      | no q ↦ let above : k < j = omega arith in bit_small (2 ^ k) j (pow-lt above)
    ]

-- The bits of 2 ^ k - 1: those below k.
ones_odd : (m : ℕ) → (2 ^ suc m - 1) % 2 ≡ 1
ones_odd m = rw (pow-suc 2 m) (let some = pow_pos m in omega arith)

ones_by : (m j : ℕ) → bit (2 ^ (suc m + j) - 1) j ≡ 1
ones_by m j = rw (ones_split (suc m) j) (ap (λ (x : ℕ). x % 2) (high (2 ^ suc m - 1) j (ones_lt j)) ∙ ones_odd m)

pub bit_ones : (k j : ℕ) → j < k → bit (2 ^ k - 1) j ≡ 1
bit_ones k j less =
    let apart : suc (k - suc j) + j ≡ k = omega arith in
    subst (λ (x : ℕ). bit (2 ^ x - 1) j ≡ 1) apart (ones_by (k - suc j) j)

-- The bits of a | b and of a ^ b.
pub bit_of_or : (a b j : ℕ) → bit (bit_or a b) j ≡ bit_or (bit a j) (bit b j)
bit_of_or a b j = ap (λ (x : ℕ). x % 2) (or_shr a b j) ∙ or_mod (a / 2 ^ j) (b / 2 ^ j) 1

pub bit_of_xor : (a b j : ℕ) → bit (bit_xor a b) j ≡ bit_xor (bit a j) (bit b j)
bit_of_xor a b j = ap (λ (x : ℕ). x % 2) (xor_shr a b j) ∙ xor_mod (a / 2 ^ j) (b / 2 ^ j) 1

-- The lowest bit that is one, among k.
lowest_zero : (d k n j : ℕ) → n % 2 ≡ d → ((i : ℕ) → i < count_trailing_zeros k (n / 2) → bit (n / 2) i ≡ 0)
    → j < under d (count_trailing_zeros k (n / 2)) → bit n j ≡ 0
lowest_zero zero k n zero is below h = ap (λ (x : ℕ). x % 2) (div-one n) ∙ is
lowest_zero zero k n (suc j) is below h = bit_next n j ∙ below j (omega arith)
lowest_zero (suc d) k n j is below h = absurd (omega arith)

pub trailing_zero : (k n j : ℕ) → j < count_trailing_zeros k n → bit n j ≡ 0
unfolding count_trailing_zeros
trailing_zero zero n j h = absurd (omega arith)
trailing_zero (suc k) n j h = lowest_zero (n % 2) k n j refl (trailing_zero k (n / 2)) h

lowest_one : (d k n : ℕ) → n % 2 ≡ d → (count_trailing_zeros k (n / 2) < k → bit (n / 2) (count_trailing_zeros k (n / 2)) ≡ 1)
    → under d (count_trailing_zeros k (n / 2)) < suc k → bit n (under d (count_trailing_zeros k (n / 2))) ≡ 1
lowest_one zero k n is at h = bit_next n (count_trailing_zeros k (n / 2)) ∙ at (omega arith)
lowest_one (suc d) k n is at h = ap (λ (x : ℕ). x % 2) (div-one n) ∙ (omega arith)

pub trailing_one : (k n : ℕ) → count_trailing_zeros k n < k → bit n (count_trailing_zeros k n) ≡ 1
unfolding count_trailing_zeros
trailing_one zero n h = absurd (omega arith)
trailing_one (suc k) n h = lowest_one (n % 2) k n refl (trailing_one k (n / 2)) h

-- How many bits are one.
ones_digit : (x : ℕ) → (x ≡ 0) ⊎ (x ≡ 1) → ones x ≡ x
unfolding ones
ones_digit x (inl e) = rw e refl
ones_digit x (inr e) = rw e refl

pub ones_more : (n k : ℕ) → ones (n % 2 ^ suc k) ≡ ones (n % 2 ^ k) + bit n k
ones_more n k =
    rw (← one-add k)
    (ap ones (mod-pow-add n 1 k) ∙ (ones_cat k (bit n k) (n % 2 ^ k) (mod-lt n (pow_pos k)) ∙ (ap (λ (x : ℕ). x + ones (n % 2 ^ k)) (ones_digit (bit n k) (bit_cases n k)) ∙ omega arith)))
