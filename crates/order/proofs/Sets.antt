-- What the numbers that the code makes hold as sets of rows.
use Rattle.std.proofs.Common.{◌≡◌, ℕ, zero, suc, ◌+◌, ◌-◌, ◌*◌, ◌/◌, ◌%◌, ◌^◌, ◌<◌, ◌≤◌, ltb, ◌⊎◌, Decides, Option, sym, refl, ap, ◌∙◌, inl, inr, mul-le-mul_right, mod-lt, mod-eq_of_lt, div-mul-le_self, arith, pow_pos, shr-shr}
use native.Mathlib.Nat.{mod-one}
use native.Mathlib.Decide.{dec_lt, ℕ_discrete}
use lib.Bits.{bit_and, bit_or, bit_xor, and_mask, or_shifted, xor_zero_r}
use lib.Count.{ones, count_trailing_zeros}
use lib.Pow.{ones_lt, split}
use Rattle.std.proofs.lemmas.Bool.{le-ltb, lt-ltb, ltb-true}
use Rattle.std.specs.Bool.{then_some}
use Rattle.std.proofs.lemmas.Nat.{one_shl}
use Rattle.order.specs.declared.rows.RowSet.{RowSet}
use Rattle.order.specs.Rows.{Least, bit, number}
use Rattle.order.proofs.Digits.{bit_cases, bit_below, bit_low, bit_high, bit_next, bit_power, bit_power_other, bit_ones, bit_of_or, bit_of_xor, ones_more, trailing_zero, trailing_one}

abbrev pub Just : ℕ → (ℕ → Type 0) → Type 0
Just n P = (k : ℕ) → (bit n k ≡ 1 → P k) × (P k → bit n k ≡ 1)

-- ---- tests
pub past_width : (n row : ℕ) → n < 2 ^ 64 → 64 ≤ row → Decides (ltb row 64) (bit n row ≡ 1)
past_width n row h far =
    (λ t. absurd (omega (arith, ltb-true row 64 t)), λ one. absurd (omega (arith, bit_below n 64 row h one)))

-- ---- unions
or_digits : (x y : ℕ) → (x ≡ 0) ⊎ (x ≡ 1) → (y ≡ 0) ⊎ (y ≡ 1)
    → (bit_or x y ≡ 1 → (x ≡ 1) ⊎ (y ≡ 1)) × ((x ≡ 1) ⊎ (y ≡ 1) → bit_or x y ≡ 1)
or_digits x y (inl e) (inl f) = rw (e, f) (λ h. inl h, λ h. elim h [ inl p ↦ p | inr q ↦ q ])
or_digits x y (inl e) (inr f) = rw (e, f) (λ h. inr refl, λ h. refl)
or_digits x y (inr e) (inl f) = rw (e, f) (λ h. inl refl, λ h. refl)
or_digits x y (inr e) (inr f) = rw (e, f) (λ h. inl refl, λ h. refl)

pub joins : (m n : ℕ) → Just (bit_or m n) (λ k. (bit m k ≡ 1) ⊎ (bit n k ≡ 1))
joins m n k = rw (bit_of_or m n k) (or_digits (bit m k) (bit n k) (bit_cases m k) (bit_cases n k))

-- ---- one row more, one row less
pub alone : (row : ℕ) → Just (2 ^ row) (λ k. k ≡ row)
alone row k =
    elim (ℕ_discrete k row) [
      | yes e ↦ (λ _. e, λ _. rw e (bit_power row))
      | no ne ↦ let unset = bit_power_other row k ne in (λ one. absurd (omega arith), λ e. absurd (ne e))
    ]

pub adds : (n row : ℕ) → row < 64 → Just (bit_or n (1 * 2 ^ row % 2 ^ 64)) (λ k. (bit n k ≡ 1) ⊎ ((k ≡ row) × (k < 64)))
adds n row h =
    rw (one_shl row 64 h) (λ k.
    let both = joins n (2 ^ row) k in
    let one = alone row k in (
      λ r. elim (both.0 r) [ inl p ↦ inl p | inr q ↦ let e : k ≡ row = one.0 q in inr (e, omega arith) ],
      λ r. both.1 (elim r [ inl p ↦ inl p | inr q ↦ inr (one.1 q.0) ]),
    ))

pub keeps : (n row : ℕ) → n < 2 ^ 64 → 64 ≤ row → Just n (λ k. (bit n k ≡ 1) ⊎ ((k ≡ row) × (k < 64)))
keeps n row h far k = (λ r. inl r, λ r. elim r [ inl p ↦ p | inr q ↦ absurd (omega (arith, q.0, q.1)) ])

pub drops : (n row : ℕ) → row < 64 → bit n row ≡ 1 → Just (bit_xor n (1 * 2 ^ row % 2 ^ 64)) (λ k. (bit n k ≡ 1) × (k ≡ row → ⊥))
drops n row h there =
    rw (one_shl row 64 h) (λ k.
    elim (ℕ_discrete k row) [
      | yes e ↦ (λ r. absurd (omega (arith, rw (bit_of_xor n (2 ^ row) k, e, there, bit_power row) at r)), λ r. absurd (r.1 e))
      | no ne ↦ rw (bit_of_xor n (2 ^ row) k, bit_power_other row k ne, xor_zero_r (bit n k)) (λ r. (r, ne), λ r. r.0)
    ])

-- ---- the rows below a number
pub firsts : (n : ℕ) → Just (2 ^ n - 1) (λ k. k < n)
firsts n k = (bit_below (2 ^ n - 1) n k (ones_lt n), bit_ones n k)

pub some_first : (n : ℕ) → n < 64 → Just (1 * 2 ^ n % 2 ^ 64 - 1) (λ k. (k < n) × (k < 64))
some_first n h = rw (one_shl n 64 h) (λ k. (λ r. let less = (firsts n k).0 r in (less, omega arith), λ r. (firsts n k).1 r.0))

pub all_first : (n : ℕ) → 64 ≤ n → Just (2 ^ 64 - 1) (λ k. (k < n) × (k < 64))
all_first n h k = (λ r. let less = (firsts 64 k).0 r in (omega arith, less), λ r. (firsts 64 k).1 r.1)

-- ---- the number of rows, and the least
count_is : (s : RowSet) (k : ℕ) → number s k ≡ ones (s.bits % 2 ^ k)
unfolding ones number
count_is s zero = ap ones (sym (mod-one s.bits))
count_is s (suc k) = ap (λ (x : ℕ). x + bit s.bits k) (count_is s k) ∙ sym (ones_more s.bits k)

pub counts : (s : RowSet) → s.bits < 2 ^ 64 → ones s.bits ≡ number s 64
counts s h = sym (count_is s 64 ∙ ap ones (mod-eq_of_lt h))

pub leasts : (n : ℕ) → count_trailing_zeros 64 n < 64
    → (bit n (count_trailing_zeros 64 n) ≡ 1) × ((k : ℕ) → bit n k ≡ 1 → count_trailing_zeros 64 n ≤ k)
leasts n h = (
  trailing_one 64 n h,
  λ k one. elim (dec_lt k (count_trailing_zeros 64 n)) [ yes p ↦ let unset = trailing_zero 64 n k p in absurd (omega arith) | no q ↦ omega arith ],
)

pub none_least : (n : ℕ) → n < 2 ^ 64 → 64 ≤ count_trailing_zeros 64 n → (k : ℕ) → bit n k ≡ 1 → ⊥
none_least n h far k one =
    let less = bit_below n 64 k h one in
    let unset = trailing_zero 64 n k (omega arith) in
    omega arith

pub least_told : (s : RowSet) (r : Option ℕ) → s.bits < 2 ^ 64 → r ≡ then_some (ltb (count_trailing_zeros 64 s.bits) 64) (count_trailing_zeros 64 s.bits) → Least s r
least_told s r h told =
    let row = count_trailing_zeros 64 s.bits in
    elim (dec_lt row 64) [
      | yes p ↦ rw (told, lt-ltb row 64 p) (leasts s.bits p)
      | no q ↦ rw (told, le-ltb row 64 (omega arith)) (none_least s.bits h (omega arith))
    ]

-- ---- a row gone, and those above it one down
bit_mod : (n row k : ℕ) → k < row → bit (n % 2 ^ row) k ≡ bit n k
bit_mod n row k h = sym (bit_low (n / 2 ^ row) (n % 2 ^ row) row k h) ∙ ap (λ (x : ℕ). bit x k) (split n row)

closed : ℕ → ℕ → ℕ
closed n row = n / 2 ^ row / 2 * 2 ^ row + n % 2 ^ row

closed_low : (n row k : ℕ) → k < row → bit (closed n row) k ≡ bit n k
unfolding closed
closed_low n row k h = bit_low (n / 2 ^ row / 2) (n % 2 ^ row) row k h ∙ bit_mod n row k h

closed_high : (n row j : ℕ) → bit (closed n row) (row + j) ≡ bit n (row + j + 1)
unfolding closed
closed_high n row j =
    bit_high (n / 2 ^ row / 2) (n % 2 ^ row) row j (mod-lt n (pow_pos row)) ∙ (sym (bit_next (n / 2 ^ row) j) ∙ (ap (λ (x : ℕ). x % 2) (shr-shr n row (suc j)) ∙ ap (bit n) (omega arith)))

abbrev Closed : ℕ → ℕ → ℕ → Type 0
Closed n row k = ((k < row) × (bit n k ≡ 1)) ⊎ ((row ≤ k) × (bit n (k + 1) ≡ 1))

closed_is : (n row : ℕ) → Just (closed n row) (Closed n row)
closed_is n row k =
    elim (dec_lt k row) [
      | yes p ↦ (
        λ one. inl (p, sym (closed_low n row k p) ∙ one),
        λ r. elim r [ inl q ↦ closed_low n row k p ∙ q.1 | inr q ↦ absurd (omega (arith, q.0)) ],
      )
      | no q ↦
          let apart : row + (k - row) ≡ k = omega arith in
          let same : bit (closed n row) k ≡ bit n (k + 1) = rw apart at (closed_high n row (k - row)) in
          (λ one. inr (omega arith, sym same ∙ one), λ r. elim r [ inl p ↦ absurd (omega (arith, p.0)) | inr p ↦ same ∙ p.1 ])
    ]

closed_made : (n row : ℕ) → n < 2 ^ 64 → row < 64
    → bit_or (n / 2 ^ row / 2 * 2 ^ row % 2 ^ 64) (bit_and n (1 * 2 ^ row % 2 ^ 64 - 1)) ≡ closed n row
unfolding closed
closed_made n row h less =
    let half : n / 2 ^ row / 2 ≤ n / 2 ^ row = omega arith in
    let fits : n / 2 ^ row / 2 * 2 ^ row < 2 ^ 64 = omega (arith, mul-le-mul_right (2 ^ row) half, div-mul-le_self n (2 ^ row)) in
    rw (one_shl row 64 less, and_mask n row, mod-eq_of_lt fits) (or_shifted (n / 2 ^ row / 2) row (n % 2 ^ row) (mod-lt n (pow_pos row)))

pub closes : (n row : ℕ) → n < 2 ^ 64 → row < 64
    → Just (bit_or (n / 2 ^ row / 2 * 2 ^ row % 2 ^ 64) (bit_and n (1 * 2 ^ row % 2 ^ 64 - 1))) (Closed n row)
closes n row h less = rw (closed_made n row h less) (closed_is n row)

pub all_low : (n row : ℕ) → n < 2 ^ 64 → 64 ≤ row → Just n (Closed n row)
all_low n row h far k = (
  λ one. let less = bit_below n 64 k h one in inl (omega arith, one),
  λ r. elim r [ inl p ↦ p.1 | inr p ↦ absurd (omega (arith, p.0, bit_below n 64 (k + 1) h p.1)) ],
)
