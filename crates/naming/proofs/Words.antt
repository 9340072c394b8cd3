-- The number that bytes write, read a word at a time.
use Rattle.std.proofs.Common.{◌≡◌, ℕ, zero, suc, ◌+◌, ◌-◌, ◌*◌, ◌^◌, List, [], ◌∷◌, length, get_or, take, drop, sym, refl, ap, ◌∙◌, mul_assoc, mul_comm, mul-add, mul-zero, add-zero, arith, pow-suc}
use native.Mathlib.Nat.{pow-succ', pow-zero}
use Rattle.std.proofs.lemmas.List.{drop_all, length-drop, length-take-le}
use Rattle.std.specs.Int.{byte_worth, from_le_bytes, sum_through, w32, w128}
use Rattle.naming.specs.Digits.{value}
use Rattle.naming.specs.Order.{InParts}
use Rattle.naming.proofs.Digits.{value_at}

-- Byte i is worth its value times 256 ^ i.
abbrev pub worth : List ℕ → ℕ → ℕ
worth bs i = byte_worth i (get_or bs i 0)

next_word : (s p d v : ℕ) → s + p * (d + 256 * v) ≡ s + d * p + p * 256 * v
next_word s p d v = omega (arith, mul-add p d (256 * v), mul_comm p d, mul_assoc p 256 v)

-- The sum of the first bytes, and what stands above them.
summed : (bs : List ℕ) (n : ℕ) → value 256 bs ≡ sum_through (worth bs) n + 256 ^ suc n * value 256 (drop (suc n) bs)
summed bs zero = value_at 256 bs 0 1 refl
summed bs (suc n) =
    summed bs n ∙ ap (λ v. sum_through (worth bs) n + 256 ^ suc n * v) (value_at 256 bs (suc n) (suc (suc n)) (omega arith))
    ∙ next_word (sum_through (worth bs) n) (256 ^ suc n) (get_or bs (suc n) 0) (value 256 (drop (suc (suc n)) bs))
    ∙ ap (λ p. sum_through (worth bs) n + get_or bs (suc n) 0 * 256 ^ suc n + p * value 256 (drop (suc (suc n)) bs)) (sym (pow-suc 256 (suc n)))

-- All bytes.
pub summed_all : (bs : List ℕ) (n : ℕ) → length bs ≡ suc n → sum_through (worth bs) n ≡ value 256 bs
summed_all bs n long =
    sym (summed bs n ∙ ap (λ xs. sum_through (worth bs) n + 256 ^ suc n * value 256 xs) (drop_all (suc n) bs (omega arith)) ∙ ap (λ z. sum_through (worth bs) n + z) (mul-zero (256 ^ suc n)) ∙ add-zero (sum_through (worth bs) n))

-- The lowest k digits, and the others.
pub parted : (b : ℕ) (ds : List ℕ) (k : ℕ) → value b ds ≡ value b (take k ds) + b ^ k * value b (drop k ds)
parted b ds zero = rw (pow-zero b) (omega arith)
parted b [] (suc k) = omega (arith, mul-zero (b ^ suc k))
parted b (d ∷ ds) (suc k) =
    ap (λ v. d + b * v) (parted b ds k)
    ∙ omega (arith, mul-add b (value b (take k ds)) (b ^ k * value b (drop k ds)), mul_assoc b (b ^ k) (value b (drop k ds)), ap (λ p. p * value b (drop k ds)) (pow-succ' b k))

-- Twenty bytes are a word of four above one of sixteen.
pub in_parts : (bs highs lows : List ℕ) (high low : ℕ) → length bs ≡ 20 → highs ≡ drop 16 bs → lows ≡ take 16 bs
    → high ≡ from_le_bytes w32 highs → low ≡ from_le_bytes w128 lows → InParts bs (high, low)
in_parts bs highs lows high low long top end above below =
    let longs : length highs ≡ 4 = ap length top ∙ length-drop 16 bs ∙ ap (λ n. n - 16) long in
    let shorts : length lows ≡ 16 = ap length end ∙ length-take-le 16 bs (omega arith) in
    omega (arith, parted 256 bs 16, below ∙ summed_all lows 15 shorts ∙ ap (value 256) end, above ∙ summed_all highs 3 longs ∙ ap (value 256) top)
