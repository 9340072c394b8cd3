-- Hash parts: each character, their order, and that each text of 32 digits is the hash part of one hash.
use Rattle.std.proofs.Common.{◌≡◌, ℕ, ◌+◌, ◌-◌, ◌*◌, ◌/◌, ◌%◌, ◌^◌, ◌<◌, List, [], ◌∷◌, reverse, length, get_or, set, Decides, Ordering, Less, Equal, Greater, sym, refl, ap, ◌∙◌, subst, ap₂, mod-lt, mod-eq_of_lt, zero-add, arith, below_more}
use Rattle.std.specs.Cmp.Lexicographic.{slice_cmp}
use Rattle.std.specs.Ordering.{is_eq, nat_cmp, ordering_then}
use Rattle.std.proofs.lemmas.List.FromFn.{fill_by_all, get_or-map-range_with_len, length-map-range_with_len}
use Rattle.std.proofs.lemmas.List.{ext_get_or, get_or-set_other, get_or-set_same}
use Rattle.std.proofs.lemmas.Bool.{false≢true}
use Rattle.naming.specs.Digits.{value}
use Rattle.naming.specs.Laws.{same_bytes}
use Rattle.naming.specs.Hash.{Orders, Spelled, alphabet, character, hash_part, number_of, number_order, text_order}
use Rattle.naming.specs.Order.{HashOrder}
use Rattle.naming.specs.declared.hash.Hash.{Hash}
use Rattle.naming.proofs.Digits.{digit_decides, digit_of, digits_value, each_below, pow_mul, value_below}
use Rattle.naming.proofs.Orders.{Rises, order_equal, order_parts, order_reversed, order_written, ranked, ranked_is, rising}
use Rattle.naming.specs.Laws.{same_hash}

character_rises : Rises character 32
character_rises i j less low = rising 0 alphabet refl i j less low

pub part_length : (h : List ℕ) → length (hash_part h) ≡ 32
unfolding hash_part
part_length h = length-map-range_with_len (λ j. character (number_of h / 32 ^ (31 - j) % 32)) 0 32

pub part_at : (h : List ℕ) (j : ℕ) → j < 32 → get_or (hash_part h) j 0 ≡ character (number_of h / 32 ^ (31 - j) % 32)
unfolding hash_part
part_at h j low = get_or-map-range_with_len (λ i. character (number_of h / 32 ^ (31 - i) % 32)) 0 32 j j 0 low (zero-add j)

number_below : (h : Hash) → number_of h.bytes < 32 ^ 32
number_below h = subst (λ n. number_of h.bytes < 256 ^ n) h.whole (value_below 256 h.bytes h.small)

-- The law: the byte order of hash parts is the order of the numbers.
pub part_order : (g h : Hash) → text_order (hash_part g.bytes) (hash_part h.bytes) ≡ number_order (number_of g.bytes) (number_of h.bytes)
unfolding hash_part
part_order g h =
    order_written character 32 character_rises (omega arith) (number_of g.bytes) (number_of h.bytes) 32
    ∙ ap₂ number_order (mod-eq_of_lt (number_below g)) (mod-eq_of_lt (number_below h))

order_refl : (t : List ℕ) → text_order t t ≡ Equal
order_refl [] = refl
order_refl (x ∷ t) = ap₂ ordering_then (order_equal x x refl) (order_refl t)

pub same_number : (g h : Hash) → number_of g.bytes ≡ number_of h.bytes → g ≡ h
same_number g h e = same_hash g h (same_bytes g.bytes h.bytes (g.whole ∙ sym h.whole) g.small h.small e)

pub same_part : (g h : Hash) → hash_part g.bytes ≡ hash_part h.bytes → g ≡ h
same_part g h e =
    let n = number_of g.bytes in
    let m = number_of h.bytes in
    let level : number_order n m ≡ Equal = sym (part_order g h) ∙ ap (λ t. text_order t (hash_part h.bytes)) e ∙ order_refl (hash_part h.bytes) in
    same_number g h (subst (λ o. Orders o n m) level (ranked n m))

-- The order of the numbers is the order of the hashes.
pub hash_order : (g h : Hash) (o : Ordering) → Orders o (number_of g.bytes) (number_of h.bytes) → HashOrder g h o
hash_order g h o by = record {
  parts = ranked_is o (number_of g.bytes) (number_of h.bytes) by ∙ sym (part_order g h);
  numbers = by;
  same = tells o by;
}
  where
    tells : (o : Ordering) → Orders o (number_of g.bytes) (number_of h.bytes) → Decides (is_eq o) (g ≡ h)
    tells Less less = (λ e. absurd (false≢true e), λ e. absurd (omega (arith, less, ap (λ x. number_of x.bytes) e)))
    tells Equal level = (λ _. same_number g h level, λ _. refl)
    tells Greater more = (λ e. absurd (false≢true e), λ e. absurd (omega (arith, more, ap (λ x. number_of x.bytes) e)))

-- The highest byte in which they differ decides, and where they differ in none they are level.
pub smaller : (g h : Hash) (i : ℕ) → ((k : ℕ) → i < k → get_or g.bytes k 0 ≡ get_or h.bytes k 0) → get_or g.bytes i 0 < get_or h.bytes i 0
    → number_of g.bytes < number_of h.bytes
smaller g h i above less = digit_decides 256 g.bytes h.bytes i (g.whole ∙ sym h.whole) g.small h.small above less

pub level : (g h : Hash) → ((k : ℕ) → get_or g.bytes k 0 ≡ get_or h.bytes k 0) → number_of g.bytes ≡ number_of h.bytes
level g h each = ap number_of (ext_get_or 0 g.bytes h.bytes (g.whole ∙ sym h.whole) (λ k _. each k))

-- The law: the bytes from the last to the first are ordered as the hashes.
pub bytes_order : (g h : Hash) → slice_cmp nat_cmp (reverse g.bytes) (reverse h.bytes) ≡ number_order (number_of g.bytes) (number_of h.bytes)
bytes_order g h = order_reversed 256 g.bytes h.bytes (g.whole ∙ sym h.whole) g.small h.small

-- The law: in two parts, the higher first, the numbers are ordered as the hashes.
pub parts_order : (g h : Hash) (x r y s : ℕ) (o : Ordering) → number_of g.bytes ≡ x * 2 ^ 128 + r → number_of h.bytes ≡ y * 2 ^ 128 + s → r < 2 ^ 128 → s < 2 ^ 128
    → o ≡ ordering_then (nat_cmp x y) (nat_cmp r s) → HashOrder g h o
parts_order g h x r y s o ours theirs lowr lows told =
    let n = number_of g.bytes in
    let m = number_of h.bytes in
    hash_order g h o (subst (λ q. Orders q n m) (sym (told ∙ order_parts (2 ^ 128) x y r s lowr lows ∙ ap₂ number_order (sym ours) (sym theirs))) (ranked n m))

pub spelled : (ds text : List ℕ) → length ds ≡ 32 → length text ≡ 32
    → ((k : ℕ) → k < 32 → (get_or ds k 0 < 32) × (character (get_or ds k 0) ≡ get_or text (31 - k) 0)) → Spelled ds text
spelled ds text long read each = record {
  long = long;
  low = each_below 32 ds (omega arith) (λ k h. (each k (omega arith)).0);
  read = read;
  each = λ k h. (each k h).1;
}

pub part_of_digits : (ds text bytes : List ℕ) → Spelled ds text → length bytes ≡ 20 → ((k : ℕ) → k < 20 → get_or bytes k 0 ≡ value 32 ds / 256 ^ k % 256)
    → hash_part bytes ≡ text
part_of_digits ds text bytes s long made =
    ext_get_or 0 (hash_part bytes) text (part_length bytes ∙ sym s.read) (λ j h. at j (omega (arith, part_length bytes)))
  where
    small : value 32 ds < 32 ^ 32
    small = subst (λ n. value 32 ds < 32 ^ n) s.long (value_below 32 ds s.low)

    number : number_of bytes ≡ value 32 ds
    number = ap number_of (fill_by_all (λ k. value 32 ds / 256 ^ k % 256) bytes 20 0 long made) ∙ digits_value 256 (value 32 ds) 20 (omega arith) ∙ mod-eq_of_lt small

    at : (j : ℕ) → j < 32 → get_or (hash_part bytes) j 0 ≡ get_or text j 0
    at j h =
        let back : 31 - (31 - j) ≡ j = omega arith in
        part_at bytes j h ∙ ap character (ap (λ n. n / 32 ^ (31 - j) % 32) number ∙ digit_of 32 ds (31 - j) s.low)
        ∙ s.each (31 - j) (omega arith) ∙ ap (λ k. get_or text k 0) back

-- A text with a byte that is no digit's character is no hash part.
pub no_part : (text : List ℕ) (j : ℕ) → j < 32 → ((d : ℕ) → d < 32 → character d ≡ get_or text j 0 → ⊥) → (h : List ℕ) → hash_part h ≡ text → ⊥
no_part text j low never h e =
    never (number_of h / 32 ^ (31 - j) % 32) (mod-lt (number_of h / 32 ^ (31 - j)) (omega arith)) (sym (part_at h j low) ∙ ap (λ t. get_or t j 0) e)

pub no_part_long : (text : List ℕ) → (length text ≡ 32 → ⊥) → (h : List ℕ) → hash_part h ≡ text → ⊥
no_part_long text other h e = other (sym (ap length e) ∙ part_length h)

-- What holds of each place below i, and of v at i, holds of each place below i + 1 once v is written there.
pub placed_more : (P : ℕ → ℕ → Type 0) (xs : List ℕ) (i v : ℕ) → i < length xs → ((k : ℕ) → k < i → P k (get_or xs k 0)) → P i v
    → (k : ℕ) → k < i + 1 → P k (get_or (set xs i v) k 0)
placed_more P xs i v low before here =
    below_more (λ k. P k (get_or (set xs i v) k 0)) i
    (λ k h. subst (P k) (sym (get_or-set_other xs i k v 0 (λ e. omega arith))) (before k h))
    (subst (P i) (sym (get_or-set_same xs i v 0 low)) here)

-- The field of w bits from bit w * k on is digit k in base 2 ^ w.
pub bits_digit : (w n k from : ℕ) → from ≡ w * k → n / 2 ^ from % 2 ^ w ≡ n / (2 ^ w) ^ k % 2 ^ w
bits_digit w n k from at = ap (λ p. n / p % 2 ^ w) (ap (λ m. 2 ^ m) at ∙ pow_mul 2 w k)

pub part_filled : (h t : List ℕ) → length t ≡ 32 → ((k : ℕ) → k < 32 → get_or t k 0 ≡ character (number_of h / 32 ^ (31 - k) % 32)) → t ≡ hash_part h
unfolding hash_part
part_filled h t long each = fill_by_all (λ j. character (number_of h / 32 ^ (31 - j) % 32)) t 32 0 long each
