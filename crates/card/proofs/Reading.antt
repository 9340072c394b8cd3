-- What is read from `rest`, a block without its first byte.
use Rattle.std.proofs.Common.{◌≡◌, ℕ, zero, suc, ◌+◌, ◌-◌, ◌*◌, ◌/◌, ◌<◌, ◌≤◌, List, [], length, refl, get_or, take, drop, Some, None, Option, Ok, Err, Result, false, is_ok, sym, ap, ◌∙◌, subst, arith, MatchOption}
use Rattle.std.specs.List.{slice_range}
use Rattle.std.specs.Simd.{first_chunks}
use Rattle.std.proofs.lemmas.List.{drop-drop, drop-take, get_or-take, take_all, drop_more, length-drop, length-take-le, take-take}
use Rattle.naming.specs.Digits.{value}
use Rattle.naming.specs.Name.{Lawful}
use Rattle.naming.specs.Texts.{name_text}
use Rattle.naming.specs.declared.hash.Hash.{Hash}
use Rattle.naming.specs.declared.name.Name.{Name}
use Rattle.records.specs.Push.{Pushed}
use Rattle.records.specs.declared.full.Full.{Full}
use Rattle.std.proofs.lemmas.Bool.{false≢true}
use Rattle.card.specs.Fields.{field, get, name_field, read, reference_field}
use Rattle.card.specs.View.{SaysName, SaysReferences}

-- A byte as a field.
pub byte_read : (xs : List ℕ) (at : ℕ) → at < length xs → read (field at 1) xs ≡ get_or xs at 0
byte_read xs at less = ap (λ t. value 256 (take 1 t)) (drop_more xs at 0 less) ∙ (omega arith)

module _ (block rest : List ℕ) (is : drop 1 block ≡ rest) where
  pub after_kind : (at w : ℕ) → get (field at w) rest ≡ get (field (1 + at) w) block
  after_kind at w = ap (λ r. take w (drop at r)) (sym is) ∙ ap (take w) (drop-drop at 1 block)

  pub byte_after_kind : (at : ℕ) → at < length rest → get_or rest at 0 ≡ read (field (1 + at) 1) block
  byte_after_kind at less = sym (byte_read rest at less) ∙ ap (value 256) (after_kind at 1)

  -- The name: n is its length, and `text` is what the code takes for it.
  module _ (n : ℕ) (text : List ℕ) (whole : length rest ≡ 255) (counts : n ≡ get_or rest 20 0) (short : n ≤ 24) (cut : text ≡ take n (drop 21 rest)) where
    text_length : length text ≡ n
    text_length = ap length cut ∙ length-take-le n (drop 21 rest) (simp length-drop (omega arith))

    in_block : text ≡ take n (get name_field block)
    in_block = cut ∙ after_kind 21 n ∙ sym (take-take n 24 (drop 22 block) short)

    pub name_said : SaysName block text
    name_said = record {
      long = sym (byte_after_kind 20 (omega arith)) ∙ sym counts ∙ sym text_length;
      text = ap (λ m. take m (get name_field block)) text_length ∙ sym in_block;
    }

    pub name_is : (name : List ℕ) → SaysName block name → name ≡ text
    name_is name says =
        let same : length name ≡ n = sym says.long ∙ sym (byte_after_kind 20 (omega arith)) ∙ sym counts in
        sym says.text ∙ ap (λ m. take m (get name_field block)) same ∙ sym in_block

    pub name_cases : (r : Option Name) → MatchOption r (Lawful text → ⊥) (λ name. Lawful text × (name_text name ≡ text))
        → MatchOption r ((name : List ℕ) → SaysName block name → Lawful name → ⊥) (λ name. SaysName block (name_text name))
    name_cases None unlawful = λ name says lawful. unlawful (subst Lawful (name_is name says) lawful)
    name_cases (Some made) (lawful, is-text) = subst (SaysName block) (sym is-text) name_said

-- A chunk of 20 bytes.
chunk_at : (m k : ℕ) (xs : List ℕ) → k < m → get_or (first_chunks 20 m xs) k [] ≡ take 20 (drop (20 * k) xs)
chunk_at zero k xs less = absurd (omega arith)
chunk_at (suc m) zero xs less = refl
chunk_at (suc m) (suc k) xs less =
    let place : 20 + 20 * k ≡ 20 * suc k = omega arith in
    chunk_at m k (drop 20 xs) (omega arith) ∙ ap (take 20) (drop-drop (20 * k) 20 xs) ∙ ap (λ n. take 20 (drop n xs)) place

-- The references: `items` are the chunks that the code takes, and `refs` as many of them as it has read.
module _ (block rest : List ℕ) (is : drop 1 block ≡ rest) (whole : length rest ≡ 255) where
  abbrev places : List ℕ
  places = take 201 (drop 54 rest)

  room : length places ≡ 201
  room = length-take-le 201 (drop 54 rest) (simp length-drop (omega arith))

  chunk_is : (k : ℕ) → k < 10 → take 20 (drop (20 * k) places) ≡ get (reference_field k) block
  chunk_is k less =
      let size : 20 * k + (201 - 20 * k) ≡ 201 = omega arith in
      let place : 1 + (54 + 20 * k) ≡ 55 + 20 * k = omega arith in
      ap (λ n. take 20 (drop (20 * k) (take n (drop 54 rest)))) (sym size)
      ∙ ap (take 20) (drop-take (20 * k) (201 - 20 * k) (drop 54 rest)) ∙ take-take 20 (201 - 20 * k) (drop (20 * k) (drop 54 rest)) (omega arith)
      ∙ ap (take 20) (drop-drop (20 * k) 54 rest) ∙ after_kind block rest is (54 + 20 * k) 20 ∙ ap (λ at. get (field at 20) block) place

  pub references_said : (refs items chunks : List (List ℕ)) (i : ℕ) → chunks ≡ first_chunks 20 (length places / 20) places
      → items ≡ slice_range chunks 0 (get_or rest 53 0) → length items ≡ get_or rest 53 0 → get_or rest 53 0 ≤ length chunks → length chunks ≡ length places / 20
      → length items ≤ i → refs ≡ take i items → SaysReferences block refs
  references_said refs items chunks i chunked first many within most end so_far =
      let n = get_or rest 53 0 in
      let from_first : n - 0 ≡ n = omega arith in
      let all : refs ≡ items = so_far ∙ take_all i items end in
      let ten : length places / 20 ≡ 10 = ap (λ m. m / 20) room in
      record {
        count = sym (byte_after_kind block rest is 53 (omega arith)) ∙ sym many ∙ sym (ap length all);
        each = λ k less.
            let low : k < n = omega (arith, ap length all) in
            let high : k < 10 = omega arith in
            sym (chunk_is k high) ∙ sym (chunk_at 10 k places high) ∙ ap (λ m. get_or (first_chunks 20 m places) k []) (sym ten)
            ∙ ap (λ l. get_or l k []) (sym chunked) ∙ sym (get_or-take n chunks k [] low) ∙ ap (λ l. get_or l k []) (sym (first ∙ ap (λ m. take m chunks) from_first))
            ∙ ap (λ l. get_or l k []) (sym all);
      }

-- A hash that could not be pushed had eight before it.
pub not_pushed : (before : List Hash) (h : Hash) (r : Result (Unit {0}) Full) (after : List Hash) → Pushed before h r after → is_ok r ≡ false → length before ≡ 8
not_pushed before h (Ok x) after told refused = absurd (false≢true (sym refused))
not_pushed before h (Err e) after told refused = told.0
