-- Blocks copied one after the other within a row.
use Rattle.std.proofs.Common.{◌≡◌, ℕ, ◌+◌, ◌*◌, ◌<◌, ◌≤◌, true, false, List, ◌++◌, length, take, drop, sym, ap, ◌∙◌, arith, append_assoc, length-append, length-drop}
use Rattle.std.proofs.lemmas.List.{take_at, drop_at, take-take, drop-take, drop-drop, length-take-le}
use native.Mathlib.Decide.{ℕ_discrete}
use Rattle.disk.specs.Row.{blocks_in, block_of, with_block}
use Rattle.disk.proofs.Rows.{block_whole, with_length, with_here, with_other, with_past}
use Rattle.bench_card.specs.Card.{Laid, Reverted, keeps}

-- A block copied within a row; `w` is the length of a block as the code counts it.
pub copied_is_with : (row : List ℕ) (from to w : ℕ) → w ≡ 256 → take (to * 256) row ++ take w (drop (from * 256) row) ++ drop (to * 256 + w) row ≡ with_block row to (block_of row from)
copied_is_with row from to w wide = rw wide (append_assoc (take (to * 256) row) (block_of row from) (drop (to * 256 + 256) row))

-- Blocks of a part of a row.
block_before : (row : List ℕ) (n k : ℕ) → k < n → block_of (take (n * 256) row) k ≡ block_of row k
block_before row n k less =
    sym (drop-take (k * 256) 256 (take (n * 256) row)) ∙ ap (drop (k * 256)) (take-take (k * 256 + 256) (n * 256) row (omega arith)) ∙ drop-take (k * 256) 256 row

block_after : (row : List ℕ) (n k : ℕ) → block_of (drop (n * 256) row) k ≡ block_of row (n + k)
block_after row n k = let sum : n * 256 + k * 256 ≡ (n + k) * 256 = omega arith in ap (take 256) (drop-drop (k * 256) (n * 256) row ∙ ap (λ i. drop i row) sum)

-- The first n blocks copied onto the next n; `w` is their length as the code counts it.
module _ (n w : ℕ) (row row' : List ℕ) (fits : (n + n) * 256 ≤ length row) (wide : w ≡ n * 256) (copied : row' ≡ take (n * 256) row ++ take w row ++ drop (n * 256 + w) row) where
  abbrev half : ℕ
  half = n * 256

  long : length (take half row) ≡ half
  long = length-take-le half row (omega arith)

  parts : row' ≡ take half row ++ (take half row ++ drop (half + half) row)
  parts = copied ∙ rw wide (append_assoc (take half row) (take half row) (drop (half + half) row))

  front : take half row' ≡ take half row
  front = ap (take half) parts ∙ take_at (take half row) (take half row ++ drop (half + half) row) half long

  back : drop half row' ≡ take half row ++ drop (half + half) row
  back = ap (drop half) parts ∙ drop_at (take half row) (take half row ++ drop (half + half) row) half long

  middle : take half (drop half row') ≡ take half row
  middle = ap (take half) back ∙ take_at (take half row) (drop (half + half) row) half long

  past : drop (half + half) row' ≡ drop (half + half) row
  past = sym (drop-drop half half row') ∙ ap (drop half) back ∙ drop_at (take half row) (drop (half + half) row) half long

  pub settled_laid : Laid n (block_of row) row row'
  settled_laid =
      let whole : half + half ≡ (n + n) * 256 = omega arith in
      record {
        size = ap length parts ∙ simp (length-append, length-drop, long) (omega arith);
        present = λ k less. sym (block_before row' n k less) ∙ ap (λ xs. block_of xs k) front ∙ block_before row n k less;
        settled = λ k less.
            sym (block_before (drop half row') n k less ∙ block_after row' n k) ∙ ap (λ xs. block_of xs k) middle ∙ block_before row n k less;
        rest = rw whole at past;
      }

module _ (n kept b : ℕ) (row mid : List ℕ) (fits : (n + n) * 256 ≤ length row) (less : b < n) (r : Reverted n kept b row mid) where
  -- Block b is kept.
  pub reverted_kept : keeps kept b ≡ true → Reverted n kept (b + 1) row mid
  reverted_kept yes-kept = record {
    size = r.size;
    present = λ k small. elim (ℕ_discrete k b) [
      | yes same ↦ rw same (r.others b (omega arith) ∙ simp yes-kept)
      | no other ↦ r.present k (omega arith)
    ];
    others = λ k more. r.others k (omega arith);
    rest = r.rest;
  }

  -- Block b is taken from its settled place.
  pub reverted_taken : keeps kept b ≡ false → Reverted n kept (b + 1) row (with_block mid b (block_of mid (n + b)))
  reverted_taken not-kept =
      let at : b < blocks_in mid = omega (arith, r.size) in
      let whole = block_whole mid (n + b) (omega (arith, r.size)) in
      record {
        size = with_length mid b _ whole at ∙ r.size;
        present = λ k small. elim (ℕ_discrete k b) [
          | yes same ↦ rw same (with_here mid b _ whole at ∙ r.others (n + b) (omega arith) ∙ simp not-kept)
          | no other ↦ with_other mid b _ whole at k other ∙ r.present k (omega arith)
        ];
        others = λ k more. with_other mid b _ whole at k (λ e. absurd (omega arith)) ∙ r.others k (omega arith);
        rest = with_past mid b _ whole at ((n + n) * 256) (omega arith) ∙ r.rest;
      }
