-- Blocks of a row of bytes, and what replacing one leaves of each.
use Rattle.std.proofs.Common.{◌≡◌, ℕ, ◌+◌, ◌-◌, ◌*◌, ◌<◌, ◌≤◌, List, ◌++◌, length, get_or, take, drop, zero, suc, sym, refl, ap, ◌∙◌, arith, length-drop}
use native.Mathlib.Decide.{dec_lt}
use borrow.Rule.Slice.PartMut.{put_mid, same_len_mid}
use Rattle.std.proofs.lemmas.List.{drop-take, drop-drop, length-take-le}
use Rattle.std.proofs.lemmas.Slice.{between-put_mid, take-put_mid_below, drop-put_mid}
use Rattle.std.specs.Simd.{first_chunks}
use Rattle.disk.specs.Meaning.{Block}
use Rattle.disk.specs.Row.{blocks_in, block_of, with_block}

-- A block that a row has is whole.
pub block_whole : (xs : List ℕ) (k : ℕ) → k < blocks_in xs → length (block_of xs k) ≡ 256
block_whole xs k less = length-take-le 256 (drop (k * 256) xs) (simp length-drop (omega arith))

-- The chunks of 256 that a row begins with are its blocks.
chunk_of : (k b : ℕ) (xs : List ℕ) (d : Block) → b < k → get_or (first_chunks 256 k xs) b d ≡ block_of xs b
chunk_of zero b xs d less = absurd (omega arith)
chunk_of (suc k) zero xs d less = refl
chunk_of (suc k) (suc b) xs d less =
    let next : 256 + b * 256 ≡ suc b * 256 = omega arith in
    chunk_of k b (drop 256 xs) d (omega arith) ∙ ap (take 256) (drop-drop (b * 256) 256 xs ∙ ap (λ n. drop n xs) next)

pub chunk_is_block : (xs : List ℕ) (b : ℕ) (chunks : List Block) (x : Block) → chunks ≡ first_chunks 256 (blocks_in xs) xs → b < blocks_in xs → x ≡ get_or chunks b x → x ≡ block_of xs b
chunk_is_block xs b chunks x all less is = is ∙ ap (λ cs. get_or cs b x) all ∙ chunk_of (blocks_in xs) b xs x less

-- The row xs with block b replaced by ys.
module _ (xs : List ℕ) (b : ℕ) (ys : Block) (whole : length ys ≡ 256) (within : b < blocks_in xs) where
  by_put : with_block xs b ys ≡ put_mid (b * 256) 256 xs ys
  by_put = ap (λ t. take (b * 256) xs ++ (ys ++ t)) (sym (drop-drop 256 (b * 256) xs))

  pub with_length : length (with_block xs b ys) ≡ length xs
  with_length = rw by_put (same_len_mid (b * 256) 256 xs ys (whole ∙ sym (length-take-le 256 (drop (b * 256) xs) (simp length-drop (omega arith)))))

  pub with_here : block_of (with_block xs b ys) b ≡ ys
  with_here =
      let count : b * 256 + 256 - b * 256 ≡ 256 = omega arith in
      rw by_put (rw count at (between-put_mid (b * 256) 256 xs ys (b * 256 + 256) (omega arith) (omega arith)))

  below : (k : ℕ) → k < b → block_of (with_block xs b ys) k ≡ block_of xs k
  below k less =
      let part = take-put_mid_below (b * 256) 256 xs ys (k * 256 + 256) (omega arith) (omega arith) in
      rw by_put (sym (drop-take (k * 256) 256 (put_mid (b * 256) 256 xs ys)) ∙ ap (drop (k * 256)) part ∙ drop-take (k * 256) 256 xs)

  -- What lies past the block is as it was.
  pub with_past : (n : ℕ) → b * 256 + 256 ≤ n → drop n (with_block xs b ys) ≡ drop n xs
  with_past n past = rw by_put (drop-put_mid (b * 256) 256 xs ys n past (omega arith) whole)

  pub with_other : (k : ℕ) → (k ≡ b → ⊥) → block_of (with_block xs b ys) k ≡ block_of xs k
  with_other k other = elim (dec_lt k b) [ yes less ↦ below k less | no not-less ↦ ap (take 256) (with_past (k * 256) (omega arith)) ]
