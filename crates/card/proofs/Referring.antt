-- The hashes of references, written one after another.
use Rattle.std.proofs.Common.{◌≡◌, ℕ, ◌+◌, ◌*◌, ◌<◌, List, [], map, length, get_or, drop, ◌∙◌, subst, arith, below_more}
use Rattle.naming.specs.declared.hash.Hash.{Hash}
use Rattle.records.specs.View.{bytes_of}
use Rattle.card.specs.Fields.{field, get, reference_field}
use Rattle.card.specs.Written.{Kept, Wrote}
use Rattle.card.proofs.Writes.{as_wide, below_both, field_below, past_both}

-- The first n hashes are written, and nothing else.
pub record Referring (hashes : List Hash) (before : List ℕ) (n : ℕ) (block : List ℕ) : Type 0 where
  pub here : (k : ℕ) → k < n → get (reference_field k) block ≡ get_or (map bytes_of hashes) k []
  pub kept : Kept 55 (55 + 20 * n) before block

pub referring_more : (hashes : List Hash) (before b c h : List ℕ) (n : ℕ) → length h ≡ 20 → h ≡ get_or (map bytes_of hashes) n []
    → Referring hashes before n b → Wrote (field (55 + 20 * n) (length h)) h b c → Referring hashes before (n + 1) c
referring_more hashes before b c h n long is so_far wrote = record {
  here =
      below_more (λ k. get (reference_field k) c ≡ get_or (map bytes_of hashes) k []) n
      (λ k less. field_below (reference_field k) b c (55 + 20 * n) (omega arith) wrote.kept.below ∙ so_far.here k less)
      (as_wide (55 + 20 * n) c h 20 long wrote.here ∙ is);
  kept = record {
    below = below_both before b c 55 (55 + 20 * n) (omega arith) so_far.kept.below wrote.kept.below;
    past =
        past_both before b c (55 + 20 * n) (55 + 20 * (n + 1)) (omega arith) so_far.kept.past
        (subst (λ m. drop m c ≡ drop m b) (sum (length h) long) wrote.kept.past);
  };
}
  where
    sum : (w : ℕ) → w ≡ 20 → 55 + 20 * n + w ≡ 55 + 20 * (n + 1)
    sum w wide = omega arith
