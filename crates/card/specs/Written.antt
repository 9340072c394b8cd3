-- What a write to a field of a block leaves.
use Rattle.std.specs.Prelude.{◌≡◌, ℕ, ◌+◌, ◌*◌, ◌<◌, List, [], length, take, drop, slice_index_or}
use Rattle.card.specs.Fields.{Field, get, read, reference_field}

-- The bytes below one place and from another on are as before.
pub record Kept (from to : ℕ) (before after : List ℕ) : Type 0 where
  pub below : take from after ≡ take from before
  pub past : drop to after ≡ drop to before

-- The field has these bytes, or is this number, and all else is as before.
pub record Wrote (f : Field) (bytes before after : List ℕ) : Type 0 where
  pub here : get f after ≡ bytes
  pub kept : Kept f.at (f.at + f.width) before after

pub record WroteNumber (f : Field) (n : ℕ) (before after : List ℕ) : Type 0 where
  pub here : read f after ≡ n
  pub kept : Kept f.at (f.at + f.width) before after

-- The fields of references have these hashes, and all else is as before.
pub record WroteHashes (hashes : List (List ℕ)) (before after : List ℕ) : Type 0 where
  pub here : (k : ℕ) → k < length hashes → get (reference_field k) after ≡ slice_index_or hashes k []
  pub kept : Kept 55 (55 + 20 * length hashes) before after
