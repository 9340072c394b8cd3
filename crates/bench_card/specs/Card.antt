-- The bench card: present blocks and settled ones on a row of bytes, and a power cut at an operation known beforehand.
use Rattle.std.specs.Prelude.{◌≡◌, ℕ, ◌+◌, ◌-◌, ◌*◌, ◌/◌, ◌%◌, ◌^◌, ◌<◌, ◌≤◌, min, Bool, true, false, cond, not, ◌⊎◌, List, length, take, drop, Ok, Err, Result, ◌==◌}
use Rattle.disk.specs.declared.Fault.{Fault}
use Rattle.disk.specs.declared.Fault.TheVariants.{Dark, NoBlock}
use Rattle.disk.specs.Meaning.{Meaning, Block}
use Rattle.disk.specs.Row.{block_of, with_block}
use Rattle.bench_card.specs.declared.supply.Supply.{Supply}

-- How many blocks a card on this row has: each takes 512 bytes, and there are 2 ^ 32 at most.
abbrev pub card_size : List ℕ → ℕ
card_size row = min (length row / 512) (2 ^ 32)

-- The present blocks of a row, and its settled ones.
abbrev pub present_part : List ℕ → List ℕ
present_part row = take (card_size row * 256) row

abbrev pub settled_part : List ℕ → List ℕ
settled_part row = take (card_size row * 256) (drop (card_size row * 256) row)

-- The meaning of a card of n blocks: block k of the row is present, and block n + k settled; a cut may find either.
abbrev pub bench : ℕ → List ℕ → Bool → Meaning
bench n row lit = record {
  blocks = n;
  lit = lit;
  present = block_of row;
  may = λ k y. (y ≡ block_of row k) ⊎ (y ≡ block_of row (n + k));
}

-- The meaning of a card on this row, with this supply.
abbrev pub card_means : List ℕ → Supply → Meaning
card_means row s = bench (card_size row) row s.lit

-- The next operation is the one at which the power goes.
abbrev pub strikes : Supply → Bool
strikes s = s.done + 1 == s.cut

-- The supply of a card just made.
abbrev pub fresh : ℕ → Supply
fresh cut = record { lit = true; cut = cut; done = 0 }

-- The supply after an operation that was not refused. The count stops at the greatest number that it can hold.
abbrev pub spent : Supply → Supply
spent s = record { lit = not (strikes s); cut = s.cut; done = min (s.done + 1) (2 ^ 64 - 1) }

-- The supply after a restart.
abbrev pub relit : Supply → Supply
relit s = record { lit = true; cut = s.cut; done = s.done }

-- What an operation that is not refused answers, by whether the power goes in it.
abbrev pub outcome : Bool → Result Unit Fault
outcome true = Err Dark
outcome false = Ok tt

-- What a card answers before it looks for block b: there is no power, it has no such block, or it goes on.
abbrev pub Admitted : Meaning → ℕ → Result Unit Fault → Type 0
Admitted m b (Ok _) = (m.lit ≡ true) × (b < m.blocks)
Admitted m b (Err Dark) = m.lit ≡ false
Admitted m b (Err NoBlock) = (m.lit ≡ true) × (m.blocks ≤ b)

-- Whether a restart keeps the present content of block k: bit k mod 32 of the restart number.
abbrev pub keeps : ℕ → ℕ → Bool
keeps kept k = kept / 2 ^ (k % 32) % 2 == 1

-- The content with which a restart finds block k.
abbrev pub found : ℕ → ℕ → List ℕ → ℕ → Block
found n kept row k = cond (keeps kept k) (block_of row k) (block_of row (n + k))

-- Each block k has the content f k, present and settled; what lies past the blocks is as it was.
pub record Laid (n : ℕ) (f : ℕ → Block) (row row' : List ℕ) : Type 0 where
  pub size : length row' ≡ length row
  pub present : (k : ℕ) → k < n → block_of row' k ≡ f k
  pub settled : (k : ℕ) → k < n → block_of row' (n + k) ≡ f k
  pub rest : drop ((n + n) * 256) row' ≡ drop ((n + n) * 256) row

-- A write of x to block b: the block is stored first, and then the power may go.
abbrev pub CardWrite : List ℕ → Supply → ℕ → Block → Result Unit Fault → List ℕ → Supply → Type 0
CardWrite row s b x (Ok _) row' s' = (strikes s ≡ false) × (row' ≡ with_block row b x) × (s' ≡ spent s)
CardWrite row s b x (Err Dark) row' s' =
    ((s.lit ≡ false) × (row' ≡ row) × (s' ≡ s))
    ⊎ ((s.lit ≡ true) × (strikes s ≡ true) × (row' ≡ with_block row b x) × (s' ≡ spent s))
CardWrite row s b x (Err NoBlock) row' s' = (row' ≡ row) × (s' ≡ s)

-- A barrier: the power may go first, and then the present blocks are settled.
abbrev pub CardBarrier : List ℕ → Supply → Result Unit Fault → List ℕ → Supply → Type 0
CardBarrier row s (Ok _) row' s' = (strikes s ≡ false) × Laid (card_size row) (block_of row) row row' × (s' ≡ spent s)
CardBarrier row s (Err Dark) row' s' =
    ((s.lit ≡ false) × (row' ≡ row) × (s' ≡ s))
    ⊎ ((s.lit ≡ true) × (strikes s ≡ true) × (row' ≡ row) × (s' ≡ spent s))
CardBarrier row s (Err NoBlock) row' s' = ⊥

-- A restart: each block is found by the restart number, and is then settled.
abbrev pub CardRestart : List ℕ → Supply → ℕ → List ℕ → Supply → Type 0
CardRestart row s kept row' s' = Laid (card_size row) (found (card_size row) kept row) row row' × (s' ≡ relit s)

-- The first b of n present blocks are as a restart finds them, the others as they were, and so are the settled ones.
pub record Reverted (n kept b : ℕ) (row row' : List ℕ) : Type 0 where
  pub size : length row' ≡ length row
  pub present : (k : ℕ) → k < b → block_of row' k ≡ found n kept row k
  pub others : (k : ℕ) → b ≤ k → block_of row' k ≡ block_of row k
  pub rest : drop ((n + n) * 256) row' ≡ drop ((n + n) * 256) row
