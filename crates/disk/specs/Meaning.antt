-- What a disk is, by its meaning: blocks of 256 bytes, the power, and what a power cut may leave of each block.
-- Every operation is a relation between the meaning before it, the answer, and the meaning after it.
use Rattle.std.specs.Prelude.{◌≡◌, ℕ, ◌^◌, ◌<◌, ◌≤◌, Bool, true, false, ◌⊎◌, List, length, Ok, Err, Result, ◌≢◌}
use Rattle.disk.specs.declared.Fault.{Fault}
use Rattle.disk.specs.declared.Fault.TheVariants.{Dark, NoBlock}

-- The content of a block: its bytes.
abbrev pub Block : Type 0
Block = List ℕ

-- The meaning of a disk. Of `present` and `may` only the blocks below `blocks` count:
-- `present k` is the content of block k, and `may k` the set of contents with which it may be found after a cut.
pub record Meaning : Type 1 where
  pub blocks : ℕ
  pub lit : Bool
  pub present : ℕ → Block
  pub may : ℕ → Block → Type 0

-- What holds of every disk at every time. No set is empty, or a restart could not pick from it.
pub record Sound (m : Meaning) : Type 0 where
  pub few : m.blocks ≤ 2 ^ 32
  pub whole : (k : ℕ) → k < m.blocks → length (m.present k) ≡ 256
  pub whole_found : (k : ℕ) (y : Block) → k < m.blocks → m.may k y → length y ≡ 256
  pub found : m.lit ≡ true → (k : ℕ) → k < m.blocks → m.may k (m.present k)
  pub some : (k : ℕ) → k < m.blocks → (y : Block) × m.may k y

-- A choice of contents that a restart may pick: one for each block, out of its set.
abbrev pub Choice : Meaning → (ℕ → Block) → Type 0
Choice m f = (k : ℕ) → k < m.blocks → m.may k (f k)

-- No set gains a content.
abbrev pub GainsNone : Meaning → Meaning → Type 0
GainsNone m m' = (k : ℕ) (y : Block) → k < m.blocks → m'.may k y → m.may k y

-- No set gains a content, except x for block b.
abbrev pub GainsOnly : ℕ → Block → Meaning → Meaning → Type 0
GainsOnly b x m m' = (k : ℕ) (y : Block) → k < m.blocks → m'.may k y → m.may k y ⊎ ((k ≡ b) × (y ≡ x))

-- Each set holds the present content and nothing else.
pub record Settled (m : Meaning) : Type 0 where
  pub alone : (k : ℕ) (y : Block) → k < m.blocks → m.may k y → y ≡ m.present k
  pub there : (k : ℕ) → k < m.blocks → m.may k (m.present k)

-- Nothing that the disk means has changed.
pub record Same (m m' : Meaning) : Type 0 where
  pub size : m'.blocks ≡ m.blocks
  pub light : m'.lit ≡ m.lit
  pub contents : (k : ℕ) → k < m.blocks → m'.present k ≡ m.present k
  pub gains : GainsNone m m'
  pub keeps : GainsNone m' m

-- The size: how many blocks there are. The disk stays as it is.
abbrev pub Size : Meaning → ℕ → Type 0
Size m n = n ≡ m.blocks

-- A read of block b: the buffer before it, the answer, and the buffer after it. The disk stays as it is.
abbrev pub Read : Meaning → ℕ → Block → Result Unit Fault → Block → Type 0
Read m b old (Ok _) new = (m.lit ≡ true) × (b < m.blocks) × (new ≡ m.present b)
Read m b old (Err Dark) new = (m.lit ≡ false) × (new ≡ old)
Read m b old (Err NoBlock) new = (m.lit ≡ true) × (m.blocks ≤ b) × (new ≡ old)

-- A write that is done: block b has the content x, the others have theirs, and the disk is lit.
pub record Written (m : Meaning) (b : ℕ) (x : Block) (m' : Meaning) : Type 0 where
  pub was : m.lit ≡ true
  pub within : b < m.blocks
  pub size : m'.blocks ≡ m.blocks
  pub light : m'.lit ≡ true
  pub here : m'.present b ≡ x
  pub others : (k : ℕ) → k < m.blocks → (k ≢ b) → m'.present k ≡ m.present k
  pub gains : GainsOnly b x m m'

-- The disk went dark while x was on its way to block b.
pub record Torn (m : Meaning) (b : ℕ) (x : Block) (m' : Meaning) : Type 0 where
  pub was : m.lit ≡ true
  pub within : b < m.blocks
  pub size : m'.blocks ≡ m.blocks
  pub dark : m'.lit ≡ false
  pub gains : GainsOnly b x m m'

-- A write of x to block b: done; dark, before it or in it; or refused for want of the block.
abbrev pub Write : Meaning → ℕ → Block → Result Unit Fault → Meaning → Type 0
Write m b x (Ok _) m' = Written m b x m'
Write m b x (Err Dark) m' = ((m.lit ≡ false) × Same m m') ⊎ Torn m b x m'
Write m b x (Err NoBlock) m' = (m.lit ≡ true) × (m.blocks ≤ b) × Same m m'

-- A barrier that is done: each block keeps its content, and may be found with that alone.
pub record Passed (m m' : Meaning) : Type 0 where
  pub was : m.lit ≡ true
  pub size : m'.blocks ≡ m.blocks
  pub light : m'.lit ≡ true
  pub contents : (k : ℕ) → k < m.blocks → m'.present k ≡ m.present k
  pub settled : Settled m'
  pub gains : GainsNone m m'

-- The disk went dark in a barrier.
pub record Lost (m m' : Meaning) : Type 0 where
  pub was : m.lit ≡ true
  pub size : m'.blocks ≡ m.blocks
  pub dark : m'.lit ≡ false
  pub gains : GainsNone m m'

-- A barrier: done, or dark, before it or in it.
abbrev pub Barrier : Meaning → Result Unit Fault → Meaning → Type 0
Barrier m (Ok _) m' = Passed m m'
Barrier m (Err Dark) m' = ((m.lit ≡ false) × Same m m') ⊎ Lost m m'
Barrier m (Err NoBlock) m' = ⊥

-- A restart: the disk is lit, and what it presents is a choice from its sets, which then hold that alone.
pub record Restarted (m m' : Meaning) : Type 0 where
  pub size : m'.blocks ≡ m.blocks
  pub light : m'.lit ≡ true
  pub comes : Choice m m'.present
  pub settled : Settled m'
  pub gains : GainsNone m m'
