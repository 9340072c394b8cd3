-- What holds of every ledger that a run reaches.
use Rattle.std.specs.Prelude.{◌≡◌, ℕ, ◌+◌, ◌-◌, ◌^◌, ◌<◌, ◌≤◌, Bool, true, false, ◌||◌, List, [], length, get_or, Some, ◌≢◌, slice_index_or}
use Rattle.naming.specs.Name.{Lawful}
use Rattle.model.specs.Plain.{Bytes, Path, no_path, run}
use Rattle.model.specs.Fits.{has_hash, refers, Whole, Apart, InData, Sound}
use Rattle.model.specs.Standing.{Standing}
use Rattle.ledger.specs.State.{Ledger, Build, Content, Collection, has, paths, building, half_built, build_run, on_lease, root}

-- Waiting and marked paths are registered, no path is both, every root waits or is marked, and so does every reference of a marked path.
pub record SoundCollection (ps : List Path) (rooted : Bytes → Bool) (c : Collection) : Type 0 where
  pub waiting : (q : Bytes) → has q c.waiting ≡ true → has_hash q ps ≡ true
  pub marked : (q : Bytes) → has q c.marked ≡ true → has_hash q ps ≡ true
  pub apart : (q : Bytes) → has q c.waiting ≡ true → has q c.marked ≡ false
  pub roots : (q : Bytes) → rooted q ≡ true → (has q c.waiting || has q c.marked) ≡ true
  pub references : (k : ℕ) (r : Bytes) → k < length ps → has (get_or ps k no_path).hash c.marked ≡ true → refers (slice_index_or ps k no_path) r ≡ true
      → (has r c.waiting || has r c.marked) ≡ true

-- A half-built path is new, and its run lies in the data, apart from those of the paths.
pub record SoundBuild (n : ℕ) (ps : List Path) (b : Build) : Type 0 where
  pub whole : Whole b.hash
  pub lawful : Lawful b.name
  pub small : b.size ≤ 16384
  pub placed : InData n (build_run b)
  pub short : length b.put ≤ b.size
  pub new : has_hash b.hash ps ≡ false
  pub apart : (k : ℕ) → k < length ps → Apart (build_run b) (run (slice_index_or ps k no_path))

-- Two builds have other hashes and runs.
pub record BuildsApart (b c : Build) : Type 0 where
  pub hashes : b.hash ≡ c.hash → ⊥
  pub runs : Apart (build_run b) (build_run c)

-- A path has the references and the length of what the last seal under its hash gave.
abbrev pub AsSealed : (Bytes → Content) → Path → Type 0
AsSealed sealed p = ((sealed p.hash).refs ≡ p.refs) × (length (sealed p.hash).bytes ≡ p.size)

-- A standing that an open may find: its catalogue is sound, each path is as sealed, and the journal's place leaves room.
pub record SoundStanding (n : ℕ) (sealed : Bytes → Content) (s : Standing) : Type 0 where
  pub catalogue : Sound n s.catalogue
  pub contents : (k : ℕ) → k < length s.catalogue.paths → AsSealed sealed (slice_index_or s.catalogue.paths k no_path)
  pub first : 1 ≤ s.place.first
  pub used : s.place.used ≤ 64
  pub numbers : s.place.first + s.place.used ≤ 2 ^ 62 - 64

pub record SoundLedger (l : Ledger) : Type 0 where
  pub standing : SoundStanding l.n l.sealed l.now
  pub spare : (k : ℕ) (d : Standing) → k < length l.spare → SoundStanding l.n l.sealed (slice_index_or l.spare k d)
  pub clean : l.live ≡ true → l.spare ≡ []
  pub holders : (length l.leases ≡ 8) × (length l.builds ≡ 8)
  pub leases : (q : Bytes) → on_lease l q ≡ true → has_hash q (paths l) ≡ true
  pub builds : (h : ℕ) (b : Build) → building l h ≡ Some b → SoundBuild l.n (paths l) b
  pub builds_apart : (h k : ℕ) (b c : Build) → (h ≢ k) → building l h ≡ Some b → building l k ≡ Some c → BuildsApart b c
  pub few : length (paths l) + length (half_built l) ≤ 40
  pub collection : (c : Collection) → l.collection ≡ Some c → SoundCollection (paths l) (root l) c
