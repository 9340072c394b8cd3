-- Which entry fits a catalogue, what it makes of it, and which catalogues entries make.
use Rattle.std.specs.Prelude.{◌≡◌, ℕ, ◌+◌, ◌<◌, ◌≤◌, Bool, true, false, not, ◌||◌, List, [], ◌∷◌, ◌++◌, length, get_or, filter, ◌==◌, ◌≢◌, nat_eq, slice_index, slice_index_or, slice_set}
use Rattle.std.specs.Str.{bytes_eq}
use Rattle.naming.specs.Hash.{number_of}
use Rattle.naming.specs.Name.{Lawful}
use Rattle.model.specs.Lists.{Chain}
use Rattle.model.specs.Plain.{Bytes, Path, Generation, Profile, Catalogue, Entry, register, commit, switch, forget, remove, unused, nothing, no_path, no_generation, Span, run}

-- A test of each element, on any of them.
abbrev pub any : {A : Type 0} → (A → Bool) → List A → Bool
any test [] = false
any test (x ∷ xs) = test x || any test xs

-- Whether a path of this hash is among the paths; whether a generation of this number, or of this path, is among the generations.
abbrev pub has_hash : Bytes → List Path → Bool
has_hash h paths = any (λ p. bytes_eq p.hash h) paths

abbrev pub has_number : ℕ → List Generation → Bool
has_number k gens = any (λ g. nat_eq g.number k) gens

abbrev pub names_path : Bytes → List Generation → Bool
names_path h gens = any (λ g. bytes_eq g.path h) gens

-- Whether a path refers to this hash.
abbrev pub refers : Path → Bytes → Bool
refers p h = any (λ r. bytes_eq r h) p.refs

abbrev pub Registered : Catalogue → Bytes → Type 0
Registered cat h = has_hash h cat.paths ≡ true

abbrev pub profile : Catalogue → ℕ → Profile
profile cat p = slice_index_or cat.profiles p unused

-- A hash has 20 bytes.
abbrev pub Whole : Bytes → Type 0
Whole h = (length h ≡ 20) × ((k : ℕ) → slice_index h k < 256)

-- Two runs are apart: no block is in both.
abbrev pub Within : Span → ℕ → Type 0
Within s x = (s.start ≤ x) × (x < s.start + s.count)

abbrev pub Apart : Span → Span → Type 0
Apart s t = (x : ℕ) → Within s x → Within t x → ⊥

-- A run lies in the data: from block 129 to the last of n. A run of no blocks starts at 0.
abbrev pub InData : ℕ → Span → Type 0
InData n s = (0 < s.count → (129 ≤ s.start) × (s.start + s.count ≤ n)) × (s.count ≡ 0 → s.start ≡ 0)

-- Hashes all different and in hash order.
abbrev pub Climbing : List Bytes → Type 0
Climbing hs = (k : ℕ) → k + 1 < length hs → number_of (slice_index_or hs k []) < number_of (slice_index_or hs (k + 1) [])

-- A path may be registered after these ones.
pub record Registrable (n : ℕ) (paths : List Path) (p : Path) : Type 0 where
  pub whole : Whole p.hash
  pub new : has_hash p.hash paths ≡ false
  pub room : length paths < 40
  pub lawful : Lawful p.name
  pub small : p.size ≤ 16384
  pub placed : InData n (run p)
  pub apart : (k : ℕ) → k < length paths → Apart (run p) (run (slice_index_or paths k no_path))
  pub few : length p.refs ≤ 8
  pub climbing : Climbing p.refs
  -- each reference leads to one of these paths or to the path itself
  pub known : (k : ℕ) → k < length p.refs → (has_hash (slice_index_or p.refs k []) paths || bytes_eq p.hash (slice_index_or p.refs k [])) ≡ true

-- A generation may follow these ones.
pub record Committable (paths : List Path) (gens : List Generation) (g : Generation) : Type 0 where
  pub room : length gens < 6
  pub there : has_hash g.path paths ≡ true
  pub above : (k : ℕ) → k < length gens → (get_or gens k no_generation).number < g.number
  pub low : g.number ≤ 999999

-- A path may be removed: no generation names it, and no other path refers to it.
pub record Removable (cat : Catalogue) (h : Bytes) : Type 0 where
  pub there : Registered cat h
  pub unnamed : (p : ℕ) → p < length cat.profiles → names_path h (profile cat p).generations ≡ false
  pub unneeded : (k : ℕ) → k < length cat.paths → refers (slice_index_or cat.paths k no_path) h ≡ true → (get_or cat.paths k no_path).hash ≡ h

-- Which entry fits a catalogue on a card of n blocks.
abbrev pub Fits : ℕ → Catalogue → Entry → Type 0
Fits n cat (register p) = Registrable n cat.paths p
Fits n cat (commit p k h) = (p < 3) × Committable cat.paths (profile cat p).generations (record { number = k; path = h })
Fits n cat (switch p k) = (p < 3) × (has_number k (profile cat p).generations ≡ true)
Fits n cat (forget p k) = (p < 3) × (has_number k (profile cat p).generations ≡ true) × ((profile cat p).current ≢ k)
Fits n cat (remove h) = Removable cat h

-- The catalogue with another profile in one place.
abbrev pub with_profile : Catalogue → ℕ → Profile → Catalogue
with_profile cat p f = record { paths = cat.paths; profiles = slice_set cat.profiles p f }

-- What an entry makes of a catalogue.
abbrev pub after : Catalogue → Entry → Catalogue
after cat (register p) = record { paths = cat.paths ++ (p ∷ []); profiles = cat.profiles }
after cat (commit p k h) = with_profile cat p (record { generations = (profile cat p).generations ++ (record { number = k; path = h } ∷ []); current = k })
after cat (switch p k) = with_profile cat p (record { generations = (profile cat p).generations; current = k })
after cat (forget p k) =
    with_profile cat p (record { generations = filter (λ g. not (g.number == k)) (profile cat p).generations; current = (profile cat p).current })
after cat (remove h) = record { paths = filter (λ p. not (bytes_eq p.hash h)) cat.paths; profiles = cat.profiles }

-- The catalogue that entries make, in order, from nothing: each fits what those before it made.
pub data Makes (n : ℕ) : List Entry → Catalogue → Type 0 where
  start : Makes n [] nothing
  then : {entries : List Entry} {cat : Catalogue} (e : Entry) → Makes n entries cat → Fits n cat e → Makes n (entries ++ (e ∷ [])) (after cat e)

-- What holds of every catalogue that entries make: each path may be registered after those before it, so its references lead to earlier rows or
-- to itself, hashes differ and runs are apart; each generation may follow those before it and names a registered path; a profile with
-- generations has one of them current.
pub record SoundProfile (paths : List Path) (f : Profile) : Type 0 where
  pub rising : Chain (Committable paths) no_generation f.generations
  pub chosen : 0 < length f.generations → has_number f.current f.generations ≡ true
  pub none : length f.generations ≡ 0 → f.current ≡ 0

pub record Sound (n : ℕ) (cat : Catalogue) : Type 0 where
  pub rows : Chain (Registrable n) no_path cat.paths
  pub three : length cat.profiles ≡ 3
  pub profiles : (p : ℕ) → p < 3 → SoundProfile cat.paths (profile cat p)
