-- The ledger: what is known of a store from its calls and answers alone.
use Rattle.std.specs.Prelude.{ℕ, Bool, true, cond, ◌||◌, List, [], ◌∷◌, ◌++◌, map, replicate, Some, None, Option, slice_index_or}
use Rattle.std.specs.Str.{bytes_eq}
use Rattle.model.specs.Plain.{Bytes, Path, Catalogue, nothing, Span, blocks, run, no_path}
use Rattle.model.specs.Fits.{any, names_path}
use Rattle.model.specs.Standing.{Standing}

-- A half-built path: its run starts at `first`, and `put` are the bytes that have come.
pub record Build : Type 0 where
  pub hash : Bytes
  pub name : Bytes
  pub size : ℕ
  pub first : ℕ
  pub put : Bytes

-- A collection: the hashes that wait to be marked, and those that are.
pub record Collection : Type 0 where
  pub waiting : List Bytes
  pub marked : List Bytes

-- What a seal gave a path: its bytes, and the references found in them.
pub record Content : Type 0 where
  pub bytes : Bytes
  pub refs : List Bytes

-- Leases and builds go by holder, 0 to 7. `spare` is what else an open may find: nothing, unless a call met a power cut.
-- `sealed` has, for each hash, what the last seal under it gave, done or cut.
pub record Ledger : Type 0 where
  pub n : ℕ
  pub live : Bool
  pub now : Standing
  pub spare : List Standing
  pub sealed : Bytes → Content
  pub leases : List (List Bytes)
  pub builds : List (Option Build)
  pub collection : Option Collection

-- Whether a hash is among hashes.
abbrev pub has : Bytes → List Bytes → Bool
has h hs = any (λ x. bytes_eq x h) hs

abbrev pub catalogue : Ledger → Catalogue
catalogue l = l.now.catalogue

abbrev pub paths : Ledger → List Path
paths l = (catalogue l).paths

-- What a holder leases, and what a holder builds.
abbrev pub leased : Ledger → ℕ → List Bytes
leased l h = slice_index_or l.leases h []

abbrev pub building : Ledger → ℕ → Option Build
building l h = slice_index_or l.builds h None

-- The path of a hash.
abbrev pub the_path : Bytes → List Path → Path
the_path h [] = no_path
the_path h (p ∷ ps) = cond (bytes_eq p.hash h) p (the_path h ps)

-- All builds.
abbrev pub somes : {A : Type 0} → List (Option A) → List A
somes [] = []
somes (None ∷ xs) = somes xs
somes (Some x ∷ xs) = x ∷ somes xs

abbrev pub half_built : Ledger → List Build
half_built l = somes l.builds

abbrev pub builds_hash : Bytes → List Build → Bool
builds_hash h bs = any (λ b. bytes_eq b.hash h) bs

abbrev pub build_run : Build → Span
build_run b = record { start = b.first; count = blocks b.size }

-- The runs that are taken: those of registered and of half-built paths.
abbrev pub taken : Ledger → List Span
taken l = map run (paths l) ++ map build_run (half_built l)

-- Whether some generation names the path, or some holder leases it: a root.
abbrev pub named : Catalogue → Bytes → Bool
named cat h = any (λ f. names_path h f.generations) cat.profiles

abbrev pub on_lease : Ledger → Bytes → Bool
on_lease l h = any (λ hs. has h hs) l.leases

abbrev pub root : Ledger → Bytes → Bool
root l h = named (catalogue l) h || on_lease l h

-- A fresh card of n blocks, just formatted.
abbrev pub fresh : ℕ → Ledger
fresh n = record {
  n = n;
  live = true;
  now = record { catalogue = nothing; place = record { first = 1; used = 0 } };
  spare = [];
  sealed = λ _. record { bytes = []; refs = [] };
  leases = replicate 8 [];
  builds = replicate 8 None;
  collection = None;
}
