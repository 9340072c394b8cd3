-- The checkpoint: the entries that make a catalogue again.
use Rattle.std.specs.Prelude.{ℕ, ◌+◌, List, [], ◌∷◌, ◌++◌, map}
use Rattle.model.specs.Plain.{Generation, Profile, Catalogue, Entry, register, commit, switch}

-- A profile with any generations: a commit for each, by rising number, and a switch to the current one.
abbrev pub current_entry : ℕ → ℕ → List Generation → List Entry
current_entry p k [] = []
current_entry p k (g ∷ gs) = switch p k ∷ []

abbrev pub profile_listing : ℕ → Profile → List Entry
profile_listing p f = map (λ g. commit p g.number g.path) f.generations ++ current_entry p f.current f.generations

abbrev pub profiles_listing : ℕ → List Profile → List Entry
profiles_listing p [] = []
profiles_listing p (f ∷ fs) = profile_listing p f ++ profiles_listing (p + 1) fs

-- Paths in registration order, then the profiles.
abbrev pub listing : Catalogue → List Entry
listing cat = map register cat.paths ++ profiles_listing 0 cat.profiles
