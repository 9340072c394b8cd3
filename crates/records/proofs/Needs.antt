-- The rule of a removal that looks at every path.
use Rattle.std.proofs.Common.{◌≡◌, ℕ, Bool, true, not, ◌&&◌, List, map, Decides, ◌∙◌, inl, inr}
use Rattle.std.specs.List.{list_any}
use Rattle.std.specs.Str.{bytes_eq}
use Rattle.std.proofs.lemmas.Slice.Eq.{bytes_eq-Decides}
use Rattle.std.proofs.lemmas.Bool.{and_parts, and_cases, both_ways, not-true, not-false}
use Rattle.model.specs.Plain.{Path, no_path}
use Rattle.model.specs.Fits.{any, refers}
use Rattle.records.specs.declared.records.PathRecord.{PathRecord}
use Rattle.records.specs.Needed.{Unneeded}
use Rattle.records.specs.View.{path_of}
use Rattle.records.proofs.Apart.{decides_none}
use Rattle.records.proofs.Finds.{mapped_any}

module _ (h : List ℕ) where
  abbrev pub needing : Path → Bool
  needing p = refers p h && not (bytes_eq p.hash h)

  unneeded_is : (paths : List Path) → Decides (not (any needing paths)) (Unneeded paths h)
  unneeded_is paths =
      decides_none needing (λ p. refers p h ≡ true → p.hash ≡ h) paths no_path
      (λ p e r.
      elim (and_cases (refers p h) (not (bytes_eq p.hash h)) e) [
        | inl off ↦ absurd (both_ways (refers p h) off r)
        | inr same ↦ (bytes_eq-Decides p.hash h).0 (not-false (bytes_eq p.hash h) same)
      ])
      (λ p e rule.
      let both = and_parts (refers p h) (not (bytes_eq p.hash h)) e in
      both_ways (bytes_eq p.hash h) (not-true (bytes_eq p.hash h) both.1) ((bytes_eq-Decides p.hash h).1 (rule both.0)))

  pub unneeded_decided : (paths : List PathRecord) (r : Bool) → r ≡ list_any (λ p. needing (path_of p)) paths
      → Decides (not r) (Unneeded (map path_of paths) h)
  unneeded_decided paths r found =
      let told : r ≡ any needing (map path_of paths) = found ∙ mapped_any path_of needing paths in rw told (unneeded_is (map path_of paths))
