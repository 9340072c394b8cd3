-- Worked examples of hash parts and names, of the definitions themselves.
use Rattle.std.specs.Prelude.{◌≡◌, [], ◌∷◌, ◌++◌, replicate, codes}
use Rattle.naming.specs.Hash.{hash_part}
use Rattle.naming.specs.Name.{Lawful}

pub record Examples : Type 0 where
  pub lowest : hash_part (1 ∷ replicate 19 0) ≡ codes "00000000000000000000000000000001"
  pub highest : hash_part (replicate 19 0 ++ (128 ∷ [])) ≡ codes "h0000000000000000000000000000000"
  pub letter : Lawful (codes "a")
  pub dot : Lawful (codes ".a") → ⊥
