-- Worked examples of the rules.
use Rattle.std.specs.Prelude.{◌≡◌, true, [], ◌∷◌, ◌++◌, replicate, None, codes}
use Rattle.naming.specs.Hash.{hash_part}
use Rattle.naming.specs.Name.{Lawful}
use Rattle.model.specs.Plain.{Bytes, Path, unused}
use Rattle.ledger.specs.State.{Ledger, fresh}
use Rattle.ledger.specs.Calls.{Collect, Step, Done, Marked, Removed, Ended}
use Rattle.ledger.specs.Rules.{Reserved, Run}

-- The hashes whose hash parts are 32 letters a and 32 letters d.
abbrev pub letters_a : Bytes
letters_a = 74 ∷ (41 ∷ (165 ∷ (148 ∷ (82 ∷ (74 ∷ (41 ∷ (165 ∷ (148 ∷ (82 ∷ (74 ∷ (41 ∷ (165 ∷ (148 ∷ (82 ∷ (74 ∷ (41 ∷ (165 ∷ (148 ∷ (82 ∷ [])))))))))))))))))))

abbrev pub letters_d : Bytes
letters_d = 173 ∷ (181 ∷ (214 ∷ (90 ∷ (107 ∷ (173 ∷ (181 ∷ (214 ∷ (90 ∷ (107 ∷ (173 ∷ (181 ∷ (214 ∷ (90 ∷ (107 ∷ (173 ∷ (181 ∷ (214 ∷ (90 ∷ (107 ∷ [])))))))))))))))))))

abbrev pub empty_path : Bytes → Path
empty_path h = record { hash = h; name = codes "a"; size = 0; first = 0; refs = [] }

-- Two paths, with no references and no leases, of which the first alone is committed.
abbrev pub two_paths : Ledger
two_paths = record {
  n = 256;
  live = true;
  now = record {
    catalogue = record {
      paths = empty_path letters_a ∷ (empty_path letters_d ∷ []);
      profiles = record { generations = record { number = 1; path = letters_a } ∷ []; current = 1 } ∷ (unused ∷ (unused ∷ []));
    };
    place = record { first = 1; used = 3 };
  };
  spare = [];
  sealed = λ _. record { bytes = []; refs = [] };
  leases = replicate 8 [];
  builds = replicate 8 None;
  collection = None;
}

pub record Examples : Type 0 where
  pub low_byte : hash_part (1 ∷ replicate 19 0) ≡ codes "00000000000000000000000000000001"
  pub high_byte : hash_part (replicate 19 0 ++ (128 ∷ [])) ≡ codes "h0000000000000000000000000000000"
  pub all_a : hash_part letters_a ≡ codes "aaaaaaaaaaaaaaaaaaaaaaaaaaaaaaaa"
  pub all_d : hash_part letters_d ≡ codes "dddddddddddddddddddddddddddddddd"
  pub name : Lawful (codes "a")
  pub no_name : Lawful (codes ".a") → ⊥
  pub size_0 : Reserved (fresh 256) 0 0
  pub size_256 : Reserved (fresh 256) 256 255
  pub size_257 : Reserved (fresh 256) 257 254
  pub collected : (last : Ledger) × Run two_paths (Collect ∷ (Step ∷ (Step ∷ (Step ∷ [])))) (Done ∷ (Marked letters_a ∷ (Removed letters_d ∷ (Ended ∷ [])))) last
