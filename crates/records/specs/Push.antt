-- One more hash after others, of which there are at most eight.
use Rattle.std.specs.Prelude.{◌≡◌, ◌<◌, ⊤, List, [], ◌∷◌, ◌++◌, length, Result, Ok, Err}
use Rattle.naming.specs.declared.hash.Hash.{Hash}
use Rattle.records.specs.declared.full.Full.{Full}

abbrev pub Pushed : List Hash → Hash → Result ⊤ Full → List Hash → Type 0
Pushed before h (Ok done) after = (length before < 8) × (after ≡ before ++ (h ∷ []))
Pushed before h (Err full) after = (length before ≡ 8) × (after ≡ before)
