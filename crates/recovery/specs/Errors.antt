-- What an error of a load is printed as.
use Rattle.std.specs.Prelude.{ℕ, List, ◌++◌, codes, decimal}
use Rattle.recovery.specs.declared.loading.LoadError.{LoadError}
use Rattle.recovery.specs.declared.loading.LoadError.TheVariants.{Dark, WrongSize, BadLabel, BadEntry}

abbrev pub load_error_text : LoadError → List ℕ
load_error_text Dark = codes "the disk has no power"
load_error_text WrongSize = codes "no card has as many blocks"
load_error_text BadLabel = codes "the label is wrong"
load_error_text (BadEntry block) = codes "the entry in block " ++ decimal block ++ codes " is wrong"
