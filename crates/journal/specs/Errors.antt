-- What errors of the journal are printed as.
use Rattle.std.specs.Prelude.{ℕ, List, codes}
use Rattle.journal.specs.declared.appending.AppendError.{AppendError}
use Rattle.journal.specs.declared.appending.AppendError.TheVariants.{NumbersSpent as AppendNumbersSpent, Failed as AppendFailed}
use Rattle.journal.specs.declared.formatting.FormatError.{FormatError}
use Rattle.journal.specs.declared.formatting.FormatError.TheVariants.{WrongSize, Failed as FormatFailed}
use Rattle.journal.specs.declared.keeping.EntryError.{EntryError}
use Rattle.journal.specs.declared.keeping.EntryError.TheVariants.{Unfit, NumbersSpent, Failed}

abbrev pub append_error_text : AppendError → List ℕ
append_error_text AppendNumbersSpent = codes "the journal's numbers are spent"
append_error_text (AppendFailed fault) = codes "the disk failed"

abbrev pub format_error_text : FormatError → List ℕ
format_error_text WrongSize = codes "no card has as many blocks"
format_error_text (FormatFailed fault) = codes "the disk failed"

abbrev pub entry_error_text : EntryError → List ℕ
entry_error_text Unfit = codes "the entry does not fit the catalogue"
entry_error_text NumbersSpent = codes "the journal's numbers are spent"
entry_error_text (Failed fault) = codes "the disk failed"
