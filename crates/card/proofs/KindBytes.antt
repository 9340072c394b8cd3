-- A byte that is of no kind.
use Rattle.std.proofs.Common.{◌≡◌, ℕ, List, None, Ok, Err, Result, sym, ◌∙◌, arith}
use Rattle.std.specs.Result.{result_ok}
use Rattle.model.specs.Plain.{Entry, register, commit, switch, forget, remove}
use Rattle.card.specs.Entries.{Says}
use Rattle.card.specs.Fields.{kind_field, read}
use Rattle.card.specs.Kinds.{IsKindOf}
use Rattle.card.specs.declared.kind.Kind.{Kind}
use Rattle.card.specs.declared.kind.Kind.TheVariants.{Register, Commit, Switch, Forget, Remove}
use Rattle.card.specs.declared.kind.UnknownKind.{UnknownKind}

-- A byte of no kind begins no entry.
pub no_kind : (block : List ℕ) (byte : ℕ) (r : Result Kind UnknownKind) → byte ≡ read kind_field block → IsKindOf byte r → None ≡ result_ok r
    → (e : Entry) → Says block e → ⊥
no_kind block byte (Ok found) same of_byte is e says = let z : ◌≡◌ {A = ℕ} 0 1 = cc in absurd (omega arith)
no_kind block byte (Err unknown) same none is (register p) (kind, says) = none Register (sym (same ∙ kind))
no_kind block byte (Err unknown) same none is (commit p k h) (kind, _, _, _) = none Commit (sym (same ∙ kind))
no_kind block byte (Err unknown) same none is (switch p k) (kind, _, _) = none Switch (sym (same ∙ kind))
no_kind block byte (Err unknown) same none is (forget p k) (kind, _, _) = none Forget (sym (same ∙ kind))
no_kind block byte (Err unknown) same none is (remove h) (kind, says) = none Remove (sym (same ∙ kind))
