use Rattle.std.proofs.Common.{sym, ◌∙◌}
use Rattle.std.proofs.lemmas.Bool.{false≢true, not-false}
use Rattle.catalogue.proofs.Removes.{removable_named}
use Rattle.catalogue.proofs.removing.is_removable.Goals as goal
use Rattle.catalogue.proofs.removing.is_removable.Goals.{then-is_registered, else-is_registered}

pub returns-else-not-is_generation : goal.returns-else-not-is_generation
returns-else-not-is_generation c =
    let refused = c.if-not-is_generation.false in (
      λ e. absurd (false≢true (sym refused ∙ e)),
      λ all. elim c.if-is_registered.branch [
        | then-is_registered w ↦ absurd (removable_named c.args.hash.now.bytes c.args.paths.now c.args.profiles.now (sym (not-false _ (sym w.value-is ∙ refused)) ∙ w.is_generation.ensures) all)
        | else-is_registered w ↦ w.value-is ∙ (c.is_registered.ensures ∙ all.there)
      ],
    )
