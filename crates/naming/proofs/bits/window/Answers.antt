use Rattle.naming.proofs.Digits.{shifted_window}
use Rattle.naming.proofs.bits.window.Goals as goal

pub returns : goal.returns
returns c =
    shifted_window c.args.wide c.args.from c.args.width c.args.digits.now _ _ _ c.requires.digit.0 c.requires.digit.1 c.requires.field.0 c.requires.field.1 c.requires.below
    c.digit-low.ensures c.digit.ensures c.digit-2.ensures
