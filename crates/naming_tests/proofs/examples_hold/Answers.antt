use Rattle.std.proofs.Common.{refl, rules}
use Rattle.naming.specs.Hash.{hash_part}
use Rattle.naming_tests.proofs.examples_hold.Goals as goal

pub returns : goal.returns
unfolding hash_part
returns c = (
  refl,
  record {
    lowest = refl;
    highest = refl;
    letter = search rules;
    dot = λ l. l.3 refl;
  },
)
