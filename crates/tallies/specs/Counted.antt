-- What one more ending makes of the counters, and what is said of them.
use Rattle.std.specs.Prelude.{ℕ, ◌+◌, ◌-◌, ◌^◌, min, List, ◌++◌, codes, decimal}
use Rattle.tallies.specs.declared.Ending.{Ending}
use Rattle.tallies.specs.declared.Ending.TheVariants.{Uncut, InFormat, Before, After, Neither}
use Rattle.tallies.specs.declared.Tally.{Tally}

-- One more, up to the greatest number of 32 bits.
abbrev pub one_more : ℕ → ℕ
one_more n = min (n + 1) (2 ^ 32 - 1)

-- The counters with this ending: its own counter is one more, and the others stay.
abbrev pub counted : Tally → Ending → Tally
counted t Uncut = record t { uncut = one_more t.uncut }
counted t InFormat = record t { in_format = one_more t.in_format }
counted t (Before _) = record t { before = one_more t.before }
counted t (After _) = record t { after = one_more t.after }
counted t Neither = record t { neither = one_more t.neither }

-- How many runs were not cut, and what was found after the others, but for those that were cut in the format of the card.
abbrev pub tally_text : Tally → List ℕ
tally_text t =
    decimal t.uncut ++ (codes " uncut, "
    ++ (decimal t.before ++ (codes " found as before, "
    ++ (decimal t.after ++ (codes " found as after, "
    ++ (decimal t.neither ++ codes " found otherwise"))))))
