-- The power cuts at each of the operations before one.
use Rattle.std.specs.Prelude.{ℕ, ◌-◌, List, map}
use Rattle.std.specs.List.{flat_map, range_with_len}
use Rattle.tallies.specs.declared.cuts.Cut.{Cut}

-- A cut at each operation before this one, with each of the numbers. Operations count from 1.
abbrev pub every_cut : ℕ → List ℕ → List Cut
every_cut end numbers = flat_map (λ at. map (λ kept. record { at = at; kept = kept }) numbers) (range_with_len 1 (end - 1))
