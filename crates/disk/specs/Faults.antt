-- What a fault is printed as.
use Rattle.std.specs.Prelude.{ℕ, List, codes}
use Rattle.disk.specs.declared.Fault.{Fault}
use Rattle.disk.specs.declared.Fault.TheVariants.{Dark, NoBlock}

abbrev pub fault_text : Fault → List ℕ
fault_text Dark = codes "the disk has no power"
fault_text NoBlock = codes "the disk has no such block"
