-- The text of a name.
use Rattle.std.specs.Prelude.{ℕ, List, take}
use Rattle.naming.specs.declared.name.Name.{Name}

abbrev pub name_text : Name → List ℕ
name_text n = take n.len n.bytes
