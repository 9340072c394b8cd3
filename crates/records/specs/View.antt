-- Paths, generations and entries as the model's plain data.
use Rattle.std.specs.Prelude.{ℕ, List, map, take}
use Rattle.naming.specs.declared.hash.Hash.{Hash}
use Rattle.naming.specs.Texts.{name_text}
use Rattle.model.specs.Plain as plain
use Rattle.records.specs.declared.references.References.{References}
use Rattle.records.specs.declared.records.PathRecord.{PathRecord}
use Rattle.records.specs.declared.records.Generation.{Generation}
use Rattle.records.specs.declared.records.Entry.{Entry}
use Rattle.records.specs.declared.records.Entry.TheVariants.{Register, Commit, Switch, Forget, Remove}

abbrev pub bytes_of : Hash → List ℕ
bytes_of h = h.bytes

-- The hashes that are there, without the fillers.
abbrev pub listed : References → List Hash
listed r = take r.count r.hashes

abbrev pub path_of : PathRecord → plain.Path
path_of p = record {
  hash = p.hash.bytes;
  name = name_text p.name;
  size = p.size;
  first = p.first;
  refs = map bytes_of (listed p.refs);
}

abbrev pub generation_of : Generation → plain.Generation
generation_of g = record { number = g.number; path = g.hash.bytes }

abbrev pub entry_of : Entry → plain.Entry
entry_of (Register p) = plain.register (path_of p)
entry_of (Commit p k h) = plain.commit p k h.bytes
entry_of (Switch p k) = plain.switch p k
entry_of (Forget p k) = plain.forget p k
entry_of (Remove h) = plain.remove h.bytes
