-- When two records are the same: their equality tells them apart.
use Rattle.std.specs.Prelude.{◌≡◌, ◌-◌, ◌≤◌, ℕ, Bool, false, ◌&&◌, List, length, drop, replicate, Decides, ◌==◌}
use mathlib.Core.HLevel.{is_prop→PathP}
use mathlib.Core.Path.{ap, ap₂}
use denote.Struct.Props.{props}
use Rattle.std.specs.Cmp.{first_so, second_so, unsigned_Decides}
use Rattle.std.specs.Cmp.Lexicographic.{pointwise, pointwise_decides}
use Rattle.std.specs.Str.{bytes_eq}
use Rattle.naming.specs.Laws.{exact_hash, exact_name}
use Rattle.naming.specs.declared.hash.Hash.{Hash}
use Rattle.naming.specs.declared.name.Name.{Name}
use Rattle.std.proofs.lemmas.Bool.Decides.{Decides-and}
use Rattle.std.proofs.lemmas.Bool.{false≢true}
use Rattle.std.proofs.Common.{arith}
use Rattle.records.specs.declared.records.Generation.{Generation}
use Rattle.records.specs.declared.records.PathRecord.{PathRecord}
use Rattle.records.specs.declared.records.Entry.{Entry}
use Rattle.records.specs.declared.records.Entry.TheVariants.{Register, Commit, Switch, Forget, Remove}
use Rattle.records.specs.declared.runs.Run.{Run}
use Rattle.records.specs.Blank.{blank, bytes_each}
use Rattle.records.specs.declared.references.References.{References}

-- What a struct states of its fields has one proof.
pub same_references : (r s : References) → r.count ≡ s.count → r.hashes ≡ s.hashes → r ≡ s
same_references r s n e = λ i. record {
  count = n i;
  hashes = e i;
  whole = is_prop→PathP (λ j. length (e j) ≡ 8) (λ j. hlevel props) r.whole s.whole i;
  few = is_prop→PathP (λ j. n j ≤ 8) (λ j. hlevel props) r.few s.few i;
  rest = is_prop→PathP (λ j. bytes_each (drop (n j) (e j)) ≡ replicate (8 - n j) blank) (λ j. hlevel props) r.rest s.rest i;
}

abbrev pub equal_hashes : List Hash → List Hash → Bool
equal_hashes gs hs = pointwise (λ g h. bytes_eq g.bytes h.bytes) gs hs

pub exact_references : (r s : References) → Decides (r.count == s.count && equal_hashes r.hashes s.hashes) (r ≡ s)
exact_references r s =
    let counts : Decides (r.count == s.count) (r.count ≡ s.count) = unsigned_Decides r.count s.count in
    let lists : Decides (equal_hashes r.hashes s.hashes) (r.hashes ≡ s.hashes) = pointwise_decides exact_hash r.hashes s.hashes in (
      λ e. same_references r s (counts.0 (first_so (r.count == s.count) (equal_hashes r.hashes s.hashes) e)) (lists.0 (second_so (r.count == s.count) (equal_hashes r.hashes s.hashes) e)),
      λ e. ap₂ ◌&&◌ (counts.1 (ap (λ x. x.count) e)) (lists.1 (ap (λ x. x.hashes) e)),
    )

pub exact_generation : (g h : Generation) → Decides (g.number == h.number && bytes_eq g.hash.bytes h.hash.bytes) (g ≡ h)
exact_generation g h =
    let both = Decides-and _ _ (unsigned_Decides g.number h.number) (exact_hash g.hash h.hash) in (
      λ e. let same = both.0 e in λ i. record { number = same.0 i; hash = same.1 i },
      λ e. both.1 (ap (λ x. x.number) e, ap (λ x. x.hash) e),
    )

pub exact_run : (r s : Run) → Decides (r.first == s.first && r.count == s.count) (r ≡ s)
exact_run r s =
    let both = Decides-and _ _ (unsigned_Decides r.first s.first) (unsigned_Decides r.count s.count) in (
      λ e. let same = both.0 e in λ i. record { first = same.0 i; count = same.1 i },
      λ e. both.1 (ap (λ x. x.first) e, ap (λ x. x.count) e),
    )

abbrev pub equal_names : Name → Name → Bool
equal_names m n = m.len == n.len && bytes_eq m.bytes n.bytes

abbrev pub equal_references : References → References → Bool
equal_references r s = r.count == s.count && equal_hashes r.hashes s.hashes

abbrev pub equal_paths : PathRecord → PathRecord → Bool
equal_paths p q = bytes_eq p.hash.bytes q.hash.bytes && (equal_names p.name q.name && (p.size == q.size && (p.first == q.first && equal_references p.refs q.refs)))

pub exact_path : (p q : PathRecord) → Decides (equal_paths p q) (p ≡ q)
exact_path p q =
    let all = Decides-and _ _ (exact_hash p.hash q.hash) (Decides-and _ _ (exact_name p.name q.name) (Decides-and _ _ (unsigned_Decides p.size q.size)
    (Decides-and _ _ (unsigned_Decides p.first q.first) (exact_references p.refs q.refs)))) in (
      λ e. let same = all.0 e in λ i. record { hash = same.0 i; name = same.1.0 i; size = same.1.1.0 i; first = same.1.1.1.0 i; refs = same.1.1.1.1 i },
      λ e. all.1 (ap (λ x. x.hash) e, (ap (λ x. x.name) e, (ap (λ x. x.size) e, (ap (λ x. x.first) e, ap (λ x. x.refs) e)))),
    )

-- Entries are equal where they are of one kind and say the same.
abbrev pub equal_entries : Entry → Entry → Bool
equal_entries (Register p) (Register q) = equal_paths p q
equal_entries (Commit p k h) (Commit q m g) = p == q && (k == m && bytes_eq h.bytes g.bytes)
equal_entries (Switch p k) (Switch q m) = p == q && k == m
equal_entries (Forget p k) (Forget q m) = p == q && k == m
equal_entries (Remove h) (Remove g) = bytes_eq h.bytes g.bytes
equal_entries x y = false

abbrev kind : Entry → ℕ
kind (Register p) = 0
kind (Commit p k h) = 1
kind (Switch p k) = 2
kind (Forget p k) = 3
kind (Remove h) = 4

apart : (x y : Entry) → (kind x ≡ kind y → ⊥) → Decides false (x ≡ y)
apart x y ne = (λ e. absurd (false≢true e), λ e. absurd (ne (ap kind e)))

-- What an entry says, if it says it.
abbrev path_or : PathRecord → Entry → PathRecord
path_or d (Register p) = p
path_or d x = d

abbrev profile : Entry → ℕ
profile (Commit p k h) = p
profile (Switch p k) = p
profile (Forget p k) = p
profile x = 0

abbrev number : Entry → ℕ
number (Commit p k h) = k
number (Switch p k) = k
number (Forget p k) = k
number x = 0

abbrev hash_or : Hash → Entry → Hash
hash_or d (Commit p k h) = h
hash_or d (Remove h) = h
hash_or d x = d

decides_entry : (x y : Entry) → Decides (equal_entries x y) (x ≡ y)
decides_entry (Register p) (Register q) = let all = exact_path p q in (λ e. ap Register (all.0 e), λ e. all.1 (ap (path_or p) e))
decides_entry (Commit p k h) (Commit q m g) =
    let all = Decides-and _ _ (unsigned_Decides p q) (Decides-and _ _ (unsigned_Decides k m) (exact_hash h g)) in (
      λ e. let same = all.0 e in λ i. Commit (same.0 i) (same.1.0 i) (same.1.1 i),
      λ e. all.1 (ap profile e, (ap number e, ap (hash_or h) e)),
    )
decides_entry (Switch p k) (Switch q m) =
    let both = Decides-and _ _ (unsigned_Decides p q) (unsigned_Decides k m) in (
      λ e. let same = both.0 e in λ i. Switch (same.0 i) (same.1 i),
      λ e. both.1 (ap profile e, ap number e),
    )
decides_entry (Forget p k) (Forget q m) =
    let both = Decides-and _ _ (unsigned_Decides p q) (unsigned_Decides k m) in (
      λ e. let same = both.0 e in λ i. Forget (same.0 i) (same.1 i),
      λ e. both.1 (ap profile e, ap number e),
    )
decides_entry (Remove h) (Remove g) = let same = exact_hash h g in (λ e. ap Remove (same.0 e), λ e. same.1 (ap (hash_or h) e))
decides_entry x y = apart x y (λ e. omega (arith, e))

-- A test that answers as theirs does.
pub exact_entry : (eq : Entry → Entry → Bool) → ((x y : Entry) → eq x y ≡ equal_entries x y) → (x y : Entry) → Decides (eq x y) (x ≡ y)
exact_entry eq same x y = rw (same x y) (decides_entry x y)
