-- When a call is refused: one line for each call and row of the table. Rows are looked at from the top.
use Rattle.std.specs.Prelude.{◌≡◌, ℕ, ◌+◌, ◌-◌, ◌^◌, ◌<◌, ◌≤◌, max, true, false, ◌||◌, List, [], ◌∷◌, length, get_or, take, drop, Some, None, ◌≢◌, slice_index_or}
use Rattle.std.specs.Str.{bytes_eq}
use Rattle.naming.specs.Hash.{hash_part, number_of}
use Rattle.naming.specs.Name.{Lawful}
use Rattle.model.specs.Plain.{Bytes, Path, Generation, Profile, Entry, register, commit, switch, forget, remove, no_path, blocks}
use Rattle.model.specs.Fits.{has_hash, has_number, refers, profile, Climbing}
use Rattle.model.specs.Free.{Free}
use Rattle.model.specs.Standing.{next_number}
use Rattle.ledger.specs.State.{Ledger, Build, Collection, has, catalogue, paths, leased, building, half_built, builds_hash, taken, the_path}
use Rattle.ledger.specs.Calls.{Call, Lease, Release, Begin, Put, Seal, Scrap, Commit, Rollback, Switch, Forget, Collect, Step, Open, ClosureOf, Read}

abbrev pub generations : Ledger → ℕ → List Generation
generations l p = (profile (catalogue l) p).generations

-- The greatest number of a profile's generations, or 0.
abbrev pub greatest : List Generation → ℕ
greatest [] = 0
greatest (g ∷ gs) = max g.number (greatest gs)

-- The greatest number below the current one: what a rollback goes to.
pub record BeforeCurrent (f : Profile) (k : ℕ) : Type 0 where
  pub there : has_number k f.generations ≡ true
  pub below : k < f.current
  pub greatest : (j : ℕ) → has_number j f.generations ≡ true → j < f.current → j ≤ k

-- A text stands at some position of a content.
abbrev pub StandsIn : Bytes → Bytes → Type 0
StandsIn text content = (i : ℕ) × ((i + length text ≤ length content) × (take (length text) (drop i content) ≡ text))

-- The references that a seal finds: those of the holder's leased paths, and the path itself, whose hash part stands in the bytes; in hash order.
abbrev pub Candidate : Ledger → ℕ → Build → Bytes → Type 0
Candidate l h b q = (has q (leased l h) || bytes_eq b.hash q) ≡ true

pub record References (l : Ledger) (h : ℕ) (b : Build) (rs : List Bytes) : Type 0 where
  pub climbing : Climbing rs
  pub found : (q : Bytes) → has q rs ≡ true → Candidate l h b q × StandsIn (hash_part q) b.put
  pub all : (q : Bytes) → Candidate l h b q → StandsIn (hash_part q) b.put → has q rs ≡ true

-- A registered path that is not marked, and to which no other path refers.
pub record Loose (l : Ledger) (c : Collection) (h : Bytes) : Type 0 where
  pub there : has_hash h (paths l) ≡ true
  pub unmarked : has h c.marked ≡ false
  pub unneeded : (k : ℕ) → k < length (paths l) → refers (slice_index_or (paths l) k no_path) h ≡ true → (get_or (paths l) k no_path).hash ≡ h

-- The one of them that is first in hash order: what a step removes when none waits.
pub record Removal (l : Ledger) (c : Collection) (h : Bytes) : Type 0 where
  pub idle : c.waiting ≡ []
  pub loose : Loose l c h
  pub first : (q : Bytes) → Loose l c q → number_of h ≤ number_of q

-- The path that a seal registers.
abbrev pub sealed_path : Build → List Bytes → Path
sealed_path b rs = record { hash = b.hash; name = b.name; size = b.size; first = b.first; refs = rs }

-- The entry that a call writes.
pub data Due (l : Ledger) : Call → Entry → Type 0 where
  due_seal : {h : ℕ} {b : Build} {rs : List Bytes} → building l h ≡ Some b → References l h b rs → Due l (Seal h) (register (sealed_path b rs))
  due_commit : {p : ℕ} {h : Bytes} → Due l (Commit p h) (commit p (greatest (generations l p) + 1) h)
  due_rollback : {p k : ℕ} → BeforeCurrent (profile (catalogue l) p) k → Due l (Rollback p) (switch p k)
  due_switch : {p k : ℕ} → Due l (Switch p k) (switch p k)
  due_forget : {p k : ℕ} → Due l (Forget p k) (forget p k)
  due_removal : {c : Collection} {h : Bytes} → l.collection ≡ Some c → Removal l c h → Due l Step (remove h)

pub data Row (l : Ledger) : Call → ℕ → Type 0 where
  -- 1: the store is shut
  shut : {call : Call} → l.live ≡ false → (call ≢ Open) → Row l call 1
  -- 2: an argument is out of range
  lease_holder : {h : ℕ} {q : Bytes} → 7 < h → Row l (Lease h q) 2
  release_holder : {h : ℕ} → 7 < h → Row l (Release h) 2
  begin_holder : {h : ℕ} {q name : Bytes} {size : ℕ} → 7 < h → Row l (Begin h q name size) 2
  begin_name : {h : ℕ} {q name : Bytes} {size : ℕ} → (Lawful name → ⊥) → Row l (Begin h q name size) 2
  begin_size : {h : ℕ} {q name : Bytes} {size : ℕ} → 16384 < size → Row l (Begin h q name size) 2
  put_holder : {h : ℕ} {piece : Bytes} → 7 < h → Row l (Put h piece) 2
  put_empty : {h : ℕ} {piece : Bytes} → length piece ≡ 0 → Row l (Put h piece) 2
  put_long : {h : ℕ} {piece : Bytes} → 256 < length piece → Row l (Put h piece) 2
  seal_holder : {h : ℕ} → 7 < h → Row l (Seal h) 2
  scrap_holder : {h : ℕ} → 7 < h → Row l (Scrap h) 2
  commit_profile : {p : ℕ} {q : Bytes} → 2 < p → Row l (Commit p q) 2
  rollback_profile : {p : ℕ} → 2 < p → Row l (Rollback p) 2
  switch_profile : {p k : ℕ} → 2 < p → Row l (Switch p k) 2
  forget_profile : {p k : ℕ} → 2 < p → Row l (Forget p k) 2
  read_room : {q : Bytes} {i room : ℕ} → (room ≢ 256) → Row l (Read q i room) 2
  read_past : {q : Bytes} {i room : ℕ} → has_hash q (paths l) ≡ true → blocks (the_path q (paths l)).size ≤ i → Row l (Read q i room) 2
  -- 3: the hash is not registered
  lease_unknown : {h : ℕ} {q : Bytes} → has_hash q (paths l) ≡ false → Row l (Lease h q) 3
  commit_unknown : {p : ℕ} {q : Bytes} → has_hash q (paths l) ≡ false → Row l (Commit p q) 3
  closure_unknown : {q : Bytes} → has_hash q (paths l) ≡ false → Row l (ClosureOf q) 3
  read_unknown : {q : Bytes} {i room : ℕ} → has_hash q (paths l) ≡ false → Row l (Read q i room) 3
  -- 4: the new hash is registered or half-built
  begin_taken : {h : ℕ} {q name : Bytes} {size : ℕ} → (has_hash q (paths l) || builds_hash q (half_built l)) ≡ true → Row l (Begin h q name size) 4
  -- 5: the holder builds already
  begin_building : {h : ℕ} {q name : Bytes} {size : ℕ} {b : Build} → building l h ≡ Some b → Row l (Begin h q name size) 5
  -- 6: the holder builds nothing
  put_nothing : {h : ℕ} {piece : Bytes} → building l h ≡ None → Row l (Put h piece) 6
  seal_nothing : {h : ℕ} → building l h ≡ None → Row l (Seal h) 6
  scrap_nothing : {h : ℕ} → building l h ≡ None → Row l (Scrap h) 6
  -- 7: the put passes the declared size, or the seal comes before it is reached
  put_past : {h : ℕ} {piece : Bytes} {b : Build} → building l h ≡ Some b → b.size < length b.put + length piece → Row l (Put h piece) 7
  seal_early : {h : ℕ} {b : Build} → building l h ≡ Some b → length b.put < b.size → Row l (Seal h) 7
  -- 10: registered and half-built paths are 40
  begin_full : {h : ℕ} {q name : Bytes} {size : ℕ} → 40 ≤ length (paths l) + length (half_built l) → Row l (Begin h q name size) 10
  -- 11: no free run of that length
  begin_room : {h : ℕ} {q name : Bytes} {size : ℕ} → 0 < blocks size → ((x : ℕ) → Free l.n (taken l) (record { start = x; count = blocks size }) → ⊥) → Row l (Begin h q name size) 11
  -- 12: the seal finds over 8 references
  seal_many : {h : ℕ} {b : Build} {rs : List Bytes} → building l h ≡ Some b → References l h b rs → 8 < length rs → Row l (Seal h) 12
  -- 13: no such generation; none to roll back to
  rollback_none : {p : ℕ} → ((k : ℕ) → BeforeCurrent (profile (catalogue l) p) k → ⊥) → Row l (Rollback p) 13
  switch_none : {p k : ℕ} → has_number k (generations l p) ≡ false → Row l (Switch p k) 13
  forget_none : {p k : ℕ} → has_number k (generations l p) ≡ false → Row l (Forget p k) 13
  -- 14: the generation is current
  forget_current : {p k : ℕ} → (profile (catalogue l) p).current ≡ k → Row l (Forget p k) 14
  -- 15: six generations, or the greatest number is reached
  commit_six : {p : ℕ} {q : Bytes} → 6 ≤ length (generations l p) → Row l (Commit p q) 15
  commit_greatest : {p : ℕ} {q : Bytes} → 999999 ≤ greatest (generations l p) → Row l (Commit p q) 15
  -- 16: an entry is due, and the journal's numbers are spent
  numbers_spent : {call : Call} {e : Entry} → Due l call e → 2 ^ 62 - 128 < next_number l.now.place → Row l call 16
  -- 17: a collection runs already; none runs
  collect_running : {c : Collection} → l.collection ≡ Some c → Row l Collect 17
  step_none : l.collection ≡ None → Row l Step 17

-- The row that refuses a call is the first, from the top, that applies; a call is granted where none does.
pub record First (l : Ledger) (call : Call) (k : ℕ) : Type 0 where
  pub applies : Row l call k
  pub above : (j : ℕ) → j < k → Row l call j → ⊥

abbrev pub Granted : Ledger → Call → Type 0
Granted l call = (k : ℕ) → Row l call k → ⊥
