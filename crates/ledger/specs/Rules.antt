-- What each call answers, and the ledger that it leaves; and whole runs.
use Rattle.std.specs.Prelude.{◌≡◌, ℕ, ◌+◌, ◌-◌, ◌*◌, ◌<◌, ◌≤◌, min, Bool, true, false, cond, not, ◌||◌, ◌⊎◌, List, [], ◌∷◌, ◌++◌, map, length, get_or, take, drop, replicate, Some, None, Decides, count_by, filter, Option, ◌≢◌, slice_index_or, slice_set}
use Rattle.std.specs.Str.{bytes_eq}
use Rattle.naming.specs.Hash.{number_of}
use Rattle.model.specs.Plain.{Bytes, Path, Entry, register, commit, switch, forget, remove, no_path, blocks}
use Rattle.model.specs.Fits.{has_hash, profile, Whole, Registered}
use Rattle.model.specs.Free.{LastFree}
use Rattle.model.specs.Closure.{Closure}
use Rattle.ledger.specs.declared.refusals.Refusal.{Refusal}
use Rattle.ledger.specs.declared.refusals.Refusal.TheVariants.{Shut}
use Rattle.model.specs.Standing.{Standing, full, moved, entered}
use Rattle.ledger.specs.State.{Ledger, Build, Content, Collection, has, catalogue, paths, leased, building, taken, the_path, root}
use Rattle.ledger.specs.Calls.{Call, Lease, Release, Begin, Put, Seal, Scrap, Commit, Rollback, Switch, Forget, Collect, Step, Open, Find, ClosureOf, Read, Answer, Done, Number, Marked, Removed, Ended, Found, Members, Block, Refused, row}
use Rattle.ledger.specs.Rows.{generations, greatest, References, Due, First, Granted, sealed_path, BeforeCurrent}

-- The ledger with another part.
abbrev pub with_leases : Ledger → List (List Bytes) → Ledger
with_leases l leases = record { n = l.n; live = l.live; now = l.now; spare = l.spare; sealed = l.sealed; leases = leases; builds = l.builds; collection = l.collection }

abbrev pub with_builds : Ledger → List (Option Build) → Ledger
with_builds l builds = record { n = l.n; live = l.live; now = l.now; spare = l.spare; sealed = l.sealed; leases = l.leases; builds = builds; collection = l.collection }

abbrev pub with_collection : Ledger → Option Collection → Ledger
with_collection l collection = record { n = l.n; live = l.live; now = l.now; spare = l.spare; sealed = l.sealed; leases = l.leases; builds = l.builds; collection = collection }

abbrev pub with_entry : Ledger → Entry → Ledger
with_entry l e = record { n = l.n; live = l.live; now = entered l.now e; spare = l.spare; sealed = l.sealed; leases = l.leases; builds = l.builds; collection = l.collection }

abbrev pub with_sealed : Ledger → (Bytes → Content) → Ledger
with_sealed l sealed = record { n = l.n; live = l.live; now = l.now; spare = l.spare; sealed = sealed; leases = l.leases; builds = l.builds; collection = l.collection }

abbrev pub lease : Ledger → ℕ → Bytes → Ledger
lease l h q = with_leases l (slice_set l.leases h (q ∷ leased l h))

abbrev pub release : Ledger → ℕ → Ledger
release l h = with_leases l (slice_set l.leases h [])

abbrev pub build : Ledger → ℕ → Option Build → Ledger
build l h b = with_builds l (slice_set l.builds h b)

-- The bytes and references of a path, as its last seal gave them.
abbrev pub content_with : (Bytes → Content) → Bytes → Content → Bytes → Content
content_with sealed h c q = cond (bytes_eq h q) c (sealed q)

abbrev pub seal : Ledger → Build → List Bytes → Ledger
seal l b rs = with_sealed l (content_with l.sealed b.hash (record { bytes = b.put; refs = rs }))

-- While a collection runs, a path newly leased, committed or sealed waits, unless it is marked.
abbrev pub also_waits : Bytes → Option Collection → Option Collection
also_waits q None = None
also_waits q (Some c) = Some (cond (has q c.waiting || has q c.marked) c (record { waiting = q ∷ c.waiting; marked = c.marked }))

abbrev pub waits : Ledger → Bytes → Ledger
waits l q = with_collection l (also_waits q l.collection)

-- A collection begins: every root waits.
abbrev pub roots : Ledger → List Bytes
roots l = filter (root l) (map (λ p. p.hash) (paths l))

-- The first of the waiting paths in hash order.
pub record NextWaiting (c : Collection) (w : Bytes) : Type 0 where
  pub there : has w c.waiting ≡ true
  pub first : (q : Bytes) → has q c.waiting ≡ true → number_of w ≤ number_of q

-- It is marked, and its references that neither wait nor are marked then wait.
abbrev pub mark : List Path → Collection → Bytes → Collection
mark ps c w = record {
  waiting = filter (λ q. not (bytes_eq q w)) c.waiting ++ filter (λ r. not (has r c.waiting || has r (w ∷ c.marked))) (the_path w ps).refs;
  marked = w ∷ c.marked;
}

-- Every registered path is marked, and none waits.
pub record AllMarked (l : Ledger) (c : Collection) : Type 0 where
  pub idle : c.waiting ≡ []
  pub marked : (h : Bytes) → has_hash h (paths l) ≡ true → has h c.marked ≡ true

-- The run that a new path of this size gets: the free one with the greatest first block; at size 0 block 0.
pub record Reserved (l : Ledger) (size first : ℕ) : Type 0 where
  pub none : blocks size ≡ 0 → first ≡ 0
  pub some : 0 < blocks size → LastFree l.n (taken l) (blocks size) first

abbrev pub begun : Bytes → Bytes → ℕ → ℕ → Build
begun q name size first = record { hash = q; name = name; size = size; first = first; put = [] }

abbrev pub longer : Build → Bytes → Build
longer b piece = record { hash = b.hash; name = b.name; size = b.size; first = b.first; put = b.put ++ piece }

-- A put writes where a block is now full, or the last declared byte has come.
abbrev pub Writes : Build → Bytes → Type 0
Writes b piece = ((m : ℕ) × ((length b.put < m * 256) × (m * 256 ≤ length b.put + length piece))) ⊎ (length b.put + length piece ≡ b.size)

-- What a power cut in the middle of a call leaves: the store is shut; an open may find the catalogue before the call, in its half or, where the
-- halves change, in the other one; or the catalogue after it.
abbrev pub cut : Ledger → List Standing → Ledger
cut l spare = record { n = l.n; live = false; now = l.now; spare = spare; sealed = l.sealed; leases = replicate 8 []; builds = replicate 8 None; collection = None }

abbrev pub spares : Standing → Entry → List Standing
spares s e = cond (full s.place) (moved s ∷ (entered s e ∷ [])) (entered s e ∷ [])

-- An open finds one of these.
pub data MayFind (l : Ledger) : Standing → Type 0 where
  as_now : MayFind l l.now
  as_spare : (k : ℕ) (d : Standing) → k < length l.spare → MayFind l (slice_index_or l.spare k d)

abbrev pub opened : Ledger → Standing → Ledger
opened l s = record { n = l.n; live = true; now = s; spare = []; sealed = l.sealed; leases = replicate 8 []; builds = replicate 8 None; collection = None }

-- The blocks of a content, the last one filled up with zeros.
abbrev pub content_block : Bytes → ℕ → Bytes
content_block bytes i = take 256 (drop (i * 256) bytes ++ replicate 256 0)

-- One bit for each path, in registration order: whether it is in the closure of h.
pub record ClosureBits (l : Ledger) (h : Bytes) (bits : List Bool) : Type 0 where
  pub each : length bits ≡ length (paths l)
  pub right : (k : ℕ) → k < length bits → Decides (slice_index_or bits k false) (Closure (paths l) h (get_or (paths l) k no_path).hash)

-- A call, its answer, and the ledgers before and after.
pub data Answered : Ledger → Call → Answer → Ledger → Type 0 where
  refused : {l : Ledger} {call : Call} (r : Refusal) → First l call (row r) → Answered l call (Refused r) l
  leases : {l : Ledger} {h : ℕ} {q : Bytes} → Granted l (Lease h q) → Answered l (Lease h q) Done (waits (lease l h q) q)
  releases : {l : Ledger} {h : ℕ} → Granted l (Release h) → Answered l (Release h) Done (build (release l h) h None)
  begins : {l : Ledger} {h : ℕ} {q name : Bytes} {size : ℕ} (first : ℕ) → Granted l (Begin h q name size) → Whole q → Reserved l size first
      → Answered l (Begin h q name size) Done (build l h (Some (begun q name size first)))
  puts : {l : Ledger} {h : ℕ} {piece : Bytes} (b : Build) → Granted l (Put h piece) → building l h ≡ Some b → Answered l (Put h piece) Done (build l h (Some (longer b piece)))
  seals : {l : Ledger} {h : ℕ} (b : Build) (rs : List Bytes) → Granted l (Seal h) → building l h ≡ Some b → References l h b rs
      → Answered l (Seal h) Done (waits (lease (build (seal (with_entry l (register (sealed_path b rs))) b rs) h None) h b.hash) b.hash)
  scraps : {l : Ledger} {h : ℕ} → Granted l (Scrap h) → Answered l (Scrap h) Done (build l h None)
  commits : {l : Ledger} {p : ℕ} {q : Bytes} → Granted l (Commit p q)
      → Answered l (Commit p q) (Number (greatest (generations l p) + 1)) (waits (with_entry l (commit p (greatest (generations l p) + 1) q)) q)
  rolls_back : {l : Ledger} {p k : ℕ} → Granted l (Rollback p) → BeforeCurrent (profile (catalogue l) p) k → Answered l (Rollback p) (Number k) (with_entry l (switch p k))
  switches : {l : Ledger} {p k : ℕ} → Granted l (Switch p k) → Answered l (Switch p k) (Number k) (with_entry l (switch p k))
  forgets : {l : Ledger} {p k : ℕ} → Granted l (Forget p k) → Answered l (Forget p k) Done (with_entry l (forget p k))
  collects : {l : Ledger} → Granted l Collect → Answered l Collect Done (with_collection l (Some (record { waiting = roots l; marked = [] })))
  marks : {l : Ledger} {w : Bytes} (c : Collection) → Granted l Step → l.collection ≡ Some c → NextWaiting c w → Answered l Step (Marked w) (with_collection l (Some (mark (paths l) c w)))
  removes : {l : Ledger} {h : Bytes} → Granted l Step → Due l Step (remove h) → Answered l Step (Removed h) (with_entry l (remove h))
  ends : {l : Ledger} (c : Collection) → Granted l Step → l.collection ≡ Some c → AllMarked l c → Answered l Step Ended (with_collection l None)
  opens : {l : Ledger} (s : Standing) → MayFind l s → Answered l Open Done (opened l s)
  finds : {l : Ledger} {q : Bytes} → Granted l (Find q) → has_hash q (paths l) ≡ true → Answered l (Find q) (Found (Some (the_path q (paths l)))) l
  finds_none : {l : Ledger} {q : Bytes} → Granted l (Find q) → has_hash q (paths l) ≡ false → Answered l (Find q) (Found None) l
  closes : {l : Ledger} {q : Bytes} (bits : List Bool) → Granted l (ClosureOf q) → ClosureBits l q bits → Answered l (ClosureOf q) (Members bits (count_by (λ b. b) bits)) l
  reads : {l : Ledger} {q : Bytes} {i room : ℕ} → Granted l (Read q i room)
      → Answered l (Read q i room) (Block (content_block (l.sealed q).bytes i) (min 256 ((the_path q (paths l)).size - i * 256))) l
  -- The power fails in a call that no row refuses and that writes.
  cuts_put : {l : Ledger} {h : ℕ} {piece : Bytes} (b : Build) → Granted l (Put h piece) → building l h ≡ Some b → Writes b piece → Answered l (Put h piece) (Refused Shut) (cut l [])
  cuts_seal : {l : Ledger} {h : ℕ} (b : Build) (rs : List Bytes) → Granted l (Seal h) → building l h ≡ Some b → References l h b rs
      → Answered l (Seal h) (Refused Shut) (cut (seal l b rs) (spares l.now (register (sealed_path b rs))))
  cuts_entry : {l : Ledger} {call : Call} (e : Entry) → Granted l call → ((h : ℕ) → call ≢ Seal h) → Due l call e → Answered l call (Refused Shut) (cut l (spares l.now e))

-- At a live ledger, the closure of each root is registered.
abbrev pub Kept : Ledger → Type 0
Kept l = l.live ≡ true → (h q : Bytes) → root l h ≡ true → Closure (paths l) h q → Registered (catalogue l) q

-- Calls and answers, one after the other.
pub data Run : Ledger → List Call → List Answer → Ledger → Type 0 where
  start : {l : Ledger} → Run l [] [] l
  then : {l m z : Ledger} {calls : List Call} {answers : List Answer} {call : Call} {answer : Answer}
      → Run l calls answers m → Answered m call answer z → Run l (calls ++ (call ∷ [])) (answers ++ (answer ∷ [])) z
