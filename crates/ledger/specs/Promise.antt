-- What follows from the rules alone, of every run from a fresh card.
use Rattle.std.specs.Prelude.{◌≡◌, ℕ, ◌+◌, ◌-◌, ◌*◌, min, true, ◌⊎◌, List, [], ◌∷◌, ◌++◌, length, Some, ◌≢◌}
use Rattle.std.specs.List.{AllByRecursion}
use Rattle.model.specs.Plain.{Bytes, Path, Entry}
use Rattle.model.specs.Fits.{Makes}
use Rattle.ledger.specs.declared.refusals.Refusal.TheVariants.{Shut}
use Rattle.model.specs.Standing.{Standing}
use Rattle.ledger.specs.State.{Ledger, Build, Collection, building, paths, fresh}
use Rattle.ledger.specs.Calls.{Call, Lease, Release, Begin, Put, Seal, Scrap, Commit, Rollback, Switch, Forget, Collect, Step, Open, Find, ClosureOf, Read, Answer, Done, Number, Marked, Removed, Ended, Found, Members, Block, Refused}
use Rattle.ledger.specs.Rows.{References}
use Rattle.ledger.specs.Rules.{content_with, content_block, MayFind, opened, Answered, Kept, Run}
use Rattle.ledger.specs.Sound.{SoundLedger}

-- A ledger that a run from a fresh card of n blocks reaches.
abbrev pub Reached : ℕ → Ledger → Type 0
Reached n l = (calls : List Call) × ((answers : List Answer) × Run (fresh n) calls answers l)

-- Every ledger that a run reaches is sound, and every catalogue that it holds or that an open may find is one that entries make.
abbrev pub ReachesSound : Type 0
ReachesSound = (n : ℕ) (l : Ledger) → Reached n l → SoundLedger l × ((s : Standing) → MayFind l s → (entries : List Entry) × Makes l.n entries s.catalogue)

-- At every live ledger on a run the closure of each generation's path and of each leased path is registered.
abbrev pub NeedsKept : Type 0
NeedsKept = (n : ℕ) (l : Ledger) → Reached n l → Kept l

-- Every open is done. It finds the ledger's catalogue, or after a call that met the cut a spare one; and leases, builds and the collection are gone.
abbrev pub OpensDone : Type 0
OpensDone =
    (n : ℕ) (l m : Ledger) (answer : Answer) → Reached n l → Answered l Open answer m
    → (answer ≡ Done) × MayFind l m.now × (m ≡ opened l m.now) × (l.live ≡ true → m.now ≡ l.now)

-- What the last seal gave changes in a seal alone, done or cut.
pub record SealedAnew (l : Ledger) (call : Call) (answer : Answer) (m : Ledger) : Type 0 where
  pub holder : ℕ
  pub path : Build
  pub refs : List Bytes
  pub is_seal : call ≡ Seal holder
  pub builds : building l holder ≡ Some path
  pub found : References l holder path refs
  pub answers : (answer ≡ Done) ⊎ (answer ≡ Refused Shut)
  pub content : m.sealed ≡ content_with l.sealed path.hash (record { bytes = path.put; refs = refs })

abbrev pub SealsOnly : Type 0
SealsOnly = (l m : Ledger) (call : Call) (answer : Answer) → Answered l call answer m → (m.sealed ≡ l.sealed) ⊎ SealedAnew l call answer m

-- Find and read answer the references and the bytes of the path's last seal.
abbrev pub FindsSealed : Type 0
FindsSealed =
    (n : ℕ) (l m : Ledger) (q : Bytes) (p : Path) → Reached n l → Answered l (Find q) (Found (Some p)) m
    → (p.hash ≡ q) × (p.refs ≡ (l.sealed q).refs) × (p.size ≡ length (l.sealed q).bytes)

abbrev pub ReadsSealed : Type 0
ReadsSealed =
    (n : ℕ) (l m : Ledger) (q : Bytes) (i room count : ℕ) (x : Bytes) → Reached n l → Answered l (Read q i room) (Block x count) m
    → (x ≡ content_block (l.sealed q).bytes i) × (count ≡ min 256 (length (l.sealed q).bytes - i * 256))

-- Granted steps, and paths sealed.
abbrev pub step_count : Answer → ℕ
step_count Done = 0
step_count (Number k) = 0
step_count (Marked q) = 1
step_count (Removed q) = 1
step_count Ended = 1
step_count (Found p) = 0
step_count (Members bits k) = 0
step_count (Block x k) = 0
step_count (Refused r) = 0

abbrev pub done_count : Answer → ℕ
done_count Done = 1
done_count (Number k) = 0
done_count (Marked q) = 0
done_count (Removed q) = 0
done_count Ended = 0
done_count (Found p) = 0
done_count (Members bits k) = 0
done_count (Block x k) = 0
done_count (Refused r) = 0

abbrev pub seal_count : Call → Answer → ℕ
seal_count (Lease h q) a = 0
seal_count (Release h) a = 0
seal_count (Begin h q name size) a = 0
seal_count (Put h piece) a = 0
seal_count (Seal h) a = done_count a
seal_count (Scrap h) a = 0
seal_count (Commit p q) a = 0
seal_count (Rollback p) a = 0
seal_count (Switch p k) a = 0
seal_count (Forget p k) a = 0
seal_count Collect a = 0
seal_count Step a = 0
seal_count Open a = 0
seal_count (Find q) a = 0
seal_count (ClosureOf q) a = 0
seal_count (Read q i room) a = 0

abbrev pub steps_of : List Answer → ℕ
steps_of [] = 0
steps_of (a ∷ answers) = step_count a + steps_of answers

abbrev pub seals_of : List Call → List Answer → ℕ
seals_of [] answers = 0
seals_of (call ∷ calls) [] = 0
seals_of (call ∷ calls) (a ∷ answers) = seal_count call a + seals_of calls answers

-- From a granted collect to the step that answers ended, with no open between, the granted steps are the paths registered at the collect, the
-- paths sealed since, and one.
abbrev pub StepsCounted : Type 0
StepsCounted =
    (n : ℕ) (l k m z : Ledger) (calls : List Call) (answers : List Answer) → Reached n l → Answered l Collect Done k → Run k calls answers m
    → AllByRecursion (λ call. call ≢ Open) calls → AllByRecursion (λ answer. answer ≢ Ended) answers → Answered m Step Ended z
    → steps_of (answers ++ (Ended ∷ [])) ≡ length (paths l) + seals_of calls answers + 1

-- While a collection runs, a step has an answer.
abbrev pub StepsAnswered : Type 0
StepsAnswered =
    (n : ℕ) (l : Ledger) (c : Collection) → Reached n l → l.live ≡ true → l.collection ≡ Some c → (answer : Answer) × ((m : Ledger) × Answered l Step answer m)

-- The rules leave no two answers, cuts and what an open finds aside.
abbrev pub OneAnswer : Type 0
OneAnswer =
    (n : ℕ) (l m k : Ledger) (call : Call) (a b : Answer) → Reached n l → (call ≢ Open) → (l.live ≡ true → (a ≢ Refused Shut) × (b ≢ Refused Shut))
    → Answered l call a m → Answered l call b k → (a ≡ b) × (m ≡ k)
