-- The calls of a store, and what they answer.
use Rattle.std.specs.Prelude.{ℕ, Bool, List, [], ◌∷◌, Option}
use Rattle.ledger.specs.declared.refusals.Refusal.{Refusal}
use Rattle.ledger.specs.declared.refusals.Refusal.TheVariants.{Shut, BadArgument, NotRegistered, HashTaken, AlreadyBuilding, NotBuilding, WrongLength, PathsFull, NoFreeRun, TooManyReferences, NoGeneration, GenerationCurrent, ProfileFull, NumbersSpent, CollectionState, WrongSize, BadLabel, BadEntry}
use Rattle.model.specs.Plain.{Bytes, Path}

-- Arguments are a holder, a profile, a hash, a name, a size, a piece, a generation's number, an index, a buffer's length.
pub data Call : Type 0 where
  Lease : ℕ → Bytes → Call
  Release : ℕ → Call
  Begin : ℕ → Bytes → Bytes → ℕ → Call
  Put : ℕ → Bytes → Call
  Seal : ℕ → Call
  Scrap : ℕ → Call
  Commit : ℕ → Bytes → Call
  Rollback : ℕ → Call
  Switch : ℕ → ℕ → Call
  Forget : ℕ → ℕ → Call
  Collect : Call
  Step : Call
  Open : Call
  Find : Bytes → Call
  ClosureOf : Bytes → Call
  Read : Bytes → ℕ → ℕ → Call

-- Find answers the record or none; closure one bit for each path in registration order and how many are one; read the whole block and how
-- many of its bytes are content; commit, rollback and switch the current generation's number.
pub data Answer : Type 0 where
  Done : Answer
  Number : ℕ → Answer
  Marked : Bytes → Answer
  Removed : Bytes → Answer
  Ended : Answer
  Found : Option Path → Answer
  Members : List Bool → ℕ → Answer
  Block : Bytes → ℕ → Answer
  Refused : Refusal → Answer

-- The number of a refusal, which is its row in the table, and the values that go with it.
abbrev pub row : Refusal → ℕ
row Shut = 1
row BadArgument = 2
row NotRegistered = 3
row HashTaken = 4
row AlreadyBuilding = 5
row NotBuilding = 6
row WrongLength = 7
row PathsFull = 10
row NoFreeRun = 11
row TooManyReferences = 12
row NoGeneration = 13
row GenerationCurrent = 14
row ProfileFull = 15
row NumbersSpent = 16
row CollectionState = 17
row WrongSize = 18
row BadLabel = 19
row (BadEntry block) = 20

abbrev pub values : Refusal → List ℕ
values Shut = []
values BadArgument = []
values NotRegistered = []
values HashTaken = []
values AlreadyBuilding = []
values NotBuilding = []
values WrongLength = []
values PathsFull = []
values NoFreeRun = []
values TooManyReferences = []
values NoGeneration = []
values GenerationCurrent = []
values ProfileFull = []
values NumbersSpent = []
values CollectionState = []
values WrongSize = []
values BadLabel = []
values (BadEntry block) = block ∷ []
