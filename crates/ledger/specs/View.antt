-- Rust's calls and answers as the rules' plain ones.
use Rattle.std.specs.Prelude.{ℕ, Bool, List, Ok, Err, Result, map, nat_eq}
use Rattle.std.specs.List.{range_with_len}
use Rattle.std.specs.Option.{option_map}
use Rattle.order.specs.Rows.{bit}
use Rattle.order.specs.declared.rows.RowSet.{RowSet}
use Rattle.records.specs.View.{path_of}
use Rattle.ledger.specs.Calls as plain
use Rattle.ledger.specs.declared.calls.Call.{Call}
use Rattle.ledger.specs.declared.calls.Call.TheVariants.{Lease, Release, Begin, Put, Seal, Scrap, Commit, Rollback, Switch, Forget, Collect, Step, Open, Find, Closure, Read}
use Rattle.ledger.specs.declared.calls.Answer.{Answer}
use Rattle.ledger.specs.declared.refusals.Refusal.{Refusal}
use Rattle.ledger.specs.declared.calls.Answer.TheVariants.{Done, Number, Marked, Removed, Ended, Found, Members, Block}

abbrev pub call_of : Call → plain.Call
call_of (Lease h q) = plain.Lease h q.bytes
call_of (Release h) = plain.Release h
call_of (Begin h q name size) = plain.Begin h q.bytes name.now size
call_of (Put h piece) = plain.Put h piece.now
call_of (Seal h) = plain.Seal h
call_of (Scrap h) = plain.Scrap h
call_of (Commit p q) = plain.Commit p q.bytes
call_of (Rollback p) = plain.Rollback p
call_of (Switch p k) = plain.Switch p k
call_of (Forget p k) = plain.Forget p k
call_of Collect = plain.Collect
call_of Step = plain.Step
call_of Open = plain.Open
call_of (Find q) = plain.Find q.bytes
call_of (Closure q) = plain.ClosureOf q.bytes
call_of (Read q i room) = plain.Read q.bytes i room

-- The bits of the first paths, in registration order.
abbrev pub bits_of : RowSet → ℕ → List Bool
bits_of s paths = map (λ k. nat_eq (bit s.bits k) 1) (range_with_len 0 paths)

-- What is granted, and what a call answers: that, or the refusal.
abbrev pub granted_of : Answer → plain.Answer
granted_of Done = plain.Done
granted_of (Number k) = plain.Number k
granted_of (Marked q) = plain.Marked q.bytes
granted_of (Removed q) = plain.Removed q.bytes
granted_of Ended = plain.Ended
granted_of (Found p) = plain.Found (option_map path_of p)
granted_of (Members m) = plain.Members (bits_of m.rows m.paths) m.count
granted_of (Block x k) = plain.Block x k

abbrev pub answer_of : Result Answer Refusal → plain.Answer
answer_of (Ok answer) = granted_of answer
answer_of (Err refusal) = plain.Refused refusal
