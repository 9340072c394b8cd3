-- An answered call was refused by a row, or granted.
use Rattle.std.proofs.Common.{◌≡◌, ◌⊎◌, refl, inl, inr}
use Rattle.ledger.specs.declared.refusals.Refusal.{Refusal}
use Rattle.ledger.specs.State.{Ledger}
use Rattle.ledger.specs.Calls.{Call, Open, Answer, Refused, row}
use Rattle.ledger.specs.Rows.{First, Granted}
use Rattle.ledger.specs.Rules.{Answered, refused, leases, releases, begins, puts, seals, scraps, commits, rolls_back, switches, forgets, collects, marks, removes, ends, opens, finds, finds_none, closes, reads, cuts_put, cuts_seal, cuts_entry}

pub refused_or_granted : (l m : Ledger) (call : Call) (answer : Answer) → (call ≡ Open → ⊥) → Answered l call answer m → ((r : Refusal) × ((answer ≡ Refused r) × First l call (row r) × (m ≡ l))) ⊎ Granted l call
refused_or_granted l m call answer unopened (refused r first) = inl (r, (refl, first, refl))
refused_or_granted l m call answer unopened (opens standing found) = absurd (unopened refl)
refused_or_granted l m call answer unopened (leases granted) = inr granted
refused_or_granted l m call answer unopened (releases granted) = inr granted
refused_or_granted l m call answer unopened (begins first granted whole reserved) = inr granted
refused_or_granted l m call answer unopened (puts b granted builds) = inr granted
refused_or_granted l m call answer unopened (seals b rs granted builds refs) = inr granted
refused_or_granted l m call answer unopened (scraps granted) = inr granted
refused_or_granted l m call answer unopened (commits granted) = inr granted
refused_or_granted l m call answer unopened (rolls_back granted before) = inr granted
refused_or_granted l m call answer unopened (switches granted) = inr granted
refused_or_granted l m call answer unopened (forgets granted) = inr granted
refused_or_granted l m call answer unopened (collects granted) = inr granted
refused_or_granted l m call answer unopened (marks c granted runs next) = inr granted
refused_or_granted l m call answer unopened (removes granted due) = inr granted
refused_or_granted l m call answer unopened (ends c granted runs all) = inr granted
refused_or_granted l m call answer unopened (finds granted there) = inr granted
refused_or_granted l m call answer unopened (finds_none granted missing) = inr granted
refused_or_granted l m call answer unopened (closes bits granted right) = inr granted
refused_or_granted l m call answer unopened (reads granted) = inr granted
refused_or_granted l m call answer unopened (cuts_put b granted builds writes) = inr granted
refused_or_granted l m call answer unopened (cuts_seal b rs granted builds refs) = inr granted
refused_or_granted l m call answer unopened (cuts_entry e granted no-seal due) = inr granted
