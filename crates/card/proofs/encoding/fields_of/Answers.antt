use Rattle.card.proofs.Marking.{commit_clean, commit_says, remove_clean}
use Rattle.card.proofs.Writes.{zero_blank}
use Rattle.card.proofs.encoding.fields_of.Goals as goal

pub returns-in-Commit-clause-says : goal.returns-in-Commit-clause-says
returns-in-Commit-clause-says c =
    let hash = c.in-Commit.hash in
    let fields = c.generation_fields-block.ensures in
    rw c.in-Commit.is (commit_says _ _ hash.bytes _ _ hash.whole c.put.ensures fields.kind fields.profile fields.number)

pub returns-in-Commit-clause-clean : goal.returns-in-Commit-clause-clean
returns-in-Commit-clause-clean c =
    let hash = c.in-Commit.hash in
    rw c.in-Commit.is
    (commit_clean _ _ hash.bytes c.in-Commit.profile c.in-Commit.number hash.whole c.put.ensures c.generation_fields-block.ensures.clean)

pub returns-in-Remove-clause-clean : goal.returns-in-Remove-clause-clean
returns-in-Remove-clause-clean c =
    let hash = c.in-Remove.hash in
    rw c.in-Remove.is (remove_clean _ _ _ hash.bytes hash.whole c.put-in-Remove.ensures c.put-in-Remove-2.ensures (zero_blank 256))
