-- In which order held blocks come to the disk below, and what is held then.
-- The disk below is d before a call and e after it; `means` gives the meaning of each.
use Rattle.std.specs.Prelude.{◌≡◌, ℕ, ◌<◌, true, false, ◌⊎◌, List, [], ◌∷◌, length, take, drop, Ok, Err, Result, slice_index_or}
use Rattle.disk.specs.declared.Fault.{Fault}
use Rattle.disk.specs.declared.Fault.TheVariants.{Dark, NoBlock}
use Rattle.disk.specs.Meaning.{Block, Meaning, Write, Barrier}
use Rattle.write_behind.specs.declared.held.Pending.{Pending}
use Rattle.write_behind.specs.Behind.{Free, Replaced, Added}

-- A write of p below that leaves the disk lit. (A block that the disk has not is passed over: none such is ever held.)
abbrev pub Sent : Meaning → Pending → Meaning → Type 0
Sent m p m' = Write m p.at p.content (Ok tt) m' ⊎ Write m p.at p.content (Err NoBlock) m'

-- A write of p below in which the disk is found dark or goes dark.
abbrev pub StoppedAt : Meaning → Pending → Meaning → Type 0
StoppedAt m p m' = Write m p.at p.content (Err Dark) m'

-- The answer of a disk, but done where the disk has no such block.
abbrev pub passed_over : Result Unit Fault → Result Unit Fault
passed_over (Ok done) = Ok done
passed_over (Err Dark) = Err Dark
passed_over (Err NoBlock) = Ok tt

-- Whether the disk below has power.
abbrev pub Power : Meaning → Result Unit Fault → Type 0
Power m (Ok _) = m.lit ≡ true
Power m (Err Dark) = m.lit ≡ false
Power m (Err NoBlock) = ⊥

-- One write below: done, or the disk is dark.
abbrev pub Send : Meaning → Pending → Result Unit Fault → Meaning → Type 0
Send m p (Ok _) m' = Sent m p m'
Send m p (Err Dark) m' = StoppedAt m p m'
Send m p (Err NoBlock) m' = ⊥

-- All of ps were written below, one after the other, the first of them first.
abbrev pub Drained : {D : Type 0} → (D → Meaning) → D → List Pending → D → Type 0
Drained {D} means d [] e = e ≡ d
Drained {D} means d (p ∷ ps) e = (f : D) × (Sent (means d) p (means f) × Drained means f ps e)

-- The first i of ps were written below, in order, and the disk was found dark at the next.
abbrev pub Cut : {D : Type 0} → (D → Meaning) → D → List Pending → D → Type 0
Cut {D} means d ps e = (i : ℕ) × ((p : Pending) × ((f : D) × ((i < length ps) × (p ≡ slice_index_or ps i p) × Drained means d (take i ps) f × StoppedAt (means f) p (means e))))

-- The held blocks brought to the disk below: done, or the disk is dark.
abbrev pub Drain : {D : Type 0} → (D → Meaning) → D → List Pending → Result Unit Fault → D → Type 0
Drain means d ps (Ok _) e = Drained means d ps e
Drain means d ps (Err Dark) e = Cut means d ps e
Drain means d ps (Err NoBlock) e = ⊥

-- What a write of x to block b leaves below, and what it leaves held: qs after ps.
-- A held block is replaced in its place; another is added, and where sixteen are held the longest-held is written below first.
abbrev pub BehindWrite : {D : Type 0} → (D → Meaning) → D → List Pending → ℕ → Block → Result Unit Fault → D → List Pending → Type 0
BehindWrite means d ps b x (Ok _) e qs =
    ((e ≡ d) × Replaced b x ps qs)
    ⊎ ((e ≡ d) × Free b ps × (length ps < 16) × Added b x ps qs)
    ⊎ ((p : Pending) × (Free b ps × (ps ≡ p ∷ drop 1 ps) × (length ps ≡ 16) × Sent (means d) p (means e) × Added b x (drop 1 ps) qs))
BehindWrite means d ps b x (Err Dark) e qs =
    (qs ≡ ps) × ((((means d).lit ≡ false) × (e ≡ d))
    ⊎ ((p : Pending) × (Free b ps × (ps ≡ p ∷ drop 1 ps) × (length ps ≡ 16) × StoppedAt (means d) p (means e))))
BehindWrite means d ps b x (Err NoBlock) e qs = (e ≡ d) × (qs ≡ ps)

-- What a barrier leaves below, and what it leaves held: all are written below, longest-held first, and then a barrier is
-- passed. Nothing is let go until that barrier is done.
abbrev pub BehindBarrier : {D : Type 0} → (D → Meaning) → D → List Pending → Result Unit Fault → D → List Pending → Type 0
BehindBarrier {D} means d ps (Ok _) e qs = (qs ≡ []) × ((f : D) × (Drained means d ps f × Barrier (means f) (Ok tt) (means e)))
BehindBarrier {D} means d ps (Err Dark) e qs =
    (qs ≡ ps) × ((((means d).lit ≡ false) × (e ≡ d)) ⊎ Cut means d ps e ⊎ ((f : D) × (Drained means d ps f × Barrier (means f) (Err Dark) (means e))))
BehindBarrier {D} means d ps (Err NoBlock) e qs = ⊥
