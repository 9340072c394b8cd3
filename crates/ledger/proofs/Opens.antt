-- Opens, and what find and read answer.
use Rattle.std.proofs.Common.{◌≡◌, ℕ, ◌-◌, ◌*◌, min, true, ◌⊎◌, List, [], length, Some, sym, refl, ap, ◌∙◌, inl, inr, arith}
use Rattle.model.specs.Plain.{Bytes, Path, Entry}
use Rattle.model.specs.Fits.{has_hash, Makes}
use Rattle.model.specs.Listing.{listing}
use Rattle.model.proofs.Listings.{listing_makes}
use Rattle.model.specs.Standing.{Standing}
use Rattle.ledger.specs.State.{Ledger, paths, the_path, fresh}
use Rattle.ledger.specs.Calls.{Call, Answer, Open, Find, Read, Done, Found, Block}
use Rattle.ledger.specs.Rows.{Row, shut, numbers_spent, read_unknown}
use Rattle.ledger.specs.Rules.{MayFind, as_now, as_spare, opened, content_block, Answered, refused, leases, releases, begins, puts, seals, scraps, commits, rolls_back, switches, forgets, collects, marks, removes, ends, opens, finds, finds_none, closes, reads, cuts_put, cuts_seal, cuts_entry}
use Rattle.ledger.specs.Sound.{SoundLedger}
use Rattle.ledger.specs.Promise.{SealedAnew, Reached}
use Rattle.ledger.proofs.Sets.{the_path_row}
use Rattle.ledger.proofs.Dues.{not_false_is_true}
use Rattle.ledger.proofs.Keeps.{sound_fresh, run_sound, found_sound}

pub reached_sound : (n : ℕ) (l : Ledger) → Reached n l → SoundLedger l
reached_sound n l reached = run_sound (fresh n) l reached.0 reached.1.0 (sound_fresh n) reached.1.1

pub found_made : (l : Ledger) (s : Standing) → SoundLedger l → MayFind l s → (entries : List Entry) × Makes l.n entries s.catalogue
found_made l s sound found = (listing s.catalogue, listing_makes l.n s.catalogue (found_sound l s sound found).catalogue)

-- No row refuses an open.
open_unrefused : (l : Ledger) (k : ℕ) → Row l Open k → ⊥
open_unrefused l k (shut dark not-open) = not-open refl
open_unrefused l k (numbers_spent due more) = elim due [ ]

found_live : (l : Ledger) (s : Standing) → l.spare ≡ [] → MayFind l s → s ≡ l.now
found_live l s clean as_now = refl
found_live l s clean (as_spare k d less) = absurd (omega (arith, ap length clean))

pub open_done : (l m : Ledger) (answer : Answer) → SoundLedger l → Answered l Open answer m → (answer ≡ Done) × MayFind l m.now × (m ≡ opened l m.now) × (l.live ≡ true → m.now ≡ l.now)
open_done l m answer s (refused r first) = absurd (open_unrefused l _ first.applies)
open_done l m answer s (opens standing found) = (refl, found, refl, λ live. found_live l standing (s.clean live) found)
open_done l m answer s (cuts_entry e granted no-seal due) = elim due [ ]

pub find_sealed : (l m : Ledger) (q : Bytes) (p : Path) → SoundLedger l → Answered l (Find q) (Found (Some p)) m
    → (p.hash ≡ q) × (p.refs ≡ (l.sealed q).refs) × (p.size ≡ length (l.sealed q).bytes)
find_sealed l m q p s (finds granted there) =
    let row = the_path_row q (paths l) there in
    let fine = s.standing.contents row.0 row.1.0 in
    let is = row.1.1 in
    let hash : (the_path q (paths l)).hash ≡ q = ap (λ x. x.hash) is ∙ row.1.2 in (
      hash,
      ap (λ x. x.refs) is ∙ (sym fine.0 ∙ ap (λ x. (l.sealed x).refs) row.1.2),
      ap (λ x. x.size) is ∙ (sym fine.1 ∙ ap (λ x. length (l.sealed x).bytes) row.1.2),
    )

pub read_sealed : (l m : Ledger) (q : Bytes) (i room count : ℕ) (x : Bytes) → SoundLedger l → Answered l (Read q i room) (Block x count) m
    → (x ≡ content_block (l.sealed q).bytes i) × (count ≡ min 256 (length (l.sealed q).bytes - i * 256))
read_sealed l m q i room count x s (reads granted) =
    let there : has_hash q (paths l) ≡ true = not_false_is_true (has_hash q (paths l)) (λ f. granted 3 (read_unknown f)) in
    let row = the_path_row q (paths l) there in
    let size : (the_path q (paths l)).size ≡ length (l.sealed q).bytes = ap (λ p. p.size) row.1.1 ∙ (sym (s.standing.contents row.0 row.1.0).1 ∙ ap (λ h. length (l.sealed h).bytes) row.1.2) in
    (refl, ap (λ k. min 256 (k - i * 256)) size)

pub seals_only : (l m : Ledger) (call : Call) (answer : Answer) → Answered l call answer m → (m.sealed ≡ l.sealed) ⊎ SealedAnew l call answer m
seals_only l m call answer (refused r first) = inl refl
seals_only l m call answer (leases granted) = inl refl
seals_only l m call answer (releases granted) = inl refl
seals_only l m call answer (begins first granted whole reserved) = inl refl
seals_only l m call answer (puts b granted builds) = inl refl
seals_only l m call answer (seals {h = h} b rs granted builds refs) =
    inr (record { holder = h; path = b; refs = rs; is_seal = refl; builds = builds; found = refs; answers = inl refl; content = refl })
seals_only l m call answer (scraps granted) = inl refl
seals_only l m call answer (commits granted) = inl refl
seals_only l m call answer (rolls_back granted before) = inl refl
seals_only l m call answer (switches granted) = inl refl
seals_only l m call answer (forgets granted) = inl refl
seals_only l m call answer (collects granted) = inl refl
seals_only l m call answer (marks c granted runs next) = inl refl
seals_only l m call answer (removes granted due) = inl refl
seals_only l m call answer (ends c granted runs all) = inl refl
seals_only l m call answer (opens standing found) = inl refl
seals_only l m call answer (finds granted there) = inl refl
seals_only l m call answer (finds_none granted missing) = inl refl
seals_only l m call answer (closes bits granted right) = inl refl
seals_only l m call answer (reads granted) = inl refl
seals_only l m call answer (cuts_put b granted builds writes) = inl refl
seals_only l m call answer (cuts_seal {h = h} b rs granted builds refs) =
    inr (record { holder = h; path = b; refs = rs; is_seal = refl; builds = builds; found = refs; answers = inr refl; content = refl })
seals_only l m call answer (cuts_entry e granted no-seal due) = inl refl
