-- What a store owes of its disk, beside its answers.
use Rattle.std.specs.Prelude.{◌≡◌, Bool}
use Rattle.model.specs.Plain.{Bytes}
use Rattle.model.specs.Fits.{Registered}
use Rattle.model.specs.Standing.{Standing}
use Rattle.ledger.specs.State.{Ledger}
use Rattle.ledger.specs.Rules.{MayFind}

-- `Restart` is a choice of contents that a restart may pick for the blocks, `found r s` says that the journal then makes the standing s, and
-- `content r q` is what the run of the path q then holds. The disk is lit exactly while the ledger is live; whatever a restart picks, the journal
-- makes a standing that may be found, and each of its paths has the bytes of its last seal. So no store that only remembers, and none that answers
-- row 1 while its disk has power, stands by a ledger.
pub record Stands (Restart : Type 0) (lit : Bool) (found : Restart → Standing → Type 0) (content : Restart → Bytes → Bytes) (l : Ledger) : Type 0 where
  pub power : lit ≡ l.live
  pub finds : (r : Restart) → (s : Standing) × (found r s × MayFind l s)
  pub bytes : (r : Restart) (s : Standing) → found r s → (q : Bytes) → Registered s.catalogue q → content r q ≡ (l.sealed q).bytes
