-- What an audit sends, by its status.
use Rattle.std.specs.Prelude.{◌≡◌, ◌⊎◌, ◌++◌}
use Rattle.dmn_outside.specs.Disk.{DiskView, IfReads, Told}
use Rattle.dmn_outside.specs.Failing.{KeepsDisk}
use Rattle.dmn_outside.specs.Line.{LineView, Talk}
use Rattle.dmn_outside.specs.Pieces.{SentFront}
use Rattle.dmn_registry.specs.Audits.{audit_of}
use Rattle.dmn_registry.specs.Departs.{DepartsAt}
use Rattle.dmn_registry.specs.Machine.{Machine}
use Rattle.dmn_registry.specs.Own.{IsJournal}
use Rattle.dmn_status.specs.declared.status.Status.{Status}
use Rattle.dmn_status.specs.declared.status.Status.TheVariants as statuses
use Rattle.dmn_audit.specs.Text.{audit_text}

-- the statuses of an audit
abbrev pub OfAudit : Status → Type 0
OfAudit statuses.Done = Unit {0}
OfAudit statuses.Memory = Unit {0}
OfAudit statuses.DiskFault = Unit {0}
OfAudit statuses.LineFault = Unit {0}
OfAudit (statuses.NotJournal place) = Unit {0}
OfAudit statuses.Words = ⊥
OfAudit (statuses.StartForm place) = ⊥
OfAudit statuses.CutInput = ⊥
OfAudit statuses.Enough = ⊥
OfAudit statuses.AlreadyInit = ⊥

-- file 0 is the journal image of this machine, as far as it is told
abbrev pub IsOf : Machine → Told → Type 0
IsOf m told = IfReads told (λ all. IsJournal m all.zeroth)

abbrev pub SendsAudit : Status → Told → Talk → Talk → Type 0
-- the whole text was sent
SendsAudit statuses.Done told old new = (m : Machine) × IsOf m told × (new ≡ record old { sent = old.sent ++ audit_text (audit_of m) })
-- a front of it was
SendsAudit statuses.LineFault told old new = (m : Machine) × IsOf m told × SentFront (audit_text (audit_of m)) old new
-- nothing was
SendsAudit (statuses.NotJournal place) told old new = IfReads told (λ all. DepartsAt all.zeroth place) × (new ≡ old)
SendsAudit statuses.DiskFault told old new = new ≡ old
SendsAudit statuses.Memory told old new = new ≡ old
SendsAudit statuses.Words told old new = ⊥
SendsAudit (statuses.StartForm place) told old new = ⊥
SendsAudit statuses.CutInput told old new = ⊥
SendsAudit statuses.Enough told old new = ⊥
SendsAudit statuses.AlreadyInit told old new = ⊥

-- the same of a machine that is recovered from an own image
abbrev pub SendsOwn : Status → Machine → Talk → Talk → Type 0
SendsOwn statuses.Done m old new = new ≡ record old { sent = old.sent ++ audit_text (audit_of m) }
SendsOwn statuses.LineFault m old new = SentFront (audit_text (audit_of m)) old new
SendsOwn statuses.DiskFault m old new = new ≡ old
SendsOwn statuses.Memory m old new = new ≡ old
SendsOwn (statuses.NotJournal place) m old new = ⊥
SendsOwn statuses.Words m old new = ⊥
SendsOwn (statuses.StartForm place) m old new = ⊥
SendsOwn statuses.CutInput m old new = ⊥
SendsOwn statuses.Enough m old new = ⊥
SendsOwn statuses.AlreadyInit m old new = ⊥

-- all was sent, or memory ran out
abbrev pub EndsWell : Status → Type 0
EndsWell status = (status ≡ statuses.Done) ⊎ (status ≡ statuses.Memory)

-- no call failed
pub record NeverFaults (status : Status) (before after : DiskView) (old new : LineView) : Type 0 where
  pub disk : KeepsDisk before after
  pub line : new.faults ≡ old.faults
  pub well : EndsWell status
