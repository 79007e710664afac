-- What an audit tells.
use Rattle.std.specs.Prelude.{◌≡◌, ◌==◌, Bool, not, List, length, filter, Result, Ok, Err}
use Rattle.dmn_branch.specs.Machine.{rows_of, state_at, tip}
use Rattle.dmn_journal.specs.declared.fault.JournalFault.{JournalFault}
use Rattle.dmn_journal.specs.declared.fault.JournalFault.TheVariants.{DiskFault, Memory, NotJournal}
use Rattle.dmn_outside.specs.Disk.{Told, IfReads}
use Rattle.dmn_registry.specs.Departs.{DepartsAt}
use Rattle.dmn_registry.specs.Machine.{Machine, state_of}
use Rattle.dmn_registry.specs.Own.{IsJournal}
use Rattle.dmn_registry.specs.declared.auditing.Audit.{Audit}
use Rattle.dmn_rows.specs.declared.row.MnRow.{MnRow}
use Rattle.dmn_sml.specs.Defs.{root_of, simple}

-- the rows at the tip's height
abbrev pub rows_now : Machine → List MnRow
rows_now m = rows_of (state_at (state_of m) (tip (state_of m)).height)

abbrev pub is_banned : MnRow → Bool
is_banned row = not (row.banned == 0)

-- the audit of a machine: its tip's height, how many rows there are and how many are banned, the root of their simplified list,
-- and how many commands were accepted
abbrev pub audit_of : Machine → Audit
audit_of m = record {
  height = (tip (state_of m)).height;
  rows = length (rows_now m);
  banned = length (filter is_banned (rows_now m));
  root = root_of (simple (rows_now m));
  records = length m.commands;
}

-- What an audit answers: what is told of the machine of the file; or the place where the file departs from a journal image.
abbrev pub Audits : Result Audit JournalFault → Told → Type 0
Audits (Ok audit) told = (m : Machine) × (audit ≡ audit_of m) × IfReads told (λ all. IsJournal m all.zeroth)
Audits (Err (NotJournal place)) told = IfReads told (λ all. DepartsAt all.zeroth place)
Audits (Err DiskFault) told = Unit {0}
Audits (Err Memory) told = Unit {0}

-- of an image of which this machine is recovered this machine is told, and nothing departs
abbrev pub AuditsOwn : Result Audit JournalFault → Machine → Type 0
AuditsOwn (Ok audit) m = audit ≡ audit_of m
AuditsOwn (Err (NotJournal place)) m = ⊥
AuditsOwn (Err DiskFault) m = Unit {0}
AuditsOwn (Err Memory) m = Unit {0}
