-- What one command does to a registry.
use Rattle.std.specs.Prelude.{◌≡◌, List, ℕ, Result, Ok, Err}
use Rattle.dmn_block.specs.declared.frame.BlockFrame.{BlockFrame}
use Rattle.dmn_branch.specs.declared.fault.DisconnectRefusal.{DisconnectRefusal}
use Rattle.dmn_branch.specs.declared.fault.DisconnectRefusal.TheVariants as refusals
use Rattle.dmn_bytes.specs.declared.hash.Hash256.{Hash256}
use Rattle.dmn_journal.specs.Journal.{Entry}
use Rattle.dmn_outside.specs.Disk.{Told}
use Rattle.dmn_registry.specs.Machine.{Accepts, Machine, by_rules, connect, connecting, disconnect, disconnecting, full, with_entry}
use Rattle.dmn_registry.specs.Own.{StandsOn}
use Rattle.dmn_registry.specs.declared.fault.ConnectFault.{ConnectFault}
use Rattle.dmn_registry.specs.declared.fault.ConnectFault.TheVariants as connects
use Rattle.dmn_registry.specs.declared.fault.DisconnectFault.{DisconnectFault}
use Rattle.dmn_registry.specs.declared.fault.DisconnectFault.TheVariants as disconnects
use Rattle.dmn_registry.specs.declared.registry.Registry.{Registry}
use Rattle.dmn_snapshot.specs.declared.fault.SnapFault.{SnapFault}
use Rattle.dmn_snapshot.specs.declared.fault.SnapFault.TheVariants as snapshots

-- the registry took the command: it stands for the machine with it, on the disk
pub record Took (m : Machine) (entry : Entry) (new : Registry) (told : Told) : Type 0 where
  pub accepts : Accepts m entry (with_entry m entry)
  pub stands : StandsOn new (with_entry m entry) told

-- What a connect did, by its answer: the machine with the block, on the disk; or why the machine does not accept it, or that
-- memory ran out, and nothing changed. After a disk fault nothing is said of the registry.
abbrev pub Connects : Result (Unit {0}) ConnectFault → Machine → BlockFrame → List ℕ → Registry → Told → Type 0
Connects (Ok done) m block body new told = (connect m block body ≡ Ok (with_entry m (connecting body))) × Took m (connecting body) new told
Connects (Err (connects.Refused refusal)) m block body new told = (connect m block body ≡ Err (by_rules refusal)) × StandsOn new m told
Connects (Err connects.JournalFull) m block body new told = (connect m block body ≡ Err full) × StandsOn new m told
Connects (Err connects.Memory) m block body new told = StandsOn new m told
Connects (Err connects.DiskFault) m block body new told = Unit {0}

-- The same of a disconnect.
abbrev pub Disconnects : Result (Unit {0}) DisconnectFault → Machine → Hash256 → Registry → Told → Type 0
Disconnects (Ok done) m hash new told = (disconnect m hash ≡ Ok (with_entry m (disconnecting hash))) × Took m (disconnecting hash) new told
Disconnects (Err (disconnects.NotTip tip)) m hash new told = (disconnect m hash ≡ Err (by_rules (refusals.NotTip tip))) × StandsOn new m told
Disconnects (Err disconnects.AtStart) m hash new told = (disconnect m hash ≡ Err (by_rules refusals.AtStart)) × StandsOn new m told
Disconnects (Err (disconnects.TooDeep floor)) m hash new told = (disconnect m hash ≡ Err (by_rules (refusals.TooDeep floor))) × StandsOn new m told
Disconnects (Err disconnects.JournalFull) m hash new told = (disconnect m hash ≡ Err full) × StandsOn new m told
Disconnects (Err disconnects.DiskFault) m hash new told = Unit {0}

-- an answer but Ok and DiskFault
abbrev pub IsIdle : Result (Unit {0}) ConnectFault → Type 0
IsIdle (Ok done) = ⊥
IsIdle (Err connects.DiskFault) = ⊥
IsIdle (Err fault) = Unit {0}

abbrev pub IsIdleDisconnect : Result (Unit {0}) DisconnectFault → Type 0
IsIdleDisconnect (Ok done) = ⊥
IsIdleDisconnect (Err disconnects.DiskFault) = ⊥
IsIdleDisconnect (Err fault) = Unit {0}

-- how a fault of a snapshot is answered
abbrev pub connect_fault : SnapFault → ConnectFault
connect_fault snapshots.DiskFault = connects.DiskFault
connect_fault snapshots.Memory = connects.Memory

-- how a refusal of the branch is answered
abbrev pub disconnect_fault : DisconnectRefusal → DisconnectFault
disconnect_fault (refusals.NotTip tip) = disconnects.NotTip tip
disconnect_fault refusals.AtStart = disconnects.AtStart
disconnect_fault (refusals.TooDeep floor) = disconnects.TooDeep floor
