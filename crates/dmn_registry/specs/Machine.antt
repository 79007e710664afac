-- The machine of a registry: a start record and the commands that were accepted since, as the journal keeps them, and one
-- command more. What is held, and what the rules say of a command, is said by the machine of blocks; what is added here is the
-- limit of the journal. Pins stand beside the commands: no journal keeps them, and an opening has none.
use Rattle.std.specs.Prelude.{◌≡◌, ℕ, ◌==◌, nat_lt, if◌then◌else◌, List, [], ◌∷◌, ◌++◌, length, None, Result, Ok, Err}
use Rattle.dmn_block.specs.Body.{connect_body}
use Rattle.dmn_block.specs.Frames.{frame_of}
use Rattle.dmn_block.specs.declared.body.ConnectBody.{ConnectBody}
use Rattle.dmn_block.specs.declared.frame.BlockFrame.{BlockFrame}
use Rattle.dmn_block.specs.declared.refusal.Refusal.{Refusal}
use Rattle.dmn_branch.specs.Machine as blocks
use Rattle.dmn_branch.specs.Machine.{Command, Connect, Disconnect, MachineState, pin_at}
use Rattle.dmn_branch.specs.Pins.{Pins, no_pins, with_pin, without_pin}
use Rattle.dmn_branch.specs.Step.{profile_of}
use Rattle.dmn_branch.specs.declared.fault.DisconnectRefusal.{DisconnectRefusal}
use Rattle.dmn_bytes.specs.Format.{whole}
use Rattle.dmn_bytes.specs.Law.{place_of}
use Rattle.dmn_bytes.specs.declared.fault.Departure.{Departure}
use Rattle.dmn_bytes.specs.declared.hash.Hash256.{Hash256}
use Rattle.dmn_journal.specs.Journal.{Entry, journal_text}
use Rattle.dmn_journal.specs.Reading.{entry_departs}
use Rattle.dmn_journal.specs.declared.limits.TheConstants.{CONNECT, DISCONNECT}
use Rattle.dmn_rows.specs.declared.start.StartRecord.{StartRecord}

pub record Machine : Type 0 where
  pub start : StartRecord
  -- the commands that were accepted, in order
  pub commands : List Entry
  pub pins : Pins

-- the machine of a start record, without commands and pins
abbrev pub begun : StartRecord → Machine
begun start = record { start = start; commands = []; pins = no_pins }

abbrev pub with_entry : Machine → Entry → Machine
with_entry m entry = record m { commands = m.commands ++ entry ∷ [] }

abbrev pub with_pins : Machine → Pins → Machine
with_pins m pins = record m { pins = pins }

-- the machine as the next opening has it
abbrev pub at_rest : Machine → Machine
at_rest m = with_pins m no_pins

-- ---- commands as the journal keeps them

-- the command of a block with this body
abbrev pub connecting : List ℕ → Entry
connecting body = record { kind = CONNECT; body = body }

-- the command that takes back the last block, of this hash
abbrev pub disconnecting : Hash256 → Entry
disconnecting hash = record { kind = DISCONNECT; body = hash.0 }

abbrev pub connect_by : Result ConnectBody Departure → Result Command Departure
connect_by (Ok body) = Ok (Connect (frame_of body))
connect_by (Err departure) = Err departure

-- the command that an entry keeps, or where its body departs from that of a Connect
unfoldable pub command_of : Entry → Result Command Departure
command_of entry = if entry.kind == CONNECT then connect_by (whole connect_body entry.body) else Ok (Disconnect (record { 0 = entry.body }))

abbrev pub listed : Result Command Departure → List Command
listed (Ok command) = command ∷ []
listed (Err departure) = []

abbrev pub commands_of : List Entry → List Command
commands_of [] = []
commands_of (entry ∷ entries) = listed (command_of entry) ++ commands_of entries

-- the machine of blocks after these commands
abbrev pub state_of : Machine → MachineState
state_of m = record { start = m.start; commands = commands_of m.commands; pins = m.pins }

-- ---- one command more

-- the length above which no journal of this start record grows
abbrev pub journal_max : StartRecord → ℕ
journal_max start = (profile_of start).journal_max

-- why a command is not accepted: the rules refuse it, or with it the journal would be longer than its limit
pub data Denial (R : Type 0) : Type 0 where
  by_rules : R → Denial R
  full : Denial R

-- the machine with a command, by what the rules say of it
abbrev pub answered : {R : Type 0} → Machine → Entry → Result MachineState R → Result Machine (Denial R)
answered m entry (Ok state) = if nat_lt (journal_max m.start) (length (journal_text m.start (m.commands ++ entry ∷ []))) then Err full else Ok (with_entry m entry)
answered m entry (Err refusal) = Err (by_rules refusal)

-- the machine with a block, whose body is this; or why the block is not accepted
abbrev pub connect : Machine → BlockFrame → List ℕ → Result Machine (Denial Refusal)
connect m block body = answered m (connecting body) (blocks.connect (state_of m) block)

-- the machine without its last block, which must have this hash; or why that is not taken back
abbrev pub disconnect : Machine → Hash256 → Result Machine (Denial DisconnectRefusal)
disconnect m hash = answered m (disconnecting hash) (blocks.disconnect (state_of m) hash)

-- what the machine says of an entry: the machine with it; that it is not accepted; or where its body departs from its form
pub data Verdict : Type 0 where
  taken : Machine → Verdict
  denied : Verdict
  formless : ℕ → Verdict

abbrev pub by_answer : {R : Type 0} → Result Machine (Denial R) → Verdict
by_answer (Ok m) = taken m
by_answer (Err denial) = denied

abbrev pub by_command : Machine → Entry → Result Command Departure → Verdict
by_command m entry (Ok (Connect block)) = by_answer (answered m entry (blocks.connect (state_of m) block))
by_command m entry (Ok (Disconnect hash)) = by_answer (answered m entry (blocks.disconnect (state_of m) hash))
by_command m entry (Err departure) = formless (place_of departure)

unfoldable pub verdict : Machine → Entry → Verdict
verdict m entry = by_command m entry (command_of entry)

-- ---- pins

-- with the list of this height, which is held, as a pin of this number
abbrev pub pinned : Machine → ℕ → ℕ → Machine
pinned m number height = with_pins m (with_pin m.pins (pin_at (state_of m) number height))

abbrev pub released : Machine → ℕ → Machine
released m number = with_pins m (without_pin m.pins number)

-- ---- replay

-- the entry is in a record's form, and the machine accepts it
pub record Accepts (m : Machine) (entry : Entry) (n : Machine) : Type 0 where
  pub form : entry_departs entry ≡ None
  pub is : verdict m entry ≡ taken n

-- the machine accepts these entries, one after another
abbrev pub Reaches : Machine → List Entry → Machine → Type 0
Reaches m [] n = n ≡ m
Reaches m (entry ∷ entries) n = (mid : Machine) × Accepts m entry mid × Reaches mid entries n

-- the machine accepts its own commands, each in its place, from its start record on, pins aside
pub record IsReplayed (m : Machine) : Type 0 where
  pub replay : Reaches (begun m.start) m.commands (at_rest m)
