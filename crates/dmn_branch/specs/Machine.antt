-- The machine: a start record and the commands that were accepted since, what is held of them, and one command more. What
-- the branch decides and what the top decides stand apart: a disconnect takes the branch back by a block, and leaves the top.
-- Pins stand beside the commands: no command changes them, and they change nothing of what is held.
use Rattle.std.specs.Prelude.{ℕ, ◌-◌, ◌&&◌, Bool, not, ◌==◌, nat_le, max, List, [], ◌∷◌, ◌++◌, length, take, drop, find, Option, None, Some, Result, Ok, Err, if◌then◌else◌}
use Rattle.std.specs.Option.{option_map}
use Rattle.std.specs.Str.{bytes_eq}
use Rattle.dmn_block.specs.declared.frame.BlockFrame.{BlockFrame}
use Rattle.dmn_block.specs.declared.refusal.Refusal.{Refusal}
use Rattle.dmn_block.specs.Shape.{Numbered, when, first_of, by_block}
use Rattle.dmn_block.specs.State.{State}
use Rattle.dmn_bytes.specs.declared.hash.Hash256.{Hash256}
use Rattle.dmn_bytes.specs.Points.{is_zero}
use Rattle.dmn_rows.specs.declared.profile.Profile.{Profile}
use Rattle.dmn_rows.specs.declared.row.MnRow.{MnRow}
use Rattle.dmn_rows.specs.declared.rule.Rule.TheVariants.{ZeroHash, HashKnown}
use Rattle.dmn_rows.specs.declared.start.StartRecord.{StartRecord}
use Rattle.dmn_branch.specs.declared.fault.DisconnectRefusal.{DisconnectRefusal}
use Rattle.dmn_branch.specs.declared.fault.DisconnectRefusal.TheVariants.{NotTip, AtStart, TooDeep}
use Rattle.dmn_quorums.specs.Forming.{Formed}
use Rattle.dmn_branch.specs.Quorums.{state_in}
use Rattle.dmn_branch.specs.Step as steps
use Rattle.dmn_branch.specs.Step.{and_then, unless, step, tip_of}
use Rattle.dmn_branch.specs.Pins.{Pinned, Pins, no_pins, with_pin, without_pin}
use Rattle.dmn_branch.specs.Replay.{replay}

-- an accepted command: a block was added, or the last one, of this hash, was taken back
pub data Command : Type 0 where
  Connect : (block : BlockFrame) → Command
  Disconnect : (hash : Hash256) → Command

pub record MachineState : Type 0 where
  pub start : StartRecord
  -- the commands that were accepted, in order
  pub commands : List Command
  pub pins : Pins

-- without commands and pins
abbrev pub begun : StartRecord → MachineState
begun start = record { start = start; commands = []; pins = no_pins }

-- ---- the run through the commands

-- what it leaves: the blocks of the branch, and the greatest height that its tip had so far
pub record Run : Type 0 where
  pub branch : List BlockFrame
  pub top : ℕ

-- one block more; the top follows the tip where that rises above it
abbrev pub connected : StartRecord → Run → BlockFrame → Run
connected start run block = record {
  branch = run.branch ++ block ∷ [];
  top = max run.top (tip_of start (replay start (run.branch ++ block ∷ []))).height;
}

-- the last block goes, and the top stays
abbrev pub disconnected : Run → Run
disconnected run = record { branch = take (length run.branch - 1) run.branch; top = run.top }

abbrev pub ran : StartRecord → Run → Command → Run
ran start run (Connect block) = connected start run block
ran start run (Disconnect hash) = disconnected run

abbrev pub run_on : StartRecord → Run → List Command → Run
run_on start run [] = run
run_on start run (command ∷ commands) = run_on start (ran start run command) commands

abbrev pub run : StartRecord → List Command → Run
run start commands = run_on start (record { branch = []; top = start.first - 1 }) commands

-- ---- what the branch alone decides

-- the blocks from the first height to the tip's
abbrev pub branch : MachineState → List BlockFrame
branch m = (run m.start m.commands).branch

-- the states from the height before the first block on
unfoldable pub history : MachineState → List State
history m = replay m.start (branch m)

-- the state at the tip
abbrev pub tip : MachineState → State
tip m = tip_of m.start (history m)

-- ---- what the top alone decides

unfoldable pub top : MachineState → ℕ
top m = (run m.start m.commands).top

abbrev pub profile : MachineState → Profile
profile m = steps.profile_of m.start

-- the lowest height that is held
abbrev pub low : MachineState → ℕ
low m = max (m.start.first - 1) (top m - (profile m).kept)

-- no block at or below this height is taken back
abbrev pub floor : MachineState → ℕ
floor m = max (m.start.first - 1) (top m - (profile m).depth)

-- ---- what is held: the branch from the lowest height on, which is the top's

-- held are the heights from the lowest one to the tip's
abbrev pub is_held : MachineState → ℕ → Bool
is_held m height = nat_le (low m) height && nat_le height (tip m).height

-- the states of the heights that are held, in order
abbrev pub held_states : MachineState → List State
held_states m = drop (low m - (m.start.first - 1)) (history m)

-- the state at a height that is held
abbrev pub state_at : MachineState → ℕ → Option State
state_at m height = state_in m.start.first (history m) height

-- the held height whose block has the hash
abbrev pub height_of : MachineState → Hash256 → Option ℕ
height_of m hash = option_map (λ s. s.height) (find (λ s. bytes_eq s.hash.0 hash.0) (held_states m))

-- ---- one block more

abbrev pub known_at : Option ℕ → Option Refusal
known_at None = None
known_at (Some height) = Some (by_block (HashKnown height))

-- rules 1 and 2, on a block's hash
unfoldable pub hash_rules : MachineState → Hash256 → Numbered
hash_rules m hash = (1, when (is_zero hash.0) (by_block ZeroHash)) ∷ (2, known_at (height_of m hash)) ∷ []

-- the first of them that is broken
abbrev pub broken_hash : MachineState → Hash256 → Option Refusal
broken_hash m hash = first_of (hash_rules m hash)

-- the quorum of each type, for a block behind the tip
abbrev pub formed : MachineState → List Formed
formed m = steps.formed_on m.start (history m)

-- how many events a block behind the tip has, where no rule before the last ones refuses it
abbrev pub events : MachineState → BlockFrame → ℕ
events m block = steps.events_from (profile m) (formed m) (tip m) block

abbrev pub with_command : MachineState → Command → MachineState
with_command m command = record m { commands = m.commands ++ command ∷ [] }

abbrev pub with_block : MachineState → BlockFrame → MachineState
with_block m block = with_command m (Connect block)

-- the machine with the block, or the first rule that the block breaks
unfoldable pub connect : MachineState → BlockFrame → Result MachineState Refusal
connect m block =
    and_then (unless (broken_hash m block.hash) block)
    (λ fresh. and_then (step m.start (history m) block) (λ next. Ok (with_block m block)))

-- ---- one block less

abbrev pub without_tip : MachineState → Hash256 → MachineState
without_tip m hash = with_command m (Disconnect hash)

-- the machine without its last block, which must have this hash; or why that is not taken back
unfoldable pub disconnect : MachineState → Hash256 → Result MachineState DisconnectRefusal
disconnect m hash =
    if not (bytes_eq (tip m).hash.0 hash.0) then Err (NotTip (tip m).hash)
    else if (tip m).height == m.start.first - 1 then Err AtStart
    else if nat_le (tip m).height (top m - (profile m).depth) then Err (TooDeep (floor m))
    else Ok (without_tip m hash)

-- ---- pins

abbrev pub rows_of : Option State → List MnRow
rows_of None = []
rows_of (Some state) = state.rows

-- the list of a height that is held, as a pin of this number
abbrev pub pin_at : MachineState → ℕ → ℕ → Pinned
pin_at m number height = record { number = number; height = height; rows = rows_of (state_at m height) }

abbrev pub pinned : MachineState → ℕ → ℕ → MachineState
pinned m number height = record m { pins = with_pin m.pins (pin_at m number height) }

abbrev pub released : MachineState → ℕ → MachineState
released m number = record m { pins = without_pin m.pins number }
