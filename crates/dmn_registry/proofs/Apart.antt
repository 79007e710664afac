-- Pins stand apart: the rules of blocks and the journal's limit don't look at them, and an image has none.
use Rattle.std.proofs.Common.{arith, ◌≡◌, ◌≤◌, ℕ, List, [], ◌∷◌, ◌++◌, refl, ap, ◌∙◌, Bool, true, false, nat_lt, if◌then◌else◌}
use Rattle.std.specs.Prelude.{Result, Ok, Err, ◌-◌, ◌==◌, not, length, nat_le}
use Rattle.std.specs.Str.{bytes_eq}
use Rattle.dmn_block.specs.declared.frame.BlockFrame.{BlockFrame}
use Rattle.dmn_block.specs.declared.refusal.Refusal.{Refusal}
use Rattle.dmn_branch.specs.Machine as blocks
use Rattle.dmn_branch.specs.Machine.{Command, Connect, Disconnect, MachineState, connect, disconnect, hash_rules, history, top}
use Rattle.dmn_branch.specs.Pins.{Pins, no_pins}
use Rattle.dmn_branch.specs.declared.fault.DisconnectRefusal.{DisconnectRefusal}
use Rattle.dmn_bytes.specs.declared.fault.Departure.{Departure}
use Rattle.dmn_bytes.specs.declared.hash.Hash256.{Hash256}
use Rattle.dmn_journal.specs.Journal.{Entry, journal_text}
use Rattle.dmn_journal.specs.Reading.{Found, closed, departs, found}
use Rattle.dmn_outside.specs.Crashes.{Rests}
use Rattle.dmn_outside.specs.Disk.{Three, Told, contents, nothing, whole}
use Rattle.dmn_registry.specs.Departs.{stop_at, stop_by}
use Rattle.dmn_registry.specs.Machine.{Accepts, Denial, Machine, Verdict, answered, at_rest, by_answer, by_command, command_of, denied, formless, full, journal_max, state_of, taken, verdict, with_entry, with_pins}
use Rattle.dmn_registry.specs.Faithful.{IsFaithful, longest_tail}
use Rattle.dmn_registry.specs.Own.{IsOwn}
use Rattle.dmn_slots.specs.Slots.{AreKept, Slots, slots_in}
use Rattle.dmn_slots.proofs.Keeping.{kept_more}
use Rattle.dmn_snapshot.specs.declared.slot.Stored.{Stored}

-- ---- the rules of blocks

-- the answer, of a machine with other pins
abbrev pub but_pins : {R : Type 0} → Pins → Result MachineState R → Result MachineState R
but_pins pins (Ok s) = Ok (record s { pins = pins })
but_pins pins (Err refusal) = Err refusal

in_two : {X Y : Type 0} (pins : Pins) (s : MachineState) (a : Result X Refusal) (b : Result Y Refusal)
    → Rattle.dmn_branch.specs.Step.and_then a (λ x. Rattle.dmn_branch.specs.Step.and_then b (λ y. Ok (record s { pins = pins }))) ≡ but_pins pins (Rattle.dmn_branch.specs.Step.and_then a (λ x. Rattle.dmn_branch.specs.Step.and_then b (λ y. Ok s)))
in_two pins s (Ok x) (Ok y) = refl
in_two pins s (Ok x) (Err refusal) = refl
in_two pins s (Err refusal) b = refl

connect_apart : (s : MachineState) (pins : Pins) (block : BlockFrame) → connect (record s { pins = pins }) block ≡ but_pins pins (connect s block)
unfolding connect hash_rules history top
connect_apart s pins block = in_two pins (blocks.with_block s block) (Rattle.dmn_branch.specs.Step.unless (blocks.broken_hash s block.hash) block) (Rattle.dmn_branch.specs.Step.step s.start (history s) block)

in_three : {R : Type 0} (pins : Pins) (s : MachineState) (a b c : Bool) (x y z : R)
    → if◌then◌else◌ {A = Result MachineState R} a (Err x) (if◌then◌else◌ {A = Result MachineState R} b (Err y) (if◌then◌else◌ {A = Result MachineState R} c (Err z) (Ok (record s { pins = pins }))))
    ≡ but_pins pins (if◌then◌else◌ {A = Result MachineState R} a (Err x) (if◌then◌else◌ {A = Result MachineState R} b (Err y) (if◌then◌else◌ {A = Result MachineState R} c (Err z) (Ok s))))
in_three pins s true b c x y z = refl
in_three pins s false true c x y z = refl
in_three pins s false false true x y z = refl
in_three pins s false false false x y z = refl

disconnect_apart : (s : MachineState) (pins : Pins) (hash : Hash256) → disconnect (record s { pins = pins }) hash ≡ but_pins pins (disconnect s hash)
unfolding disconnect history top
disconnect_apart s pins hash =
    in_three pins (blocks.without_tip s hash) (not (bytes_eq (blocks.tip s).hash.0 hash.0)) ((blocks.tip s).height == s.start.first - 1) (nat_le (blocks.tip s).height (top s - (blocks.profile s).depth)) _ _ _

-- ---- verdicts

abbrev verdict_with : Pins → Verdict → Verdict
verdict_with pins (taken n) = taken (with_pins n pins)
verdict_with pins denied = denied
verdict_with pins (formless place) = formless place

answered_apart : {R : Type 0} (m : Machine) (pins : Pins) (entry : Entry) (r : Result MachineState R) → by_answer (answered (with_pins m pins) entry (but_pins pins r)) ≡ verdict_with pins (by_answer (answered m entry r))
answered_apart {R = R} m pins entry (Ok s) = go (nat_lt (journal_max m.start) (length (journal_text m.start (m.commands ++ entry ∷ []))))
  where
    go : (b : Bool) → by_answer (if◌then◌else◌ {A = Result Machine (Denial R)} b (Err full) (Ok (with_entry (with_pins m pins) entry))) ≡ verdict_with pins (by_answer (if◌then◌else◌ {A = Result Machine (Denial R)} b (Err full) (Ok (with_entry m entry))))
    go true = refl
    go false = refl
answered_apart m pins entry (Err refusal) = refl

by_command_apart : (m : Machine) (pins : Pins) (entry : Entry) (command : Result Command Departure) → by_command (with_pins m pins) entry command ≡ verdict_with pins (by_command m entry command)
by_command_apart m pins entry (Ok (Connect block)) = ap (λ (r : Result MachineState Refusal). by_answer (answered (with_pins m pins) entry r)) (connect_apart (state_of m) pins block) ∙ answered_apart m pins entry (connect (state_of m) block)
by_command_apart m pins entry (Ok (Disconnect hash)) = ap (λ (r : Result MachineState DisconnectRefusal). by_answer (answered (with_pins m pins) entry r)) (disconnect_apart (state_of m) pins hash) ∙ answered_apart m pins entry (disconnect (state_of m) hash)
by_command_apart m pins entry (Err departure) = refl

verdict_apart : (m : Machine) (pins : Pins) (entry : Entry) → verdict (with_pins m pins) entry ≡ verdict_with pins (verdict m entry)
unfolding verdict
verdict_apart m pins entry = by_command_apart m pins entry (command_of entry)

-- what is accepted is accepted with other pins too
pub accepts_apart : (m : Machine) (pins : Pins) (entry : Entry) (n : Machine) → Accepts m entry n → Accepts (with_pins m pins) entry (with_pins n pins)
accepts_apart m pins entry n accepts = record { form = accepts.form; is = verdict_apart m pins entry ∙ ap (verdict_with pins) accepts.is }

pub accepts_rest : (m : Machine) (entry : Entry) (n : Machine) → Accepts m entry n → Accepts (at_rest m) entry (at_rest n)
accepts_rest m entry n accepts = accepts_apart m no_pins entry n accepts

-- ---- where a file departs

stop_by_apart : (pins : Pins) (at : ℕ) (v : Verdict) → stop_by at (verdict_with pins v) ≡ stop_by at v
stop_by_apart pins at (taken n) = refl
stop_by_apart pins at denied = refl
stop_by_apart pins at (formless place) = refl

pub stop_apart : (m : Machine) (pins : Pins) (at : ℕ) (f : Found) → stop_at (with_pins m pins) at f ≡ stop_at m at f
stop_apart m pins at closed = refl
stop_apart m pins at (found entry) = ap (λ (v : Verdict). stop_by at v) (verdict_apart m pins entry) ∙ stop_by_apart pins at (verdict m entry)
stop_apart m pins at (departs place) = refl

-- ---- images

-- a slot says nothing of pins
faithful_apart : (m : Machine) (pins : Pins) (stored : Stored) → IsFaithful m stored → IsFaithful (with_pins m pins) stored
faithful_apart m pins stored f = record { before = f.before; behind = f.behind; commands = f.commands; replayed = f.replayed; records = f.records; place = f.place; holds = f.holds }

tail_apart : (m : Machine) (pins : Pins) → longest_tail m ≤ longest_tail (with_pins m pins)
unfolding history top
tail_apart m pins = omega arith

slots_apart : (m : Machine) (pins : Pins) (slots : Slots) → AreKept (IsFaithful m) (length m.commands) (longest_tail m) slots → AreKept (IsFaithful (with_pins m pins)) (length m.commands) (longest_tail (with_pins m pins)) slots
slots_apart m pins slots kept =
    kept_more (IsFaithful m) (IsFaithful (with_pins m pins)) (length m.commands) (longest_tail m) (length m.commands) (longest_tail (with_pins m pins)) slots (λ stored f. faithful_apart m pins stored f) (omega (arith, kept.tail_is, tail_apart m pins)) kept

-- an own image is own of the machine with other pins
pub own_apart : (m : Machine) (pins : Pins) (image : Three (List ℕ)) → IsOwn m image → IsOwn (with_pins m pins) image
own_apart m pins image own = record {
  file = record { start = own.file.start; replayed = record { replay = own.file.replayed.replay }; journal = own.file.journal };
  slots = slots_apart m pins (slots_in image) own.slots;
}

pub rests_apart : (m : Machine) (pins : Pins) (told : Told) → Rests (IsOwn m) told → Rests (IsOwn (with_pins m pins)) told
rests_apart m pins nothing rests = tt
rests_apart m pins (contents c) rests = own_apart m pins c rests
rests_apart m pins (whole w) rests = (own_apart m pins _ rests.0, rests.1)
