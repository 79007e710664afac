-- What a command that is accepted leaves: the machine with it, and a tip near the top; and what that makes of the slots.
use Rattle.std.proofs.Common.{◌≡◌, ℕ, ◌+◌, ◌-◌, ◌*◌, ◌<◌, ◌≤◌, ◌^◌, Bool, true, false, List, [], ◌∷◌, ◌++◌, length, length-append, append_assoc, refl, sym, ap, subst, ◌∙◌, arith, nat_lt, if◌then◌else◌}
use Rattle.std.specs.Prelude.{◌==◌, not, nat_le, Option, None, Some, Result, Ok, Err}
use Rattle.std.specs.Str.{bytes_eq}
use Rattle.std.proofs.lemmas.Bool.Decides.{nat_tests}
use Rattle.std.proofs.lemmas.List.{append-nil}
use Rattle.dmn_block.specs.declared.frame.BlockFrame.{BlockFrame}
use Rattle.dmn_block.specs.declared.refusal.Refusal.{Refusal}
use Rattle.dmn_block.specs.State.{State}
use Rattle.dmn_branch.specs.Machine as blocks
use Rattle.dmn_branch.specs.Machine.{Command, Connect, Disconnect, MachineState, history, tip, top}
use Rattle.dmn_branch.specs.Step.{and_then, step, unless}
use Rattle.dmn_bytes.specs.declared.fault.Departure.{Departure}
use Rattle.dmn_bytes.specs.declared.hash.Hash256.{Hash256}
use Rattle.dmn_journal.specs.Journal.{Entry, blocks as records, entry_text, gate_place, header_text}
use Rattle.dmn_registry.specs.Faithful.{IsFaithful, depth_of, every, longest_tail}
use Rattle.dmn_registry.specs.Machine.{Accepts, Denial, IsReplayed, Machine, Reaches, Verdict, answered, at_rest, begun, by_answer, by_command, command_of, denied, formless, full, journal_max, state_of, taken, verdict, with_entry}
use Rattle.dmn_registry.specs.Opening.{IsAllowed}
use Rattle.dmn_registry.proofs.Depths.{IsNear, near_begun, near_connected, near_disconnected}
use Rattle.dmn_registry.proofs.Lengths.{header_long}
use Rattle.dmn_registry.proofs.Records.{max_small}
use Rattle.dmn_registry.proofs.Resting.{Slotted}
use Rattle.dmn_registry.proofs.Verdicts.{long_with, state_more}
use Rattle.dmn_rows.specs.Defs.{IsStart}
use Rattle.dmn_branch.specs.Step.{profile_of}
use Rattle.dmn_outside.specs.Disk.{IfReads, Three, Told, all_reads, contents, nothing, whole}
use Rattle.dmn_registry.specs.Own.{IsOwn, StandsOn}
use Rattle.dmn_registry.specs.declared.registry.Registry.{Registry}
use Rattle.dmn_slots.specs.Slots.{Slots, newest_mark, records_of, slots_in}
use Rattle.dmn_slots.proofs.Keeping.{kept_more}
use Rattle.dmn_snapshot.specs.declared.slot.Stored.{Stored}

-- ---- what an accepted command is

pub record IsTaken (m : Machine) (entry : Entry) (n : Machine) : Type 0 where
  pub command : Command
  pub is : command_of entry ≡ Ok command
  pub allowed : IsAllowed (state_of m) command
  pub next : n ≡ with_entry m entry
  pub room : long_with m entry ≤ journal_max m.start

machine_or : Machine → Verdict → Machine
machine_or m (taken n) = n
machine_or m denied = m
machine_or m (formless place) = m

record IsAnswer {R : Type 0} (m : Machine) (entry : Entry) (r : Result MachineState R) (n : Machine) : Type 0 where
  state : MachineState
  is : r ≡ Ok state
  next : n ≡ with_entry m entry
  room : long_with m entry ≤ journal_max m.start

answer_shape : {R : Type 0} (m : Machine) (entry : Entry) (r : Result MachineState R) (n : Machine) → by_answer (answered m entry r) ≡ taken n → IsAnswer m entry r n
unfolding machine_or
answer_shape {R = R} m entry (Ok s) n e = go (nat_lt (journal_max m.start) (long_with m entry)) refl e
  where
    fits : (max long : ℕ) → nat_lt max long ≡ false → long ≤ max
    fits max long is = grind (arith, nat_tests)

    go : (b : Bool) → nat_lt (journal_max m.start) (long_with m entry) ≡ b → by_answer (if◌then◌else◌ {A = Result Machine (Denial R)} b (Err full) (Ok (with_entry m entry))) ≡ taken n → IsAnswer {R = R} m entry (Ok s) n
    go true long is = absurd cc
    go false short is = record { state = s; is = refl; next = sym (ap (machine_or m) is); room = fits (journal_max m.start) (long_with m entry) short }
answer_shape m entry (Err refusal) n e = absurd cc

connect_ok : (s : MachineState) (block : BlockFrame) (x : MachineState) → blocks.connect s block ≡ Ok x → blocks.connect s block ≡ Ok (blocks.with_block s block)
unfolding blocks.connect
connect_ok s block x is = go (blocks.broken_hash s block.hash) (step s.start (history s) block) is
  where
    go : (broken : Option Refusal) (stepped : Result State Refusal) → and_then (unless broken block) (λ fresh. and_then stepped (λ next. Ok (blocks.with_block s block))) ≡ Ok x → and_then (unless broken block) (λ fresh. and_then stepped (λ next. Ok (blocks.with_block s block))) ≡ Ok (blocks.with_block s block)
    go None (Ok next) e = refl
    go None (Err refusal) e = absurd cc
    go (Some refusal) stepped e = absurd cc

in_three : {E : Type 0} (n x : MachineState) (a b c : Bool) (p q r : E) → if◌then◌else◌ {A = Result MachineState E} a (Err p) (if◌then◌else◌ {A = Result MachineState E} b (Err q) (if◌then◌else◌ {A = Result MachineState E} c (Err r) (Ok n))) ≡ Ok x
    → if◌then◌else◌ {A = Result MachineState E} a (Err p) (if◌then◌else◌ {A = Result MachineState E} b (Err q) (if◌then◌else◌ {A = Result MachineState E} c (Err r) (Ok n))) ≡ Ok n
in_three n x true b c p q r e = absurd cc
in_three n x false true c p q r e = absurd cc
in_three n x false false true p q r e = absurd cc
in_three n x false false false p q r e = refl

disconnect_ok : (s : MachineState) (hash : Hash256) (x : MachineState) → blocks.disconnect s hash ≡ Ok x → blocks.disconnect s hash ≡ Ok (blocks.without_tip s hash)
unfolding blocks.disconnect
disconnect_ok s hash x is = in_three (blocks.without_tip s hash) x (not (bytes_eq (tip s).hash.0 hash.0)) ((tip s).height == s.start.first - 1) (nat_le (tip s).height (top s - (blocks.profile s).depth)) _ _ _ is

command_shape : (m : Machine) (entry : Entry) (command : Result Command Departure) (n : Machine) → command_of entry ≡ command → by_command m entry command ≡ taken n → IsTaken m entry n
command_shape m entry (Ok (Connect block)) n is e =
    let a = answer_shape m entry (blocks.connect (state_of m) block) n e in
    record { command = Connect block; is = is; allowed = connect_ok (state_of m) block a.state a.is; next = a.next; room = a.room }
command_shape m entry (Ok (Disconnect hash)) n is e =
    let a = answer_shape m entry (blocks.disconnect (state_of m) hash) n e in
    record { command = Disconnect hash; is = is; allowed = disconnect_ok (state_of m) hash a.state a.is; next = a.next; room = a.room }
command_shape m entry (Err departure) n is e = absurd cc

pub shape : (m : Machine) (entry : Entry) (n : Machine) → Accepts m entry n → IsTaken m entry n
unfolding verdict
shape m entry n accepts = command_shape m entry (command_of entry) n refl accepts.is

-- ---- machines that are reached

near_by : (s : MachineState) (command : Command) → IsAllowed s command → IsNear s → IsNear (blocks.with_command s command)
near_by s (Connect block) allowed near = near_connected s block allowed near
near_by s (Disconnect hash) allowed near = (near_disconnected s hash allowed near).near

near_next : (m : Machine) (entry : Entry) (n : Machine) → Accepts m entry n → IsNear (state_of m) → IsNear (state_of n)
near_next m entry n accepts near =
    let t = shape m entry n accepts in
    subst IsNear (sym (ap state_of t.next ∙ state_more m entry t.command t.is)) (near_by (state_of m) t.command t.allowed near)

near_reached : (m : Machine) (entries : List Entry) (n : Machine) → Reaches m entries n → IsNear (state_of m) → IsNear (state_of n)
near_reached m [] n reaches near = subst (λ (k : Machine). IsNear (state_of k)) (sym reaches) near
near_reached m (entry ∷ entries) n reaches near = near_reached reaches.0 entries n reaches.2 (near_next m entry reaches.0 reaches.1 near)

near_rest : (m : Machine) → IsNear (state_of (at_rest m)) → IsNear (state_of m)
unfolding history top
near_rest m near = record { lawful = near.lawful; low = near.low; deep = near.deep }

pub near_replayed : (m : Machine) → IsReplayed m → IsNear (state_of m)
near_replayed m replayed = near_rest m (near_reached (begun m.start) m.commands (at_rest m) replayed.replay (near_begun m.start))

-- ---- how long a journal is

blocks_long : (commands : List Entry) → length commands ≤ length (records commands)
blocks_long [] = omega arith
blocks_long (e ∷ es) = omega (arith, blocks_long es, length-append (entry_text e) (records es))

pub commands_long : (m : Machine) → length m.commands + 1 ≤ gate_place (header_text m.start) m.commands
commands_long m = omega (arith, blocks_long m.commands, length-append (header_text m.start) (records m.commands))

fits_by : (m : Machine) (entries : List Entry) (n : Machine) → Reaches m entries n → gate_place (header_text m.start) m.commands ≤ 2 * 2 ^ 40 → gate_place (header_text n.start) n.commands ≤ 2 * 2 ^ 40
fits_by m [] n reaches fit = subst (λ (k : Machine). gate_place (header_text k.start) k.commands ≤ 2 * 2 ^ 40) (sym reaches) fit
fits_by m (e ∷ es) n reaches fit =
    let t = shape m e reaches.0 reaches.1 in
    fits_by reaches.0 es n reaches.2 (subst (λ (k : Machine). gate_place (header_text k.start) k.commands ≤ 2 * 2 ^ 40) (sym t.next) (omega (arith, t.room, max_small m.start, length-append (header_text m.start ++ records (m.commands ++ e ∷ [])) (0 ∷ []))))

pub replayed_fits : (m : Machine) → IsStart m.start → IsReplayed m → gate_place (header_text m.start) m.commands ≤ 2 * 2 ^ 40
replayed_fits m start replayed = fits_by (begun m.start) m.commands (at_rest m) replayed.replay (omega (arith, header_long m.start start, ap length (append-nil (header_text m.start))))

-- ---- slots behind one command more

faithful_more : (m : Machine) (entry : Entry) (stored : Stored) → IsFaithful m stored → IsFaithful (with_entry m entry) stored
faithful_more m entry stored f = record {
  before = f.before;
  behind = f.behind ++ entry ∷ [];
  commands = ap (λ (l : List Entry). l ++ entry ∷ []) f.commands ∙ append_assoc f.before f.behind (entry ∷ []);
  replayed = f.replayed;
  records = f.records;
  place = f.place;
  holds = f.holds;
}

slotted_more : (m : Machine) (entry : Entry) (slots : Slots) → length m.commands + 1 ≤ records_of (newest_mark slots) + longest_tail (with_entry m entry) → Slotted m slots → Slotted (with_entry m entry) slots
slotted_more m entry slots few kept =
    kept_more (IsFaithful m) (IsFaithful (with_entry m entry)) (length m.commands) (longest_tail m) (length (m.commands ++ entry ∷ [])) (longest_tail (with_entry m entry)) slots (λ stored f. faithful_more m entry stored f) (omega (arith, few, length-append m.commands (entry ∷ []))) kept

-- a disconnect adds a record, and takes the tip one deeper below the top
pub slotted_less : (m : Machine) (entry : Entry) (hash : Hash256) (slots : Slots) → IsReplayed m → command_of entry ≡ Ok (Disconnect hash) → IsAllowed (state_of m) (Disconnect hash) → Slotted m slots → Slotted (with_entry m entry) slots
slotted_less m entry hash slots replayed is allowed kept =
    let near = near_replayed m replayed in
    let deeper = near_disconnected (state_of m) hash allowed near in
    let more : depth_of (state_of (with_entry m entry)) ≡ depth_of (blocks.without_tip (state_of m) hash) = ap depth_of (state_more m entry (Disconnect hash) is) in
    slotted_more m entry slots (omega (arith, kept.tail_is, near.low, deeper.top, deeper.tip, more)) kept

-- a connect adds a record, where fewer than a snapshot is due at stand behind the newest slot
pub slotted_next : (m : Machine) (entry : Entry) (slots : Slots) → length m.commands < records_of (newest_mark slots) + every m.start → Slotted m slots → Slotted (with_entry m entry) slots
slotted_next m entry slots room kept = slotted_more m entry slots (omega (arith, room)) kept

-- ---- few records stand behind the newest slot

most_in : (registry : Registry) (m : Machine) (all : Three (List ℕ)) (n : ℕ) → IsReplayed m → IsOwn m all → registry.newest ≡ newest_mark (slots_in all) → registry.journal.records ≡ length m.commands → n ≡ registry.journal.records - records_of registry.newest → n ≤ every m.start + (profile_of m.start).depth
most_in registry m all n replayed own newest records is =
    let near = near_replayed m replayed in
    omega (arith, own.slots.tail_is, ap records_of newest, records, is, near.deep, near.low)

pub tail_most : (registry : Registry) (m : Machine) (told : Told) (n : ℕ) → StandsOn registry m told → n ≡ registry.journal.records - records_of registry.newest → IfReads told (λ all. n ≤ every m.start + (profile_of m.start).depth)
tail_most registry m nothing n stands is = tt
tail_most registry m (contents c) n stands is = most_in registry m c n stands.registry_stands.replayed stands.disk stands.newest stands.registry_stands.records is
tail_most registry m (whole w) n stands is = most_in registry m (all_reads w.files) n stands.registry_stands.replayed stands.disk.0 stands.newest stands.registry_stands.records is
