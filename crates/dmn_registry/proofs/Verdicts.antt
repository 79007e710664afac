-- What the machine says of an entry.
use Rattle.std.proofs.Common.{◌≡◌, ℕ, ◌≤◌, ◌<◌, ◌++◌, List, [], ◌∷◌, length, refl, sym, ap, ◌∙◌, append_assoc, true, false, nat_lt}
use Rattle.std.specs.Prelude.{Result, Ok, Err}
use Rattle.std.proofs.lemmas.Bool.{le-ltb, lt-ltb}
use Rattle.dmn_block.specs.declared.refusal.Refusal.{Refusal}
use Rattle.dmn_branch.specs.Machine as blocks
use Rattle.dmn_branch.specs.Machine.{Command, Connect, Disconnect, MachineState}
use Rattle.dmn_branch.specs.declared.fault.DisconnectRefusal.{DisconnectRefusal}
use Rattle.dmn_bytes.specs.Law.{place_of}
use Rattle.dmn_bytes.specs.declared.fault.Departure.{Departure}
use Rattle.dmn_journal.specs.Journal.{Entry, journal_text}
use Rattle.dmn_registry.specs.Machine.{Machine, Verdict, answered, by_answer, by_command, command_of, commands_of, denied, formless, journal_max, listed, state_of, taken, verdict, with_entry}
use Rattle.dmn_registry.specs.Opening.{IsAllowed, IsRefused}

commands_more : (entries : List Entry) (entry : Entry) (command : Command) → command_of entry ≡ Ok command → commands_of (entries ++ entry ∷ []) ≡ commands_of entries ++ command ∷ []
commands_more [] entry command is = ap (λ (r : Result Command Departure). listed r ++ []) is
commands_more (e ∷ entries) entry command is = ap (λ (l : List Command). listed (command_of e) ++ l) (commands_more entries entry command is) ∙ sym (append_assoc (listed (command_of e)) (commands_of entries) (command ∷ []))

-- the machine of blocks has the command that an entry keeps
pub state_more : (m : Machine) (entry : Entry) (command : Command) → command_of entry ≡ Ok command → state_of (with_entry m entry) ≡ blocks.with_command (state_of m) command
state_more m entry command is = let more : commands_of (m.commands ++ entry ∷ []) ≡ commands_of m.commands ++ command ∷ [] = commands_more m.commands entry command is in λ i. record { start = m.start; commands = more i; pins = m.pins }

-- the length of the journal with this entry
abbrev pub long_with : Machine → Entry → ℕ
long_with m entry = length (journal_text m.start (m.commands ++ entry ∷ []))

pub answer_taken : {R : Type 0} (m : Machine) (entry : Entry) (r : Result MachineState R) (s : MachineState) → r ≡ Ok s → long_with m entry ≤ journal_max m.start → answered m entry r ≡ Ok (with_entry m entry)
answer_taken {R = R} m entry r s is fits =
    let short : nat_lt (journal_max m.start) (long_with m entry) ≡ false = le-ltb (journal_max m.start) (long_with m entry) fits in
    ap (λ (x : Result MachineState R). answered m entry x) is ∙ rw short refl

pub answer_full : {R : Type 0} (m : Machine) (entry : Entry) (r : Result MachineState R) (s : MachineState) → r ≡ Ok s → journal_max m.start < long_with m entry → answered m entry r ≡ Err Rattle.dmn_registry.specs.Machine.full
answer_full {R = R} m entry r s is long =
    let over : nat_lt (journal_max m.start) (long_with m entry) ≡ true = lt-ltb (journal_max m.start) (long_with m entry) long in
    ap (λ (x : Result MachineState R). answered m entry x) is ∙ rw over refl

by_taken : (m : Machine) (entry : Entry) (command : Command) → IsAllowed (state_of m) command → long_with m entry ≤ journal_max m.start → by_command m entry (Ok command) ≡ taken (with_entry m entry)
by_taken m entry (Connect block) allowed fits = ap by_answer (answer_taken m entry (blocks.connect (state_of m) block) _ allowed fits)
by_taken m entry (Disconnect hash) allowed fits = ap by_answer (answer_taken m entry (blocks.disconnect (state_of m) hash) _ allowed fits)

pub is_taken : (m : Machine) (entry : Entry) (command : Command) → command_of entry ≡ Ok command → IsAllowed (state_of m) command → long_with m entry ≤ journal_max m.start → verdict m entry ≡ taken (with_entry m entry)
unfolding verdict
is_taken m entry command is allowed fits = ap (λ (r : Result Command Departure). by_command m entry r) is ∙ by_taken m entry command allowed fits

by_denied : (m : Machine) (entry : Entry) (command : Command) → IsRefused (state_of m) command → by_command m entry (Ok command) ≡ denied
by_denied m entry (Connect block) refused = ap (λ (r : Result MachineState Refusal). by_answer (answered m entry r)) refused.1
by_denied m entry (Disconnect hash) refused = ap (λ (r : Result MachineState DisconnectRefusal). by_answer (answered m entry r)) refused.1

pub is_denied : (m : Machine) (entry : Entry) (command : Command) → command_of entry ≡ Ok command → IsRefused (state_of m) command → verdict m entry ≡ denied
unfolding verdict
is_denied m entry command is refused = ap (λ (r : Result Command Departure). by_command m entry r) is ∙ by_denied m entry command refused

answer_long : {R : Type 0} (m : Machine) (entry : Entry) (r : Result MachineState R) → nat_lt (journal_max m.start) (long_with m entry) ≡ true → by_answer (answered m entry r) ≡ denied
answer_long m entry (Ok s) over = rw over refl
answer_long m entry (Err refusal) over = refl

by_long : (m : Machine) (entry : Entry) (command : Command) → nat_lt (journal_max m.start) (long_with m entry) ≡ true → by_command m entry (Ok command) ≡ denied
by_long m entry (Connect block) over = answer_long m entry (blocks.connect (state_of m) block) over
by_long m entry (Disconnect hash) over = answer_long m entry (blocks.disconnect (state_of m) hash) over

-- a command with which the journal would be too long is denied, whatever the rules say
pub is_too_long : (m : Machine) (entry : Entry) (command : Command) → command_of entry ≡ Ok command → journal_max m.start < long_with m entry → verdict m entry ≡ denied
unfolding verdict
is_too_long m entry command is long = ap (λ (r : Result Command Departure). by_command m entry r) is ∙ by_long m entry command (lt-ltb (journal_max m.start) (long_with m entry) long)

pub is_formless : (m : Machine) (entry : Entry) (departure : Departure) → command_of entry ≡ Err departure → verdict m entry ≡ formless (place_of departure)
unfolding verdict
is_formless m entry departure is = ap (λ (r : Result Command Departure). by_command m entry r) is
