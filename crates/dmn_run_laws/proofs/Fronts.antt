-- Fronts of the commands between two machines.
use Rattle.std.proofs.Common.{◌≡◌, Bool, true, false, List, [], ◌∷◌, ◌++◌, length, nat_lt, if◌then◌else◌, refl, sym, ap, subst, ◌∙◌, append_assoc}
use Rattle.std.specs.Prelude.{Result, Ok, Err}
use Rattle.std.proofs.lemmas.List.{append-nil}
use Rattle.dmn_branch.specs.Machine as blocks
use Rattle.dmn_branch.specs.Machine.{Command, Connect, Disconnect, MachineState}
use Rattle.dmn_bytes.specs.declared.fault.Departure.{Departure}
use Rattle.dmn_journal.specs.Journal.{Entry, HasCommands, header_text, journal_text}
use Rattle.dmn_registry.specs.Machine.{Accepts, Denial, Machine, Reaches, answered, at_rest, by_answer, by_command, command_of, denied, formless, full, journal_max, state_of, taken, verdict, with_entry}
use Rattle.dmn_registry.specs.Machine as registries
use Rattle.dmn_rows.specs.declared.start.StartRecord.{StartRecord}
use Rattle.dmn_run_laws.specs.Fronts.{ImagesHaveFronts}

abbrev machine_or : Machine → registries.Verdict → Machine
machine_or m (taken n) = n
machine_or m denied = m
machine_or m (formless place) = m

taken_if : (R : Type 0) (b : Bool) (k n : Machine) → by_answer (if◌then◌else◌ {A = Result Machine (Denial R)} b (Err full) (Ok k)) ≡ taken n → n ≡ k
taken_if R true k n is = let wrong : denied ≡ taken n = is in absurd cc
taken_if R false k n is = let e : taken k ≡ taken n = is in sym (ap (machine_or k) e)

taken_answer : {R : Type 0} (m : Machine) (entry : Entry) (n : Machine) (r : Result MachineState R) → by_answer (answered m entry r) ≡ taken n → n ≡ with_entry m entry
taken_answer {R} m entry n (Ok s) is = taken_if R (nat_lt (journal_max m.start) (length (journal_text m.start (m.commands ++ entry ∷ [])))) (with_entry m entry) n is
taken_answer {R} m entry n (Err refusal) is = absurd (cc is)

taken_command : (m : Machine) (entry : Entry) (n : Machine) (c : Result Command Departure) → by_command m entry c ≡ taken n → n ≡ with_entry m entry
taken_command m entry n (Ok (Connect block)) is = taken_answer m entry n (blocks.connect (state_of m) block) is
taken_command m entry n (Ok (Disconnect hash)) is = taken_answer m entry n (blocks.disconnect (state_of m) hash) is
taken_command m entry n (Err departure) is = absurd (cc is)

-- a command that is accepted is the last one then
taken_entry : (m : Machine) (entry : Entry) (n : Machine) → Accepts m entry n → n ≡ with_entry m entry
unfolding verdict
taken_entry m entry n accepts = taken_command m entry n (command_of entry) accepts.is

record Grows (m : Machine) (entries : List Entry) (n : Machine) : Type 0 where
  start : n.start ≡ m.start
  commands : n.commands ≡ m.commands ++ entries

accepts_grows : (m : Machine) (entry : Entry) (n : Machine) → Accepts m entry n → Grows m (entry ∷ []) n
accepts_grows m entry n accepts = let same : n ≡ with_entry m entry = taken_entry m entry n accepts in record { start = ap (λ (k : Machine). k.start) same; commands = ap (λ (k : Machine). k.commands) same }

reaches_grows : (m : Machine) (entries : List Entry) (n : Machine) → Reaches m entries n → Grows m entries n
reaches_grows m [] n r = record { start = ap (λ (k : Machine). k.start) r; commands = ap (λ (k : Machine). k.commands) r ∙ sym (append-nil m.commands) }
reaches_grows m (e ∷ entries) n r =
    let one = accepts_grows m e r.0 r.1 in
    let more = reaches_grows r.0 entries n r.2 in
    record { start = more.start ∙ one.start; commands = more.commands ∙ ap (λ (l : List Entry). l ++ entries) one.commands ∙ append_assoc m.commands (e ∷ []) entries }

reaches_on : (m : Machine) (es : List Entry) (n : Machine) (ds : List Entry) (o : Machine) → Reaches m es n → Reaches n ds o → Reaches m (es ++ ds) o
reaches_on m [] n ds o one two = subst (λ (k : Machine). Reaches k ds o) one two
reaches_on m (e ∷ es) n ds o one two = (one.0, one.1, reaches_on one.0 es n ds o one.2 two)

pub images_have_fronts : ImagesHaveFronts
images_have_fronts m n image b =
    let grows = reaches_grows (at_rest m) b.from.0 (at_rest b.machine) b.from.1 in
    record {
      accepted = b.from.0 ++ b.to.0;
      front = b.from.0;
      rest = b.to.0;
      reaches = reaches_on (at_rest m) b.from.0 (at_rest b.machine) b.to.0 (at_rest n) b.from.1 b.to.1;
      split = refl;
      commands = subst (λ (s : StartRecord). HasCommands (header_text s) (m.commands ++ b.from.0) image.zeroth) grows.start (subst (λ (l : List Entry). HasCommands (header_text b.machine.start) l image.zeroth) grows.commands b.own.file.journal);
    }
