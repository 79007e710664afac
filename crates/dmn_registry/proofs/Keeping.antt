-- A machine with one command more, and the registry that stands for it.
use Rattle.std.proofs.Common.{◌≡◌, ℕ, ◌+◌, ◌<◌, List, [], ◌∷◌, ◌++◌, length, refl, sym, subst, ◌∙◌, arith, length-append}
use Rattle.std.specs.Prelude.{None, Ok}
use Rattle.std.specs.Int.{w32, to_le_bytes}
use Rattle.dmn_branch.specs.Machine as blocks
use Rattle.dmn_branch.specs.Machine.{Command, MachineState}
use Rattle.dmn_branch.specs.Stands as branches
use Rattle.dmn_journal.specs.Journal.{Entry, IsShort, blocks as records, entry_text, gate_place, header_text, size_of_record}
use Rattle.dmn_journal.specs.Reading.{entry_departs}
use Rattle.dmn_journal.proofs.Append.{next_place}
use Rattle.dmn_registry.specs.Machine.{Accepts, IsReplayed, Machine, Reaches, at_rest, begun, command_of, journal_max, state_of, with_entry}
use Rattle.dmn_registry.specs.Opening.{IsAllowed}
use Rattle.dmn_registry.specs.Own.{StandsFor}
use Rattle.dmn_registry.specs.declared.registry.Registry.{Registry}
use Rattle.dmn_registry.proofs.Apart.{accepts_rest}
use Rattle.dmn_registry.proofs.Verdicts.{is_taken, long_with, state_more}

-- ---- places

entry_long : (entry : Entry) → length (entry_text entry ++ 0 ∷ []) ≡ size_of_record entry
entry_long entry = omega (arith, length-append (entry_text entry) (0 ∷ []), length-append (to_le_bytes w32 (length entry.body + 1)) (entry.kind ∷ entry.body))

-- the next gate's place
pub gate_next : (m : Machine) (entry : Entry) (end : ℕ) → IsShort entry → end ≡ gate_place (header_text m.start) m.commands → end + size_of_record entry ≡ gate_place (header_text m.start) (m.commands ++ entry ∷ [])
gate_next m entry end short place = omega (arith, entry_long entry) ∙ next_place (header_text m.start) m.commands entry short end place (entry_text entry ++ 0 ∷ []) refl

-- the length of the journal's text with this command
pub text_long : (m : Machine) (entry : Entry) (end : ℕ) → IsShort entry → end ≡ gate_place (header_text m.start) m.commands → long_with m entry ≡ end + size_of_record entry + 1
text_long m entry end short place = omega (arith, gate_next m entry end short place, length-append (header_text m.start ++ records (m.commands ++ entry ∷ [])) (0 ∷ []))

-- ---- replay

reaches_more : (m : Machine) (entries : List Entry) (n : Machine) (entry : Entry) (o : Machine) → Reaches m entries n → Accepts n entry o → Reaches m (entries ++ entry ∷ []) o
reaches_more m [] n entry o reaches accepts = (o, subst (λ (k : Machine). Accepts k entry o) reaches accepts, refl)
reaches_more m (e ∷ entries) n entry o reaches accepts = (reaches.0, reaches.1, reaches_more reaches.0 entries n entry o reaches.2 accepts)

pub next_replayed : (m : Machine) (entry : Entry) → IsReplayed m → Accepts m entry (with_entry m entry) → IsReplayed (with_entry m entry)
next_replayed m entry replayed accepts = record { replay = reaches_more (begun m.start) m.commands (at_rest m) entry (at_rest (with_entry m entry)) replayed.replay (accepts_rest m entry (with_entry m entry) accepts) }

-- ---- a registry

pub record Next (m : Machine) (entry : Entry) (new : Registry) : Type 0 where
  pub accepts : Accepts m entry (with_entry m entry)
  pub stands : StandsFor new (with_entry m entry)

pub stands_next : (old new : Registry) (m : Machine) (entry : Entry) (command : Command) → StandsFor old m → entry_departs entry ≡ None → IsShort entry → old.journal.end + size_of_record entry < journal_max m.start → command_of entry ≡ Ok command → IsAllowed (state_of m) command
    → branches.StandsFor new.branch (blocks.with_command (state_of m) command) → new.spent ≡ old.spent → new.journal.end ≡ old.journal.end + size_of_record entry → new.journal.records ≡ old.journal.records + 1 → Next m entry new
stands_next old new m entry command stands form short below is allowed branch spent end more =
    let accepts : Accepts m entry (with_entry m entry) = record { form = form; is = is_taken m entry command is allowed (omega (arith, below, text_long m entry old.journal.end short stands.end)) } in
    record {
      accepts = accepts;
      stands = record {
        usable = spent ∙ stands.usable;
        branch = subst (λ (s : MachineState). branches.StandsFor new.branch s) (sym (state_more m entry command is)) branch;
        end = end ∙ gate_next m entry old.journal.end short stands.end;
        records = omega (arith, more, stands.records, length-append m.commands (entry ∷ []));
        start = stands.start;
        replayed = next_replayed m entry stands.replayed accepts;
      };
    }
