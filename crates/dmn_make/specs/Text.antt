-- The seven lines that are sent: those of an audit of the registry that is opened again, how many records its opening replayed,
-- and the hash of all entries that were told.
use Rattle.std.specs.Prelude.{ℕ, ◌+◌, ◌-◌, ◌==◌, ◌&&◌, nat_le, if◌then◌else◌, List, [], ◌∷◌, ◌++◌, length, codes, decimal}
use Rattle.hex.specs.Hex.{encode_lower}
use Rattle.dmn_audit.specs.Text.{audit_text, line}
use Rattle.dmn_bytes.specs.Hash.{dsha}
use Rattle.dmn_journal.specs.Journal.{Entry}
use Rattle.dmn_journal.specs.declared.limits.TheConstants.{CONNECT}
use Rattle.dmn_registry.specs.Audits.{audit_of}
use Rattle.dmn_registry.specs.Faithful.{every}
use Rattle.dmn_registry.specs.Machine.{Machine, at_rest}
use Rattle.dmn_registry.specs.declared.auditing.Audit.{Audit}
use Rattle.dmn_make.specs.Going.{made}

-- A block that is added where as many commands as this stand behind the mark moves it to its own place. The others leave it.
abbrev pub mark_with : ℕ → ℕ → ℕ → Entry → ℕ
mark_with every mark place entry = if (entry.kind == CONNECT) && nat_le every (place - mark) then place else mark

-- the mark behind these commands, of which the first has this place
abbrev pub mark_from : ℕ → ℕ → ℕ → List Entry → ℕ
mark_from every mark place [] = mark
mark_from every mark place (entry ∷ entries) = mark_from every (mark_with every mark place entry) (place + 1) entries

-- how many commands stand before the newest snapshot, by the commands alone
unfoldable pub mark_of : Machine → ℕ
mark_of m = mark_from (every m.start) 0 0 m.commands

-- and how many behind it
abbrev pub tail_of : Machine → ℕ
tail_of m = length m.commands - mark_of m

abbrev pub seven_lines : Audit → ℕ → List ℕ → List ℕ
seven_lines audit tail pages = audit_text audit ++ line (codes "tail") (decimal tail) ++ line (codes "pages") (encode_lower (dsha pages))

unfoldable pub make_text : ℕ → List ℕ
make_text count = let g = made count in seven_lines (audit_of (at_rest g.machine)) (tail_of g.machine) g.pages
