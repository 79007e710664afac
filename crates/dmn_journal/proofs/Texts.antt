-- The text of a journal.
use Rattle.std.proofs.Common.{ℕ, List, [], ◌∷◌, ◌++◌, refl, sym, ap, arith}
use Rattle.std.proofs.lemmas.List.{append-nil}
use Rattle.dmn_journal.specs.Journal.{header_text}
use Rattle.dmn_journal.specs.Laws.{JournalsHaveTheirCommands, MadeIsAJournal}

pub journals_have_commands : JournalsHaveTheirCommands
journals_have_commands start commands short = record { gate = 0; rest = []; shut = omega arith; short = short; is = refl }

pub made_is_a_journal : MadeIsAJournal
made_is_a_journal start = ap (λ (l : List ℕ). l ++ 0 ∷ []) (sym (append-nil (header_text start)))
