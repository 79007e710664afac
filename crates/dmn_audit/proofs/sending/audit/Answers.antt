use Rattle.dmn_audit.proofs.sending.audit.Goals as goal

pub returns-in-Err-NotJournal-clause-own : goal.returns-in-Err-NotJournal-clause-own
returns-in-Err-NotJournal-clause-own g c = λ tells m known. rw c.in-Err-NotJournal.field-0-is at (c.in-Err-NotJournal.ensures.recovered m known)

pub returns-in-Err-NotJournal-clause-complete : goal.returns-in-Err-NotJournal-clause-complete
returns-in-Err-NotJournal-clause-complete g c = λ m known no_disk no_line. absurd (rw c.in-Err-NotJournal.field-0-is at (c.in-Err-NotJournal.ensures.recovered m known))

pub returns-in-Err-NotJournal-clause-sure : goal.returns-in-Err-NotJournal-clause-sure
returns-in-Err-NotJournal-clause-sure g c = λ m known told enough. absurd (rw c.in-Err-NotJournal.field-0-is at (c.in-Err-NotJournal.ensures.recovered m known))
