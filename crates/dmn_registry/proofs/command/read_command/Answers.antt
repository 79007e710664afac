use Rattle.dmn_journal.specs.Reads.{entry_of}
use Rattle.dmn_registry.proofs.Blocks.{body_form, connect_command, connect_fault, disconnect_command}
use Rattle.dmn_registry.proofs.command.read_command.Goals as goal

pub hash_of-requires : goal.hash_of-requires
hash_of-requires c = rw c.as_slice-body.ensures ((body_form (entry_of c.args.entry.now) c.requires.form).0 c.if-entry-eq-CONNECT.false)

pub returns-in-Ok-clause-reads : goal.returns-in-Ok-clause-reads
returns-in-Ok-clause-reads c =
    let fits = (body_form (entry_of c.args.entry.now) c.requires.form).1 in
    (connect_command (entry_of c.args.entry.now) c.in-Ok.block c.if-entry-eq-CONNECT.true (rw (← c.as_slice-body.ensures) c.in-Ok.ensures.found) c.in-Ok.ensures.ids, c.in-Ok.ensures.keeps (rw c.as_slice-body.ensures fits))

pub returns-in-Ok-clause-few : goal.returns-in-Ok-clause-few
returns-in-Ok-clause-few c = (body_form (entry_of c.args.entry.now) c.requires.form).1

pub returns-in-Err-clause-reads : goal.returns-in-Err-clause-reads
returns-in-Err-clause-reads c = connect_fault (entry_of c.args.entry.now) c.in-Err.fault c.if-entry-eq-CONNECT.true (rw (← c.as_slice-body.ensures) c.in-Err.ensures.departs)

pub returns-in-Err-clause-few : goal.returns-in-Err-clause-few
returns-in-Err-clause-few c = (body_form (entry_of c.args.entry.now) c.requires.form).1

pub returns-else-entry-eq-CONNECT-clause-reads : goal.returns-else-entry-eq-CONNECT-clause-reads
returns-else-entry-eq-CONNECT-clause-reads c = (rw (c.hash_of.ensures, c.as_slice-body.ensures) (disconnect_command (entry_of c.args.entry.now) c.if-entry-eq-CONNECT.false), tt)
