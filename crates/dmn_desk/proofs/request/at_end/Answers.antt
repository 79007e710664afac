use Rattle.std.proofs.Common.{refl, sym, arith, length}
use Rattle.std.proofs.lemmas.Bool.{lt-ltb}
use Rattle.dmn_bytes.specs.declared.fault.Departure.TheVariants.{Form}
use Rattle.dmn_desk.proofs.request.at_end.Goals as goal

pub returns-then-rest-gt0-clause-told : goal.returns-then-rest-gt0-clause-told
returns-then-rest-gt0-clause-told c = (Form c.args.reader.now.at, rw (lt-ltb c.args.reader.now.at (length c.args.reader.now.text) (omega (arith, c.rest.ensures.rest, c.if-rest-gt0.true))) refl, sym c.at-at.ensures.place)
