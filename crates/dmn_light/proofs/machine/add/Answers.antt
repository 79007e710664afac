use Rattle.dmn_light.proofs.Answering.{body_added, body_refused, header_bounded}
use Rattle.dmn_light.proofs.machine.add.Goals as goal

pub returns-in-Ok-add_header-clause-answers : goal.returns-in-Ok-add_header-clause-answers
returns-in-Ok-add_header-clause-answers c = body_added c.args.client.now c.add_header.new.self c.args.body.now c.in-Ok.header c.root.result tt c.in-Ok.ensures.found c.root.ensures c.in-Ok-add_header.ensures

pub returns-in-Err-clause-answers : goal.returns-in-Err-clause-answers
returns-in-Err-clause-answers c = body_refused c.args.client.now c.add_header.new.self c.args.body.now c.in-Ok.header c.root.result c.in-Err.fault c.in-Ok.ensures.found c.root.ensures c.in-Err.ensures

pub returns-in-Err-clause-bounded : goal.returns-in-Err-clause-bounded
returns-in-Err-clause-bounded c = header_bounded c.args.client.now c.add_header.new.self c.in-Ok.header.hash c.root.result c.in-Err.fault c.in-Err.ensures
