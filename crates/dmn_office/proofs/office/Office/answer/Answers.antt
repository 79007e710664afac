use Rattle.dmn_office.proofs.Moving.{request_does}
use Rattle.dmn_office.proofs.office.Office.answer.Goals as goal

pub returns-clause-gives : goal.returns-clause-gives
returns-clause-gives g c =
    request_does (g.D.Device.time c.args.disk.now) (g.D.Device.disk c.args.disk.now) (g.D.Device.disk c.answer.new.disk) c.args.self.now.desk c.answer.new.self c.args.self.now.registry c.answer.new.registry c.args.request.now c.requires.request c.keep_hash.ensures
    (g.D.Device.past_is_over c.args.disk.now) c.answer.ensures.moments c.answer.result c.answer.ensures.answers c.answer.ensures.idle
