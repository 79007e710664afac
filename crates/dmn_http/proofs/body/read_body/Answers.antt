use Rattle.dmn_http.proofs.body.read_body.Goals as goal

pub returns-in-Err-clause-size : goal.returns-in-Err-clause-size
returns-in-Err-clause-size g c = c.skip_body.ensures.size c.args.size
