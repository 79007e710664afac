use Rattle.std.proofs.Common.{sym}
use Rattle.dmn_payloads.proofs.Paying.{pays_key, pays_script, pays_other}
use Rattle.dmn_payloads.proofs.script.script_kind.Goals as goal

pub returns-in-Some : goal.returns-in-Some
returns-in-Some c = sym (pays_key c.args.script.now c.in-Some.hash c.in-Some.ensures.0 c.in-Some.ensures.1)

pub returns-in-Some-hash_between : goal.returns-in-Some-hash_between
returns-in-Some-hash_between c = sym (pays_script c.args.script.now c.in-Some-hash_between.hash c.in_default.ensures c.in-Some-hash_between.ensures.0 c.in-Some-hash_between.ensures.1)

pub returns : goal.returns
returns c = sym (pays_other c.args.script.now c.in_default.ensures c.in_default-hash_between.ensures)
