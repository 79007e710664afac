use Rattle.std.specs.Prelude.{Some}
use Rattle.std.proofs.lemmas.Bool.Decides.{Decides-eqb}
use Rattle.std.proofs.lemmas.Slice.Eq.{strip_prefix_is, strip_suffix_is}
use Rattle.dmn_payloads.proofs.Paying.{no_front, no_back, no_length, between}
use Rattle.dmn_payloads.proofs.script.hash_between.Goals as goal

pub returns-in_err-rest : goal.returns-in_err-rest
returns-in_err-rest c = rw c.from_residual.ensures (no_front c.args.script.now c.args.front.now c.args.back.now c.in_err-rest.ensures.cases)

pub returns-in_err-hash : goal.returns-in_err-hash
returns-in_err-hash c = rw c.from_residual-in_err-hash.ensures (no_back c.args.script.now c.args.front.now c.args.back.now c.in_ok-rest.rest.now c.in_ok-rest.ensures.cases.1 c.in_err-hash.ensures.cases)

pub returns-in-Ok : goal.returns-in-Ok
returns-in-Ok c =
    let parts = strip_prefix_is Decides-eqb c.args.script.now c.args.front.now (Some c.in_ok-rest.rest) c.in_ok-rest.ensures.cases in
    let found = strip_suffix_is Decides-eqb c.in_ok-rest.rest.now c.args.back.now (Some c.in_ok-hash.hash) c.in_ok-hash.ensures.cases in
    rw c.in-Ok.ensures.1.same (c.in-Ok.ensures.1.long, between c.args.script.now c.args.front.now c.args.back.now c.in_ok-rest.rest.now c.in_ok-hash.hash.now parts found)

pub returns-in-Err : goal.returns-in-Err
returns-in-Err c =
    let found = strip_suffix_is Decides-eqb c.in_ok-rest.rest.now c.args.back.now (Some c.in_ok-hash.hash) c.in_ok-hash.ensures.cases in
    no_length c.args.script.now c.args.front.now c.args.back.now c.in_ok-rest.rest.now c.in_ok-hash.hash.now c.in_ok-rest.ensures.cases.1 found c.in-Err.ensures.1
