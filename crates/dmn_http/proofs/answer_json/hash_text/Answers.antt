use Rattle.std.proofs.Common.{arith}
use Rattle.dmn_http.proofs.Jsons.{plain_hex}
use Rattle.dmn_http.proofs.answer_json.hash_text.Goals as goal

pub returns-clause-plain : goal.returns-clause-plain
returns-clause-plain c = plain_hex c.args.bytes.now (λ k. omega (arith, c.type_inv.bytes k))
