use Rattle.dmn_http.proofs.Jsons.{json_is, payees_data, payees_float, payees_text}
use Rattle.dmn_http.proofs.answer_json.payees_json.Goals as goal

pub returns : goal.returns
returns c = json_is c.json_text.result (payees_data c.args.hashes.now) _ (payees_float c.args.hashes.now) (payees_text c.args.hashes.now c.in_ok-values.ensures.plain) (rw (c.in_ok-value.ensures, c.in_ok-values.ensures.values) at c.json_text.ensures)
