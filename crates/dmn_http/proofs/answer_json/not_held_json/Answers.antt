use Rattle.std.proofs.Common.{refl}
use Rattle.dmn_http.proofs.Jsons.{json_is, not_held_data, not_held_text}
use Rattle.dmn_http.proofs.answer_json.not_held_json.Goals as goal

pub returns : goal.returns
returns c = json_is c.json_text.result (not_held_data c.args.low c.args.high) _ refl (not_held_text c.args.low c.args.high) (rw c.in_ok-value.ensures at c.json_text.ensures)
