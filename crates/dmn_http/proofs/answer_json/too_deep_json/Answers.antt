use Rattle.std.proofs.Common.{refl}
use Rattle.dmn_http.proofs.Jsons.{json_is, too_deep_data, too_deep_text}
use Rattle.dmn_http.proofs.answer_json.too_deep_json.Goals as goal

pub returns : goal.returns
returns c = json_is c.json_text.result (too_deep_data c.args.floor) _ refl (too_deep_text c.args.floor) (rw c.in_ok-value.ensures at c.json_text.ensures)
