use Rattle.std.proofs.Common.{refl}
use Rattle.dmn_http.proofs.Jsons.{json_is, whole_data, whole_text}
use Rattle.dmn_http.proofs.answer_json.whole_json.Goals as goal

pub returns : goal.returns
returns c = json_is c.json_text.result (whole_data c.args.rule) _ refl (whole_text c.args.rule) (rw c.in_ok-value.ensures at c.json_text.ensures)
