use Rattle.std.proofs.Common.{refl}
use Rattle.dmn_http.proofs.Jsons.{json_is, refused_data, refused_text}
use Rattle.dmn_http.proofs.answer_json.refused_json.Goals as goal

pub returns : goal.returns
returns c = json_is c.json_text.result (refused_data c.args.rule c.args.tx) _ refl (refused_text c.args.rule c.args.tx) (rw c.in_ok-value.ensures at c.json_text.ensures)
