use Rattle.std.proofs.Common.{refl, arith, ◌∙◌, ◌≡◌}
use Rattle.hex.specs.Hex.{encode_lower}
use Rattle.dmn_http.proofs.Jsons.{json_is, not_tip_data, not_tip_text, plain_hex}
use Rattle.dmn_http.proofs.answer_json.not_tip_json.Goals as goal

pub returns : goal.returns
returns c =
    let text : c.as_str.result.now ≡ encode_lower c.args.tip.now = c.as_str.ensures.value ∙ c.in_ok-text.ensures in
    json_is c.json_text.result (not_tip_data (encode_lower c.args.tip.now)) _ refl (not_tip_text (encode_lower c.args.tip.now) (plain_hex c.args.tip.now (λ k. omega (arith, c.type_inv.tip k)))) (rw (c.in_ok-value.ensures, text) at c.json_text.ensures)
