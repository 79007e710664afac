use Rattle.std.proofs.Common.{refl, arith, ◌∙◌, ◌≡◌}
use Rattle.hex.specs.Hex.{encode_lower}
use Rattle.dmn_http.proofs.Jsons.{json_is, tip_data, tip_text, plain_hex}
use Rattle.dmn_http.proofs.answer_json.tip_json.Goals as goal

pub returns : goal.returns
returns c =
    let text : c.as_str.result.now ≡ encode_lower c.args.hash.now = c.as_str.ensures.value ∙ c.in_ok-text.ensures in
    json_is c.json_text.result (tip_data (encode_lower c.args.hash.now) c.args.height c.args.low c.args.top) _ refl (tip_text (encode_lower c.args.hash.now) c.args.height c.args.low c.args.top (plain_hex c.args.hash.now (λ k. omega (arith, c.type_inv.hash k)))) (rw (c.in_ok-value.ensures, text) at c.json_text.ensures)
