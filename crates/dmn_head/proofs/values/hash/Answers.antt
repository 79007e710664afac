use Rattle.hex.proofs.HexLemmas.{decode_sized-encode_lower}
use Rattle.std.proofs.Common.{◌∙◌, ap, sym}
use Rattle.hex.specs.Hex.{encode_lower}
use Rattle.dmn_head.proofs.values.hash.Goals as goal

pub returns-in_default : goal.returns-in_default
returns-in_default c = λ bytes len each e.
    let h = rw (e, decode_sized-encode_lower bytes 32 len each) at c.in_default.ensures.value in
    let bad = h.0 in cc

pub returns-else-is_written : goal.returns-else-is_written
returns-else-is_written c = λ bytes len each e.
    let h = rw (e, decode_sized-encode_lower bytes 32 len each) at c.in-Ok.ensures.value in
    c.if-is_written.ensures.written (e ∙ ap encode_lower (sym h.1))
