use Rattle.dmn_http.specs.Texts.{reply_head}
use Rattle.dmn_http.proofs.write.head_text.Goals as goal

pub returns-clause-text : goal.returns-clause-text
unfolding reply_head
returns-clause-text c = rw (c.put-7.ensures.bytes, c.put-6.ensures.bytes, c.put-5.ensures.bytes, c.put-4.ensures.bytes, c.put-3.ensures.bytes, c.put-2.ensures.bytes, c.put.ensures.bytes, c.new-head.ensures, c.words.ensures.text, c.content_type.ensures.text, c.as_bytes.ensures.value, c.format.ensures.text)
