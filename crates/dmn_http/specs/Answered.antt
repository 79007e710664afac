-- The bytes of the replies to answers.
use Rattle.std.specs.Prelude.{◌≡◌, ◌⊎◌, ℕ, Bool, true, false, List, [], ◌∷◌, ◌++◌, Option, Some, None, codes, decimal}
use Rattle.hex.specs.Hex.{encode_lower}
use Rattle.dmn_bytes.specs.declared.hash.Hash256.{Hash256}
use Rattle.dmn_rows.specs.Rule.{rule_number}
use Rattle.dmn_desk.specs.declared.answer.Answer.{Answer}
use Rattle.dmn_desk.specs.declared.answer.Answer.TheVariants as answers
use Rattle.dmn_desk.specs.declared.answer.GrownAnswer.{GrownAnswer}
use Rattle.dmn_desk.specs.declared.answer.GrownAnswer.TheVariants as grown
use Rattle.dmn_desk.specs.declared.answer.ShortAnswer.{ShortAnswer}
use Rattle.dmn_desk.specs.declared.answer.ShortAnswer.TheVariants as short
use Rattle.dmn_desk.specs.declared.request.Request.{Request}
use Rattle.dmn_desk.specs.declared.request.Request.TheVariants as requests
use Rattle.dmn_desk.specs.Texts.{grown_body}
use Rattle.dmn_http.specs.declared.reply.HttpReply.{HttpReply}
use Rattle.dmn_http.specs.Texts.{text_of, reply_text, memory_text, error_body, place_body}

-- where a block stands
abbrev pub block_body : List ℕ → ℕ → List ℕ
block_body hash height = codes "{\"hash\":\"" ++ encode_lower hash ++ codes "\",\"height\":" ++ decimal height ++ codes "}"

abbrev pub tip_body : List ℕ → ℕ → ℕ → ℕ → List ℕ
tip_body hash height low top = codes "{\"hash\":\"" ++ encode_lower hash ++ codes "\",\"height\":" ++ decimal height ++ codes ",\"low\":" ++ decimal low ++ codes ",\"top\":" ++ decimal top ++ codes "}"

abbrev pub pin_body : ℕ → List ℕ
pin_body pin = codes "{\"pin\":" ++ decimal pin ++ codes "}"

abbrev pub released_body : ℕ → List ℕ
released_body pin = codes "{\"released\":" ++ decimal pin ++ codes "}"

abbrev pub not_held_body : ℕ → ℕ → List ℕ
not_held_body low high = codes "{\"error\":\"NotHeld\",\"high\":" ++ decimal high ++ codes ",\"low\":" ++ decimal low ++ codes "}"

-- the number of a rule, and the place of the transaction that breaks it, where there is one
abbrev pub tx_text : Option ℕ → List ℕ
tx_text None = codes "null"
tx_text (Some tx) = decimal tx

abbrev pub refused_body : ℕ → Option ℕ → List ℕ
refused_body rule tx = codes "{\"error\":\"Refused\",\"rule\":" ++ decimal rule ++ codes ",\"tx\":" ++ tx_text tx ++ codes "}"

abbrev pub not_tip_body : List ℕ → List ℕ
not_tip_body tip = codes "{\"error\":\"NotTip\",\"tip\":\"" ++ encode_lower tip ++ codes "\"}"

abbrev pub too_deep_body : ℕ → List ℕ
too_deep_body floor = codes "{\"error\":\"TooDeep\",\"floor\":" ++ decimal floor ++ codes "}"

-- hashes as JSON texts, with commas between
abbrev pub quoted_from : Bool → List Hash256 → List ℕ
quoted_from later [] = codes "]}"
quoted_from false (hash ∷ more) = codes "\"" ++ encode_lower hash.0 ++ codes "\"" ++ quoted_from true more
quoted_from true (hash ∷ more) = codes ",\"" ++ encode_lower hash.0 ++ codes "\"" ++ quoted_from true more

abbrev pub payees_body : List Hash256 → List ℕ
payees_body hashes = codes "{\"payees\":[" ++ quoted_from false hashes

-- the pin that a request releases
abbrev pub pin_of : Request → ℕ
pin_of (requests.Connect block body) = 0
pin_of (requests.Disconnect hash) = 0
pin_of requests.Tip = 0
pin_of (requests.List height) = 0
pin_of (requests.Row height hash) = 0
pin_of (requests.Payees height count) = 0
pin_of (requests.Members kind base) = 0
pin_of (requests.Quorums height) = 0
pin_of (requests.Diff base block) = 0
pin_of (requests.Pin height) = 0
pin_of (requests.Page pin from count) = 0
pin_of (requests.Release pin) = pin

-- the reply to an answer of this request whose length is bounded
abbrev pub short_text : Request → ShortAnswer → List ℕ
short_text request (short.Connected height hash) = text_of 200 true (block_body hash.0 height)
short_text request (short.Disconnected height hash) = text_of 200 true (block_body hash.0 height)
short_text request (short.Tip height hash low top) = text_of 200 true (tip_body hash.0 height low top)
short_text request (short.Pinned pin) = text_of 200 true (pin_body pin)
short_text request short.Released = text_of 200 true (released_body (pin_of request))
short_text request short.Memory = memory_text
short_text request (short.BadRequest at) = text_of 400 true (place_body at)
short_text request (short.NotHeld low high) = text_of 410 true (not_held_body low high)
short_text request short.NoSuch = text_of 404 true (error_body (codes "NoSuch"))
short_text request short.BaseAbove = text_of 409 true (error_body (codes "BaseAbove"))
short_text request short.PinsFull = text_of 409 true (error_body (codes "PinsFull"))
short_text request short.PinUnknown = text_of 404 true (error_body (codes "PinUnknown"))
short_text request (short.Refused refusal) = text_of 409 true (refused_body (rule_number refusal.rule) refusal.tx)
short_text request (short.NotTip tip) = text_of 409 true (not_tip_body tip.0)
short_text request short.AtStart = text_of 409 true (error_body (codes "AtStart"))
short_text request (short.TooDeep floor) = text_of 409 true (too_deep_body floor)
short_text request short.JournalFull = text_of 507 true (error_body (codes "JournalFull"))

-- the reply to an answer that grows: the body of its frame, but for payees
abbrev pub grown_text : GrownAnswer → List ℕ
grown_text (grown.List height hash root entries) = text_of 200 false (grown_body (grown.List height hash root entries))
grown_text (grown.Row row) = text_of 200 false (grown_body (grown.Row row))
grown_text (grown.Payees hashes) = text_of 200 true (payees_body hashes)
grown_text (grown.Members hashes) = text_of 200 false (grown_body (grown.Members hashes))
grown_text (grown.Quorums commitments) = text_of 200 false (grown_body (grown.Quorums commitments))
grown_text (grown.Page entries) = text_of 200 false (grown_body (grown.Page entries))
grown_text (grown.Diff diff) = text_of 200 false (grown_body (grown.Diff diff))

-- the reply to the answer of a request
abbrev pub answer_text : Request → Answer → List ℕ
answer_text request (answers.Short answer) = short_text request answer
answer_text request (answers.Grown answer) = grown_text answer

-- an answer whose reply takes no memory: to a command that was accepted, and Memory
abbrev pub is_fixed : Answer → Bool
is_fixed (answers.Short (short.Connected height hash)) = true
is_fixed (answers.Short (short.Disconnected height hash)) = true
is_fixed (answers.Short (short.Pinned pin)) = true
is_fixed (answers.Short short.Released) = true
is_fixed (answers.Short short.Memory) = true
is_fixed answer = false

-- the answer's reply; or that of Memory, unless the answer's takes none
abbrev pub ShowsAnswer : Request → Answer → HttpReply → Type 0
ShowsAnswer request answer reply = (reply_text reply ≡ answer_text request answer) ⊎ ((is_fixed answer ≡ false) × (reply_text reply ≡ memory_text))
