-- The status, the body and the frame of each answer.
use Rattle.std.specs.Prelude.{ℕ, ◌^◌, ◌<◌, ◌≤◌, Bool, true, false, List, [], length}
use Rattle.std.specs.Int.{w32, to_le_bytes}
use Rattle.dmn_branch.specs.Step.{most_rows}
use Rattle.dmn_desk.specs.declared.answer.Answer.{Answer}
use Rattle.dmn_desk.specs.declared.answer.Answer.TheVariants as answers
use Rattle.dmn_desk.specs.declared.answer.GrownAnswer.{GrownAnswer}
use Rattle.dmn_desk.specs.declared.answer.GrownAnswer.TheVariants as grown
use Rattle.dmn_desk.specs.declared.answer.ShortAnswer.{ShortAnswer}
use Rattle.dmn_desk.specs.declared.answer.ShortAnswer.TheVariants.{Connected, Disconnected, Tip, Pinned, Released, PinsFull, PinUnknown, Memory, BadRequest, NotHeld, Refused, NotTip, AtStart, TooDeep, JournalFull, NoSuch, BaseAbove}
use Rattle.dmn_desk.specs.Framed.{connected_body, tip_body, held_body, list_body, refused_body, most_items, hashes_body, page_body, quorums_body}
use Rattle.dmn_frames.specs.Frames.{framed}
use Rattle.dmn_diff.specs.Defs.{diff_text}
use Rattle.dmn_payloads.specs.declared.commitment.Commitment.{Commitment}
use Rattle.dmn_rows.specs.RowText.{row_text}

abbrev pub short_status : ShortAnswer → ℕ
short_status (Connected height hash) = 0
short_status (Disconnected height hash) = 0
short_status (Tip height hash low top) = 0
short_status (Pinned pin) = 0
short_status Released = 0
short_status Memory = 1
short_status (BadRequest at) = 2
short_status (NotHeld low high) = 3
short_status NoSuch = 4
short_status BaseAbove = 5
short_status PinsFull = 6
short_status PinUnknown = 7
short_status (Refused refusal) = 8
short_status (NotTip tip) = 9
short_status AtStart = 10
short_status (TooDeep floor) = 11
short_status JournalFull = 12

unfoldable pub short_body : ShortAnswer → List ℕ
short_body (Connected height hash) = connected_body height hash
short_body (Disconnected height hash) = connected_body height hash
short_body (Tip height hash low top) = tip_body height hash low top
short_body (Pinned pin) = to_le_bytes w32 pin
short_body Released = []
short_body Memory = []
short_body (BadRequest at) = to_le_bytes w32 at
short_body (NotHeld low high) = held_body low high
short_body NoSuch = []
short_body BaseAbove = []
short_body PinsFull = []
short_body PinUnknown = []
short_body (Refused refusal) = refused_body refusal
short_body (NotTip tip) = tip.0
short_body AtStart = []
short_body (TooDeep floor) = to_le_bytes w32 floor
short_body JournalFull = []

unfoldable pub grown_body : GrownAnswer → List ℕ
grown_body (grown.List height hash root entries) = list_body height hash root entries
grown_body (grown.Row r) = row_text r.penalty_at r
grown_body (grown.Payees hashes) = hashes_body hashes
grown_body (grown.Members hashes) = hashes_body hashes
grown_body (grown.Quorums commitments) = quorums_body commitments
grown_body (grown.Page entries) = page_body entries
grown_body (grown.Diff diff) = diff_text diff

-- an answer that grows is always an Ok
abbrev pub status_of : Answer → ℕ
status_of (answers.Short answer) = short_status answer
status_of (answers.Grown answer) = 0

abbrev pub body_of : Answer → List ℕ
body_of (answers.Short answer) = short_body answer
body_of (answers.Grown answer) = grown_body answer

abbrev pub short_frame : ShortAnswer → List ℕ
short_frame answer = framed (short_status answer) (short_body answer)

-- the frame of an answer
abbrev pub frame_of : Answer → List ℕ
frame_of answer = framed (status_of answer) (body_of answer)

-- the answers whose length is bounded
abbrev pub is_short : Answer → Bool
is_short (answers.Short answer) = true
is_short (answers.Grown answer) = false

-- the count and the length of these commitments fit their fields
pub record IsSendable (commitments : List Commitment) : Type 0 where
  pub count : length commitments ≤ most_items
  pub body : length (quorums_body commitments) < 2 ^ 32

-- what an answer that grows keeps, so that its length fits its field
abbrev pub IsBounded : Answer → Type 0
IsBounded (answers.Short answer) = Unit {0}
IsBounded (answers.Grown (grown.List height hash root entries)) = length entries ≤ most_rows
IsBounded (answers.Grown (grown.Row r)) = Unit {0}
IsBounded (answers.Grown (grown.Payees hashes)) = length hashes ≤ most_items
IsBounded (answers.Grown (grown.Members hashes)) = length hashes ≤ most_items
IsBounded (answers.Grown (grown.Quorums commitments)) = IsSendable commitments
IsBounded (answers.Grown (grown.Page entries)) = length entries ≤ most_items
IsBounded (answers.Grown (grown.Diff diff)) = length (diff_text diff) < 2 ^ 32

-- the length of the body fits its field
abbrev pub Fits : Answer → Type 0
Fits answer = length (body_of answer) < 2 ^ 32
