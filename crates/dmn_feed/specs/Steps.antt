-- What the private parts of a turn do.
use Rattle.std.specs.Prelude.{◌≡◌, ◌≢◌, ◌⊎◌, ℕ, Bool, true, List, [], ◌++◌, take, Option, None, Some, Result, Ok, Err}
use Rattle.dmn_outside.specs.Disk.{DiskView}
use Rattle.dmn_outside.specs.Line.{LineView, Talk}
use Rattle.dmn_outside.specs.Pieces.{Ended, Took}
use Rattle.dmn_outside.specs.declared.device.DiskFault.{DiskFault}
use Rattle.dmn_desk.specs.declared.answer.Answer.{Answer}
use Rattle.dmn_desk.specs.declared.answer.Answer.TheVariants as answers
use Rattle.dmn_desk.specs.declared.answer.ShortAnswer.TheVariants.{Memory}
use Rattle.dmn_desk.specs.Texts.{Fits, frame_of}
use Rattle.dmn_frames.specs.Frames.{Frame, frame_at}
use Rattle.dmn_frames.specs.Steps.{Emptied, Faulted, SentPart}
use Rattle.dmn_registry.specs.Machine.{Machine}
use Rattle.dmn_feed.specs.declared.asking.Stop.{Stop}
use Rattle.dmn_feed.specs.declared.asking.Stop.TheVariants as stops
use Rattle.dmn_feed.specs.declared.feeding.Turn.{Turn}
use Rattle.dmn_feed.specs.declared.feeding.Turn.TheVariants as turns
use Rattle.dmn_feed.specs.declared.reply.Reply.{Reply}
use Rattle.dmn_feed.specs.declared.reply.Reply.TheVariants as replies
use Rattle.dmn_office.specs.declared.office.Office.{Office}
use Rattle.dmn_office.specs.Lasting.{SentLater}
use Rattle.dmn_office.specs.Offices.{Breaks, GoesOn, StandsAt}
use Rattle.dmn_feed.specs.Outcome.{Sent, entry_of}
use Rattle.dmn_feed.specs.Serving.{MayAnswer}

-- ---- a frame in hand

-- the frame may be answered so
abbrev pub MayServe : ℕ → DiskView → DiskView → Office → Frame → Answer → Office → Type 0
MayServe started before after old frame answer new = (m : Machine) → StandsAt old m before.told → (n : Machine) × MayAnswer m frame answer n × GoesOn started before after m n new

-- the disk failed while the frame's command was done
abbrev pub MayBreak : ℕ → DiskView → DiskView → Office → Frame → Type 0
MayBreak started before after old frame = (m : Machine) → StandsAt old m before.told → Breaks started before after m (Some (entry_of frame))

abbrev pub some_of : Result Answer DiskFault → Result (Option Answer) Stop
some_of (Ok answer) = Ok (Some answer)
some_of (Err fault) = Err stops.DiskFault

-- the frame's body was taken, and the frame may be answered so; or the input ended, or a device failed
abbrev pub Asks : Result (Option Answer) Stop → ℕ → DiskView → DiskView → Office → ℕ → ℕ → Office → Talk → Talk → Type 0
Asks (Ok (Some answer)) started before after old kind size new x y = Took size x y × MayServe started before after old (record { kind = kind; body = take size x.left }) answer new
Asks (Ok None) started before after old kind size new x y = Ended size x y × (after ≡ before)
Asks (Err stops.LineFault) started before after old kind size new x y = Faulted x y × (after ≡ before)
Asks (Err stops.DiskFault) started before after old kind size new x y = Took size x y × MayBreak started before after old (record { kind = kind; body = take size x.left })

-- ---- a reply

-- the bytes of a reply
abbrev pub reply_bytes : Reply → List ℕ
reply_bytes (replies.Fixed bytes) = bytes
reply_bytes (replies.Grown bytes) = bytes

-- a reply to an answer that grows: its frame, or without memory that of Memory
abbrev pub RepliesGrown : List ℕ → Answer → Type 0
RepliesGrown bytes answer = ((bytes ≡ frame_of answer) × Fits answer) ⊎ (bytes ≡ frame_of (answers.Short Memory))

-- a reply to an answer
abbrev pub RepliesTo : List ℕ → Answer → Type 0
RepliesTo bytes (answers.Short answer) = (bytes ≡ frame_of (answers.Short answer)) × Fits (answers.Short answer)
RepliesTo bytes (answers.Grown answer) = RepliesGrown bytes (answers.Grown answer)

-- ---- a turn

-- the frame at the front of a text is taken, and may be answered so
pub record Turned (started : ℕ) (before after : DiskView) (old : Office) (answer : Answer) (new : Office) (text left : List ℕ) : Type 0 where
  pub frame : Frame
  pub front : frame_at text ≡ Some (frame, left)
  pub may : MayServe started before after old frame answer new
  pub fits : Fits answer

-- a front of these bytes was sent before a fault of this caller's, less than all of them, at the first of these moments
pub record SentFewer (stamped : Bool) (bytes moments : List ℕ) (old new : LineView) : Type 0 where
  pub part : SentPart bytes old.talk new.talk
  pub later : List ℕ
  pub stamps : stamped ≡ true → new.moments.sent ++ later ≡ old.moments.sent ++ moments

-- no byte was sent
abbrev pub IsStill : Bool → LineView → LineView → Type 0
IsStill stamped old new = stamped ≡ true → new.moments ≡ old.moments

abbrev pub Turns : Result Turn Stop → Bool → ℕ → DiskView → DiskView → Office → Office → LineView → LineView → Type 0
Turns (Ok turns.Answered) stamped started before after old new x y =
    (answer : Answer) × (s : SentLater (frame_of answer) after) × Turned started before after old answer new x.talk.left y.talk.left × Sent stamped y.talk.left (frame_of answer) s.moments x y
Turns (Ok turns.Ended) stamped started before after old new x y = (x.talk.left ≡ []) × Emptied x.talk y.talk × (after ≡ before) × IsStill stamped x y
Turns (Ok turns.Cut) stamped started before after old new x y = (x.talk.left ≢ []) × (frame_at x.talk.left ≡ None) × Emptied x.talk y.talk × (after ≡ before) × IsStill stamped x y
Turns (Err stops.LineFault) stamped started before after old new x y = (Faulted x.talk y.talk × (after ≡ before) × IsStill stamped x y)
    ⊎ ((answer : Answer) × (s : SentLater (frame_of answer) after) × Turned started before after old answer new x.talk.left y.talk.left × SentFewer stamped (frame_of answer) s.moments x y)
Turns (Err stops.DiskFault) stamped started before after old new x y =
    (frame : Frame) × (rest : List ℕ) × (frame_at x.talk.left ≡ Some (frame, rest)) × MayBreak started before after old frame × (y.talk ≡ record x.talk { left = y.talk.left }) × IsStill stamped x y
