-- A run, and what of it is there in an image that a crash left, and at the end of all runs.
use Rattle.std.specs.Prelude.{◌≡◌, ℕ, ◌≤◌, true, List, [], ◌∷◌, ◌++◌}
use Rattle.std.specs.List.{flat_map}
use Rattle.dmn_outside.specs.Changes.{OnlyReads}
use Rattle.dmn_outside.specs.Crashes.{IsKnown}
use Rattle.dmn_outside.specs.Disk.{AreOver, DiskView, Since, Three}
use Rattle.dmn_outside.specs.Line.{LineView}
use Rattle.dmn_desk.specs.declared.answer.Answer.{Answer}
use Rattle.dmn_desk.specs.Texts.{frame_of}
use Rattle.dmn_frames.specs.Frames.{Begins, Frame}
use Rattle.dmn_registry.specs.Machine.{Machine, at_rest}
use Rattle.dmn_registry.specs.Own.{IsOwn, Leads}
use Rattle.dmn_status.specs.declared.status.Status.{Status}
use Rattle.dmn_feed.specs.Outcome as feeds
use Rattle.dmn_feed.specs.Serving.{Serves}
use Rattle.dmn_serve.specs.Callers.{ServesEach, Visit}
use Rattle.dmn_serve.specs.Outcome as serves
use Rattle.dmn_serve.specs.Outcome.{AskedInHand, Came, unserved}

-- what a run does: it answers frames, as `feed`; it serves so many callers at most, as `serve`; or it only reads the files, as
-- `audit` and `client`, and `init` where there is a registry
pub data Doing : Type 0 where
  feeding : Doing
  serving : ℕ → Doing
  reading : Doing

-- a run, and what a crash leaves at a moment of it or later
pub record Run : Type 0 where
  pub doing : Doing
  pub status : Status
  pub started : ℕ
  pub before : DiskView
  pub disk : DiskView
  pub old : LineView
  pub new : LineView
  pub stopped : ℕ
  pub image : Three (List ℕ)

-- it did what is promised of a run from this machine, over a station that tells moments, by which each earlier state of the
-- disk was over when the run began
abbrev pub Does : Doing → Run → Machine → Type 0
Does feeding run m = feeds.Outcome run.status true run.started m run.before run.disk run.old run.new
Does (serving most) run m = serves.Outcome run.status most true run.started m run.before run.disk run.old run.new
Does reading run m = OnlyReads run.before run.disk × AreOver run.started run.before.past

-- The run began on a disk at rest with this image; it did what a run promises of each machine that is recovered from it; and
-- its own image is one that a crash since it stopped may leave.
pub record IsRunOn (image : Three (List ℕ)) (run : Run) : Type 0 where
  pub known : IsKnown (λ c. c ≡ image) run.before.told
  pub does : (m : Machine) → IsKnown (IsOwn m) run.before.told → Does run.doing run (at_rest m)
  pub order : run.started ≤ run.stopped
  pub left : Since run.disk run.stopped run.image

-- ---- what is there

-- An answer's byte was sent at the moment t, with the machine mid behind the answer, which was accepted on the way to last. Where
-- that was before the run stopped, mid's commands are among those of the machine that is left, and among those at the end.
pub record IsKept (stopped : ℕ) (left end last mid : Machine) (t : ℕ) : Type 0 where
  pub accepted : Leads mid last
  pub kept : t ≤ stopped → Leads mid left × Leads mid end

-- What is left has the commands of m and then a front of those that the run accepted: those of the frames that it answered, in
-- order, and perhaps the one that was in hand. Each that was answered before the run stopped is among them.
pub record KeepsFrames (run : Run) (m left end : Machine) : Type 0 where
  pub frames : List Frame
  pub answers : List Answer
  pub moments : List ℕ
  pub rest : List ℕ
  pub machine : Machine
  pub last : Machine
  pub front : Begins run.old.talk.left frames rest
  pub serves : Serves (IsKept run.stopped left end last) m frames answers moments machine
  pub hand : feeds.InHand rest machine last
  pub onward : Leads left last
  pub more : List ℕ
  pub sent : run.new.talk.sent ++ more ≡ run.old.talk.sent ++ flat_map frame_of answers
  pub later : List ℕ
  pub stamps : run.new.moments.sent ++ later ≡ run.old.moments.sent ++ moments

-- no caller in hand; or one to whom nothing was sent, whose command was accepted, or not
abbrev pub CallerInHand : List Visit → Machine → Machine → Type 0
CallerInHand [] n last = last ≡ n
CallerInHand (visit ∷ visits) n last = (visit ∷ visits ≡ unserved visit.text ∷ []) × AskedInHand visit.text n last

-- The same of callers and their replies.
pub record KeepsCallers (run : Run) (m left end : Machine) : Type 0 where
  pub visits : List Visit
  pub next : List Visit
  pub rest : List (List ℕ)
  pub machine : Machine
  pub last : Machine
  pub came : Came true (visits ++ next) rest run.old run.new
  pub serves : ServesEach (IsKept run.stopped left end last) m visits machine
  pub hand : CallerInHand next machine last
  pub onward : Leads left last

-- What is left of the run, and at the end, of what it did from the machine m.
abbrev pub Keeps : Doing → Run → Machine → Machine → Machine → Type 0
Keeps feeding run m left end = KeepsFrames run m left end
Keeps (serving most) run m left end = KeepsCallers run m left end
Keeps reading run m left end = at_rest left ≡ m
