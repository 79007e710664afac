-- A run of `feed`, of any status.
use Rattle.std.proofs.Common.{◌≡◌, inl, ℕ, true, List, [], ◌++◌, refl, ap, ◌∙◌}
use Rattle.std.specs.List.{flat_map}
use Rattle.std.proofs.lemmas.List.{append-nil}
use Rattle.dmn_outside.specs.Crashes.{LeavesOnly}
use Rattle.dmn_outside.specs.Line.{LineView, Moments, Talk}
use Rattle.dmn_desk.specs.declared.answer.Answer.{Answer}
use Rattle.dmn_desk.specs.Texts.{frame_of}
use Rattle.dmn_frames.specs.Frames.{Begins, Frame}
use Rattle.dmn_registry.specs.Machine.{Machine}
use Rattle.dmn_registry.specs.Own.{IsBetween}
use Rattle.dmn_status.specs.declared.status.Status.{Status}
use Rattle.dmn_status.specs.declared.status.Status.TheVariants as statuses
use Rattle.dmn_office.specs.Lasting.{IsLasting}
use Rattle.dmn_feed.specs.Outcome.{Answered, InHand, Outcome, Sent, SentBefore}
use Rattle.dmn_feed.specs.Serving.{Serves}
use Rattle.dmn_run_laws.specs.Runs.{Run}

-- what is known of a run of `feed` of any status
pub record AnyRun (run : Run) (m : Machine) : Type 0 where
  pub frames : List Frame
  pub answers : List Answer
  pub moments : List ℕ
  pub rest : List ℕ
  pub machine : Machine
  pub last : Machine
  pub front : Begins run.old.talk.left frames rest
  pub serves : Serves (IsLasting run.disk last) m frames answers moments machine
  pub hand : InHand rest machine last
  pub images : LeavesOnly run.started run.before run.disk (IsBetween m last)
  pub more : List ℕ
  pub sent : run.new.talk.sent ++ more ≡ run.old.talk.sent ++ flat_map frame_of answers
  pub later : List ℕ
  pub stamps : run.new.moments.sent ++ later ≡ run.old.moments.sent ++ moments

any_sent : (run : Run) (m : Machine) (frames : List Frame) (left still bytes moments : List ℕ) (n last : Machine) → Answered run.started run.before run.disk m run.old.talk.left frames left bytes moments n last → InHand left n last → Sent true still bytes moments run.old run.new → AnyRun run m
any_sent run m frames left still bytes moments n last a hand s = record {
  frames = frames;
  answers = a.answers;
  moments = moments;
  rest = left;
  machine = n;
  last = last;
  front = a.front;
  serves = a.serves;
  hand = hand;
  images = a.images;
  more = [];
  sent = append-nil run.new.talk.sent ∙ ap (λ (k : Talk). k.sent) s.talk ∙ ap (λ (l : List ℕ). run.old.talk.sent ++ l) a.bytes_are;
  later = [];
  stamps = append-nil run.new.moments.sent ∙ ap (λ (k : Moments). k.sent) (s.stamps refl);
}

any_front : (run : Run) (m : Machine) (frames : List Frame) (left bytes moments : List ℕ) (n last : Machine) (a : Answered run.started run.before run.disk m run.old.talk.left frames left bytes moments n last) → InHand left n last → SentBefore true a.answers bytes moments run.old run.new → AnyRun run m
any_front run m frames left bytes moments n last a hand s = record {
  frames = frames;
  answers = a.answers;
  moments = moments;
  rest = left;
  machine = n;
  last = last;
  front = a.front;
  serves = a.serves;
  hand = hand;
  images = a.images;
  more = s.more;
  sent = s.front ∙ ap (λ (l : List ℕ). run.old.talk.sent ++ l) a.bytes_are;
  later = s.later;
  stamps = s.stamps refl;
}

any_none : (run : Run) (m : Machine) → run.new ≡ run.old → LeavesOnly run.started run.before run.disk (IsBetween m m) → AnyRun run m
any_none run m same images = record {
  frames = [];
  answers = [];
  moments = [];
  rest = run.old.talk.left;
  machine = m;
  last = m;
  front = refl;
  serves = (refl, refl);
  hand = inl refl;
  images = images;
  more = [];
  sent = ap (λ (v : LineView). v.talk.sent ++ []) same;
  later = [];
  stamps = ap (λ (v : LineView). v.moments.sent ++ []) same;
}

pub any_run : (run : Run) (m : Machine) (status : Status) → Outcome status true run.started m run.before run.disk run.old run.new → AnyRun run m
any_run run m statuses.Done o = any_sent run m o.0 [] [] o.1 o.2 o.3 o.3 o.4 (inl refl) o.7
any_run run m statuses.CutInput o = any_sent run m o.0 o.1 [] o.2 o.3 o.4 o.4 o.5 (inl refl) o.10
any_run run m statuses.Enough o = any_sent run m o.0 o.1 o.1 o.2 o.3 o.4 o.4 o.5 (inl refl) o.8
any_run run m statuses.LineFault o = any_front run m o.0 o.1 o.2 o.3 o.4 o.4 o.5 (inl refl) o.8
any_run run m statuses.DiskFault o = any_sent run m o.0 o.1 run.new.talk.left o.2 o.3 o.4 o.5 o.6 o.7 o.9
any_run run m statuses.Memory o = any_none run m o.0 o.1
any_run run m (statuses.NotJournal place) o = absurd o
any_run run m statuses.Words o = absurd o
any_run run m (statuses.StartForm place) o = absurd o
any_run run m statuses.AlreadyInit o = absurd o
