-- The room that a run takes, over a station that tells how much is left for sending, and how long its files may be.
use Rattle.std.proofs.Common.{◌≡◌, ℕ, ◌<◌, ◌≤◌, Bool, List, [], ◌∷◌, ◌++◌, length, take, drop, replicate, zero, suc, refl, sym, ap, subst, ◌∙◌, arith}
use Rattle.std.specs.Prelude.{None, Some, Result, Ok, Err}
use Rattle.std.specs.List.{All, flat_map}
use Rattle.std.proofs.lemmas.Bool.{le-ltb}
use Rattle.std.proofs.lemmas.List.{append-nil, length-append, length-replicate}
use Rattle.std.proofs.lemmas.List.Elements.{All-nil, All-push, All-append}
use Rattle.std.proofs.lemmas.Grind.{flat_map-append}
use Rattle.dmn_outside.specs.Disk.{DiskView}
use Rattle.dmn_outside.specs.Failing.{KeepsDisk, KeepsRoom}
use Rattle.dmn_outside.specs.Line.{LineView, Talk}
use Rattle.dmn_outside.specs.declared.device.DiskFault.{DiskFault}
use Rattle.dmn_journal.specs.Reading.{entry_departs}
use Rattle.dmn_desk.specs.declared.answer.Answer.{Answer}
use Rattle.dmn_desk.specs.Asked.{AnswersSurely}
use Rattle.dmn_desk.specs.Texts.{Fits, frame_of}
use Rattle.dmn_frames.specs.Frames.{Frame, frame_at}
use Rattle.dmn_frames.specs.Reading.{kept_of}
use Rattle.dmn_frames.specs.Room.{SpendsSent}
use Rattle.dmn_frames.specs.Steps.{Headed}
use Rattle.dmn_frames.specs.declared.reading.Reading.{Reading}
use Rattle.dmn_registry.specs.Machine.{Machine}
use Rattle.dmn_registry.specs.Snapshots.{HasRoomForSnapshot, SnapshotsFit}
use Rattle.dmn_registry.specs.declared.registry.Registry.{Registry}
use Rattle.dmn_office.specs.declared.office.Office.{Office}
use Rattle.dmn_feed.specs.Bodies.{Decides}
use Rattle.dmn_office.specs.Lasting.{IsLasting}
use Rattle.dmn_feed.specs.Room.{AsksSurely, HasPlaceBody, HasPlaceKept, HasPlaceNext, MayBeServed, Suffices}
use Rattle.dmn_feed.specs.Serving.{MayAnswer}
use Rattle.dmn_feed.specs.Steps.{Turned, some_of}
use Rattle.dmn_feed.proofs.Fed.{Begins-more, FedSoFar, serves_map, serves_more}

-- ---- a disk that is kept

pub disk_same : (d e : DiskView) → e ≡ d → KeepsDisk d e
disk_same d e same = record { room = ap (λ (v : DiskView). v.room) same; faults = ap (λ (v : DiskView). v.faults) same }

pub disk_then : (d e f : DiskView) → KeepsDisk d e → KeepsDisk e f → KeepsDisk d f
disk_then d e f k l = record { room = l.room ∙ k.room; faults = l.faults ∙ k.faults }

-- ---- a frame's body

-- what was kept of a command's body is all of it
pub kept_place : (kind size : ℕ) (reading : Reading) (text kept : List ℕ) (end room now : ℕ) → Decides reading kind size → kept ≡ kept_of reading (take size text) → now ≡ room → size ≤ length text → HasPlaceBody kind size text end room → HasPlaceKept kind size kept end now
kept_place kind size reading text kept end room now decides is same enough place fits form =
    let whole : kept ≡ take size text = is ∙ decides.entry fits (take size text) (subst (λ (l : List ℕ). entry_departs (record { kind = kind; body = l }) ≡ None) is form) in
    let fit = place enough (subst (λ (l : List ℕ). entry_departs (record { kind = kind; body = l }) ≡ None) whole form) in
    omega (arith, fit, same, ap length whole)

pub asked_surely : (r : Result Answer DiskFault) (p q s : ℕ) (x a z : LineView) (d e f : DiskView) → KeepsRoom p q x a → s ≡ q → z ≡ a → e ≡ d → AnswersSurely r e f → AsksSurely (some_of r) p s x z d f
asked_surely (Ok answer) p q s x a z d e f k room line disk sure = (
  record { room = room ∙ k.room; faults = ap (λ (v : LineView). v.faults) line ∙ k.faults; callers = ap (λ (v : LineView). v.caller_faults) line ∙ k.callers },
  disk_then d e f (disk_same d e disk) sure,
)
asked_surely (Err fault) p q s x a z d e f k room line disk sure = absurd sure

-- the frame behind a head is the next
pub next_place : (kind size : ℕ) (x h : Talk) (end room now : ℕ) → Headed kind size x h → now ≡ room → HasPlaceNext x.left end room → HasPlaceBody kind size h.left end now
next_place kind size x h end room now head same next enough form =
    let fit = next (record { kind = kind; body = take size h.left }) (drop size h.left) (head.frame ∙ rw (le-ltb (length h.left) size enough) refl) form in
    omega (arith, fit, same)

-- a snapshot has its place on a disk that is the same
pub snaps_there : (registry : Registry) (d e : DiskView) → e ≡ d → HasRoomForSnapshot registry d.room → HasRoomForSnapshot registry e.room
snaps_there registry d e same place = subst (λ (v : DiskView). HasRoomForSnapshot registry v.room) (sym same) place

-- ---- the loop

all_free : (n : ℕ) → All (λ (t : ℕ). Unit {0}) (replicate n 0)
all_free zero = All-nil (λ (t : ℕ). Unit {0})
all_free (suc n) = All-append (λ (t : ℕ). Unit {0}) (0 ∷ []) (replicate n 0) (All-push (λ (t : ℕ). Unit {0}) [] 0 (All-nil (λ (t : ℕ). Unit {0})) tt) (all_free n)

module _ (stamped : Bool) (count started : ℕ) (m : Machine) (before mid : DiskView) (x y : LineView) (office : Office) (f : FedSoFar stamped count started m before mid x y office) where
  served : MayBeServed m x.talk.left f.frames y.talk.left f.answered.answers f.machine
  served = record {
    front = f.answered.front;
    moments = f.moments;
    serves = serves_map (IsLasting mid f.machine) (λ k t. Unit {0}) m f.frames f.answered.answers f.moments f.machine (λ k t lasting. tt) f.answered.serves;
    fit = f.answered.fit;
  }

  served_more : (frame : Frame) (answer : Answer) (left : List ℕ) (n : Machine) → frame_at y.talk.left ≡ Some (frame, left) → MayAnswer f.machine frame answer n → Fits answer → MayBeServed m x.talk.left (f.frames ++ frame ∷ []) left (f.answered.answers ++ answer ∷ []) n
  unfolding served
  served_more frame answer left n front may fits = record {
    front = Begins-more x.talk.left f.frames y.talk.left frame left f.answered.front front;
    moments = f.moments ++ replicate (length (frame_of answer)) 0;
    serves = serves_more (λ k t. Unit {0}) m f.frames f.answered.answers f.moments f.machine frame answer (replicate (length (frame_of answer)) 0) n served.serves may (length-replicate (length (frame_of answer)) 0) (all_free (length (frame_of answer)));
    fit = All-push Fits f.answered.answers answer f.answered.fit fits;
  }

  -- where the room is enough, the next command has its place
  pub holds_next : (p : ℕ) (d : DiskView) → Suffices m p d.room x.talk.left → KeepsDisk d mid → HasPlaceNext y.talk.left office.registry.journal.end mid.room
  holds_next p d enough k frame after front form =
      let fit = enough.keeps f.frames y.talk.left f.answered.answers f.machine served frame after front form in
      omega (arith, fit, k.room, f.stands.registry.registry_stands.end)

  -- and so has a snapshot
  pub snaps_next : (p : ℕ) (d : DiskView) → Suffices m p d.room x.talk.left → KeepsDisk d mid → HasRoomForSnapshot office.registry mid.room
  snaps_next p d enough k = (f.machine, f.stands.registry.registry_stands, subst (λ (n : ℕ). SnapshotsFit f.machine n) (sym k.room) (enough.snapshots f.frames y.talk.left f.answered.answers f.machine served))

  -- and each answer fits what is left of it
  pub never_lacks : (turn p q r : ℕ) (after : DiskView) (new : Office) (answer : Answer) (left : List ℕ) → SpendsSent p q x y → Suffices m p r x.talk.left → Turned turn mid after office answer new y.talk.left left → q < length (frame_of answer) → ⊥
  never_lacks turn p q r after new answer left s enough t lacks =
      let next = t.may f.machine f.stands in
      let fits = enough.sends _ _ _ _ (served_more t.frame answer left next.0 t.front next.1 t.fits) in
      let sent : y.talk.sent ≡ x.talk.sent ++ f.bytes = ap (λ (k : Talk). k.sent) f.sent.talk in
      let bytes : flat_map frame_of (f.answered.answers ++ answer ∷ []) ≡ f.bytes ++ frame_of answer =
      flat_map-append frame_of f.answered.answers (answer ∷ []) ∙ ap (λ (l : List ℕ). flat_map frame_of f.answered.answers ++ l) (append-nil (frame_of answer)) ∙ ap (λ (l : List ℕ). l ++ frame_of answer) (sym f.answered.bytes_are) in
      omega (arith, fits, lacks, s.room, ap length sent, ap length bytes, length-append x.talk.sent f.bytes, length-append f.bytes (frame_of answer))
