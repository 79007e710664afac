-- Statuses, by the frames of a text.
use Rattle.std.proofs.Common.{◌≡◌, ℕ, ◌<◌, Bool, true, List, [], ◌∷◌, length, refl, sym, ap, ◌∙◌, arith, ltb}
use Rattle.std.specs.Prelude.{None}
use Rattle.std.proofs.lemmas.Bool.{le-ltb, lt-ltb}
use Rattle.dmn_outside.specs.Disk.{DiskView}
use Rattle.dmn_outside.specs.Line.{LineView, Talk}
use Rattle.dmn_frames.specs.Frames.{Begins, Cuts, Frame, frame_at}
use Rattle.dmn_frames.proofs.Cutting.{front_shorter, nothing_at_end, same_cut}
use Rattle.dmn_registry.specs.Machine.{Machine}
use Rattle.dmn_status.specs.declared.status.Status.{Status}
use Rattle.dmn_status.specs.declared.status.Status.TheVariants as statuses
use Rattle.dmn_feed.specs.Laws.{EndsAs, EndsExactly, StatusesAreExact, ended_with}
use Rattle.dmn_feed.specs.Outcome.{Outcome, most}
use Rattle.dmn_feed.proofs.Fed.{TookSoFar}

few : (frames : List Frame) → length frames < most → ltb (length frames) most ≡ true
few frames h = lt-ltb (length frames) most h

some_left : (left : List ℕ) → (left ≡ [] → ⊥) → ended_with left ≡ statuses.CutInput
some_left [] h = absurd (h refl)
some_left (x ∷ left) h = refl

ends_done : (text : List ℕ) (took frames : List Frame) (left : List ℕ) → Begins text took [] → length took < most → Cuts text frames left → EndsExactly statuses.Done frames left
ends_done text took frames left front short cut =
    let s = same_cut text took frames [] left front nothing_at_end cut.front cut.partial in
    rw (few frames (omega (arith, ap length s.0, short)), sym s.1) refl

ends_cut : (text : List ℕ) (took frames : List Frame) (rest left : List ℕ) → Begins text took rest → length took < most → (rest ≡ [] → ⊥) → frame_at rest ≡ None → Cuts text frames left → EndsExactly statuses.CutInput frames left
ends_cut text took frames rest left front short some partial cut =
    let s = same_cut text took frames rest left front partial cut.front cut.partial in
    rw (few frames (omega (arith, ap length s.0, short)), some_left left (λ e. some (s.1 ∙ e))) refl

ends_enough : (text : List ℕ) (took frames : List Frame) (rest left : List ℕ) → Begins text took rest → length took ≡ most → Cuts text frames left → EndsExactly statuses.Enough frames left
ends_enough text took frames rest left front long cut = rw (le-ltb (length frames) most (omega (arith, front_shorter text took frames rest left front cut.front cut.partial, long))) refl

-- ---- from the frames that were taken

pub took_done : (count : ℕ) (x y : Talk) (frames : List Frame) (left : List ℕ) → TookSoFar count x y → count < most → y.left ≡ [] → Cuts x.left frames left → EndsExactly statuses.Done frames left
took_done count x y frames left f short none cut = ends_done x.left f.frames frames left (rw none at f.front) (omega (arith, f.counted, short)) cut

pub took_cut : (count : ℕ) (x y : Talk) (frames : List Frame) (left : List ℕ) → TookSoFar count x y → count < most → (y.left ≡ [] → ⊥) → frame_at y.left ≡ None → Cuts x.left frames left → EndsExactly statuses.CutInput frames left
took_cut count x y frames left f short some partial cut = ends_cut x.left f.frames frames y.left left f.front (omega (arith, f.counted, short)) some partial cut

pub took_most : (count : ℕ) (x y : Talk) (frames : List Frame) (left : List ℕ) → TookSoFar count x y → count ≡ most → Cuts x.left frames left → EndsExactly statuses.Enough frames left
took_most count x y frames left f all cut = ends_enough x.left f.frames frames y.left left f.front (f.counted ∙ all) cut

-- ---- from an outcome

ends_exactly : (status : Status) (stamped : Bool) (started : ℕ) (m : Machine) (before disk : DiskView) (old new : LineView) (frames : List Frame) (left : List ℕ) → Outcome status stamped started m before disk old new → Cuts old.talk.left frames left → EndsExactly status frames left
ends_exactly statuses.Done stamped started m before disk old new frames left o cut = ends_done old.talk.left o.0 frames left o.4.front o.6 cut
ends_exactly statuses.CutInput stamped started m before disk old new frames left o cut = ends_cut old.talk.left o.0 frames o.1 left o.5.front o.7 o.8 o.9 cut
ends_exactly statuses.Enough stamped started m before disk old new frames left o cut = ends_enough old.talk.left o.0 frames o.1 left o.5.front o.7 cut
ends_exactly statuses.LineFault stamped started m before disk old new frames left o cut = tt
ends_exactly statuses.DiskFault stamped started m before disk old new frames left o cut = tt
ends_exactly statuses.Memory stamped started m before disk old new frames left o cut = tt
ends_exactly (statuses.NotJournal place) stamped started m before disk old new frames left o cut = tt
ends_exactly statuses.Words stamped started m before disk old new frames left o cut = tt
ends_exactly (statuses.StartForm place) stamped started m before disk old new frames left o cut = tt
ends_exactly statuses.AlreadyInit stamped started m before disk old new frames left o cut = tt

ends_as : (status : Status) (stamped : Bool) (started : ℕ) (m : Machine) (before disk : DiskView) (old new : LineView) (frames : List Frame) (left : List ℕ) → Outcome status stamped started m before disk old new → EndsExactly status frames left → EndsAs status frames left
ends_as statuses.Done stamped started m before disk old new frames left o e = λ a b c. sym e
ends_as statuses.CutInput stamped started m before disk old new frames left o e = λ a b c. sym e
ends_as statuses.Enough stamped started m before disk old new frames left o e = λ a b c. sym e
ends_as statuses.LineFault stamped started m before disk old new frames left o e = λ a b c. absurd (a refl)
ends_as statuses.DiskFault stamped started m before disk old new frames left o e = λ a b c. absurd (b refl)
ends_as statuses.Memory stamped started m before disk old new frames left o e = λ a b c. absurd (c refl)
ends_as (statuses.NotJournal place) stamped started m before disk old new frames left o e = absurd o
ends_as statuses.Words stamped started m before disk old new frames left o e = absurd o
ends_as (statuses.StartForm place) stamped started m before disk old new frames left o e = absurd o
ends_as statuses.AlreadyInit stamped started m before disk old new frames left o e = absurd o

pub statuses_are_exact : StatusesAreExact
statuses_are_exact status stamped started m before disk old new frames left o cut =
    let e = ends_exactly status stamped started m before disk old new frames left o cut in
    (e, ends_as status stamped started m before disk old new frames left o e)
