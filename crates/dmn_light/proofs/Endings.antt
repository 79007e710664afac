-- How a run ends is by how its text is cut into frames.
use Rattle.std.proofs.Common.{◌≡◌, ℕ, ◌<◌, true, List, [], ◌∷◌, length, refl, sym, ap, ◌∙◌, arith, ltb}
use Rattle.std.proofs.lemmas.Bool.{lt-ltb, le-ltb}
use Rattle.dmn_frames.specs.Frames.{Frame}
use Rattle.dmn_frames.proofs.Cutting.{front_shorter, nothing_at_end, same_cut}
use Rattle.dmn_status.specs.declared.status.Status.TheVariants as statuses
use Rattle.dmn_light.specs.Laws.{EndingsAreExact, ended_with}
use Rattle.dmn_light.specs.Outcome.{most}

few : (frames : List Frame) → length frames < most → ltb (length frames) most ≡ true
few frames h = lt-ltb (length frames) most h

some_left : (left : List ℕ) → (left ≡ [] → ⊥) → ended_with left ≡ statuses.CutInput
some_left [] h = absurd (h refl)
some_left (x ∷ left) h = refl

pub endings_are_exact : EndingsAreExact
endings_are_exact statuses.Done old new frames left out cut runs =
    let s = same_cut old.left out.0 frames [] left out.3.front nothing_at_end cut.front cut.partial in
    sym (rw (few frames (omega (arith, ap length s.0, out.4)), sym s.1) refl)
endings_are_exact statuses.CutInput old new frames left out cut runs =
    let s = same_cut old.left out.0 frames out.1 left out.4.front out.7 cut.front cut.partial in
    sym (rw (few frames (omega (arith, ap length s.0, out.5)), some_left left (λ e. out.6 (s.1 ∙ e))) refl)
endings_are_exact statuses.Enough old new frames left out cut runs =
    sym (rw (le-ltb (length frames) most (omega (arith, front_shorter old.left out.0 frames out.1 left out.4.front cut.front cut.partial, out.5))) refl)
endings_are_exact statuses.LineFault old new frames left out cut runs = absurd (runs refl)
endings_are_exact statuses.Words old new frames left out cut runs = absurd out
endings_are_exact statuses.Memory old new frames left out cut runs = absurd out
endings_are_exact statuses.DiskFault old new frames left out cut runs = absurd out
endings_are_exact (statuses.NotJournal at) old new frames left out cut runs = absurd out
endings_are_exact (statuses.StartForm at) old new frames left out cut runs = absurd out
endings_are_exact statuses.AlreadyInit old new frames left out cut runs = absurd out
