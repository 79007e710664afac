-- What is served to frames is served to each front of them.
use Rattle.std.proofs.Common.{◌≡◌, List, ℕ, [], ◌∷◌, ◌++◌, refl, sym, ap, ◌∙◌, append_assoc}
use Rattle.dmn_desk.specs.declared.answer.Answer.{Answer}
use Rattle.dmn_frames.specs.Frames.{Frame}
use Rattle.dmn_registry.specs.Machine.{Machine}
use Rattle.dmn_office.specs.Lasting.{IsLasting}
use Rattle.dmn_feed.specs.Serving.{Serves}
use Rattle.dmn_feed.specs.Laws.{EachFrontIsServed}

fronts : (P : Machine → ℕ → Type 0) (m : Machine) (frames more : List Frame) (answers : List Answer) (moments : List ℕ) (n : Machine) → Serves P m (frames ++ more) answers moments n
    → (front rest : List Answer) × (here later : List ℕ) × (mid : Machine) × (answers ≡ front ++ rest) × (moments ≡ here ++ later) × Serves P m frames front here mid × Serves P mid more rest later n
fronts P m [] more answers moments n served = ([], answers, [], moments, m, refl, refl, (refl, refl), served)
fronts P m (frame ∷ frames) more [] moments n served = absurd served
fronts P m (frame ∷ frames) more (answer ∷ answers) moments n served =
    let rest = fronts P served.0 frames more answers served.2 n served.7 in (
      answer ∷ rest.0,
      rest.1,
      served.1 ++ rest.2,
      rest.3,
      rest.4,
      ap (λ (l : List Answer). answer ∷ l) rest.5,
      served.4 ∙ ap (λ (l : List ℕ). served.1 ++ l) rest.6 ∙ sym (append_assoc served.1 rest.2 rest.3),
      (served.0, served.1, rest.2, served.3, refl, served.5, served.6, rest.7),
      rest.8,
    )

pub each_front_is_served : EachFrontIsServed
each_front_is_served = λ disk last. fronts (IsLasting disk last)
