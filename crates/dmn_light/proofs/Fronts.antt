-- What is served to frames is served to each front of them.
use Rattle.std.proofs.Common.{List, [], ◌∷◌, refl, ap}
use Rattle.dmn_light.specs.declared.answer.Answer.{Answer}
use Rattle.dmn_light.specs.Laws.{EachFrontIsServed}

pub each_front_is_served : EachFrontIsServed
each_front_is_served c [] more answers n served = ([], answers, c, refl, refl, served)
each_front_is_served c (frame ∷ frames) more [] n served = absurd served
each_front_is_served c (frame ∷ frames) more (answer ∷ answers) n served =
    let rest = each_front_is_served served.0 frames more answers n served.2 in
    (answer ∷ rest.0, rest.1, rest.2, ap (λ (l : List Answer). answer ∷ l) rest.3, (served.0, served.1, rest.4), rest.5)
