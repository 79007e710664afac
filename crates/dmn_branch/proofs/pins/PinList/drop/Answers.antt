use Rattle.std.proofs.Common.{List, ◌∙◌, ap, rules, tests}
use Rattle.std.specs.Prelude.{◌==◌, filter, not}
use Rattle.std.proofs.lemmas.Fn.{filter_same}
use Rattle.dmn_branch.specs.declared.pins.Pin.{Pin}
use Rattle.dmn_branch.proofs.pins.PinList.drop.Goals as goal

pub returns : goal.returns
returns c =
    filter_same _ (λ (p : Pin). not (p.number == c.args.number)) _ (λ x b q k. search (rules, tests)) _ _ c.retain.ensures.filtered
    ∙ ap (λ (l : List Pin). filter (λ (p : Pin). not (p.number == c.args.number)) l) c.self.view_is
