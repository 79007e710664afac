use Rattle.std.proofs.Common.{subst}
use Rattle.std.specs.Prelude.{Option}
use Rattle.std.specs.Option.{option_map}
use Rattle.dmn_branch.specs.Asked.{IsPageOf}
use Rattle.dmn_branch.specs.Pins.{pin_of}
use Rattle.dmn_walk.specs.Page.{pairs_left}
use Rattle.dmn_desk.proofs.Paging.{page_told, page_untold}
use Rattle.dmn_desk.proofs.page.page_at.Goals as goal

pub returns-in_default-clause-answer : goal.returns-in_default-clause-answer
returns-in_default-clause-answer c = λ m stands.
    page_untold c.args.from c.args.count (pin_of m.pins c.args.pin) (subst (λ (o : Option _). IsPageOf c.args.from c.args.count (pin_of m.pins c.args.pin) (option_map pairs_left o)) c.in_default.is (c.pin_page.ensures.page m stands))

pub returns-clause-answer : goal.returns-clause-answer
returns-clause-answer c = λ m stands.
    page_told c.args.from c.args.count (pin_of m.pins c.args.pin) (pairs_left c.in-Some.pairs) c.in_ok-entries.entries
    (subst (λ (o : Option _). IsPageOf c.args.from c.args.count (pin_of m.pins c.args.pin) (option_map pairs_left o)) c.in-Some.is (c.pin_page.ensures.page m stands))
    c.in_ok-entries.ensures
