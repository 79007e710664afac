use Rattle.std.proofs.lemmas.Result.{err_from_is_err_and}
use Rattle.dmn_generator.specs.Blocks.{body_of}
use Rattle.dmn_make.specs.Going.{with_block, with_root}
use Rattle.dmn_make.proofs.Added.{block_is, does_from}
use Rattle.dmn_make.proofs.Asked.{idle_fails}
use Rattle.dmn_make.proofs.Fitting.{place_drafted}
use Rattle.dmn_make.proofs.blocks.add_block.Goals as goal

pub returns-in_err-place_of-clause-does : goal.returns-in_err-place_of-clause-does
returns-in_err-place_of-clause-does g c = λ tells.
    let p = err_from_is_err_and c.from_residual.result c.from_residual.ensures.1 in
    rw (p.1, p.2) (λ m stands. idle_fails _ _ _ m _ (g.D.Device.past_is_over c.args.disk.now) stands)

pub returns-in_err-formings_for-clause-does : goal.returns-in_err-formings_for-clause-does
returns-in_err-formings_for-clause-does g c = λ tells.
    let p = err_from_is_err_and c.from_residual-in_err-formings_for.result c.from_residual-in_err-formings_for.ensures.1 in
    rw (p.1, p.2) (λ m stands. idle_fails _ _ _ m _ (g.D.Device.past_is_over c.args.disk.now) stands)

pub returns-clause-does : goal.returns-clause-does
returns-clause-does g c = λ tells.
    does_from c.add_draft.result (with_root (body_of c.args.count c.in_ok-place_of.field-0 c.in_ok-formings_for.field-0.items)) (with_block c.args.count c.args.chain c.args.height) _ _ _ c.args.office.now c.formings_for.new.office c.add_draft.new.office
    (λ m stands. (
      c.formings_for.ensures.same m _ stands,
      block_is c.args.count c.args.chain c.args.height m c.in_ok-place_of.field-0 c.in_ok-formings_for.field-0.items
          (c.in_ok-place_of.ensures.place m stands.at.registry.registry_stands) (c.in_ok-formings_for.ensures.formed m stands.at.registry.registry_stands),
    ))
    (c.add_draft.ensures.does tells)

pub returns-clause-sure : goal.returns-clause-sure
returns-clause-sure g c = λ tells told m stands room.
    c.add_draft.ensures.sure tells told m (c.formings_for.ensures.same m _ stands)
    (place_drafted c.args.count c.args.chain c.args.height m (g.D.Device.disk c.args.disk.now).room c.in_ok-place_of.field-0 c.in_ok-formings_for.field-0.items
    (c.in_ok-place_of.ensures.place m stands.at.registry.registry_stands) (c.in_ok-formings_for.ensures.formed m stands.at.registry.registry_stands) room.journal)
    room.snapshot
