use Rattle.std.proofs.Common.{sym, ◌∙◌}
use Rattle.std.proofs.lemmas.Result.{err_from_is_err_and}
use Rattle.dmn_desk.specs.declared.answer.Answer.{Answer}
use Rattle.dmn_generator.specs.Blocks.{body_of}
use Rattle.dmn_make.specs.declared.fault.MakeFault.TheVariants as faults
use Rattle.dmn_make.proofs.Added.{does_first, does_second, first_goes, second_goes, second_never}
use Rattle.dmn_make.proofs.Fitting.{never_err, never_ok}
use Rattle.dmn_make.proofs.blocks.add_draft.Goals as goal

pub returns-in_err-answer-clause-does : goal.returns-in_err-answer-clause-does
returns-in_err-answer-clause-does g c = λ tells.
    let p = err_from_is_err_and c.from_residual.result c.from_residual.ensures.1 in
    rw (p.1, p.2) (does_first c.in_err-answer.field-0.0 (body_of c.args.draft.now.count c.args.draft.now.place c.args.draft.now.formings.items) _ _ _ _ _ (c.in_err-answer.ensures.does tells))

pub returns-in-None-clause-does : goal.returns-in-None-clause-does
returns-in-None-clause-does g c = λ tells m stands.
    first_goes (body_of c.args.draft.now.count c.args.draft.now.place c.args.draft.now.formings.items) _ _ _ m _ c.in_ok-answer.answer (c.in_ok-answer.ensures.answers tells m stands) (sym c.right_root.ensures ∙ c.in-None.is) (c.in_ok-answer.ensures.does tells m stands)

pub returns-in_err-add_with-in-Some-clause-does : goal.returns-in_err-add_with-in-Some-clause-does
returns-in_err-add_with-in-Some-clause-does g c = λ tells.
    let p = err_from_is_err_and c.from_residual-in_err-add_with-in-Some.result c.from_residual-in_err-add_with-in-Some.ensures.1 in
    rw (p.1, p.2) (does_second (body_of c.args.draft.now.count c.args.draft.now.place c.args.draft.now.formings.items) _ _ _ _ _ _ c.add_with.ensures.time c.in_ok-answer.answer (c.in_ok-answer.ensures.answers tells)
    (c.in_ok-answer.ensures.does tells) c.in-Some.root (sym c.right_root.ensures ∙ c.in-Some.is) _ _ c.in_err-add_with-in-Some.field-0.0 (c.in_err-add_with-in-Some.ensures.does tells))

pub returns-clause-does : goal.returns-clause-does
returns-clause-does g c = λ tells.
    second_goes (body_of c.args.draft.now.count c.args.draft.now.place c.args.draft.now.formings.items) _ _ _ _ _ _ c.add_with.ensures.time c.in_ok-answer.answer (c.in_ok-answer.ensures.answers tells)
    (c.in_ok-answer.ensures.does tells) c.in-Some.root (sym c.right_root.ensures ∙ c.in-Some.is) _ _ (c.in_ok-add_with-in-Some.ensures.does tells)

pub returns-in_err-answer-clause-sure : goal.returns-in_err-answer-clause-sure
returns-in_err-answer-clause-sure g c = λ tells told m stands place fits.
    let p = err_from_is_err_and c.from_residual.result c.from_residual.ensures.1 in
    rw (p.1, p.2) (never_err c.in_err-answer.field-0.0 faults.DiskFault _ _ (c.in_err-answer.ensures.sure told m stands place.zeros fits))

pub returns-in_err-add_with-in-Some-clause-sure : goal.returns-in_err-add_with-in-Some-clause-sure
returns-in_err-add_with-in-Some-clause-sure g c = λ tells told m stands place fits.
    let p = err_from_is_err_and c.from_residual-in_err-add_with-in-Some.result c.from_residual-in_err-add_with-in-Some.ensures.1 in
    let first = (c.in_ok-answer.ensures.sure told m stands place.zeros fits).disk in
    rw (p.1, p.2) (never_err c.in_err-add_with-in-Some.field-0.0 faults.DiskFault _ _ (second_never (body_of c.args.draft.now.count c.args.draft.now.place c.args.draft.now.formings.items) _ _ _ _ _ _ c.add_with.ensures.time c.in_ok-answer.answer (c.in_ok-answer.ensures.answers tells)
    (c.in_ok-answer.ensures.does tells) c.in-Some.root (sym c.right_root.ensures ∙ c.in-Some.is) Answer _ _ m stands place fits first (c.in_err-add_with-in-Some.ensures.sure told)))

pub returns-clause-sure : goal.returns-clause-sure
returns-clause-sure g c = λ tells told m stands place fits.
    let first = (c.in_ok-answer.ensures.sure told m stands place.zeros fits).disk in
    never_ok _ faults.DiskFault _ _ (second_never (body_of c.args.draft.now.count c.args.draft.now.place c.args.draft.now.formings.items) _ _ _ _ _ _ c.add_with.ensures.time c.in_ok-answer.answer (c.in_ok-answer.ensures.answers tells)
    (c.in_ok-answer.ensures.does tells) c.in-Some.root (sym c.right_root.ensures ∙ c.in-Some.is) Answer _ _ m stands place fits first (c.in_ok-add_with-in-Some.ensures.sure told)).disk

pub returns-in-None-clause-sure : goal.returns-in-None-clause-sure
returns-in-None-clause-sure g c = λ tells told m stands place fits. never_ok _ faults.DiskFault _ _ (c.in_ok-answer.ensures.sure told m stands place.zeros fits).disk
