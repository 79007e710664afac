use Rattle.std.proofs.Common.{sym, ap, ◌∙◌, slice_get}
use Rattle.std.specs.Option.{option_map}
use Rattle.dmn_rows.specs.Waiting.{is_unbanned}
use Rattle.dmn_versions.specs.Trees.{reads}
use Rattle.dmn_indexes.specs.Keys.{pay_cmp, pay_laws}
use Rattle.dmn_indexes.specs.Version.{rows_in}
use Rattle.dmn_indexes.proofs.Places.{pay_place, pay_order-is, place_found, no_place, if_found}
use Rattle.dmn_indexes.proofs.Whole.{rows_ascend, row_found}
use Rattle.dmn_indexes.proofs.indexes.Indexes.least_pay.Goals as goal

pub returns-in-None-clause-item : goal.returns-in-None-clause-item
returns-in-None-clause-item c =
    let v = c.args.version.now in
    no_place pay_cmp pay_laws pay_place is_unbanned (rows_in c.args.self.now v) (reads c.args.self.now.payment v.payment) c.args.rank c.requires.payment.reads
    (sym c.at_rank.ensures ∙ ap (option_map (λ p. (p.0.now, p.1.now))) c.in-None.is)
    ∙ ap (λ list. slice_get list c.args.rank) (pay_order-is (rows_in c.args.self.now v) (rows_ascend c.requires))

pub returns-in-Some-clause-item : goal.returns-in-Some-clause-item
returns-in-Some-clause-item c =
    let v = c.args.version.now in
    c.get.ensures ∙ row_found c.in-Some.hash.now c.requires
    ∙ place_found pay_cmp pay_laws pay_place is_unbanned (rows_in c.args.self.now v) (reads c.args.self.now.payment v.payment) c.args.rank c.in-Some.field-0-0.now c.in-Some.hash.now (rows_ascend c.requires) c.requires.payment.reads
    (sym c.at_rank.ensures ∙ ap (option_map (λ p. (p.0.now, p.1.now))) c.in-Some.is)
    ∙ ap (λ list. slice_get list c.args.rank) (pay_order-is (rows_in c.args.self.now v) (rows_ascend c.requires))

pub returns-in-Some-clause-row : goal.returns-in-Some-clause-row
returns-in-Some-clause-row c = if_found c.in-Some.hash.now (rows_in c.args.self.now c.args.version.now) c.get.result (c.get.ensures ∙ row_found c.in-Some.hash.now c.requires)
