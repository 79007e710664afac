use Rattle.std.proofs.Common.{sym, ap, ◌∙◌}
use Rattle.std.specs.Prelude.{◌+◌, nat_le}
use Rattle.std.specs.Option.{option_map}
use Rattle.std.proofs.lemmas.Bool.{and_from}
use Rattle.dmn_rows.specs.Profile.{confirm_wait}
use Rattle.dmn_indexes.specs.Order.{is_unconfirmed}
use Rattle.dmn_indexes.specs.Version.{rows_in}
use Rattle.dmn_indexes.proofs.Places.{none_is_due, none_is_old}
use Rattle.dmn_indexes.proofs.Whole.{rows_ascend}
use Rattle.dmn_indexes.proofs.indexes.Indexes.due.Goals as goal

pub returns-in-None-clause-none : goal.returns-in-None-clause-none
returns-in-None-clause-none c _ =
    none_is_due c.args.height (rows_in c.args.self.now c.args.version.now) (rows_ascend c.requires) (sym c.first_unconfirmed.ensures.item ∙ ap (option_map (λ r. r.now)) c.in-None.is)

pub returns-then-is_old-clause-row : goal.returns-then-is_old-clause-row
returns-then-is_old-clause-row c =
    let row = c.in-Some.row.now in
    (c.in-Some.ensures.row.0, and_from (is_unconfirmed row) (nat_le (row.registered + confirm_wait) c.args.height) c.in-Some.ensures.row.1 (sym c.is_old.ensures ∙ c.if-is_old.true))

pub returns-else-is_old-clause-none : goal.returns-else-is_old-clause-none
returns-else-is_old-clause-none c _ =
    none_is_old c.args.height (rows_in c.args.self.now c.args.version.now) c.in-Some.row.now (rows_ascend c.requires)
    (sym c.first_unconfirmed.ensures.item ∙ ap (option_map (λ r. r.now)) c.in-Some.is) (sym c.is_old.ensures ∙ c.if-is_old.false)
