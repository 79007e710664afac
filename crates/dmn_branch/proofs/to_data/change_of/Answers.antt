use Rattle.std.proofs.Common.{sym, ◌∙◌, subst}
use Rattle.dmn_held.specs.Lists.{commitments_field}
use Rattle.dmn_branch.proofs.Telling.{height_by}
use Rattle.dmn_branch.proofs.to_data.change_of.Goals as goal

pub returns-clause-form : goal.returns-clause-form
returns-clause-form c =
    let form = c.in_ok-difference.ensures.form (record { masternodes = c.requires.before.masternodes; collaterals = c.requires.before.collaterals }) (record { masternodes = c.requires.after.masternodes; collaterals = c.requires.after.collaterals }) in
    height_by _ c.hash_is_long.ensures c.in_ok-coinbase.ensures.form form.put form.removed form.added form.spent
    (subst commitments_field.Fits (c.as_slice.ensures.value ∙ sym c.from_vec.ensures) c.in_ok-check_commitments.ensures)
