use Rattle.std.proofs.Common.{◌≡◌, ◌∙◌, ap, sym, List, drop, subst, arith, refl}
use Rattle.std.specs.List.{All}
use Rattle.std.specs.Prelude.{slice_get}
use Rattle.dmn_held.specs.declared.data.HeightData.{HeightData}
use Rattle.dmn_held.specs.Height.{height_data}
use Rattle.dmn_held.specs.Lists.{mined_field}
use Rattle.dmn_indexes.specs.Version.{rows_in}
use Rattle.dmn_restore.specs.Formed.{IsFormed}
use Rattle.dmn_restore.specs.Restored.{listing_in}
use Rattle.dmn_rows.specs.Rows.{Outputs}
use Rattle.dmn_rows.specs.declared.row.MnRow.{MnRow}
use Rattle.dmn_branch.specs.declared.held.Held.{Held}
use Rattle.dmn_branch.specs.Telling.{AreChanges, IsTellable}
use Rattle.dmn_branch.proofs.Holding.{some_is}
use Rattle.dmn_branch.proofs.Telling.{snapshot_by, tellable_at}
use Rattle.dmn_branch.proofs.to_data.data_of.Goals as goal

pub returns-clause-told : goal.returns-clause-told
returns-clause-told c = λ first is.
    let ix = c.args.indexes.now in
    let same : c.get-first.result.now ≡ first = some_is (slice_get c.args.held.now.held 0) c.get-first.result.now first c.get-first.ensures is in
    record {
      top_is = refl;
      low_is = refl;
      hash = ap (λ (h : Held). h.hash) same;
      coinbase = c.in_ok-coinbase.ensures.is ∙ ap (λ (h : Held). h.coinbase) same;
      list = ap (λ (l : List MnRow). record { rows = l; outputs = c.in_ok-lists.lists.outputs }) c.in_ok-lists.ensures.rows
          ∙ ap (λ (l : Outputs). record { rows = rows_in ix c.get-first.result.now.version; outputs = l }) c.in_ok-lists.ensures.outputs
          ∙ ap (λ (h : Held). listing_in ix h.version) same;
      active = c.from_vec.ensures ∙ c.in_ok-active.ensures;
      changes = subst (λ (l : List HeightData). AreChanges ix c.args.quorums.now c.args.low c.args.mined.now first (drop 1 c.args.held.now.held) l) (sym c.from_vec-2.ensures) (c.in_ok-changes.ensures.told first is);
    }

pub returns-clause-form : goal.returns-clause-form
returns-clause-form c =
    let can : IsTellable c.args.indexes.now c.get-first.result.now = tellable_at c.args.indexes.now c.args.held.now.held 0 c.get-first.result.now c.requires.tellable c.requires.some c.get-first.ensures in
    let formed : IsFormed (listing_in c.args.indexes.now c.get-first.result.now.version) = record { masternodes = can.masternodes; collaterals = can.collaterals } in
    snapshot_by _ (omega (arith, c.ranges.top.fits)) (omega (arith, c.ranges.low.fits)) c.hash_is_long.ensures (c.in_ok-lists.ensures.rows_form formed) (c.in_ok-lists.ensures.outputs_form formed)
    (subst mined_field.Fits (c.as_slice.ensures.value ∙ sym c.from_vec.ensures) c.in_ok-check_mined.ensures)
    c.in_ok-coinbase.ensures.form
    (subst (λ (l : List HeightData). All height_data.Fits l) (sym c.from_vec-2.ensures) c.in_ok-changes.ensures.form)
