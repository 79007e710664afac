use Rattle.std.proofs.Common.{List, Option, get_or, ap, sym, ◌∙◌}
use Rattle.dmn_rows.specs.declared.verdict.Verdict.{Verdict}
use Rattle.dmn_tx.specs.declared.tx.Tx.{Tx}
use Rattle.dmn_branch.specs.Parts.{counted_at, rule_on, setting_with}
use Rattle.dmn_branch.proofs.Judging.{goes_on, stops_here}
use Rattle.dmn_branch.proofs.transactions.judge_at.Goals as goal

pub returns-in-Ok-clause-rows : goal.returns-in-Ok-clause-rows
returns-in-Ok-clause-rows c =
    let given = c.args.setting.now in
    let tx = c.index-as_slice-place.result in
    goes_on given c.args.block.now c.args.list.now c.args.committed.now c.args.place tx c.judge_one.new.list c.judge_one.new.committed c.requires.place
    (c.index-as_slice-place.is ∙ ap (λ (txs : List Tx). get_or txs c.args.place tx) c.as_slice.ensures)
    (ap (λ (v : Option Verdict). rule_on (setting_with given c.args.list.now.outputs) (counted_at given.height c.args.list.now c.args.committed.now) tx v) (sym c.verdict_on-verdict.ensures) ∙ c.in-Ok.ensures.rule)
    c.in-Ok.ensures.after

pub returns-in-Err-Broken-clause-refused : goal.returns-in-Err-Broken-clause-refused
returns-in-Err-Broken-clause-refused c =
    let given = c.args.setting.now in
    let tx = c.index-as_slice-place.result in
    stops_here given c.args.block.now c.args.list.now c.args.committed.now c.args.place tx c.in-Err-Broken.rule c.requires.place
    (c.index-as_slice-place.is ∙ ap (λ (txs : List Tx). get_or txs c.args.place tx) c.as_slice.ensures)
    (ap (λ (v : Option Verdict). rule_on (setting_with given c.args.list.now.outputs) (counted_at given.height c.args.list.now c.args.committed.now) tx v) (sym c.verdict_on-verdict.ensures) ∙ rw c.in-Err-Broken.field-0-is at c.in-Err-Broken.ensures.rule)
