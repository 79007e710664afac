use Rattle.std.proofs.Common.{◌≡◌, [], None, sym, ◌∙◌, arith}
use Rattle.std.proofs.lemmas.List.{nil_from_length}
use Rattle.dmn_block.specs.Shape.{first_broken, unnumbered, tx_rules}
use Rattle.dmn_block.proofs.Rules.{none_first, on_ok, some_is_none, verdicts_ascend}
use Rattle.dmn_block.proofs.shape.check_shape.Goals as goal

pub returns-in-empty-clause-rule : goal.returns-in-empty-clause-rule
returns-in-empty-clause-rule c =
    let block = c.args.block.now in
    let empty : block.txs ≡ [] = sym c.as_slice.ensures ∙ nil_from_length c.as_slice.result.now (omega (arith, c.in-empty.len_below)) in
    let broken = none_first block empty in
    let whole : first_broken (unnumbered (tx_rules block)) ≡ None = rw c.tx_rules.ensures at c.in_ok-check_table-2.ensures in
    absurd (some_is_none (sym broken ∙ whole))

pub returns-in-len1-up-clause-verdicts : goal.returns-in-len1-up-clause-verdicts
returns-in-len1-up-clause-verdicts c = on_ok c.judge_payload.result (verdicts_ascend c.args.block.now (rw c.verdict_form.ensures c.in_ok-check_table-4.ensures))
