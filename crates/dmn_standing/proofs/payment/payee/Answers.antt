use Rattle.std.proofs.Common.{◌≡◌, ◌+◌, ◌<◌, ap, sym, ◌∙◌, length, arith, drop}
use Rattle.std.specs.Option.{option_map}
use Rattle.std.proofs.lemmas.Grind.{common_steps}
use Rattle.dmn_rows.specs.Ranked.{lesser_of, least}
use Rattle.dmn_standing.specs.Dues.{due_cmp, dues}
use Rattle.dmn_standing.proofs.Turns.{first_more, first_same, payee_due}
use Rattle.dmn_standing.proofs.payment.payee.Goals as goal
use Rattle.dmn_standing.proofs.payment.payee.Goals.{then-row-eq0, else-row-eq0}

pub loop-row-preserved : goal.loop-row-preserved
loop-row-preserved c =
    let all = c.rows-row-items.ensures.all in
    let within : c.loop-row.row-index < length c.rows-row-items.result.now = omega arith in
    let step : lesser_of due_cmp c.if-row-eq0.first (least due_cmp (dues (drop (c.loop-row.row-index + 1) c.rows-row-items.result.now))) ≡ lesser_of due_cmp c.loop-row.first (least due_cmp (dues (drop c.loop-row.row-index c.rows-row-items.result.now))) =
    elim c.if-row-eq0.branch [
      | then-row-eq0 w ↦ first_more c.loop-row.first c.if-row-eq0.first _ _ c.rows-row-items.result.now c.loop-row.row-index _ within w.if-row-eq0.true w.due_of.ensures w.earlier.ensures w.first-is
      | else-row-eq0 w ↦ first_same c.loop-row.first c.if-row-eq0.first c.rows-row-items.result.now c.loop-row.row-index _ within w.if-row-eq0.false w.first-is
    ] in
    let moved = ap (λ rows. lesser_of due_cmp c.if-row-eq0.first (least due_cmp (dues (drop (c.loop-row.row-index + 1) rows)))) (sym all) in
    moved ∙ step ∙ ap (λ rows. lesser_of due_cmp c.loop-row.first (least due_cmp (dues (drop c.loop-row.row-index rows)))) all ∙ c.loop-row.invariant

pub returns : goal.returns
returns c =
    let first : c.map.result ≡ option_map (λ d. d.hash) (least due_cmp (dues c.args.rows.now.rows)) = grind (arith, common_steps) in
    first ∙ payee_due c.args.rows.now.rows
