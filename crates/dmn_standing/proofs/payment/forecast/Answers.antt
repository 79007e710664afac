use Rattle.std.proofs.Common.{◌≡◌, map, take, ap, sym, ◌∙◌}
use Rattle.dmn_rows.specs.Ranked.{ranked}
use Rattle.dmn_rows.proofs.Ranked.{sorted_is_ranked}
use Rattle.dmn_standing.specs.Dues.{due_cmp, dues}
use Rattle.dmn_standing.proofs.Turns.{due_total, due_exact, forecast_dues}
use Rattle.dmn_standing.proofs.payment.forecast.Goals as goal

pub returns : goal.returns
returns c =
    let sorted : c.sort_unstable.new.self.items ≡ ranked due_cmp (dues c.args.rows.now.rows) =
    sorted_is_ranked due_cmp due_total due_exact c.in_ok-dues.dues.items c.sort_unstable.new.self.items c.sort_unstable.ensures.permutation c.sort_unstable.ensures.sorted
    ∙ ap (ranked due_cmp) (c.in_ok-dues.ensures ∙ ap dues c.rows.ensures.all) in
    let front = c.deref.ensures.value ∙ c.truncate.ensures.items ∙ ap (take c.from.result) sorted ∙ ap (λ n. take n (ranked due_cmp (dues c.args.rows.now.rows))) c.from.ensures in
    let is = ap (map (λ d. d.hash)) front ∙ sym (forecast_dues c.args.n c.args.rows.now.rows c.rows.ensures.ascending) in
    rw (← is) c.hashes_of.ensures
