use Rattle.std.proofs.Common.{◌≡◌, ◌++◌, ◌∷◌, [], Some, List, sym, ap, ◌∙◌, rules}
use Rattle.std.specs.Prelude.{slice_get}
use Rattle.std.specs.Option.{option_copied}
use Rattle.dmn_bytes.specs.declared.hash.Hash256.{Hash256}
use Rattle.dmn_rows.specs.Waiting.{pay_order}
use Rattle.dmn_indexes.specs.Version.{rows_in}
use Rattle.dmn_branch.proofs.Asking.{hashes_more}
use Rattle.dmn_branch.proofs.asked.payees_of.Goals as goal

pub loop-rank-preserved : goal.loop-rank-preserved
loop-rank-preserved c =
    let order = pay_order (rows_in c.args.indexes.now c.args.version.now) in
    let row = c.in-Some.row.now in
    let some : slice_get order c.loop-rank.rank ≡ Some row = sym c.least_pay.ensures.item ∙ ap option_copied c.in-Some.is in
    let more : c.push.new.self.items ≡ c.loop-rank.hashes.items ++ row.hash ∷ [] = search rules in
    more ∙ ap (λ (l : List Hash256). l ++ row.hash ∷ []) c.loop-rank.invariant ∙ sym (hashes_more order c.loop-rank.rank row some)
