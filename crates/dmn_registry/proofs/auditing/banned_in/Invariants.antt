use Rattle.std.proofs.Common.{◌≡◌, ◌+◌, ◌≤◌, length}
use Rattle.std.specs.Prelude.{filter}
use Rattle.dmn_branch.specs.Step.{most_rows}
use Rattle.dmn_registry.specs.Audits.{is_banned}
use Rattle.dmn_registry.proofs.auditing.banned_in.Given as goal

-- those that were counted, with those that are still to come
abbrev pub invariant-rows : goal.invariant-rows
invariant-rows l = record {
  counted : length l.fn.rows.rows ≤ most_rows → l.banned + length (filter is_banned l.rows.rows) ≡ length (filter is_banned l.fn.rows.rows);
  few : length l.fn.rows.rows ≤ most_rows → l.banned + length l.rows.rows ≤ most_rows;
}

abbrev pub decreases-rows : goal.decreases-rows
decreases-rows l = length l.rows.rows
