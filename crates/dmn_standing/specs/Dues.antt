-- A row's turn to be paid by itself: the height since which it waits, and its hash.
use Rattle.std.specs.Prelude.{List, map, filter}
use Rattle.std.specs.Ordering.{nat_cmp, on, then_cmp}
use Rattle.std.specs.declared.cmp.Ordering.{Ordering}
use Rattle.dmn_bytes.specs.Points.{hash_cmp}
use Rattle.dmn_rows.specs.declared.row.MnRow.{MnRow}
use Rattle.dmn_rows.specs.Row.{pay_key}
use Rattle.dmn_rows.specs.Waiting.{is_unbanned}
use Rattle.dmn_standing.specs.declared.payment.Due.{Due}

abbrev pub due_cmp : Due → Due → Ordering
due_cmp = then_cmp (on (λ d. d.key) nat_cmp) (on (λ d. d.hash) hash_cmp)

abbrev pub due_of : MnRow → Due
due_of r = record { key = pay_key r; hash = r.hash }

-- the turns of the rows that aren't banned
abbrev pub dues : List MnRow → List Due
dues rows = map due_of (filter is_unbanned rows)
