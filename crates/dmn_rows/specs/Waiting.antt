-- Who waits to be confirmed and who waits to be paid, and in which order (DIP-0003).
use Rattle.std.specs.Prelude.{ℕ, ◌+◌, ◌==◌, ◌&&◌, nat_le, Bool, List, filter}
use Rattle.std.specs.Ordering.{nat_cmp, on, then_cmp}
use Rattle.std.specs.declared.cmp.Ordering.{Ordering}
use Rattle.dmn_bytes.specs.Points.{is_zero, hash_cmp}
use Rattle.dmn_rows.specs.declared.row.MnRow.{MnRow}
use Rattle.dmn_rows.specs.Ranked.{ranked}
use Rattle.dmn_rows.specs.Row.{pay_key}

-- the row isn't confirmed, and was registered so many blocks ago
abbrev pub is_due : ℕ → ℕ → MnRow → Bool
is_due wait height r = is_zero r.confirmed.0 && nat_le (r.registered + wait) height

-- a banned row isn't paid
abbrev pub is_unbanned : MnRow → Bool
is_unbanned r = r.banned == 0

-- rows take turns by the height since which they wait, and then by their hashes
abbrev pub turn_cmp : MnRow → MnRow → Ordering
turn_cmp = then_cmp (on pay_key nat_cmp) (on (λ r. r.hash) hash_cmp)

-- the rows that aren't banned, in the order of their turns
abbrev pub pay_order : List MnRow → List MnRow
pay_order rows = ranked turn_cmp (filter is_unbanned rows)
