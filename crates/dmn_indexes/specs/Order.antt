-- The order of confirmations. That of payments stands beside rows, in Waiting of dmn_rows.
use Rattle.std.specs.Prelude.{ℕ, ◌+◌, nat_le, Bool, List, [], ◌∷◌, filter, Option, None, Some, if◌then◌else◌}
use Rattle.std.specs.Ordering.{nat_cmp, on, then_cmp}
use Rattle.std.specs.declared.cmp.Ordering.{Ordering}
use Rattle.dmn_bytes.specs.Points.{is_zero, hash_cmp}
use Rattle.dmn_rows.specs.declared.row.MnRow.{MnRow}
use Rattle.dmn_rows.specs.Profile.{confirm_wait}
use Rattle.dmn_rows.specs.Ranked.{ranked}

abbrev pub is_unconfirmed : MnRow → Bool
is_unconfirmed r = is_zero r.confirmed.0

-- rows wait to be confirmed by the height of their registration, and then by their hashes
abbrev pub age_cmp : MnRow → MnRow → Ordering
age_cmp = then_cmp (on (λ r. r.registered) nat_cmp) (on (λ r. r.hash) hash_cmp)

-- the rows that aren't confirmed, in this order
abbrev pub unconfirmed_order : List MnRow → List MnRow
unconfirmed_order rows = ranked age_cmp (filter is_unconfirmed rows)

-- the first of an order, where it has waited long enough at the height
abbrev pub first_due : ℕ → List MnRow → Option MnRow
first_due height [] = None
first_due height (r ∷ rows) = if nat_le (r.registered + confirm_wait) height then Some r else None
