-- A stored row, and the row that it stands for at a height; what is asked of a row (DIP-0003, DIP-0006).
use Rattle.std.specs.Prelude.{ℕ, ◌==◌, ◌-◌, nat_lt, if◌then◌else◌}
use Rattle.dmn_rows.specs.declared.row.MnRow.{MnRow}

-- The row after block h. The penalty of a row that isn't banned falls by one a block, to 0; that of a banned row
-- stands. Rows of the definitions have no `penalty_at`: it is 0.
abbrev pub plain : ℕ → MnRow → MnRow
plain h r = record r { penalty = if r.banned == 0 then r.penalty - (h - r.penalty_at) else r.penalty; penalty_at = 0 }

-- banning sets the banned height where it is 0
abbrev pub ban : ℕ → MnRow → MnRow
ban height r = if r.banned == 0 then record r { banned = height } else r

-- the height since which a row waits to be paid
abbrev pub pay_key : MnRow → ℕ
pay_key r = if nat_lt r.last_paid r.revived then r.revived else if r.last_paid == 0 then r.registered else r.last_paid
