-- Who is paid next, and how a reward is split (DIP-0003).
use Rattle.std.specs.Prelude.{◌≡◌, ℕ, zero, suc, ◌-◌, ◌*◌, ◌/◌, ◌==◌, false, List, [], ◌∷◌, filter, min, Option, None, Some, if◌then◌else◌}
use Rattle.std.specs.Option.{option_map}
use Rattle.std.specs.List.{AllByRecursion}
use Rattle.std.specs.Ordering.{is_lt}
use Rattle.dmn_bytes.specs.declared.hash.Hash256.{Hash256}
use Rattle.dmn_rows.specs.declared.row.MnRow.{MnRow}
use Rattle.dmn_rows.specs.Ranked.{least}
use Rattle.dmn_rows.specs.Rows.{drop_row}
use Rattle.dmn_rows.specs.Waiting.{is_unbanned, turn_cmp}
use Rattle.dmn_standing.specs.declared.payment.Parts.{Parts}

-- who is paid next: of the rows that aren't banned the one whose turn is first
abbrev pub payee_row : List MnRow → Option MnRow
payee_row rows = least turn_cmp (filter is_unbanned rows)

-- its hash
abbrev pub payee : List MnRow → Option Hash256
payee rows = option_map (λ r. r.hash) (payee_row rows)

-- a hash and what follows it, where there is one
abbrev pub and_then : Option Hash256 → (Hash256 → List Hash256) → List Hash256
and_then None next = []
and_then (Some hash) next = hash ∷ next hash

-- the next payees: n times the first of those that are left
abbrev pub forecast : ℕ → List MnRow → List Hash256
forecast zero rows = []
forecast (suc n) rows = and_then (payee rows) (λ hash. forecast n (drop_row hash rows))

-- the operator's share of a reward, in hundredths of a percent and rounded down
unfoldable pub share : ℕ → MnRow → ℕ
share reward r = if r.operator_payout.kind == 0 then 0 else min reward (reward * r.reward / 10000)

-- the owner gets the rest
abbrev pub split : ℕ → MnRow → Parts
split reward r = record { operator = share reward r; owner = reward - share reward r }

-- the hash is that of the row with the least turn of those that aren't banned; no other's turn is before it
pub record IsFirst (rows : List MnRow) (hash : Hash256) : Type 0 where
  pub row : MnRow
  pub is : row.hash ≡ hash
  pub least : least turn_cmp (filter is_unbanned rows) ≡ Some row
  pub first : AllByRecursion (λ r. is_lt (turn_cmp r row) ≡ false) (filter is_unbanned rows)
