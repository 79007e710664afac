-- Confirmation and penalties, as maps over the list (DIP-0003, DIP-0006).
use Rattle.std.specs.Prelude.{ℕ, ◌+◌, ◌-◌, ◌*◌, ◌/◌, ◌==◌, List, map, length, min, max, replicate, find, if◌then◌else◌}
use Rattle.dmn_bytes.specs.declared.hash.Hash256.{Hash256}
use Rattle.dmn_rows.specs.declared.row.MnRow.{MnRow}
use Rattle.dmn_rows.specs.Row.{ban}
use Rattle.dmn_rows.specs.Rows.{has_hash, changed}
use Rattle.dmn_rows.specs.Waiting.{is_due}

-- ---- what a block does to every row

abbrev pub confirm : ℕ → ℕ → Hash256 → MnRow → MnRow
confirm wait height hash r = if is_due wait height r then record r { confirmed = hash } else r

-- the list at a height, where each row that is due gets the hash of the block before
abbrev pub confirmed : ℕ → ℕ → Hash256 → List MnRow → List MnRow
confirmed wait height hash = map (confirm wait height hash)

-- The penalty of a row that isn't banned falls by one, down to 0.
abbrev pub decrease : MnRow → MnRow
decrease r = record r { penalty = if r.banned == 0 then r.penalty - 1 else r.penalty }

abbrev pub decreased : List MnRow → List MnRow
decreased = map decrease

-- ---- penalties

-- the greatest penalty in a list of so many rows
abbrev pub most_penalty : ℕ → ℕ
most_penalty count = max 100 count

-- a penalty, after one more quorum was missed
abbrev pub raised : ℕ → ℕ → ℕ
raised count penalty = min (most_penalty count) (penalty + most_penalty count * 66 / 100)

-- the row is banned where its penalty is the greatest one
abbrev pub banned_at_most : ℕ → ℕ → MnRow → MnRow
banned_at_most height count r = if r.penalty == most_penalty count then ban height r else r

-- a row of a list of so many, punished at a height
unfoldable pub punished : ℕ → ℕ → MnRow → MnRow
punished height count r = banned_at_most height count (record r { penalty = raised count r.penalty })

-- the list with the row of a hash punished, if it is there
abbrev pub punish_in : ℕ → Hash256 → List MnRow → List MnRow
punish_in height hash rows = changed (punished height (length rows)) (find (has_hash hash) rows) rows

-- ---- payment

-- the list with the row of a hash paid at a height, if it is there
abbrev pub paid : ℕ → Hash256 → List MnRow → List MnRow
paid height hash rows = changed (λ r. record r { last_paid = height }) (find (has_hash hash) rows) rows

-- ---- what stays

-- a row without what a block changes of it here: its keys, and what its owner and its operator chose
abbrev pub core : MnRow → MnRow
core r = record r { confirmed = record { 0 = replicate 32 0 }; last_paid = 0; banned = 0; penalty = 0; penalty_at = 0 }
