-- An item as it is lent.
use Rattle.std.specs.Prelude.{ℕ, Option, None, Some}
use denote.Ref.{Bor}
use Rattle.dmn_payloads.specs.declared.mined.MinedAt.{MinedAt}
use Rattle.dmn_payloads.specs.declared.commitment.Commitment.{Commitment}

abbrev pub item_of : Option (ℕ × Bor Commitment) → Option MinedAt
item_of None = None
item_of (Some p) = Some (record { height = p.0; commitment = p.1.now })
