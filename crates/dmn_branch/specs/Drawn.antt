-- Whose members are drawn for a block: nobody asks for those of a quorum of which the block has no commitment, or a null one.
use Rattle.std.specs.Prelude.{◌≡◌, ℕ, Bool, true, List, [], ◌∷◌, map, Option, None, Some, Result, if◌then◌else◌}
use Rattle.std.specs.Option.{option_and_then}
use Rattle.std.specs.Result.{result_ok}
use Rattle.dmn_bytes.specs.declared.fault.Departure.{Departure}
use Rattle.dmn_payloads.specs.Commitments.{is_null}
use Rattle.dmn_payloads.specs.declared.commitment.Commitment.{Commitment}
use Rattle.dmn_quorums.specs.Forming.{Formed, has_kind, no_hash}
use Rattle.dmn_tx.specs.declared.tx.Tx.{Tx}
use Rattle.dmn_branch.specs.declared.drawn.Drawn.{Drawn}
use Rattle.dmn_branch.specs.declared.drawn.Drawn.TheVariants as drawn
use Rattle.dmn_branch.specs.Quorums.{commitment_in}

-- the type of a commitment that isn't null
abbrev pub kind_mined : Commitment → Option ℕ
kind_mined v = if is_null v then None else Some v.kind

-- the type whose members a transaction asks for: that of its commitment, where it has one that isn't null
unfoldable pub kind_asked : Tx → Option ℕ
kind_asked tx = option_and_then (λ (told, v). kind_mined v) (commitment_in tx)

-- the same of a payload that was read as a commitment's, or not
abbrev pub kind_in : Result (ℕ × Commitment) Departure → Option ℕ
kind_in read = option_and_then (λ (told, v). kind_mined v) (result_ok read)

abbrev pub with_kind : Option ℕ → List ℕ → List ℕ
with_kind None kinds = kinds
with_kind (Some kind) kinds = kind ∷ kinds

-- the types whose members these transactions ask for, one after another
abbrev pub kinds_asked : List Tx → List ℕ
kinds_asked [] = []
kinds_asked (tx ∷ txs) = with_kind (kind_asked tx) (kinds_asked txs)

abbrev pub is_drawn : Drawn → ℕ → Bool
is_drawn drawn.All kind = true
is_drawn (drawn.Of kinds) kind = has_kind kinds.items kind

-- as many as a block with these transactions asks for
abbrev pub IsFor : List Tx → Drawn → Type 0
IsFor txs drawn.All = Unit {0}
IsFor txs (drawn.Of kinds) = kinds.items ≡ kinds_asked txs

-- what is known of a quorum whose members aren't drawn
abbrev pub undrawn : Formed → Formed
undrawn f = record f { members = []; digest = no_hash }

-- what is known of a quorum, by whose members are drawn
abbrev pub drawn_by : Drawn → Formed → Formed
drawn_by d f = if is_drawn d f.params.kind then f else undrawn f

-- of what is known of the quorums of a block with these transactions, this is what is given: the members that nobody asks for
-- aren't drawn
pub record IsDrawnFor (txs : List Tx) (formed given : List Formed) : Type 0 where
  pub drawn : Drawn
  pub asked : IsFor txs drawn
  pub is : given ≡ map (drawn_by drawn) formed
