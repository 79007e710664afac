-- The rules on a block as a whole, in the order of their numbers: a table of which is broken, with its fields and the
-- transaction that it names. Rule 2 asks what the machine holds, and stands there; 5 isn't used.
use Rattle.std.specs.Prelude.{◌≡◌, ℕ, zero, suc, ◌+◌, false, ◌==◌, ◌&&◌, ◌||◌, Bool, not, nat_lt, nat_le, List, [], ◌∷◌, ◌++◌, length, take, Option, Some, None, Result, Ok, Err, slice_get, if◌then◌else◌}
use Rattle.std.specs.Option.{option_map, option_or}
use Rattle.std.specs.Result.{is_ok}
use Rattle.std.specs.List.{list_any}
use Rattle.std.specs.Ordering.{nat_cmp}
use Rattle.std.specs.Str.{bytes_eq}
use Rattle.std.specs.Int.{w16, from_le_bytes}
use Rattle.dmn_bytes.specs.declared.fault.Departure.{Departure}
use Rattle.dmn_bytes.specs.declared.hash.Hash256.{Hash256}
use Rattle.dmn_bytes.specs.Format.{whole}
use Rattle.dmn_bytes.specs.Points.{is_zero}
use Rattle.dmn_tx.specs.declared.tx.Tx.{Tx}
pub use Rattle.dmn_tx.specs.Coinbase.{is_coinbase, is_cb_type}
use Rattle.dmn_merkle.specs.Defs.{merkle_root}
use Rattle.dmn_payloads.specs.Payloads.{cb}
use Rattle.dmn_payloads.specs.declared.payloads.CbTx.{CbTx}
use Rattle.dmn_rows.specs.Rule.{rule_number}
use Rattle.dmn_rows.specs.Start.{height_max}
use Rattle.dmn_rows.specs.declared.verdict.Verdict.{Verdict}
use Rattle.dmn_rows.specs.declared.verdict.TheConstants.{COLLATERAL_KEY, MEMBERS_KEYS}
use Rattle.dmn_rows.specs.declared.rule.Rule.{Rule}
use Rattle.dmn_rows.specs.Sorted.{Ascends}
use Rattle.dmn_rows.specs.Table.{Table}
pub use Rattle.dmn_rows.specs.Table.{when, unnumbered, first_broken, first_of}
use Rattle.dmn_rows.specs.declared.rule.Rule.TheVariants.{ZeroHash, NotNext, HeightLimit, NoCoinbase, SecondCoinbase, DuplicateTx, BadMerkle, VerdictForm, CbPayload, CbVersion, CbHeight}
use Rattle.dmn_block.specs.declared.frame.BlockFrame.{BlockFrame}
use Rattle.dmn_block.specs.declared.refusal.Refusal.{Refusal}
use Rattle.dmn_block.specs.declared.fault.ShapeFault.{ShapeFault}
use Rattle.dmn_block.specs.declared.fault.ShapeFault.TheVariants as faults

-- rules with their numbers; each is broken with a refusal, or isn't
abbrev pub Numbered : Type 0
Numbered = Table Refusal

-- the refusal by a rule that names no transaction, and by one that names the transaction at this place
abbrev pub by_block : Rule → Refusal
by_block rule = record { rule = rule; tx = None }

abbrev pub by_tx : ℕ → Rule → Refusal
by_tx place rule = record { rule = rule; tx = Some place }

-- a rule that names the transaction at this place
abbrev pub of_tx : Option ℕ → Rule → Option Refusal
of_tx place rule = option_map (λ tx. by_tx tx rule) place

-- the least place below n that passes a test
unfoldable pub least : ℕ → (ℕ → Bool) → Option ℕ
least zero test = None
least (suc n) test = option_or (least n test) (if test n then Some n else None)

-- there is a value, and it passes the test
abbrev pub passes : {X : Type 0} → (X → Bool) → Option X → Bool
passes test None = false
passes test (Some x) = test x

unfoldable pub begins_with_coinbase : List Tx → Bool
begins_with_coinbase txs = passes is_coinbase (slice_get txs 0)

-- a coinbase behind the first transaction
abbrev pub is_second_coinbase : List Tx → ℕ → Bool
is_second_coinbase txs k = nat_lt 0 k && passes is_coinbase (slice_get txs k)

-- the id at this place stands at an earlier one too
abbrev pub stands_earlier : List Hash256 → ℕ → Bool
stands_earlier ids k = passes (λ (id : Hash256). list_any (λ (earlier : Hash256). bytes_eq earlier.0 id.0) (take k ids)) (slice_get ids k)

-- a verdict in its form: for a transaction of the block, from this one on, of one of the four kinds, and yes or no
unfoldable pub is_in_form : ℕ → ℕ → Verdict → Bool
is_in_form count from v = nat_le from v.tx && nat_lt v.tx count && nat_le COLLATERAL_KEY v.kind && nat_le v.kind MEMBERS_KEYS && nat_le v.valid 1

-- the first verdict that isn't in its form or whose transaction isn't behind that of the one before
unfoldable pub bad_verdict : ℕ → ℕ → List Verdict → Option ℕ
bad_verdict count from [] = None
bad_verdict count from (v ∷ vs) = if is_in_form count from v then option_map suc (bad_verdict count (v.tx + 1) vs) else Some 0

-- they ascend by their transactions, so each of these has at most one
abbrev pub VerdictsAscend : List Verdict → Type 0
VerdictsAscend = Ascends nat_cmp (λ v. v.tx)

-- the first two bytes of a payload
abbrev pub version_of : List ℕ → ℕ
version_of payload = from_le_bytes w16 (take 2 payload)

-- it has no two bytes, or is of version 1 and isn't a coinbase's payload
unfoldable pub is_no_payload : List ℕ → Bool
is_no_payload payload = nat_lt (length payload) 2 || ((version_of payload == 1) && not (is_ok (whole cb payload)))

-- another height than this in a coinbase's payload
abbrev pub other_height : ℕ → Result CbTx Departure → Option Refusal
other_height height (Ok value) = when (not (value.height == height)) (by_tx 0 (CbHeight value.height))
other_height height (Err d) = None

-- ---- the table

unfoldable pub link_rules : BlockFrame → Hash256 → ℕ → Numbered
link_rules block tip tip_height =
    (1, when (is_zero block.hash.0) (by_block ZeroHash))
    ∷ (3, when (not (bytes_eq block.prev.0 tip.0)) (by_block (NotNext tip)))
    ∷ (4, when (tip_height == height_max) (by_block HeightLimit))
    ∷ []

unfoldable pub tx_rules : BlockFrame → Numbered
tx_rules block =
    (6, when (not (begins_with_coinbase block.txs)) (by_block NoCoinbase))
    ∷ (7, of_tx (least (length block.txs) (is_second_coinbase block.txs)) SecondCoinbase)
    ∷ []

unfoldable pub id_rules : BlockFrame → Numbered
id_rules block =
    (8, of_tx (least (length block.ids) (stands_earlier block.ids)) DuplicateTx)
    ∷ (9, when (not (bytes_eq block.merkle.0 (merkle_root block.ids).0)) (by_block (BadMerkle (merkle_root block.ids))))
    ∷ []

unfoldable pub verdict_rules : BlockFrame → Numbered
verdict_rules block = (10, option_map (λ k. by_block (VerdictForm k)) (bad_verdict (length block.txs) 0 block.verdicts)) ∷ []

unfoldable pub payload_rules : ℕ → Tx → Numbered
payload_rules height tx =
    (11, when (not (is_cb_type tx) || is_no_payload tx.payload) (by_tx 0 CbPayload))
    ∷ (12, when (not (version_of tx.payload == 1)) (by_tx 0 (CbVersion (version_of tx.payload))))
    ∷ (13, other_height height (whole cb tx.payload))
    ∷ []

abbrev pub coinbase_rules : ℕ → List Tx → Numbered
coinbase_rules height [] = []
coinbase_rules height (tx ∷ txs) = payload_rules height tx

abbrev pub shape_rules : BlockFrame → Hash256 → ℕ → Numbered
shape_rules block tip tip_height = link_rules block tip tip_height ++ (tx_rules block ++ (id_rules block ++ (verdict_rules block ++ coinbase_rules (tip_height + 1) block.txs)))

-- the first broken rule of a block that is to follow the tip
abbrev pub broken_rule : BlockFrame → Hash256 → ℕ → Option Refusal
broken_rule block tip tip_height = first_of (shape_rules block tip tip_height)

-- the number of the rule by which a block is refused
abbrev pub number_of : Refusal → ℕ
number_of refusal = rule_number refusal.rule

-- A judge refuses exactly with the rule that is broken, unless memory runs out.
abbrev pub Judges : {V : Type 0} → Option Refusal → Result V ShapeFault → Type 0
Judges broken (Ok v) = broken ≡ None
Judges broken (Err faults.Memory) = Unit {0}
Judges broken (Err (faults.Broken refusal)) = broken ≡ Some refusal

-- the first transaction's payload is the text of this value
abbrev pub IsPayloadOfFirst : List Tx → CbTx → Type 0
IsPayloadOfFirst [] value = ⊥
IsPayloadOfFirst (tx ∷ txs) value = cb.Fits value × (tx.payload ≡ cb.text value)
