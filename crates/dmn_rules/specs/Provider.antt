-- The rules on a provider transaction whose payload was read, by tables in the order of their numbers (DIP-0003).
use Rattle.std.specs.Prelude.{ℕ, ◌==◌, nat_lt, Bool, not, ◌&&◌, ◌||◌, false, List, [], ◌∷◌, ◌++◌, length, Option, Some, None, find, nat_eq, slice_get, if◌then◌else◌}
use Rattle.std.specs.Option.{option_map}
use Rattle.std.specs.List.{starts_with}
use Rattle.std.specs.Str.{bytes_eq}
use Rattle.dmn_bytes.specs.declared.hash.Hash256.{Hash256}
use Rattle.dmn_bytes.specs.declared.points.OutPoint.{OutPoint}
use Rattle.dmn_bytes.specs.declared.points.Pay.{Pay}
use Rattle.dmn_bytes.specs.declared.points.Service.{Service as At}
use Rattle.dmn_bytes.specs.Hash.{dsha}
use Rattle.dmn_bytes.specs.Points.{is_zero}
use Rattle.dmn_payloads.specs.declared.payloads.ProReg.{ProReg}
use Rattle.dmn_payloads.specs.declared.payloads.UpServ.{UpServ}
use Rattle.dmn_payloads.specs.declared.payloads.UpReg.{UpReg}
use Rattle.dmn_payloads.specs.declared.payloads.Revoke.{Revoke as Revocation}
use Rattle.dmn_payloads.specs.Scripts.{pay_of}
use Rattle.dmn_rows.specs.declared.row.MnRow.{MnRow}
use Rattle.dmn_rows.specs.declared.rule.Rule.{Rule}
use Rattle.dmn_rows.specs.declared.rule.Rule.TheVariants.{InputsHash, RegType, RegMode, NullKey, PayoutForm, PayoutKey, RewardRange, AddressForm, SigPresence, CollateralIndex, CollateralValue, CollateralScript, CollateralUnknown, CollateralKeyless, CollateralKey, DupOwner, DupOperator, DupAddress, NoRow, UpAddress, UpDupAddress, OperatorPayoutForm, OperatorPayoutUnasked, NoOperator, UpMode, UpNullKey, UpPayoutForm, UpPayoutKey, UpDupOperator, UpCollateralKey, RevokeReason}
use Rattle.dmn_rows.specs.declared.limits.TheConstants.{COLLATERAL_VALUE, WHOLE_REWARD}
use Rattle.dmn_rows.specs.declared.verdict.TheConstants.{COLLATERAL_KEY, OWNER_KEY, OPERATOR_KEY}
use Rattle.dmn_rows.specs.Signed.{verdict_rules}
use Rattle.dmn_rows.specs.Rows.{Outputs, same_hash, no_service, has_hash, has_owner, has_operator, has_service, has_collateral, hash_where, output_at}
use Rattle.dmn_tx.specs.declared.tx.TxOut.{TxOut}
use Rattle.dmn_rules.specs.declared.facts.Facts.{Facts}
use Rattle.dmn_rules.specs.declared.provider.Provider.{Provider}
use Rattle.dmn_rules.specs.declared.provider.Provider.TheVariants.{Register, Service, Registrar, Revoke}
use Rattle.dmn_rules.specs.Table.{Numbered, when, some_row}

-- What the rules look at. The rows are the list as it is before the transaction, the outputs are those after the block
-- before, and `outs` are those of the transaction.
pub record Case : Type 0 where
  pub facts : Facts
  pub rows : List MnRow
  pub outputs : Outputs
  pub outs : List TxOut

-- ---- words

-- IPv4-mapped, with the network's port
abbrev pub is_mapped : ℕ → At → Bool
is_mapped port s = starts_with nat_eq s.address (0 ∷ 0 ∷ 0 ∷ 0 ∷ 0 ∷ 0 ∷ 0 ∷ 0 ∷ 0 ∷ 0 ∷ 255 ∷ 255 ∷ []) && s.port == port

-- it pays to a public key of this hash
abbrev pub pays : Pay → List ℕ → Bool
pays pay key = pay.kind == 1 && bytes_eq pay.hash key

-- the hash is the one that there is
abbrev pub is_hash : Option Hash256 → Hash256 → Bool
is_hash None hash = false
is_hash (Some one) hash = same_hash hash one

-- the double hash of a key (FIPS 180-4)
abbrev pub digest_of : List ℕ → Hash256
digest_of key = record { 0 = dsha key }

-- a zero hash in a registration's collateral names an output of the same transaction
abbrev pub is_own : ProReg → Bool
is_own p = is_zero p.collateral.hash.0

-- the collateral of the registration in a transaction of this id
abbrev pub point_of : Hash256 → ProReg → OutPoint
point_of id p = if is_own p then record { hash = id; index = p.collateral.index } else p.collateral

-- the hash of the row whose collateral is at this outpoint
abbrev pub replaced_by : List MnRow → OutPoint → Option Hash256
replaced_by rows point = hash_where (has_collateral point) rows

-- what it pays to, by the outputs of the transaction or those of the list
unfoldable pub script_of : List TxOut → Outputs → ProReg → Option Pay
script_of outs outputs p =
    if is_own p then option_map (λ out. pay_of out.script) (slice_get outs p.collateral.index) else output_at outputs p.collateral

-- ---- rules with a longer test

-- 37: an own collateral goes without a signature, and another one with it
unfoldable pub sig_presence : ProReg → Option Rule
sig_presence p = when (if is_own p then not (length p.signature == 0) else length p.signature == 0) SigPresence

-- 46: of the rows but the one that is replaced, one has the service
unfoldable pub dup_address : List MnRow → Option Hash256 → ProReg → Option Rule
dup_address rows replaced p = some_row (λ r. has_service p.service r && not (is_hash replaced r.hash)) DupAddress rows

-- 52: another row has the service
unfoldable pub up_dup_address : List MnRow → UpServ → Option Rule
up_dup_address rows up = some_row (λ r. has_service up.service r && not (has_hash up.pro_tx r)) UpDupAddress rows

-- 60: another row has the operator key
unfoldable pub up_dup_operator : List MnRow → UpReg → Option Rule
up_dup_operator rows up = some_row (λ r. has_operator up.operator r && not (has_hash up.pro_tx r)) UpDupOperator rows

-- ---- the tables

-- what a registration says of itself, and what its payout pays to
unfoldable pub form_rules : ℕ → ProReg → Pay → Numbered
form_rules port p payout =
    (30, when (not (p.kind == 0)) RegType)
    ∷ (31, when (not (p.mode == 0)) RegMode)
    ∷ (32, when (is_zero p.owner || is_zero p.operator || is_zero p.voting) NullKey)
    ∷ (33, when (payout.kind == 0) PayoutForm)
    ∷ (34, when (pays payout p.owner || pays payout p.voting) PayoutKey)
    ∷ (35, when (nat_lt WHOLE_REWARD p.reward) RewardRange)
    ∷ (36, when (not (no_service p.service || is_mapped port p.service)) AddressForm)
    ∷ (37, sig_presence p)
    ∷ []

-- an output that is to be the collateral, and what it pays to
unfoldable pub output_rules : ℕ → Pay → Numbered
output_rules value script =
    (39, when (not (value == COLLATERAL_VALUE)) CollateralValue)
    ∷ (40, when (script.kind == 0) CollateralScript)
    ∷ []

-- a collateral among the transaction's own outputs
abbrev pub own_rules : Option TxOut → Numbered
own_rules None = (38, Some CollateralIndex) ∷ []
own_rules (Some out) = output_rules out.value (pay_of out.script)

-- a collateral that was there before
abbrev pub external_rules : Option Pay → Numbered
external_rules None = (41, Some CollateralUnknown) ∷ []
external_rules (Some script) = (42, when (not (script.kind == 1)) CollateralKeyless) ∷ []

-- a registration's collateral
unfoldable pub collateral_rules : List TxOut → Outputs → ProReg → Numbered
collateral_rules outs outputs p =
    if is_own p then own_rules (slice_get outs p.collateral.index) else external_rules (output_at outputs p.collateral)

-- a registration's keys, the hash of the row that it replaces, and what its collateral pays to
unfoldable pub key_rules : List MnRow → Option Hash256 → ProReg → Pay → Numbered
key_rules rows replaced p script =
    (43, when (pays script p.owner || pays script p.voting) CollateralKey)
    ∷ (44, some_row (has_owner p.owner) DupOwner rows)
    ∷ (45, some_row (has_operator p.operator) DupOperator rows)
    ∷ (46, dup_address rows replaced p)
    ∷ []

-- a registration whose collateral pays to something; the owner of a collateral that was there before has signed
abbrev pub scripted_rules : Facts → List MnRow → ProReg → Option Pay → Numbered
scripted_rules facts rows p None = []
scripted_rules facts rows p (Some script) =
    key_rules rows (replaced_by rows (point_of facts.id p)) p script
    ++ (if is_own p then [] else verdict_rules facts.verdict COLLATERAL_KEY (digest_of script.hash))

-- a change of service, what its payout pays to, and the row that it names
unfoldable pub service_rules : ℕ → List MnRow → UpServ → Pay → MnRow → Numbered
service_rules port rows up payout row =
    (51, when (not (is_mapped port up.service)) UpAddress)
    ∷ (52, up_dup_address rows up)
    ∷ (53, when (not (length up.payout == 0) && payout.kind == 0) OperatorPayoutForm)
    ∷ (54, when (not (length up.payout == 0) && row.reward == 0) OperatorPayoutUnasked)
    ∷ (55, when (is_zero row.operator) NoOperator)
    ∷ []

-- a change of keys and payout, what that pays to, and the row that it names
unfoldable pub registrar_rules : List MnRow → UpReg → Pay → MnRow → Numbered
registrar_rules rows up payout row =
    (56, when (not (up.mode == 0)) UpMode)
    ∷ (57, when (is_zero up.operator || is_zero up.voting) UpNullKey)
    ∷ (58, when (payout.kind == 0) UpPayoutForm)
    ∷ (59, when (pays payout row.owner || pays payout up.voting) UpPayoutKey)
    ∷ (60, up_dup_operator rows up)
    ∷ (61, when (pays row.script up.voting) UpCollateralKey)
    ∷ []

-- a revocation, and the row that it names
unfoldable pub revoke_rules : Revocation → MnRow → Numbered
revoke_rules p row =
    (55, when (is_zero row.operator) NoOperator)
    ∷ (62, when (nat_lt 3 p.reason) RevokeReason)
    ∷ []

-- the rules on the row of a hash
abbrev pub row_rules : (MnRow → Numbered) → Option MnRow → Numbered
row_rules rules None = (50, Some NoRow) ∷ []
row_rules rules (Some row) = rules row

-- the inputs hash that a payload says
abbrev pub inputs_of : Provider → Hash256
inputs_of (Register p) = p.inputs
inputs_of (Service p) = p.inputs
inputs_of (Registrar p) = p.inputs
inputs_of (Revoke p) = p.inputs

-- the rules behind the one on the inputs hash
abbrev pub kind_rules : Case → Provider → Numbered
kind_rules c (Register p) =
    form_rules c.facts.port p (pay_of p.payout) ++ (collateral_rules c.outs c.outputs p ++ scripted_rules c.facts c.rows p (script_of c.outs c.outputs p))
kind_rules c (Service up) =
    row_rules (λ row. service_rules c.facts.port c.rows up (pay_of up.payout) row ++ verdict_rules c.facts.verdict OPERATOR_KEY (digest_of row.operator)) (find (has_hash up.pro_tx) c.rows)
kind_rules c (Registrar up) =
    row_rules (λ row. registrar_rules c.rows up (pay_of up.payout) row ++ verdict_rules c.facts.verdict OWNER_KEY (digest_of row.owner)) (find (has_hash up.pro_tx) c.rows)
kind_rules c (Revoke p) =
    row_rules (λ row. revoke_rules p row ++ verdict_rules c.facts.verdict OPERATOR_KEY (digest_of row.operator)) (find (has_hash p.pro_tx) c.rows)

-- all rules on a payload that was read
abbrev pub read_rules : Case → Provider → Numbered
read_rules c read = (23, when (not (same_hash (inputs_of read) c.facts.inputs)) InputsHash) ∷ kind_rules c read
