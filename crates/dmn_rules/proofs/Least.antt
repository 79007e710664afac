-- The first broken rule of a transaction is the one with the least number.
use Rattle.std.proofs.Common.{ℕ, true, false, List, Some, None, refl, arith, if◌then◌else◌, slice_get}
use Rattle.std.specs.declared.option.Option.{Option}
use Rattle.dmn_bytes.specs.declared.hash.Hash256.{Hash256}
use Rattle.dmn_bytes.specs.declared.points.Pay.{Pay}
use Rattle.dmn_payloads.specs.declared.payloads.ProReg.{ProReg}
use Rattle.dmn_payloads.specs.declared.payloads.UpServ.{UpServ}
use Rattle.dmn_payloads.specs.declared.payloads.UpReg.{UpReg}
use Rattle.dmn_payloads.specs.declared.payloads.Revoke.{Revoke as Revocation}
use Rattle.dmn_rows.specs.declared.profile.Profile.{Profile}
use Rattle.dmn_rows.specs.declared.rule.Rule.TheVariants as rules
use Rattle.dmn_rows.specs.declared.verdict.Verdict.{Verdict}
use Rattle.dmn_rows.specs.declared.row.MnRow.{MnRow}
use Rattle.dmn_rows.specs.Order.{TellsLeast}
use Rattle.dmn_rows.specs.Rows.{Outputs, output_at}
use Rattle.dmn_rows.specs.Rule.{rule_number}
use Rattle.dmn_rows.proofs.Order.{Lies, Lies_lower, Lies_upper, Lies-append, Lies_unless, tells_when, tells_map, first_tells_least}
use Rattle.dmn_rows.proofs.Verdicts.{lies_verdict}
use Rattle.dmn_tx.specs.declared.tx.Tx.{Tx}
use Rattle.dmn_tx.specs.declared.tx.TxOut.{TxOut}
use Rattle.dmn_rules.specs.declared.facts.Facts.{Facts}
use Rattle.dmn_rules.specs.declared.provider.Provider.{Provider}
use Rattle.dmn_rules.specs.declared.provider.Provider.TheVariants.{Register, Service, Registrar, Revoke}
use Rattle.dmn_rules.specs.Table.{Numbered}
use Rattle.dmn_rules.specs.Payload.{payload_rules, provider_of}
use Rattle.dmn_rules.specs.Provider.{Case, is_own, sig_presence, dup_address, up_dup_address, up_dup_operator, form_rules, output_rules, own_rules, external_rules, collateral_rules, key_rules, scripted_rules, service_rules, registrar_rules, revoke_rules, row_rules, kind_rules}
use Rattle.dmn_rules.specs.Defs.{rules_of, rules_within, judge_of, case_of}

-- the table's numbers are those of its rules, and ascend
abbrev Numbers : ℕ → ℕ → Numbered → Type 0
Numbers = Lies rule_number

lies_form : (port : ℕ) (p : ProReg) (payout : Pay) → Numbers 23 37 (form_rules port p payout)
unfolding form_rules sig_presence rule_number
lies_form port p payout = record { holds = refl; told = ((tells_when rule_number _ rules.RegType), ((tells_when rule_number _ rules.RegMode), ((tells_when rule_number _ rules.NullKey), ((tells_when rule_number _ rules.PayoutForm), ((tells_when rule_number _ rules.PayoutKey), ((tells_when rule_number _ rules.RewardRange), ((tells_when rule_number _ rules.AddressForm), ((tells_when rule_number _ rules.SigPresence), tt)))))))) }

lies_output : (value : ℕ) (script : Pay) → Numbers 38 40 (output_rules value script)
unfolding output_rules rule_number
lies_output value script = record { holds = refl; told = ((tells_when rule_number _ rules.CollateralValue), ((tells_when rule_number _ rules.CollateralScript), tt)) }

lies_own : (o : Option TxOut) → Numbers 37 42 (own_rules o)
unfolding rule_number
lies_own None = record { holds = refl; told = (refl, tt) }
lies_own (Some out) = Lies_lower rule_number 37 38 42 _ (omega arith) (Lies_upper rule_number 38 40 42 _ (omega arith) (lies_output out.value _))

lies_external : (o : Option Pay) → Numbers 37 42 (external_rules o)
unfolding rule_number
lies_external None = record { holds = refl; told = (refl, tt) }
lies_external (Some script) = record { holds = refl; told = (tells_when rule_number _ rules.CollateralKeyless, tt) }

lies_collateral : (outs : List TxOut) (outputs : Outputs) (p : ProReg) → Numbers 37 42 (collateral_rules outs outputs p)
unfolding collateral_rules
lies_collateral outs outputs p = elim (is_own p) as (λ b. Numbers 37 42 (if b then own_rules (slice_get outs p.collateral.index) else external_rules (output_at outputs p.collateral))) [ true ↦ lies_own _ | false ↦ lies_external _ ]

lies_key : (rows : List MnRow) (replaced : Option Hash256) (p : ProReg) (script : Pay) → Numbers 42 46 (key_rules rows replaced p script)
unfolding key_rules dup_address rule_number
lies_key rows replaced p script = record { holds = refl; told = ((tells_when rule_number _ rules.CollateralKey), ((tells_map rule_number (λ h. rules.DupOwner h) _ (λ h. refl) _), ((tells_map rule_number (λ h. rules.DupOperator h) _ (λ h. refl) _), ((tells_map rule_number (λ h. rules.DupAddress h) _ (λ h. refl) _), tt)))) }

lies_scripted : (facts : Facts) (rows : List MnRow) (p : ProReg) (o : Option Pay) → Numbers 42 75 (scripted_rules facts rows p o)
lies_scripted facts rows p None = record { holds = refl; told = tt }
lies_scripted facts rows p (Some script) = Lies-append rule_number 42 46 75 _ _ (lies_key rows _ p script) (Lies_unless rule_number (is_own p) 46 62 75 _ (omega arith) (omega arith) (lies_verdict facts.verdict _ _))

lies_service : (port : ℕ) (rows : List MnRow) (up : UpServ) (payout : Pay) (row : MnRow) → Numbers 23 55 (service_rules port rows up payout row)
unfolding service_rules up_dup_address rule_number
lies_service port rows up payout row = record { holds = refl; told = ((tells_when rule_number _ rules.UpAddress), ((tells_map rule_number (λ h. rules.UpDupAddress h) _ (λ h. refl) _), ((tells_when rule_number _ rules.OperatorPayoutForm), ((tells_when rule_number _ rules.OperatorPayoutUnasked), ((tells_when rule_number _ rules.NoOperator), tt))))) }

lies_registrar : (rows : List MnRow) (up : UpReg) (payout : Pay) (row : MnRow) → Numbers 23 61 (registrar_rules rows up payout row)
unfolding registrar_rules up_dup_operator rule_number
lies_registrar rows up payout row = record { holds = refl; told = ((tells_when rule_number _ rules.UpMode), ((tells_when rule_number _ rules.UpNullKey), ((tells_when rule_number _ rules.UpPayoutForm), ((tells_when rule_number _ rules.UpPayoutKey), ((tells_map rule_number (λ h. rules.UpDupOperator h) _ (λ h. refl) _), ((tells_when rule_number _ rules.UpCollateralKey), tt)))))) }

lies_revoke : (p : Revocation) (row : MnRow) → Numbers 23 62 (revoke_rules p row)
unfolding revoke_rules rule_number
lies_revoke p row = record { holds = refl; told = ((tells_when rule_number _ rules.NoOperator), ((tells_when rule_number _ rules.RevokeReason), tt)) }

lies_row : (rules : MnRow → Numbered) → ((row : MnRow) → Numbers 23 75 (rules row)) → (o : Option MnRow) → Numbers 23 75 (row_rules rules o)
unfolding rule_number
lies_row rules each None = record { holds = refl; told = (refl, tt) }
lies_row rules each (Some row) = each row

lies_kind : (c : Case) (read : Provider) → Numbers 23 75 (kind_rules c read)
lies_kind c (Register p) = Lies-append rule_number 23 37 75 _ _ (lies_form c.facts.port p _) (Lies-append rule_number 37 42 75 _ _ (lies_collateral c.outs c.outputs p) (lies_scripted c.facts c.rows p _))
lies_kind c (Service up) = lies_row _ (λ row. Lies-append rule_number 23 55 75 _ _ (lies_service c.facts.port c.rows up _ row) (Lies_lower rule_number 55 62 75 _ (omega arith) (lies_verdict c.facts.verdict _ _))) _
lies_kind c (Registrar up) = lies_row _ (λ row. Lies-append rule_number 23 61 75 _ _ (lies_registrar c.rows up _ row) (Lies_lower rule_number 61 62 75 _ (omega arith) (lies_verdict c.facts.verdict _ _))) _
lies_kind c (Revoke p) = lies_row _ (λ row. Lies-append rule_number 23 62 75 _ _ (lies_revoke p row) (lies_verdict c.facts.verdict _ _)) _

lies_within : (c : Case) (o : Option Provider) → Numbers 22 75 (rules_within c o)
unfolding rule_number
lies_within c None = record { holds = refl; told = tt }
lies_within c (Some read) = let kind = lies_kind c read in record { holds = kind.holds; told = (tells_when rule_number _ rules.InputsHash, kind.told) }

lies_payload : (kind : ℕ) (payload : List ℕ) → Numbers 19 22 (payload_rules kind payload)
unfolding payload_rules rule_number
lies_payload kind payload = record { holds = refl; told = ((tells_when rule_number _ (rules.UnknownType kind)), ((tells_map rule_number (λ h. rules.PayloadVersion h) _ (λ h. refl) _), ((tells_map rule_number (λ h. rules.PayloadForm h) _ (λ h. refl) _), tt))) }

lies_all : (profile : Profile) (rows : List MnRow) (outputs : Outputs) (height : ℕ) (tx : Tx) (verdict : Option Verdict) → Numbers 19 75 (rules_of profile rows outputs height tx verdict)
lies_all profile rows outputs height tx verdict = Lies-append rule_number 19 22 75 _ _ (lies_payload tx.kind tx.payload) (lies_within (case_of profile rows outputs height tx verdict) (provider_of tx.kind tx.payload))

pub judge_tells_least : (profile : Profile) (rows : List MnRow) (outputs : Outputs) (height : ℕ) (tx : Tx) (verdict : Option Verdict) → TellsLeast rule_number (rules_of profile rows outputs height tx verdict) (judge_of profile rows outputs height tx verdict)
unfolding judge_of
judge_tells_least profile rows outputs height tx verdict = first_tells_least rule_number 19 75 _ (lies_all profile rows outputs height tx verdict)
