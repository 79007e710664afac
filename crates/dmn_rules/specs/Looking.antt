-- Words for the parts of the judge, which look things up in rows as they are stored.
use Rattle.std.specs.Prelude.{◌≡◌, ℕ, ◌≤◌, Bool, List, Option, Some, None, if◌then◌else◌}
use Rattle.dmn_bytes.specs.declared.hash.Hash256.{Hash256}
use Rattle.dmn_payloads.specs.declared.fault.PayloadFault.{PayloadFault}
use Rattle.dmn_payloads.specs.declared.fault.PayloadFault.TheVariants as payload_faults
use Rattle.dmn_rows.specs.declared.row.MnRow.{MnRow}
use Rattle.dmn_rows.specs.declared.rule.Rule.TheVariants.{PayloadVersion, PayloadForm}
use Rattle.dmn_rows.specs.Rows.{Outputs, plain_rows}
use Rattle.dmn_tx.specs.declared.tx.TxOut.{TxOut}
use Rattle.dmn_rules.specs.declared.effect.Effect.{Effect}
use Rattle.dmn_rules.specs.declared.facts.Facts.{Facts}
use Rattle.dmn_rules.specs.declared.fault.JudgeFault.{JudgeFault}
use Rattle.dmn_rules.specs.declared.fault.JudgeFault.TheVariants as faults
use Rattle.dmn_rules.specs.declared.provider.Provider.{Provider}
use Rattle.dmn_rules.specs.Change.{applied, list_after, told}
use Rattle.dmn_rules.specs.Provider.{Case}

-- the hash, unless the test holds of it
abbrev pub unless : (Hash256 → Bool) → Option Hash256 → Option Hash256
unless test None = None
unless test (Some hash) = if test hash then None else Some hash

-- the case over stored rows
abbrev pub case_at : Facts → List MnRow → Outputs → List TxOut → Case
case_at facts stored outputs outs = record { facts = facts; rows = plain_rows facts.height stored; outputs = outputs; outs = outs }

-- applied to the stored rows, the effect gives the list after the transaction
abbrev pub Gives : Case → List MnRow → Provider → Effect → Type 0
Gives c stored read effect = plain_rows c.facts.height (applied effect stored) ≡ list_after c.facts.height c.facts.id c.outs c.outputs c.rows read

-- and this is what is told of the transaction
abbrev pub IsTold : Case → Provider → Effect → Type 0
IsTold c read effect = told c.facts.height c.facts.id c.outs c.outputs c.rows read ≡ Some effect

-- the rule that a fault of a payload breaks
abbrev pub judge_fault : PayloadFault → JudgeFault
judge_fault payload_faults.Memory = faults.Memory
judge_fault (payload_faults.PayloadVersion found) = faults.Broken (PayloadVersion found)
judge_fault (payload_faults.PayloadForm at) = faults.Broken (PayloadForm at)

-- a fault's place, if it has one, is within so many bytes or at their end
abbrev pub IsPlacedBelow : ℕ → PayloadFault → Type 0
IsPlacedBelow end payload_faults.Memory = Unit {0}
IsPlacedBelow end (payload_faults.PayloadVersion found) = Unit {0}
IsPlacedBelow end (payload_faults.PayloadForm at) = at ≤ end
