-- The rules that a provider transaction keeps, and what it does to the list of masternodes (DIP-0003). A reader begins
-- here; the parts are:
--   Payload   the payload by the format of its type, and the rules on that
--   Provider  the rules on a payload that was read, by tables
--   Change    what the transactions do to rows and to the list
--   Table     what a table of rules is, and a rule on the keys of rows
-- Rows are the list as the transaction finds it, with the penalties of its block's height; outputs are those after the
-- block before. A commitment's own rules (type 6) aren't here.
use Rattle.std.specs.Prelude.{◌≡◌, ℕ, List, [], ◌++◌, Option, Some, None, Result, Ok, Err}
use Rattle.std.specs.Option.{option_and_then}
use Rattle.dmn_rows.specs.declared.profile.Profile.{Profile}
use Rattle.dmn_rows.specs.declared.row.MnRow.{MnRow}
use Rattle.dmn_rows.specs.declared.rule.Rule.{Rule}
use Rattle.dmn_rows.specs.declared.verdict.Verdict.{Verdict}
use Rattle.dmn_rows.specs.Rows.{Outputs}
use Rattle.dmn_tx.specs.declared.tx.Tx.{Tx}
use Rattle.dmn_tx.specs.Defs.{id_of, inputs_hash_of}
use Rattle.dmn_rules.specs.declared.effect.Effect.{Effect}
use Rattle.dmn_rules.specs.declared.facts.Facts.{Facts}
use Rattle.dmn_rules.specs.declared.fault.JudgeFault.{JudgeFault}
use Rattle.dmn_rules.specs.declared.fault.JudgeFault.TheVariants as faults
use Rattle.dmn_rules.specs.declared.provider.Provider.{Provider}
use Rattle.dmn_rules.specs.Table.{Numbered, first_of}
use Rattle.dmn_rules.specs.Payload.{payload_rules, provider_of}
use Rattle.dmn_rules.specs.Provider.{Case, read_rules}
use Rattle.dmn_rules.specs.Change.{list_after, told}

abbrev pub facts_of : Profile → ℕ → Tx → Option Verdict → Facts
facts_of profile height tx verdict = record { port = profile.port; height = height; id = id_of tx; inputs = inputs_hash_of tx; verdict = verdict }

abbrev pub case_of : Profile → List MnRow → Outputs → ℕ → Tx → Option Verdict → Case
case_of profile rows outputs height tx verdict = record { facts = facts_of profile height tx verdict; rows = rows; outputs = outputs; outs = tx.outputs }

-- the rules on the payload, where it is one
abbrev pub rules_within : Case → Option Provider → Numbered
rules_within c None = []
rules_within c (Some read) = read_rules c read

-- all rules on a special transaction, in the order of their numbers
abbrev pub rules_of : Profile → List MnRow → Outputs → ℕ → Tx → Option Verdict → Numbered
rules_of profile rows outputs height tx verdict =
    payload_rules tx.kind tx.payload
    ++ rules_within (case_of profile rows outputs height tx verdict) (provider_of tx.kind tx.payload)

-- The judgement of a special transaction: the first broken rule, or none.
unfoldable pub judge_of : Profile → List MnRow → Outputs → ℕ → Tx → Option Verdict → Option Rule
judge_of profile rows outputs height tx verdict = first_of (rules_of profile rows outputs height tx verdict)

-- the same of a transaction whose payload is this one
unfoldable pub judge_read_of : Profile → List MnRow → Outputs → ℕ → Tx → Provider → Option Verdict → Option Rule
judge_read_of profile rows outputs height tx read verdict = first_of (read_rules (case_of profile rows outputs height tx verdict) read)

-- the list after a transaction whose payload is this one
unfoldable pub effect_read_of : List MnRow → Outputs → Tx → ℕ → Provider → List MnRow
effect_read_of rows outputs tx height read = list_after height (id_of tx) tx.outputs outputs rows read

abbrev pub effect_by : List MnRow → Outputs → Tx → ℕ → Option Provider → List MnRow
effect_by rows outputs tx height None = rows
effect_by rows outputs tx height (Some read) = effect_read_of rows outputs tx height read

-- The list after an accepted transaction. Only provider transactions change it.
unfoldable pub effect_of : List MnRow → Outputs → Tx → ℕ → List MnRow
effect_of rows outputs tx height = effect_by rows outputs tx height (provider_of tx.kind tx.payload)

-- what is told of an accepted transaction whose payload is this one
abbrev pub told_read_of : List MnRow → Outputs → Tx → ℕ → Provider → Option Effect
told_read_of rows outputs tx height read = told height (id_of tx) tx.outputs outputs rows read

-- what is told of an accepted provider transaction
abbrev pub told_of : List MnRow → Outputs → Tx → ℕ → Option Effect
told_of rows outputs tx height = option_and_then (told_read_of rows outputs tx height) (provider_of tx.kind tx.payload)

-- A judge refuses exactly with the rule that is broken, unless memory runs out.
abbrev pub Judges : {V : Type 0} → Option Rule → Result V JudgeFault → Type 0
Judges broken (Ok v) = broken ≡ None
Judges broken (Err faults.Memory) = Unit {0}
Judges broken (Err (faults.Broken rule)) = broken ≡ Some rule
