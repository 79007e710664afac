-- The rules on a verdict stand beside their numbers.
use Rattle.std.proofs.Common.{◌≡◌, ℕ, refl}
use Rattle.std.specs.declared.option.Option.{Option}
use Rattle.std.specs.declared.option.Option.TheVariants.{None, Some}
use Rattle.dmn_bytes.specs.declared.hash.Hash256.{Hash256}
use Rattle.dmn_rows.specs.declared.rule.Rule.TheVariants.{VerdictMissing, VerdictOther, VerdictNo}
use Rattle.dmn_rows.specs.declared.verdict.Verdict.{Verdict}
use Rattle.dmn_rows.specs.Rule.{rule_number}
use Rattle.dmn_rows.specs.Signed.{verdict_missing, verdict_other, verdict_no, verdict_rules}
use Rattle.dmn_rows.proofs.Order.{Lies, Tells, tells_when}

tells_missing : (o : Option Verdict) → Tells rule_number 73 (verdict_missing o)
unfolding verdict_missing rule_number
tells_missing o = tells_when rule_number _ VerdictMissing

tells_other : (o : Option Verdict) (kind : ℕ) (digest : Hash256) → Tells rule_number 74 (verdict_other o kind digest)
unfolding verdict_other rule_number
tells_other None kind digest = tt
tells_other (Some v) kind digest = tells_when rule_number _ (VerdictOther digest)

tells_no : (o : Option Verdict) → Tells rule_number 75 (verdict_no o)
unfolding verdict_no rule_number
tells_no None = tt
tells_no (Some v) = tells_when rule_number _ VerdictNo

pub lies_verdict : (verdict : Option Verdict) (kind : ℕ) (digest : Hash256) → Lies rule_number 62 75 (verdict_rules verdict kind digest)
unfolding verdict_rules
lies_verdict verdict kind digest = record { holds = refl; told = (tells_missing verdict, (tells_other verdict kind digest, (tells_no verdict, tt))) }
