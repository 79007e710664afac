-- The rules on a verdict that is needed.
use Rattle.std.specs.Prelude.{ℕ, ◌==◌, not, ◌&&◌, [], ◌∷◌, Option, is_none}
use Rattle.std.specs.Option.{option_and_then}
use Rattle.dmn_bytes.specs.declared.hash.Hash256.{Hash256}
use Rattle.dmn_rows.specs.declared.rule.Rule.{Rule}
use Rattle.dmn_rows.specs.declared.rule.Rule.TheVariants.{VerdictMissing, VerdictOther, VerdictNo}
use Rattle.dmn_rows.specs.declared.verdict.Verdict.{Verdict}
use Rattle.dmn_rows.specs.Rows.{same_hash}
use Rattle.dmn_rows.specs.Table.{Table, when}

unfoldable pub verdict_missing : Option Verdict → Option Rule
verdict_missing verdict = when (is_none verdict) VerdictMissing

unfoldable pub verdict_other : Option Verdict → ℕ → Hash256 → Option Rule
verdict_other verdict kind digest =
    option_and_then (λ v. when (not (v.kind == kind && same_hash v.key digest)) (VerdictOther digest)) verdict

unfoldable pub verdict_no : Option Verdict → Option Rule
verdict_no verdict = option_and_then (λ v. when (v.valid == 0) VerdictNo) verdict

-- a verdict that is needed: its kind, and the digest of the key that it is to be on
unfoldable pub verdict_rules : Option Verdict → ℕ → Hash256 → Table Rule
verdict_rules verdict kind digest =
    (73, verdict_missing verdict)
    ∷ (74, verdict_other verdict kind digest)
    ∷ (75, verdict_no verdict)
    ∷ []
