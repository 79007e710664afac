use Rattle.std.proofs.Common.{◌≡◌, ℕ, List, ap, sym, ◌∙◌}
use Rattle.std.specs.Option.{option_copied}
use Rattle.std.proofs.lemmas.Result.{err_from_is_err_and}
use Rattle.dmn_indexes.proofs.Counting.{leads_none}
use Rattle.dmn_payloads.specs.declared.commitment.Commitment.{Commitment}
use Rattle.dmn_quorums.specs.declared.case.QuorumCase.{QuorumCase}
use Rattle.dmn_quorums.specs.Forming.{Formed, case_of}
use Rattle.dmn_quorums.specs.Rules as quorums
use Rattle.dmn_branch.specs.Parts.{counted_at, rule_on, setting_with}
use Rattle.dmn_branch.proofs.Judging.{quorum_after, quorum_err, quorum_rule, read_is}
use Rattle.dmn_branch.proofs.commitments.judge_quorum.Goals as goal

pub returns-in_err-told-clause-rule : goal.returns-in_err-told-clause-rule
returns-in_err-told-clause-rule c =
    let p = err_from_is_err_and c.from_residual.result c.from_residual.ensures.1 in
    rw (p.1, p.2) (quorum_err (Unit {0}) _ _ _ _ _ c.requires.special (c.in_err-told.ensures.rule _ _ _ _ _))

pub returns-in_err-judge_commitment-clause-leads : goal.returns-in_err-judge_commitment-clause-leads
returns-in_err-judge_commitment-clause-leads c = leads_none _

pub returns-in_err-judge_commitment-clause-rule : goal.returns-in_err-judge_commitment-clause-rule
returns-in_err-judge_commitment-clause-rule c =
    let given = c.args.setting.now in
    let s = setting_with given c.args.list.now.outputs in
    let now = counted_at given.height c.args.list.now c.args.committed.now in
    let told = c.in_ok-told.told in
    let v = c.in_ok-told.commitment in
    let verdict = option_copied c.args.verdict in
    let read : ℕ × Commitment = (told, v) in
    let is = c.in_ok-told.ensures.read in
    let there = read_is c.args.tx.now read is.0 is.1 is.2 in
    let case : c.case_of-case.result ≡ case_of given.formed c.args.committed.now.kinds told v.kind =
    c.case_of-case.ensures ∙ ap (λ (f : List Formed). case_of f c.kinds.result.now told v.kind) c.formings.ensures ∙ ap (λ (k : List ℕ). case_of given.formed k told v.kind) c.kinds.ensures in
    let judged : rule_on s now c.args.tx.now verdict ≡ quorums.judge_of c.case_of-case.result c.height.result v verdict =
    quorum_rule s now c.args.tx.now verdict read c.requires.special (c.in_ok-told.ensures.rule _ _ _ _ _) there
    ∙ ap (λ (q : QuorumCase). quorums.judge_of q given.height v verdict) (sym case)
    ∙ ap (λ (h : ℕ). quorums.judge_of c.case_of-case.result h v verdict) (sym c.height.ensures) in
    let p = err_from_is_err_and c.from_residual-in_err-judge_commitment.result c.from_residual-in_err-judge_commitment.ensures.1 in
    rw (p.1, p.2) (judged ∙ sym c.in_err-judge_commitment.ensures.rule)

pub returns-in-Ok-clause-rule : goal.returns-in-Ok-clause-rule
returns-in-Ok-clause-rule c =
    let given = c.args.setting.now in
    let s = setting_with given c.args.list.now.outputs in
    let now = counted_at given.height c.args.list.now c.args.committed.now in
    let told = c.in_ok-told.told in
    let v = c.in_ok-told.commitment in
    let verdict = option_copied c.args.verdict in
    let read : ℕ × Commitment = (told, v) in
    let is = c.in_ok-told.ensures.read in
    let there = read_is c.args.tx.now read is.0 is.1 is.2 in
    let case : c.case_of-case.result ≡ case_of given.formed c.args.committed.now.kinds told v.kind =
    c.case_of-case.ensures ∙ ap (λ (f : List Formed). case_of f c.kinds.result.now told v.kind) c.formings.ensures ∙ ap (λ (k : List ℕ). case_of given.formed k told v.kind) c.kinds.ensures in
    let judged : rule_on s now c.args.tx.now verdict ≡ quorums.judge_of c.case_of-case.result c.height.result v verdict =
    quorum_rule s now c.args.tx.now verdict read c.requires.special (c.in_ok-told.ensures.rule _ _ _ _ _) there
    ∙ ap (λ (q : QuorumCase). quorums.judge_of q given.height v verdict) (sym case)
    ∙ ap (λ (h : ℕ). quorums.judge_of c.case_of-case.result h v verdict) (sym c.height.ensures) in
    judged ∙ sym c.in_ok-judge_commitment.ensures.rule

pub returns-in-Ok-clause-after : goal.returns-in-Ok-clause-after
returns-in-Ok-clause-after c =
    let read : ℕ × Commitment = (c.in_ok-told.told, c.in_ok-told.commitment) in
    let is = c.in_ok-told.ensures.read in
    quorum_after c.args.setting.now c.args.list.now c.args.committed.now c.args.tx.now c.accept.new.list c.accept.new.committed read c.requires.special c.requires.other (read_is c.args.tx.now read is.0 is.1 is.2) c.in_ok-told.ensures.none c.in-Ok.ensures.rows c.in-Ok.ensures.added c.in-Ok.ensures.outputs c.in-Ok.ensures.working
