use Rattle.std.proofs.Common.{◌≡◌, ◌∙◌, List, true, ap, sym}
use Rattle.std.specs.Prelude.{is_some, not}
use Rattle.std.specs.Option.{option_map}
use Rattle.dmn_block.specs.State.{State}
use Rattle.dmn_bytes.specs.declared.hash.Hash256.{Hash256}
use Rattle.dmn_branch.specs.Asked.{members_in}
use Rattle.dmn_branch.specs.Machine as machine
use Rattle.dmn_quorums.specs.Duty.{params_of}
use Rattle.dmn_rows.specs.declared.profile.Profile.{Profile}
use Rattle.dmn_desk.specs.declared.answer.Answer.TheVariants.{Grown}
use Rattle.dmn_desk.specs.declared.answer.GrownAnswer.TheVariants as grown
use Rattle.dmn_desk.specs.Ask.{members_or_none}
use Rattle.dmn_desk.proofs.Asking.{typed}
use Rattle.dmn_desk.proofs.Heights.{told_by, told_none}
use Rattle.dmn_desk.proofs.members.members_at.Goals as goal

pub returns-then-not-is_held-clause-answer : goal.returns-then-not-is_held-clause-answer
returns-then-not-is_held-clause-answer c = λ m stands.
    let kind = c.args.kind in
    let height = c.args.height in
    let same : params_of c.profile.result.now.quorums kind ≡ params_of (machine.profile m).quorums kind = ap (λ (p : Profile). params_of p.quorums kind) (c.profile.ensures m stands) in
    let some : is_some (params_of (machine.profile m).quorums kind) ≡ true = ap (λ o. is_some o) (sym same) ∙ ap (λ o. is_some o) (sym c.params_of.ensures) ∙ c.is_none.ensures ∙ ap (λ b. not b) c.if-is_none.false in
    let there = typed m kind height (params_of (machine.profile m).quorums kind) some in
    c.not_held.ensures ∙ told_none m c.tip-tip.result height (λ (s : State). members_or_none (members_in m kind s)) (c.tip-tip.ensures.tip m stands) c.if-not-is_held.ensures ∙ there

pub returns-in-None-clause-answer : goal.returns-in-None-clause-answer
returns-in-None-clause-answer c = λ m stands.
    let kind = c.args.kind in
    let height = c.args.height in
    let same : params_of c.profile.result.now.quorums kind ≡ params_of (machine.profile m).quorums kind = ap (λ (p : Profile). params_of p.quorums kind) (c.profile.ensures m stands) in
    let some : is_some (params_of (machine.profile m).quorums kind) ≡ true = ap (λ o. is_some o) (sym same) ∙ ap (λ o. is_some o) (sym c.params_of.ensures) ∙ c.is_none.ensures ∙ ap (λ b. not b) c.if-is_none.false in
    let there = typed m kind height (params_of (machine.profile m).quorums kind) some in
    ap (λ o. members_or_none (option_map (λ hashes. hashes.items) o)) (sym c.in-None.is)
    ∙ told_by m c.tip-tip.result height (members_in m kind) members_or_none _ (c.tip-tip.ensures.tip m stands) c.if-not-is_held.ensures (c.in_ok-members_at.ensures.members m stands) ∙ there

pub returns-in-Some-clause-answer : goal.returns-in-Some-clause-answer
returns-in-Some-clause-answer c = λ m stands.
    let kind = c.args.kind in
    let height = c.args.height in
    let same : params_of c.profile.result.now.quorums kind ≡ params_of (machine.profile m).quorums kind = ap (λ (p : Profile). params_of p.quorums kind) (c.profile.ensures m stands) in
    let some : is_some (params_of (machine.profile m).quorums kind) ≡ true = ap (λ o. is_some o) (sym same) ∙ ap (λ o. is_some o) (sym c.params_of.ensures) ∙ c.is_none.ensures ∙ ap (λ b. not b) c.if-is_none.false in
    let there = typed m kind height (params_of (machine.profile m).quorums kind) some in
    ap (λ (hashes : List Hash256). Grown (grown.Members hashes)) c.from_vec.ensures
    ∙ ap (λ o. members_or_none (option_map (λ hashes. hashes.items) o)) (sym c.in-Some.is)
    ∙ told_by m c.tip-tip.result height (members_in m kind) members_or_none _ (c.tip-tip.ensures.tip m stands) c.if-not-is_held.ensures (c.in_ok-members_at.ensures.members m stands) ∙ there
