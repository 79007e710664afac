use Rattle.std.proofs.Common.{ap, ◌∙◌, refl}
use Rattle.dmn_quorums.specs.Duty.{all_active}
use Rattle.dmn_rows.specs.declared.profile.Profile.{Profile}
use Rattle.dmn_branch.specs.Stands.{Keeping, kept_in}
use Rattle.dmn_branch.proofs.Asking.{if_ok, tells_quorums}
use Rattle.dmn_branch.proofs.branch.Branch.quorums_at.Goals as goal

pub returns : goal.returns
returns c = λ m stands.
    let b = c.args.self.now in
    let held = c.held_at-held.result.now in
    if_ok c.all_active.result (λ quorums is.
    tells_quorums b m c.args.height (kept_in b.indexes c.args.height held) quorums.items stands c.requires refl (c.held_at-held.ensures.stands m stands)
    (is ∙ ap (λ (k : Keeping). all_active k.mined k.profile.quorums c.args.height) c.self.view_is ∙ ap (λ (p : Profile). all_active b.mined p.quorums c.args.height) stands.profile)) c.all_active.ensures
