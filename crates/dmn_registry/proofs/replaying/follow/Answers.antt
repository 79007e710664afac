use Rattle.dmn_registry.proofs.replaying.follow.Goals as goal

pub returns-in-Ok : goal.returns-in-Ok
returns-in-Ok c = λ s stands.
    let next = c.in-Ok.ensures.next s stands in
    rw c.in-Connect.is (next.accepted, c.commit.ensures s _ (c.prepare.ensures.same s stands) next)
