use Rattle.std.proofs.Common.{refl, ◌∙◌}
use Rattle.dmn_branch.proofs.Moving.{renews_none, roots_sound}
use Rattle.dmn_branch.proofs.compaction.renew.Goals as goal

pub returns-then-not-is_overgrown : goal.returns-then-not-is_overgrown
returns-then-not-is_overgrown g c = renews_none g.K.Key.cmp c.args.arena.now c.args.tree c.args.versions.now _ refl c.in_ok-roots.ensures c.requires

pub compact-requires : goal.compact-requires
compact-requires g c = roots_sound g.K.Key.cmp c.args.arena.now.nodes.items c.args.tree c.args.versions.now c.as_slice.result.now (c.as_slice.ensures.value ∙ c.in_ok-roots.ensures) c.requires
