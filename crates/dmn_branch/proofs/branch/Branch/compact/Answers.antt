use Rattle.std.proofs.Common.{◌+◌, List, length, refl, sym, ap, ◌∙◌, subst, arith}
use Rattle.std.specs.List.{All}
use Rattle.dmn_indexes.specs.declared.version.Version.{Version}
use Rattle.dmn_branch.specs.Compact.{HasSoundTrees}
use Rattle.dmn_branch.specs.Pins.{Pinned}
use Rattle.dmn_quorums.specs.Duty.{undone}
use Rattle.dmn_branch.specs.Stands.{IsKept, Keeping, low_of, tip_kept}
use Rattle.dmn_branch.proofs.Leaving.{alike_none, alike_stands}
use Rattle.dmn_branch.proofs.Moving.{all_sound, compacted, none_more, version_count}
use Rattle.dmn_branch.proofs.branch.Branch.compact.Goals as goal

pub returns-then-not-is_due-clause-same : goal.returns-then-not-is_due-clause-same
returns-then-not-is_due-clause-same c = λ m stands. stands

pub returns-then-not-is_due-clause-alike : goal.returns-then-not-is_due-clause-alike
returns-then-not-is_due-clause-alike c = alike_none c.args.self.now

pub returns-then-not-is_due-clause-few : goal.returns-then-not-is_due-clause-few
returns-then-not-is_due-clause-few c = none_more c.args.self.now.indexes

pub new-requires : goal.new-requires
new-requires c =
    subst (λ (l : List Version). All (HasSoundTrees c.self.inside.indexes) l) (sym (c.as_slice.ensures.value ∙ c.in_ok-versions.ensures))
    (all_sound c.self.inside.indexes c.self.inside.held.held c.self.inside.pins c.self.invariant.1.versions c.self.invariant.2)

pub renew-requires : goal.renew-requires
renew-requires c = λ place lt.
    let vs = c.as_slice.ensures.value ∙ c.in_ok-versions.ensures in
    let count = version_count c.self.inside.held.held c.self.inside.pins in
    c.in_ok-made.ensures.there (c.len.result + place) (omega (arith, lt, count, ap length vs, c.len.ensures))

pub renew-requires-2 : goal.renew-requires-2
renew-requires-2 c = λ place lt.
    let vs = c.as_slice.ensures.value ∙ c.in_ok-versions.ensures in
    let count = version_count c.self.inside.held.held c.self.inside.pins in
    c.in_ok-made.ensures.there place (omega (arith, lt, count, ap length vs))

pub invariant_of-self : goal.invariant_of-self
invariant_of-self c =
    let all = compacted c.self.inside.indexes c.take_place.new.indexes (low_of c.self.inside.profile c.self.inside.first c.self.inside.top) c.in_ok-made.made c.self.inside.held.held c.renew-2.new.self.held c.self.inside.pins c.renew.new.self _ c.len.result (c.as_slice.ensures.value ∙ c.in_ok-versions.ensures) c.take_place.ensures c.len.ensures c.in_ok-made.ensures.made c.renew-2.ensures c.renew.ensures c.self.invariant.1 c.self.invariant.2 in
    (subst (IsKept c.self.inside.profile c.self.inside.first c.self.inside.top) (sym all.lists) c.self.invariant.0, all.sound, all.are_pinned)

pub returns-clause-alike : goal.returns-clause-alike
returns-clause-alike c =
    let all = compacted c.self.inside.indexes c.take_place.new.indexes (low_of c.self.inside.profile c.self.inside.first c.self.inside.top) c.in_ok-made.made c.self.inside.held.held c.renew-2.new.self.held c.self.inside.pins c.renew.new.self _ c.len.result (c.as_slice.ensures.value ∙ c.in_ok-versions.ensures) c.take_place.ensures c.len.ensures c.in_ok-made.ensures.made c.renew-2.ensures c.renew.ensures c.self.invariant.1 c.self.invariant.2 in
    record {
      profile = ap (λ (b : Keeping). b.profile) c.self.view_is;
      first = ap (λ (b : Keeping). b.first) c.self.view_is;
      lists = all.lists ∙ ap (λ (b : Keeping). b.lists) c.self.view_is;
      coinbases = all.coinbases ∙ ap (λ (b : Keeping). b.coinbases) c.self.view_is;
      mined = ap (λ (b : Keeping). undone (tip_kept c.args.self.now) b.mined) c.self.view_is;
      top = ap (λ (b : Keeping). b.top) c.self.view_is;
      pins = ap (λ (l : List Pinned). record { live = l; next = c.self.inside.next_pin }) all.pins ∙ ap (λ (b : Keeping). b.pins) c.self.view_is;
    }

pub returns-clause-same : goal.returns-clause-same
returns-clause-same c = λ m stands. alike_stands m (returns-clause-alike c) (subst (λ (b : Keeping). IsKept b.profile b.first b.top b.lists) c.self.view_is c.self.invariant.0) refl (invariant_of-self c).1 stands
