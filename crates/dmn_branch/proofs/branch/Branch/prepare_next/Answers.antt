use Rattle.std.proofs.Common.{◌≡◌, ℕ, ◌-◌, ◌+◌, List, length, map, Option, Some, refl, sym, ap, ◌∙◌, subst, arith}
use Rattle.std.specs.Prelude.{slice_get}
use Rattle.std.specs.List.{All}
use Rattle.std.proofs.lemmas.Result.{err_from_is_err_and}
use Rattle.dmn_block.specs.Shape.{broken_rule}
use Rattle.dmn_indexes.specs.Version as versions
use Rattle.dmn_quorums.specs.Duty.{undone}
use Rattle.dmn_rows.specs.declared.profile.Profile.{Profile}
use Rattle.dmn_held.specs.declared.coinbase.CoinbasePart.{CoinbasePart}
use Rattle.dmn_branch.specs.declared.held.Held.{Held}
use Rattle.dmn_branch.specs.Drawn.{IsDrawnFor, drawn_by}
use Rattle.dmn_branch.specs.Machine as machine
use Rattle.dmn_branch.specs.Machine.{MachineState, tip}
use Rattle.dmn_branch.specs.Parts.{Given, IsSettled, all_formed_in}
use Rattle.dmn_branch.specs.Stands.{Keeping, IsKept, IsNext, IsPinned, IsWhole, AreSound, Kept, StandsFor, kept_at, kept_in, lists_in, low_kept, low_of, tip_kept}
use Rattle.dmn_branch.specs.Step.{events_from}
use Rattle.dmn_branch.proofs.Active.{settled_to}
use Rattle.dmn_branch.proofs.Connecting.{tells_step, next_is}
use Rattle.dmn_branch.proofs.Drawing.{all_formed_are}
use Rattle.dmn_branch.proofs.Unasked.{follows_drawn, tells_drawn}
use Rattle.dmn_branch.proofs.Holding.{held_kept, keeps_on, lists_length, ok_from}
use Rattle.dmn_branch.proofs.Leaving.{left_stands}
use Rattle.dmn_branch.proofs.Mining.{settled_at, undone_mined}
use Rattle.dmn_branch.proofs.Pinning.{pins_grow, pins_read, pins_same}
use Rattle.dmn_branch.proofs.Standing.{tip_gives, tip_stands}
use Rattle.dmn_branch.proofs.Stepping.{shape_refuses, tells_shape}
use Rattle.dmn_branch.proofs.branch.Branch.prepare_next.Goals as goal

pub returns-in_err-coinbase-clause-refused : goal.returns-in_err-coinbase-clause-refused
returns-in_err-coinbase-clause-refused c = λ m stands fresh.
    let ix = c.self.inside.indexes in
    let last = c.front-front.result in
    let before = subst (λ (b : Keeping). StandsFor b m) (sym c.self.view_is) stands in
    let at = tip_stands _ m (kept_at ix last) before (subst (λ (b : Keeping). slice_get b.lists (length b.lists - 1) ≡ Some (kept_at b.indexes last)) (sym c.self.view_is) c.front-front.ensures.list) in
    let block = c.args.block.now in
    let tip = kept_at ix last in
    let p = err_from_is_err_and c.from_residual.result c.from_residual.ensures.1 in
    rw (p.1, p.2) (tells_step m block (machine.profile m) (machine.formed m) _ refl refl fresh
    (tells_shape (broken_rule block tip.hash tip.height) _ _ c.in_err-coinbase.ensures.rule (λ refusal broken. shape_refuses (machine.profile m) (machine.formed m) tip (machine.tip m) block at (tip.height + 1) refl refusal broken)))

pub advance-requires-clause-version : goal.advance-requires-clause-version
advance-requires-clause-version c = subst (λ (b : Keeping). versions.IsWhole b.indexes c.front-front.result.version) (sym c.self.view_is) c.front-front.ensures.version

pub advance-requires-clause-whole : goal.advance-requires-clause-whole
advance-requires-clause-whole c = subst (λ (b : Keeping). IsWhole (kept_at b.indexes c.front-front.result)) (sym c.self.view_is) c.front-front.ensures.whole

pub invariant_of-self-in-Ok : goal.invariant_of-self-in-Ok
invariant_of-self-in-Ok c =
    let inside = c.self.inside in
    let iy = c.advance.new.indexes in
    let low = low_of inside.profile inside.first inside.top in
    let on = keeps_on low inside.held.held c.in-Ok.ensures.kept c.self.invariant.1 in
    let pins = pins_grow inside.indexes iy inside.pins c.in-Ok.ensures.grown c.self.invariant.2 in
    subst (λ (l : List Held). IsKept inside.profile inside.first inside.top (lists_in iy low l) × AreSound iy low l × All (IsPinned iy) inside.pins) (sym c.reserve.ensures.held)
    (subst (IsKept inside.profile inside.first inside.top) (sym on.same) c.self.invariant.0, on.sound, pins.sound)

pub invariant_of-self-2 : goal.invariant_of-self-2
invariant_of-self-2 c =
    let inside = c.self.inside in
    let iy = c.advance.new.indexes in
    let low = low_of inside.profile inside.first inside.top in
    let on = keeps_on low inside.held.held c.in-Err.ensures.kept c.self.invariant.1 in
    let pins = pins_same inside.indexes iy inside.pins c.in-Err.ensures.same c.self.invariant.2 in
    subst (λ (l : List Held). IsKept inside.profile inside.first inside.top (lists_in iy low l) × AreSound iy low l × All (IsPinned iy) inside.pins) (sym c.reserve.ensures.held)
    (subst (IsKept inside.profile inside.first inside.top) (sym on.same) c.self.invariant.0, on.sound, pins.sound)

pub returns-in-Ok-clause-left : goal.returns-in-Ok-clause-left
returns-in-Ok-clause-left c =
    let inside = c.self.inside in
    let ix = inside.indexes in
    let iy = c.advance.new.indexes in
    let held = inside.held.held in
    let last = c.front-front.result in
    let low = low_of inside.profile inside.first inside.top in
    let count = length (lists_in ix low held) in
    let height = c.front-front.ensures.height ∙ ap (λ (b : Keeping). low_kept b + length b.lists) (sym c.self.view_is) in
    let settled = settled_at low count last.height inside.mined height (subst IsSettled (sym c.self.view_is) c.requires.settled) in
    let tip : last.height ≡ low + count - 1 = omega (arith, height) in
    let same = undone_mined last.height (last.height + 1) inside.mined c.advance.new.mined (omega arith) c.in-Ok.ensures.mined settled in
    record {
      profile = ap (λ (b : Keeping). b.profile) c.self.view_is;
      first = ap (λ (b : Keeping). b.first) c.self.view_is;
      held = c.reserve.ensures.held ∙ ap (λ (b : Keeping). b.held) c.self.view_is;
      lists = ap (lists_in iy low) c.reserve.ensures.held ∙ (keeps_on low held c.in-Ok.ensures.kept c.self.invariant.1).same ∙ ap (λ (b : Keeping). b.lists) c.self.view_is;
      coinbases = ap (map (λ (h : Held). h.coinbase)) c.reserve.ensures.held ∙ ap (λ (b : Keeping). b.coinbases) c.self.view_is;
      mined = subst (λ (b : Keeping). undone (tip_kept b) c.advance.new.mined ≡ undone (tip_kept b) b.mined) c.self.view_is (subst (λ (n : ℕ). undone n c.advance.new.mined ≡ undone n inside.mined) tip same);
      top = ap (λ (b : Keeping). b.top) c.self.view_is;
      pinned = ap (λ (b : Keeping). b.pinned) c.self.view_is;
      pins = pins_read inside.next_pin (pins_grow ix iy inside.pins c.in-Ok.ensures.grown c.self.invariant.2) ∙ ap (λ (b : Keeping). b.pins) c.self.view_is;
    }

pub returns-clause-left : goal.returns-clause-left
returns-clause-left c =
    let inside = c.self.inside in
    let ix = inside.indexes in
    let iy = c.advance.new.indexes in
    let held = inside.held.held in
    let low = low_of inside.profile inside.first inside.top in
    record {
      profile = ap (λ (b : Keeping). b.profile) c.self.view_is;
      first = ap (λ (b : Keeping). b.first) c.self.view_is;
      held = c.reserve.ensures.held ∙ ap (λ (b : Keeping). b.held) c.self.view_is;
      lists = ap (lists_in iy low) c.reserve.ensures.held ∙ (keeps_on low held c.in-Err.ensures.kept c.self.invariant.1).same ∙ ap (λ (b : Keeping). b.lists) c.self.view_is;
      coinbases = ap (map (λ (h : Held). h.coinbase)) c.reserve.ensures.held ∙ ap (λ (b : Keeping). b.coinbases) c.self.view_is;
      mined = ap (undone (tip_kept c.args.self.now)) (c.in-Err.ensures.same_mined ∙ ap (λ (b : Keeping). b.mined) c.self.view_is);
      top = ap (λ (b : Keeping). b.top) c.self.view_is;
      pinned = ap (λ (b : Keeping). b.pinned) c.self.view_is;
      pins = pins_read inside.next_pin (pins_same ix iy inside.pins c.in-Err.ensures.same c.self.invariant.2) ∙ ap (λ (b : Keeping). b.pins) c.self.view_is;
    }

pub returns-in-Ok-clause-same : goal.returns-in-Ok-clause-same
returns-in-Ok-clause-same c = λ m stands. left_stands m (returns-in-Ok-clause-left c) (subst (λ (b : Keeping). IsKept b.profile b.first b.top b.lists) c.self.view_is c.self.invariant.0) refl (invariant_of-self-in-Ok c).1 stands

pub returns-clause-same : goal.returns-clause-same
returns-clause-same c = λ m stands. left_stands m (returns-clause-left c) (subst (λ (b : Keeping). IsKept b.profile b.first b.top b.lists) c.self.view_is c.self.invariant.0) refl (invariant_of-self-2 c).1 stands

pub returns-clause-refused : goal.returns-clause-refused
returns-clause-refused c = λ m stands fresh.
    let ix = c.self.inside.indexes in
    let last = c.front-front.result in
    let before = subst (λ (b : Keeping). StandsFor b m) (sym c.self.view_is) stands in
    let at = tip_stands _ m (kept_at ix last) before (subst (λ (b : Keeping). slice_get b.lists (length b.lists - 1) ≡ Some (kept_at b.indexes last)) (sym c.self.view_is) c.front-front.ensures.list) in
    let height = c.front-front.ensures.height ∙ ap (λ (b : Keeping). low_kept b + length b.lists) (sym c.self.view_is) in
    let settled = settled_at (low_of c.self.inside.profile c.self.inside.first c.self.inside.top) (length (lists_in ix (low_of c.self.inside.profile c.self.inside.first c.self.inside.top) c.self.inside.held.held)) last.height c.self.inside.mined height (subst IsSettled (sym c.self.view_is) c.requires.settled) in
    let some = c.in_ok-formings.ensures in
    let given : IsDrawnFor c.args.block.now.txs (machine.formed m) c.new-setting.result.formed = record {
      drawn = some.drawn;
      asked = some.asked;
      is =
          ap (λ (g : Given). g.formed) c.new-setting.ensures ∙ c.deref.ensures.value ∙ some.is ∙ ap (map (drawn_by some.drawn)) (ap (λ (b : Keeping). all_formed_in b c.in_ok-coinbase.coinbase.height b.profile.quorums) (sym c.self.view_is)
          ∙ all_formed_are _ m c.in_ok-coinbase.coinbase.height before c.self.invariant.0 (c.in_ok-coinbase.ensures.height ∙ height) (ap (λ (n : ℕ). undone n c.self.inside.mined) (sym at.height) ∙ settled) (c.in_ok-coinbase.ensures.height ∙ ap (λ (n : ℕ). n + 1) at.height));
    } in
    let profile : c.new-setting.result.profile ≡ machine.profile m = ap (λ (g : Given). g.profile) c.new-setting.ensures ∙ before.profile in
    tells_step m c.args.block.now c.new-setting.result.profile (machine.formed m) _ profile refl fresh
    (tells_drawn c.new-setting.result.profile (machine.formed m) c.new-setting.result.formed (tip m) c.args.block.now given _ (c.in-Err.ensures.refused (tip m) at))

-- the height of what was prepared, and how it reads
height : (c : goal.After-drop-formings-in-Ok) → c.in-Ok.stepped.next.height ≡ low_of c.self.inside.profile c.self.inside.first c.self.inside.top + length (lists_in c.advance.new.indexes (low_of c.self.inside.profile c.self.inside.first c.self.inside.top) c.reserve.new.self.held)
height c =
    let low = low_of c.self.inside.profile c.self.inside.first c.self.inside.top in
    c.in-Ok.ensures.height ∙ c.front-front.ensures.height ∙ ap (λ (b : Keeping). low_kept b + length b.lists) (sym c.self.view_is)
    ∙ ap (λ (n : ℕ). low + n) (lists_length c.self.inside.indexes low c.self.inside.held.held ∙ sym (ap length c.reserve.ensures.held) ∙ sym (lists_length c.advance.new.indexes low c.reserve.new.self.held))

made : (c : goal.After-drop-formings-in-Ok) → kept_at c.advance.new.indexes c.in-Ok.stepped.next ≡ kept_in c.advance.new.indexes (low_of c.self.inside.profile c.self.inside.first c.self.inside.top + length (lists_in c.advance.new.indexes (low_of c.self.inside.profile c.self.inside.first c.self.inside.top) c.reserve.new.self.held)) c.with_coinbase.result
made c = held_kept c.advance.new.indexes c.in-Ok.stepped.next c.in_ok-part.part _ c.with_coinbase.result c.with_coinbase.ensures (height c)

pub returns-in-Ok-clause-next : goal.returns-in-Ok-clause-next
returns-in-Ok-clause-next c = λ m stands fresh.
    let ix = c.self.inside.indexes in
    let mined = c.self.inside.mined in
    let last = c.front-front.result in
    let before = subst (λ (b : Keeping). StandsFor b m) (sym c.self.view_is) stands in
    let at = tip_stands _ m (kept_at ix last) before (subst (λ (b : Keeping). slice_get b.lists (length b.lists - 1) ≡ Some (kept_at b.indexes last)) (sym c.self.view_is) c.front-front.ensures.list) in
    let height = c.front-front.ensures.height ∙ ap (λ (b : Keeping). low_kept b + length b.lists) (sym c.self.view_is) in
    let settled = settled_at (low_of c.self.inside.profile c.self.inside.first c.self.inside.top) (length (lists_in ix (low_of c.self.inside.profile c.self.inside.first c.self.inside.top) c.self.inside.held.held)) last.height mined height (subst IsSettled (sym c.self.view_is) c.requires.settled) in
    let rests = ap (λ (n : ℕ). undone n mined) (sym at.height) ∙ settled in
    let some = c.in_ok-formings.ensures in
    let given : IsDrawnFor c.args.block.now.txs (machine.formed m) c.new-setting.result.formed = record {
      drawn = some.drawn;
      asked = some.asked;
      is =
          ap (λ (g : Given). g.formed) c.new-setting.ensures ∙ c.deref.ensures.value ∙ some.is ∙ ap (map (drawn_by some.drawn)) (ap (λ (b : Keeping). all_formed_in b c.in_ok-coinbase.coinbase.height b.profile.quorums) (sym c.self.view_is)
          ∙ all_formed_are _ m c.in_ok-coinbase.coinbase.height before c.self.invariant.0 (c.in_ok-coinbase.ensures.height ∙ height) rests (c.in_ok-coinbase.ensures.height ∙ ap (λ (n : ℕ). n + 1) at.height));
    } in
    let profile : c.new-setting.result.profile ≡ machine.profile m = ap (λ (g : Given). g.profile) c.new-setting.ensures ∙ before.profile in
    let next = next_is m c.args.block.now c.new-setting.result.profile (machine.formed m) c.in-Ok.stepped.events (kept_at c.advance.new.indexes c.in-Ok.stepped.next) c.in_ok-part.part mined c.advance.new.mined profile refl fresh
    (follows_drawn c.new-setting.result.profile (machine.formed m) c.new-setting.result.formed (tip m) c.args.block.now given _ _ _ _ (c.in-Ok.ensures.next (tip m) at)) c.in_ok-part.ensures
    (settled_to (tip m).height mined rests) (tip_gives _ m c.self.invariant.0 before) in
    subst (λ (k : Kept). IsNext (record { kept = k; coinbase = c.with_coinbase.result.coinbase; mined = c.advance.new.mined }) m c.args.block.now) (made c)
    (subst (λ (o : Option CoinbasePart). IsNext (record { kept = kept_at c.advance.new.indexes c.in-Ok.stepped.next; coinbase = o; mined = c.advance.new.mined }) m c.args.block.now) (ap (λ (h : Held). h.coinbase) (sym c.with_coinbase.ensures)) next)

pub returns-in-Ok-clause-events : goal.returns-in-Ok-clause-events
returns-in-Ok-clause-events c = λ m stands.
    let ix = c.self.inside.indexes in
    let last = c.front-front.result in
    let before = subst (λ (b : Keeping). StandsFor b m) (sym c.self.view_is) stands in
    let at = tip_stands _ m (kept_at ix last) before (subst (λ (b : Keeping). slice_get b.lists (length b.lists - 1) ≡ Some (kept_at b.indexes last)) (sym c.self.view_is) c.front-front.ensures.list) in
    let height = c.front-front.ensures.height ∙ ap (λ (b : Keeping). low_kept b + length b.lists) (sym c.self.view_is) in
    let settled = settled_at (low_of c.self.inside.profile c.self.inside.first c.self.inside.top) (length (lists_in ix (low_of c.self.inside.profile c.self.inside.first c.self.inside.top) c.self.inside.held.held)) last.height c.self.inside.mined height (subst IsSettled (sym c.self.view_is) c.requires.settled) in
    let some = c.in_ok-formings.ensures in
    let given : IsDrawnFor c.args.block.now.txs (machine.formed m) c.new-setting.result.formed = record {
      drawn = some.drawn;
      asked = some.asked;
      is =
          ap (λ (g : Given). g.formed) c.new-setting.ensures ∙ c.deref.ensures.value ∙ some.is ∙ ap (map (drawn_by some.drawn)) (ap (λ (b : Keeping). all_formed_in b c.in_ok-coinbase.coinbase.height b.profile.quorums) (sym c.self.view_is)
          ∙ all_formed_are _ m c.in_ok-coinbase.coinbase.height before c.self.invariant.0 (c.in_ok-coinbase.ensures.height ∙ height) (ap (λ (n : ℕ). undone n c.self.inside.mined) (sym at.height) ∙ settled) (c.in_ok-coinbase.ensures.height ∙ ap (λ (n : ℕ). n + 1) at.height));
    } in
    let profile : c.new-setting.result.profile ≡ machine.profile m = ap (λ (g : Given). g.profile) c.new-setting.ensures ∙ before.profile in
    (follows_drawn c.new-setting.result.profile (machine.formed m) c.new-setting.result.formed (tip m) c.args.block.now given _ _ _ _ (c.in-Ok.ensures.next (tip m) at)).counted
    ∙ ap (λ (p : Profile). events_from p (machine.formed m) (tip m) c.args.block.now) profile

pub returns-in-Ok-clause-ready : goal.returns-in-Ok-clause-ready
returns-in-Ok-clause-ready c = record {
  height = omega (arith, height c, c.in_ok-coinbase.ensures.height, c.in-Ok.ensures.height);
  room = ok_from c.reserve.result (sym c.is_err.ensures.value ∙ c.if-is_err.false) c.reserve.ensures.room;
  version = subst (λ (h : Held). versions.IsWhole c.advance.new.indexes h.version) (sym c.with_coinbase.ensures) c.in-Ok.ensures.version;
  marks = ap (λ (h : Held). h.marks) c.with_coinbase.ensures ∙ c.in-Ok.ensures.marks;
  whole = subst IsWhole (made c) c.in-Ok.ensures.whole;
}
