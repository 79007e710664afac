use Rattle.std.proofs.Common.{◌≡◌, ℕ, ◌-◌, ◌≤◌, ◌<◌, true, length, sym, ap, ◌∙◌, subst, arith}
use Rattle.std.specs.Prelude.{Err}
use Rattle.std.specs.Str.{bytes_eq}
use Rattle.std.proofs.lemmas.Bool.{not-true, not-false}
use Rattle.dmn_bytes.specs.declared.hash.Hash256.{Hash256}
use Rattle.dmn_branch.specs.declared.fault.DisconnectRefusal.TheVariants.{TooDeep}
use Rattle.dmn_branch.specs.Machine as machine
use Rattle.dmn_branch.specs.Machine.{MachineState, tip}
use Rattle.dmn_branch.specs.Stands.{Keeping, kept_at}
use Rattle.dmn_branch.proofs.Standing.{at_start, is_taken, not_tip, tip_stands, too_deep}
use Rattle.dmn_branch.proofs.branch.Branch.check_disconnect.Goals as goal

same_hash : (m : MachineState) (last hash : Hash256) → last ≡ (tip m).hash → bytes_eq last.0 hash.0 ≡ true → bytes_eq (tip m).hash.0 hash.0 ≡ true
same_hash m last hash is same = ap (λ (h : Hash256). bytes_eq h.0 hash.0) (sym is) ∙ same

pub returns-then-ne-clause-refused : goal.returns-then-ne-clause-refused
returns-then-ne-clause-refused c = λ m stands.
    let front = c.front-front.result in
    let at = tip_stands c.args.self.now m (kept_at c.args.self.now.indexes front) stands c.front-front.ensures.list in
    not_tip m c.args.hash.now front.hash at.hash (not-true _ (sym c.ne.ensures ∙ c.if-ne.true))

pub returns-then-front-self-clause-refused : goal.returns-then-front-self-clause-refused
returns-then-front-self-clause-refused c = λ m stands.
    let front = c.front-front.result in
    let at = tip_stands c.args.self.now m (kept_at c.args.self.now.indexes front) stands c.front-front.ensures.list in
    let same = same_hash m front.hash c.args.hash.now at.hash (not-false _ (sym c.ne.ensures ∙ c.if-ne.false)) in
    let first : c.self.inside.first ≡ m.start.first = ap (λ (b : Keeping). b.first) c.self.view_is ∙ stands.first in
    let some = subst (λ (b : Keeping). 0 < length b.lists) c.self.view_is c.self.invariant.0.some in
    let begins : c.args.self.now.first ≡ m.start.first = stands.first in
    at_start m c.args.hash.now same (omega (arith, at.height, first, begins, some, c.front-front.ensures.height, c.if-front-self.true))

pub returns-then-front-floor-clause-refused : goal.returns-then-front-floor-clause-refused
returns-then-front-floor-clause-refused c = λ m stands.
    let front = c.front-front.result in
    let at = tip_stands c.args.self.now m (kept_at c.args.self.now.indexes front) stands c.front-front.ensures.list in
    let same = same_hash m front.hash c.args.hash.now at.hash (not-false _ (sym c.ne.ensures ∙ c.if-ne.false)) in
    let first : c.self.inside.first ≡ m.start.first = ap (λ (b : Keeping). b.first) c.self.view_is ∙ stands.first in
    let floor = c.floor-floor.ensures.floor m stands in
    let above : m.start.first - 1 < (tip m).height = omega (arith, at.height, first, c.self.invariant.0.begins, c.if-front-self.false) in
    let deep : (tip m).height ≤ machine.top m - (machine.profile m).depth = omega (arith, at.height, floor, above, c.if-front-floor.true) in
    too_deep m c.args.hash.now same above deep ∙ ap (λ (n : ℕ). Err (TooDeep n)) (sym floor)

pub returns-clause-accepted : goal.returns-clause-accepted
returns-clause-accepted c = λ m stands.
    let front = c.front-front.result in
    let at = tip_stands c.args.self.now m (kept_at c.args.self.now.indexes front) stands c.front-front.ensures.list in
    let same = same_hash m front.hash c.args.hash.now at.hash (not-false _ (sym c.ne.ensures ∙ c.if-ne.false)) in
    is_taken m c.args.hash.now same (omega (arith, at.height, c.floor-floor.ensures.floor m stands, c.if-front-floor.false))
