use Rattle.std.proofs.Common.{◌≡◌, ℕ, ◌%◌, Bool, List, None, Some, true, false, cond, sym, ap, ◌∙◌, refl}
use Rattle.std.specs.Prelude.{◌&&◌, ◌==◌, nat_le}
use Rattle.dmn_bytes.specs.declared.hash.Hash256.{Hash256}
use Rattle.dmn_indexes.specs.Version.{rows_in}
use Rattle.dmn_quorums.specs.Duty.{params_of, types_of}
use Rattle.dmn_quorums.specs.Score.{members_of, modifier_of}
use Rattle.dmn_rows.specs.declared.profile.Profile.{Profile}
use Rattle.dmn_branch.specs.Machine as machine
use Rattle.dmn_branch.specs.Stands.{Keeping, kept_in}
use Rattle.dmn_branch.proofs.Asking.{found_base, tells_members, tells_none}
use Rattle.dmn_branch.proofs.branch.Branch.members_at.Goals as goal

pub returns-in_default-clause-members : goal.returns-in_default-clause-members
returns-in_default-clause-members c = λ m stands.
    let held = c.held_at-held.result.now in
    let profile : c.self.inside.profile ≡ machine.profile m = ap (λ (b : Keeping). b.profile) c.self.view_is ∙ stands.profile in
    let none : params_of (machine.profile m).quorums c.args.kind ≡ None = ap (λ (p : Profile). params_of p.quorums c.args.kind) (sym profile) ∙ sym c.params_of.ensures ∙ c.in_default.is in
    tells_none m c.args.kind (kept_in c.args.self.now.indexes c.args.height held) _ none (c.held_at-held.ensures.stands m stands)

pub is_base-requires : goal.is_base-requires
is_base-requires c = (found_base c.self.inside.profile c.args.kind c.in-Some.params (types_of c.self.inside.profile.quorums) c.self.invariant.0.bases (sym c.params_of.ensures ∙ c.in-Some.is)).interval

pub returns-then-not-is_base-clause-members : goal.returns-then-not-is_base-clause-members
returns-then-not-is_base-clause-members c = λ m stands.
    let held = c.held_at-held.result.now in
    let b = c.args.self.now in
    let params = c.in-Some.params in
    let height = c.args.height in
    let profile : c.self.inside.profile ≡ machine.profile m = ap (λ (b : Keeping). b.profile) c.self.view_is ∙ stands.profile in
    let some : params_of (machine.profile m).quorums c.args.kind ≡ Some params = ap (λ (p : Profile). params_of p.quorums c.args.kind) (sym profile) ∙ sym c.params_of.ensures ∙ c.in-Some.is in
    let members = members_of (rows_in b.indexes held.version) params.size (modifier_of params.kind held.hash) in
    let test : (nat_le m.start.first height && ((height % params.interval) == 0)) ≡ false = ap (λ (n : ℕ). nat_le n height && ((height % params.interval) == 0)) (sym stands.first) ∙ sym c.is_base.ensures ∙ c.if-not-is_base.true in
    let there = ap (λ (t : Bool). cond t (Some members) None) (sym test) in
    tells_members m c.args.kind height params (kept_in b.indexes c.args.height held) _ None refl some there (c.held_at-held.ensures.stands m stands)

pub returns-clause-members : goal.returns-clause-members
returns-clause-members c = λ m stands.
    let held = c.held_at-held.result.now in
    let b = c.args.self.now in
    let params = c.in-Some.params in
    let height = c.args.height in
    let profile : c.self.inside.profile ≡ machine.profile m = ap (λ (b : Keeping). b.profile) c.self.view_is ∙ stands.profile in
    let some : params_of (machine.profile m).quorums c.args.kind ≡ Some params = ap (λ (p : Profile). params_of p.quorums c.args.kind) (sym profile) ∙ sym c.params_of.ensures ∙ c.in-Some.is in
    let members = members_of (rows_in b.indexes held.version) params.size (modifier_of params.kind held.hash) in
    let test : (nat_le m.start.first height && ((height % params.interval) == 0)) ≡ true = ap (λ (n : ℕ). nat_le n height && ((height % params.interval) == 0)) (sym stands.first) ∙ sym c.is_base.ensures ∙ c.if-not-is_base.false in
    let there = ap (λ (t : Bool). cond t (Some members) None) (sym test) in
    let told = c.in_ok-members.ensures.members ∙ ap (λ (k : Keeping). members_of (rows_in k.indexes held.version) params.size (modifier_of params.kind held.hash)) c.self.view_is in
    tells_members m c.args.kind height params (kept_in b.indexes c.args.height held) _ (Some c.in_ok-members.members.items) refl some (ap (λ (l : List Hash256). Some l) told ∙ there) (c.held_at-held.ensures.stands m stands)
