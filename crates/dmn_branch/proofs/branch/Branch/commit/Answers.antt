use Rattle.std.proofs.Common.{◌≡◌, ℕ, ◌+◌, ◌-◌, ◌<◌, ◌++◌, ◌∷◌, [], length, length-append, drop, max, refl, ap, sym, ◌∙◌, subst, arith}
use Rattle.dmn_branch.specs.Stands.{Keeping, IsReady, kept_in, lists_in, low_kept, low_of, prepared_in}
use Rattle.dmn_branch.proofs.Adding.{IsMore, more_on}
use Rattle.dmn_branch.proofs.Standing.{next_low, stands_next}
use Rattle.dmn_branch.proofs.branch.Branch.commit.Goals as goal

pub keep_from-requires-clause-some : goal.keep_from-requires-clause-some
keep_from-requires-clause-some c = omega (arith, ap length c.push_reserved.ensures, length-append c.self.inside.held.held (c.args.prepared.next ∷ []))

pub keep_from-requires-clause-next : goal.keep_from-requires-clause-next
keep_from-requires-clause-next c =
    let profile = c.self.inside.profile in
    let first = c.self.inside.first in
    let top = c.self.inside.top in
    let lists = lists_in c.self.inside.indexes (low_of profile first top) c.self.inside.held.held in
    let low : c.low-low.result ≡ low_of profile first top = c.low-low.ensures ∙ ap low_kept (sym c.self.view_is) in
    let next : c.tip_height-height.result + 1 ≡ low_of profile first top + length lists = c.tip_height-height.ensures.next ∙ ap (λ (b : Keeping). low_kept b + length b.lists) (sym c.self.view_is) in
    let more : c.low_of-more.result ≡ low_of profile first (max top (low_of profile first top + length lists)) = c.low_of-more.ensures ∙ ap (low_of profile first) (c.max-self-inside.ensures ∙ ap (max top) next) in
    rw (low, more) (next_low profile first top (low_of profile first top + length lists) lists c.self.invariant.0 refl)

-- what is held then
more : (c : goal.After-keep_from) → IsMore c.self.inside.profile c.self.inside.first c.self.inside.top c.max-self-inside.result c.self.inside.indexes c.self.inside.held.held c.keep_from.new.self.held c.args.prepared.next
more c =
    let profile = c.self.inside.profile in
    let first = c.self.inside.first in
    let top = c.self.inside.top in
    let ix = c.self.inside.indexes in
    let held = c.self.inside.held.held in
    let one = c.args.prepared.next in
    let ready = subst (λ (b : Keeping). IsReady b c.args.prepared) (sym c.self.view_is) c.requires in
    let low : c.low-low.result ≡ low_of profile first top = c.low-low.ensures ∙ ap low_kept (sym c.self.view_is) in
    let next : c.tip_height-height.result + 1 ≡ low_of profile first top + length (lists_in ix (low_of profile first top) held) = c.tip_height-height.ensures.next ∙ ap (λ (b : Keeping). low_kept b + length b.lists) (sym c.self.view_is) in
    let items : c.keep_from.new.self.held ≡ drop (low_of profile first c.max-self-inside.result - low_of profile first top) (held ++ one ∷ []) =
    c.keep_from.ensures ∙ ap (drop (c.low_of-more.result - c.low-low.result)) c.push_reserved.ensures
    ∙ ap (λ (n : ℕ). drop (n - c.low-low.result) (held ++ one ∷ [])) c.low_of-more.ensures
    ∙ ap (λ (n : ℕ). drop (low_of profile first c.max-self-inside.result - n) (held ++ one ∷ [])) low in
    more_on profile first top ix held one c.self.invariant.0 c.self.invariant.1 c.max-self-inside.result c.keep_from.new.self.held (c.max-self-inside.ensures ∙ ap (max top) next) items ready.version ready.marks ready.whole

pub invariant_of-self : goal.invariant_of-self
invariant_of-self c = ((more c).kept, (more c).sound, c.self.invariant.2)

pub returns : goal.returns
returns c = λ m block stands next.
    let old = c.args.self.now in
    let prepared = c.args.prepared in
    let new = low_of c.self.inside.profile c.self.inside.first c.max-self-inside.result in
    stands_next old _ (prepared_in old prepared) m block
    (record {
      profile = ap (λ (b : Keeping). b.profile) c.self.view_is;
      first = ap (λ (b : Keeping). b.first) c.self.view_is;
      lists = (more c).lists ∙ ap (λ (b : Keeping). drop (new - low_kept b) (b.lists ++ kept_in b.indexes (low_kept b + length b.lists) prepared.next ∷ [])) c.self.view_is;
      coinbases = (more c).coinbases ∙ ap (λ (b : Keeping). drop (new - low_kept b) (b.coinbases ++ prepared.next.coinbase ∷ [])) c.self.view_is;
      old_mined = ap (λ (b : Keeping). b.mined) (sym c.self.view_is);
      mined = ap (λ (b : Keeping). b.mined) (sym c.self.view_is);
      top = c.max-self-inside.ensures ∙ ap (max c.self.inside.top) c.tip_height-height.ensures.next ∙ ap (λ (b : Keeping). max b.top (low_kept old + length old.lists)) c.self.view_is;
      pins = ap (λ (b : Keeping). b.pins) c.self.view_is;
    })
    (subst (λ (b : Keeping). 0 < length b.lists) c.self.view_is c.self.invariant.0.some)
    refl (more c).sound stands next
