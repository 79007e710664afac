use Rattle.std.proofs.Common.{◌≡◌, ℕ, suc, ◌+◌, ◌<◌, List, [], ◌∷◌, ◌++◌, ◌∙◌, length, get_or, map, take, Some, refl, sym, ap, subst, arith}
use Rattle.std.proofs.lemmas.Result.{err_from_is_err_and}
use Rattle.dmn_held.specs.declared.data.HeightData.{HeightData}
use Rattle.dmn_branch.specs.Taking.{AreMadeOf, IsMadeOf, heads, head_of}
use Rattle.dmn_branch.specs.declared.held.Held.{Held}
use Rattle.dmn_branch.proofs.Taking.{head_at, heads_long, made_next, no_made, sound_at}
use Rattle.dmn_branch.proofs.from_data.held_list.Goals as goal

pub returns-in_err-lowest-clause-misfit : goal.returns-in_err-lowest-clause-misfit
returns-in_err-lowest-clause-misfit c = λ sound.
    let held = c.args.held.now in
    let p = err_from_is_err_and c.from_residual-in_err-lowest.result c.from_residual-in_err-lowest.ensures.1 in
    rw (p.1, p.2) (c.in_err-lowest.ensures.misfit (record { hash = held.low_hash; coinbase = held.coinbase }) refl c.in_ok-coinbase.ensures sound.0)

pub loop-place-init : goal.loop-place-init
loop-place-init c =
    let held = c.args.held.now in
    subst (λ (l : List Held). AreMadeOf (take 1 (heads held)) (take 1 c.args.versions.now) l) (sym (c.in_ok-push.ensures ∙ ap (λ (l : List Held). l ++ c.in_ok-lowest.lowest ∷ []) c.new-list.ensures))
    (made_next 0 (heads held) c.args.versions.now [] (record { hash = held.low_hash; coinbase = held.coinbase }) _ c.in_ok-lowest.lowest (omega arith) (omega (arith, c.requires)) refl tt
    (c.in_ok-lowest.ensures.made (record { hash = held.low_hash; coinbase = held.coinbase }) refl c.in_ok-coinbase.ensures))

pub returns-in_err-next-clause-misfit : goal.returns-in_err-next-clause-misfit
returns-in_err-next-clause-misfit c = λ sound.
    let held = c.args.held.now in
    let at = c.loop-place in
    let d : HeightData = c.index-heights-place.result in
    let is : get_or held.heights at.place d ≡ d = subst (λ (l : List HeightData). get_or l at.place d ≡ d) c.as_slice-heights.ensures (sym c.index-heights-place.is) in
    let lt : at.place < length held.heights = subst (λ (l : List HeightData). at.place < length l) c.as_slice-heights.ensures c.loop-place-test.true in
    let p = err_from_is_err_and c.from_residual-in_err-next.result c.from_residual-in_err-next.ensures.1 in
    rw (p.1, p.2) (c.in_err-next.ensures.misfit (head_of d) refl (ap Some c.in_ok-part.ensures) (sound_at at.place (map head_of held.heights) (head_of d) (omega (arith, lt, heads_long held.heights)) (head_at at.place held.heights d is) sound.1))

pub loop-place-preserved : goal.loop-place-preserved
loop-place-preserved c =
    let held = c.args.held.now in
    let at = c.loop-place in
    let d : HeightData = c.index-heights-place.result in
    let is : get_or held.heights at.place d ≡ d = subst (λ (l : List HeightData). get_or l at.place d ≡ d) c.as_slice-heights.ensures (sym c.index-heights-place.is) in
    let lt : at.place < length held.heights = subst (λ (l : List HeightData). at.place < length l) c.as_slice-heights.ensures c.loop-place-test.true in
    let up : suc at.place ≡ at.place + 1 = omega arith in
    let up_two : suc (suc at.place) ≡ at.place + 1 + 1 = omega arith in
    let before = subst (λ (n : ℕ). AreMadeOf (take n (heads held)) (take n c.args.versions.now) at.list.held) (sym up) at.invariant in
    let made = c.in_ok-next.ensures.made (head_of d) refl (ap Some c.in_ok-part.ensures) in
    subst (λ (l : List Held). AreMadeOf (take (at.place + 1 + 1) (heads held)) (take (at.place + 1 + 1) c.args.versions.now) l) (sym c.in_ok-push-2.ensures)
    (subst (λ (n : ℕ). AreMadeOf (take n (heads held)) (take n c.args.versions.now) (at.list.held ++ c.in_ok-next.next ∷ [])) up_two
    (made_next (suc at.place) (heads held) c.args.versions.now at.list.held (head_of d) no_made c.in_ok-next.next (omega (arith, lt, heads_long held.heights)) (omega (arith, lt, c.requires)) (head_at at.place held.heights d is) before
    (subst (λ (n : ℕ). IsMadeOf (head_of d) (get_or c.args.versions.now n no_made) c.in_ok-next.next) (sym up) made)))
