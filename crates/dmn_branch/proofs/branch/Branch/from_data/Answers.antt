use Rattle.std.proofs.Common.{◌≡◌, ◌+◌, ℕ, true, false, List, length, Some, refl, sym, ap, ◌∙◌, subst}
use Rattle.std.proofs.lemmas.Result.{err_from_is_err_and}
use Rattle.dmn_rows.specs.declared.start.StartRecord.{StartRecord}
use Rattle.dmn_branch.specs.declared.pins.Pin.{Pin}
use Rattle.dmn_branch.specs.Stands.{AreSound, low_of, pins_in}
use Rattle.dmn_branch.specs.Step.{profile_of}
use Rattle.dmn_branch.specs.Taking.{AreMadeOf, FitsHeights, heads}
use Rattle.dmn_restore.specs.declared.making.Marked.{Marked}
use Rattle.dmn_branch.proofs.Pinning.{no_pins_on}
use Rattle.dmn_branch.proofs.Restoring.{made_long, sound_made}
use Rattle.dmn_branch.proofs.Returning.{held_fits, held_heads, kept_made, stands_made}
use Rattle.dmn_branch.proofs.Starting.{start_bounds}
use Rattle.dmn_branch.proofs.branch.Branch.from_data.Goals as goal

pub profile_by-profile-requires : goal.profile_by-profile-requires
profile_by-profile-requires c = start_bounds c.args.start.now c.requires

pub low_of-low-requires : goal.low_of-low-requires
low_of-low-requires c = (start_bounds c.args.start.now c.requires).first.0

pub returns-then-not-fits_heights-clause-fits : goal.returns-then-not-fits_heights-clause-fits
returns-then-not-fits_heights-clause-fits c = λ m same lawful holds.
    let fits = held_fits c.args.held.now m c.profile_by-profile.result c.low_of-low.result (c.profile_by-profile.ensures ∙ ap profile_of (sym same)) (c.low_of-low.ensures ∙ ap (λ (s : StartRecord). low_of c.profile_by-profile.result s.first c.args.held.now.top) (sym same)) holds in
    let none : true ≡ false = sym (c.fits_heights.ensures.1 fits) ∙ c.if-not-fits_heights.true in
    absurd cc

pub returns-in_err-list-clause-fits : goal.returns-in_err-list-clause-fits
returns-in_err-list-clause-fits c = λ m same lawful holds.
    let p = err_from_is_err_and c.from_residual-in_err-list.result c.from_residual-in_err-list.ensures.1 in
    rw (p.1, p.2) (c.in_err-list.ensures.misfit (held_heads c.args.held.now m holds))

heights : (c : goal.After-new) → FitsHeights c.profile_by-profile.result (low_of c.profile_by-profile.result c.args.start.now.first c.args.held.now.top) c.args.held.now
heights c = subst (λ (n : ℕ). FitsHeights c.profile_by-profile.result n c.args.held.now) c.low_of-low.ensures (c.fits_heights.ensures.0 c.if-not-fits_heights.false)

abbrev list : goal.After-new → List Marked
list c = c.in_ok-made.made.versions.items

made : (c : goal.After-new) → AreMadeOf (heads c.args.held.now) (list c) c.in_ok-list.list.held
made c = subst (λ (l : List Marked). AreMadeOf (heads c.args.held.now) l c.in_ok-list.list.held) c.as_slice.ensures.value c.in_ok-list.ensures.made

sound : (c : goal.After-new) → AreSound c.in_ok-made.made.indexes (low_of c.profile_by-profile.result c.args.start.now.first c.args.held.now.top) c.in_ok-list.list.held
sound c =
    subst (λ (n : ℕ). AreSound c.in_ok-made.made.indexes n c.in_ok-list.list.held) (heights c).low_is
    (sound_made c.in_ok-made.made.indexes c.args.held.now.low (heads c.args.held.now) (list c) c.in_ok-list.list.held (made c) c.in_ok-made.ensures.sound c.in_ok-made.ensures.proper)

pub invariant_of-result : goal.invariant_of-result
invariant_of-result c =
    let long : length c.in_ok-list.list.held ≡ length c.args.held.now.heights + 1 = made_long (heads c.args.held.now) (list c) c.in_ok-list.list.held (made c) ∙ c.in_ok-made.ensures.long in (
      kept_made c.args.start.now c.profile_by-profile.result c.args.held.now c.in_ok-made.made.indexes c.in_ok-list.list.held c.requires c.profile_by-profile.ensures (heights c) long,
      sound c,
      no_pins_on c.in_ok-made.made.indexes c.new.result c.new.ensures,
    )

pub returns-clause-stands : goal.returns-clause-stands
returns-clause-stands c = λ m same lawful holds.
    stands_made _ c.args.start.now m c.args.held.now c.in_ok-made.made.versions.items c.profile_by-profile.ensures refl same lawful holds
    (record { top = refl; lists = refl; coinbases = refl; made = made c.before; read = c.in_ok-made.ensures.lists holds.form; sound = sound c.before; mined = c.in_ok-mined.ensures; pins = ap (λ (l : List Pin). pins_in c.in_ok-made.made.indexes l (Some 1)) c.new.ensures })
