-- What is answered of a height that is held, and of one that is not.
use Rattle.std.proofs.Common.{◌≡◌, ℕ, Bool, true, false, refl, sym, ◌∙◌}
use Rattle.std.specs.Prelude.{Option, None, Some, ◌&&◌, nat_le}
use Rattle.dmn_block.specs.State.{State}
use Rattle.dmn_branch.specs.Asked.{IsToldOf, told}
use Rattle.dmn_branch.specs.declared.tip.Tip.{Tip}
use Rattle.dmn_branch.specs.Machine.{MachineState, is_held, state_at}
use Rattle.dmn_desk.specs.declared.answer.Answer.{Answer}
use Rattle.dmn_desk.specs.declared.answer.Answer.TheVariants.{Short}
use Rattle.dmn_desk.specs.declared.answer.ShortAnswer.TheVariants as short
use Rattle.dmn_desk.specs.Ask.{at_height, of_state}

pub held_is : (m : MachineState) (tip : Tip) (height : ℕ) (held : Bool) → tip ≡ told m → held ≡ (nat_le tip.low height && nat_le height tip.height) → is_held m height ≡ held
held_is m tip height held is test = rw (test, is) refl

pub told_held : (m : MachineState) (tip : Tip) (height : ℕ) (tell : State → Answer) → tip ≡ told m → true ≡ (nat_le tip.low height && nat_le height tip.height) → at_height m height tell ≡ of_state m tell (state_at m height)
unfolding at_height
told_held m tip height tell is held = rw (held_is m tip height true is held) refl

pub told_none : (m : MachineState) (tip : Tip) (height : ℕ) (tell : State → Answer) → tip ≡ told m → false ≡ (nat_le tip.low height && nat_le height tip.height) → Short (short.NotHeld tip.low tip.height) ≡ at_height m height tell
unfolding at_height
told_none m tip height tell is held = rw (held_is m tip height false is held, is) refl

-- what is answered by what a branch tells of the state
of_told : {X : Type 0} (m : MachineState) (tell : State → X) (answer : X → Answer) (told : X) (found : Option State) → IsToldOf tell told found → answer told ≡ of_state m (λ state. answer (tell state)) found
of_told m tell answer told None is = absurd is
of_told m tell answer told (Some state) is = rw is refl

pub told_by : {X : Type 0} (m : MachineState) (tip : Tip) (height : ℕ) (tell : State → X) (answer : X → Answer) (told_value : X) → tip ≡ told m → true ≡ (nat_le tip.low height && nat_le height tip.height) → IsToldOf tell told_value (state_at m height)
    → answer told_value ≡ at_height m height (λ state. answer (tell state))
told_by m tip height tell answer told_value is held tells = of_told m tell answer told_value (state_at m height) tells ∙ sym (told_held m tip height (λ state. answer (tell state)) is held)
