-- What is answered of quorums.
use Rattle.std.proofs.Common.{◌≡◌, ℕ, true, refl}
use Rattle.std.specs.Prelude.{Option, None, Some, is_some}
use Rattle.dmn_branch.specs.Asked.{members_in}
use Rattle.dmn_branch.specs.Machine.{MachineState}
use Rattle.dmn_rows.specs.declared.profile.QuorumParams.{QuorumParams}
use Rattle.dmn_desk.specs.Ask.{at_height, members_by, members_or_none}

-- where the profile has the type, its members are those of the height
pub typed : (m : MachineState) (kind height : ℕ) (o : Option QuorumParams) → is_some o ≡ true → at_height m height (λ state. members_or_none (members_in m kind state)) ≡ members_by m kind height o
typed m kind height None some = cc
typed m kind height (Some params) some = refl
