-- What a snapshot has of commitments, beside what a machine has.
use Rattle.std.specs.Prelude.{◌≡◌, ◌==◌, List, [], ◌∷◌, filter, map}
use Rattle.std.specs.List.{AllByRecursion}
use Rattle.dmn_block.specs.State.{State}
use Rattle.dmn_held.specs.declared.data.HeightData.{HeightData}
use Rattle.dmn_quorums.specs.Duty.{types_of}
use Rattle.dmn_rows.specs.declared.profile.Profile.{Profile}
use Rattle.dmn_rows.specs.declared.profile.QuorumParams.{QuorumParams}
use Rattle.dmn_snapshot_laws.specs.Once.{is_new}

-- of a type the commitments of a height are those that its block mined
abbrev pub HasThose : HeightData → State → QuorumParams → Type 0
HasThose d state params = filter (λ v. v.kind == params.kind) d.mined ≡ map (λ m. m.commitment) (filter (is_new state.height params.kind) state.mined)

-- of each type of a profile, height by height
abbrev pub HaveThose : Profile → List HeightData → List State → Type 0
HaveThose profile [] [] = Unit {0}
HaveThose profile (d ∷ heights) (state ∷ states) = AllByRecursion (HasThose d state) (types_of profile.quorums) × HaveThose profile heights states
HaveThose profile [] (state ∷ states) = ⊥
HaveThose profile (d ∷ heights) [] = ⊥
