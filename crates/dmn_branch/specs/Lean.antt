-- What a snapshot holds is lean where its commitments count, and what is taken away was there. A machine may be held with more than
-- that: with commitments that are older than the active ones or of no type of the profile, and with hashes of rows that never were.
use Rattle.std.specs.Prelude.{◌≡◌, Bool, true, List, [], ◌∷◌, find, is_some, IsSome, Option}
use Rattle.std.specs.List.{AllByRecursion}
use Rattle.dmn_held.specs.declared.data.HeightData.{HeightData}
use Rattle.dmn_held.specs.declared.data.SnapshotData.{SnapshotData}
use Rattle.dmn_payloads.specs.declared.commitment.Commitment.{Commitment}
use Rattle.dmn_quorums.specs.Duty.{all_active_at, params_of}
use Rattle.dmn_restore.specs.Lists.{lowest_list, next_list}
use Rattle.dmn_rows.specs.declared.profile.Profile.{Profile}
use Rattle.dmn_rows.specs.declared.profile.QuorumParams.{QuorumParams}
use Rattle.dmn_rows.specs.Listing.{Listing}
use Rattle.dmn_rows.specs.Rows.{has_hash, has_point}

-- the commitment is of one of these types
abbrev pub has_type : List (Option QuorumParams) → Commitment → Bool
has_type quorums c = is_some (params_of quorums c.kind)

-- each commitment that was mined at a height has a type, and what is taken away was in the list before
pub record IsLeanChange (quorums : List (Option QuorumParams)) (before : Listing) (d : HeightData) : Type 0 where
  pub mined : AllByRecursion (λ c. has_type quorums c ≡ true) d.mined
  pub removed : AllByRecursion (λ hash. IsSome (find (has_hash hash) before.rows)) d.removed
  pub spent : AllByRecursion (λ point. IsSome (find (has_point point) before.outputs)) d.spent

-- height by height, behind this list
abbrev pub AreLean : List (Option QuorumParams) → Listing → List HeightData → Type 0
AreLean quorums before [] = Unit {0}
AreLean quorums before (d ∷ heights) = IsLeanChange quorums before d × AreLean quorums (next_list before d) heights

-- the quorums of the lowest height are just those that are active there, by type, and each height is lean
pub record IsLean (profile : Profile) (held : SnapshotData) : Type 0 where
  pub active : held.active ≡ all_active_at held.active profile.quorums held.low
  pub heights : AreLean profile.quorums (lowest_list held) held.heights
