-- Words for the parts that tell what a snapshot holds of a branch.
use Rattle.std.specs.Prelude.{◌≡◌, ℕ, suc, ◌==◌, ◌≤◌, ◌&&◌, Bool, List, [], ◌∷◌, filter, find, length, map, IsSome, Option, Some}
use Rattle.std.specs.List.{AllByRecursion}
use Rattle.dmn_held.specs.declared.data.HeightData.{HeightData}
use Rattle.dmn_held.specs.declared.data.SnapshotData.{SnapshotData}
use Rattle.dmn_indexes.specs.declared.indexes.Indexes.{Indexes}
use Rattle.dmn_indexes.specs.Version.{IsWhole, outputs_in, rows_in}
use Rattle.dmn_payloads.specs.declared.commitment.Commitment.{Commitment}
use Rattle.dmn_payloads.specs.declared.mined.MinedAt.{MinedAt}
use Rattle.dmn_quorums.specs.Duty.{all_active_at}
use Rattle.dmn_rows.specs.declared.profile.QuorumParams.{QuorumParams}
use Rattle.dmn_restore.specs.Lists.{lowest_list, next_list}
use Rattle.dmn_restore.specs.Restored.{listing_in}
use Rattle.dmn_rows.specs.declared.limits.TheConstants.{MOST_MASTERNODES, MOST_OUTPUTS}
use Rattle.dmn_rows.specs.Rows.{has_hash, has_point}
use Rattle.dmn_branch.specs.declared.held.Held.{Held}
use Rattle.dmn_branch.specs.Lean.{has_type}

-- it was mined at the height, and is of one of these types
abbrev pub is_at : List (Option QuorumParams) → ℕ → MinedAt → Bool
is_at quorums height m = (m.height == height) && has_type quorums m.commitment

-- the commitments of these types that were mined at a height
abbrev pub commitments_at : List (Option QuorumParams) → ℕ → List MinedAt → List Commitment
commitments_at quorums height mined = map (λ m. m.commitment) (filter (is_at quorums height) mined)

-- the trees of a height are sound, and they aren't too many rows and outputs
pub record IsTellable (ix : Indexes) (held : Held) : Type 0 where
  pub whole : IsWhole ix held.version
  pub masternodes : length (rows_in ix held.version) ≤ MOST_MASTERNODES
  pub collaterals : length (outputs_in ix held.version) ≤ MOST_OUTPUTS

-- what a snapshot holds of a height, behind that of the height before it
pub record IsChange (ix : Indexes) (quorums : List (Option QuorumParams)) (before after : Held) (height : ℕ) (all : List MinedAt) (d : HeightData) : Type 0 where
  pub hash : d.hash ≡ after.hash
  pub coinbase : Some d.coinbase ≡ after.coinbase
  pub list : next_list (listing_in ix before.version) d ≡ listing_in ix after.version
  pub mined : d.mined ≡ commitments_at quorums height all
  -- what is taken away was there
  pub removed : AllByRecursion (λ hash. IsSome (find (has_hash hash) (rows_in ix before.version))) d.removed
  pub spent : AllByRecursion (λ point. IsSome (find (has_point point) (outputs_in ix before.version))) d.spent

-- height by height
abbrev pub AreChanges : Indexes → List (Option QuorumParams) → ℕ → List MinedAt → Held → List Held → List HeightData → Type 0
AreChanges ix quorums height mined before [] [] = Unit {0}
AreChanges ix quorums height mined before (after ∷ held) (d ∷ heights) = IsChange ix quorums before after (suc height) mined d × AreChanges ix quorums (suc height) mined after held heights
AreChanges ix quorums height mined before [] (d ∷ heights) = ⊥
AreChanges ix quorums height mined before (after ∷ held) [] = ⊥

-- what a snapshot holds of these heights, of which this is the lowest one
pub record IsTold (ix : Indexes) (quorums : List (Option QuorumParams)) (top low : ℕ) (all : List MinedAt) (first : Held) (rest : List Held) (d : SnapshotData) : Type 0 where
  pub top_is : d.top ≡ top
  pub low_is : d.low ≡ low
  pub hash : d.low_hash ≡ first.hash
  pub coinbase : d.coinbase ≡ first.coinbase
  pub list : lowest_list d ≡ listing_in ix first.version
  pub active : d.active ≡ all_active_at all quorums low
  pub changes : AreChanges ix quorums low all first rest d.heights
