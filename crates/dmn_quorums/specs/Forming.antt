-- What is known, at the height of a block, of each type's quorum: the one whose commitment may be mined there (DIP-0006).
use Rattle.std.specs.Prelude.{ℕ, ◌==◌, ◌&&◌, not, Bool, true, false, List, [], length, map, find, replicate, Option, None, Some, if◌then◌else◌}
use Rattle.std.specs.List.{list_any}
use Rattle.dmn_bytes.specs.declared.hash.Hash256.{Hash256}
use Rattle.dmn_rows.specs.declared.profile.QuorumParams.{QuorumParams}
use Rattle.dmn_rows.specs.declared.row.MnRow.{MnRow}
use Rattle.dmn_rows.specs.declared.rule.Rule.{Rule}
use Rattle.dmn_rows.specs.declared.rule.Rule.TheVariants.{QuorumMissing}
use Rattle.dmn_rows.specs.Table.{when, first_broken}
use Rattle.dmn_quorums.specs.declared.case.QuorumCase.{QuorumCase}
use Rattle.dmn_quorums.specs.Digest.{digest_of}
use Rattle.dmn_quorums.specs.Score.{members_of, modifier_of}

pub record Formed : Type 0 where
  pub params : QuorumParams
  -- the height is in the window, with a base at or above the first block
  pub in_window : Bool
  -- an earlier block has a commitment for the base that isn't null
  pub done : Bool
  -- the hash of the base block
  pub base : Hash256
  pub members : List Hash256
  -- what a verdict on the members' signature is on
  pub digest : Hash256

-- ---- by the base block

abbrev pub no_hash : Hash256
no_hash = record { 0 = replicate 32 0 }

-- outside its window no commitment of the type may be mined, and nobody asks for the base
abbrev pub outside : QuorumParams → Bool → Formed
outside params done = record { params = params; in_window = false; done = done; base = no_hash; members = []; digest = no_hash }

-- The members by the base block's hash and list. Nobody asks for those of a quorum that has its commitment: another one is
-- refused before.
abbrev pub seats : QuorumParams → Bool → Hash256 → List MnRow → List Hash256
seats params done base rows = if done then [] else members_of rows params.size (modifier_of params.kind base)

-- in its window
abbrev pub inside : QuorumParams → Bool → Hash256 → List MnRow → Formed
inside params done base rows = record { params = params; in_window = true; done = done; base = base; members = seats params done base rows; digest = digest_of rows (seats params done base rows) }

-- a block at the height has to have a commitment of the type
abbrev pub is_due : Formed → Bool
is_due f = f.in_window && not f.done

-- ---- a commitment of a block

-- a type is among these
abbrev pub has_kind : List ℕ → ℕ → Bool
has_kind kinds kind = list_any (λ k. k == kind) kinds

-- the quorum of a type, where the profile has that
abbrev pub of_kind : List Formed → ℕ → Option Formed
of_kind formed kind = find (λ f. f.params.kind == kind) formed

abbrev pub case_by : List ℕ → ℕ → Option Formed → QuorumCase
case_by kinds told None = record { params = None; payload_height = told; base_hash = no_hash; in_window = false; already = false; done = false; members = 0; digest = no_hash }
case_by kinds told (Some f) = record { params = Some f.params; payload_height = told; base_hash = f.base; in_window = f.in_window; already = has_kind kinds f.params.kind; done = f.done; members = length f.members; digest = f.digest }

-- What is known of a commitment of a type whose payload tells a height, behind others of these types in its block.
abbrev pub case_of : List Formed → List ℕ → ℕ → ℕ → QuorumCase
case_of formed kinds told kind = case_by kinds told (of_kind formed kind)

abbrev pub members_by : Option Formed → List Hash256
members_by None = []
members_by (Some f) = f.members

-- the members of the quorum of a type
abbrev pub members_in : List Formed → ℕ → List Hash256
members_in formed kind = members_by (of_kind formed kind)

-- 80: a block has to have a commitment of the type and has none; `kinds` are the types of the commitments that it has
unfoldable pub missing_of : List ℕ → Formed → Option Rule
missing_of kinds f = when (f.in_window && (not f.done && not (has_kind kinds f.params.kind))) (QuorumMissing f.params.kind)

-- the same of the first of some types
abbrev pub missing : List Formed → List ℕ → Option Rule
missing formed kinds = first_broken (map (missing_of kinds) formed)
