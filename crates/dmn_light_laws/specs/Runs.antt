-- What a client holds in a run of frames, and what its answers say.
use Rattle.std.specs.Prelude.{◌≡◌, ℕ, List, Some}
use Rattle.std.specs.List.{AllByRecursion}
use Rattle.dmn_block.specs.declared.frame.BlockFrame.{BlockFrame}
use Rattle.dmn_block.specs.State.{State}
use Rattle.dmn_bytes.specs.Law.{IsBytes}
use Rattle.dmn_client.specs.declared.client.Applied.{Applied}
use Rattle.dmn_client.specs.Headers.{header_root}
use Rattle.dmn_client.specs.Step.{ClientState, applied_of, new_client}
use Rattle.dmn_diff.specs.declared.diff.Diff.{Diff}
use Rattle.dmn_diff.specs.Defs.{IsDiffText}
use Rattle.dmn_frames.specs.Frames.{Frame}
use Rattle.dmn_light.specs.declared.answer.Answer.{Answer}
use Rattle.dmn_light.specs.declared.answer.Answer.TheVariants.{Holds}
use Rattle.dmn_light.specs.Serving.{MayAnswer, Serves}
use Rattle.dmn_rows.specs.declared.start.StartRecord.{StartRecord}
use Rattle.dmn_light_laws.specs.Branches.{AreBodies, IsBehind}
use Rattle.dmn_light_laws.specs.Sound.{IsListOf}

-- the frame that hands in the text of a diff
abbrev pub apply_frame : List ℕ → Frame
apply_frame text = record { kind = 17; body = text }

-- In a run from a new client on: where a frame with a diff is answered by what is held then, and the block that this names is
-- one that replay accepted, of which the client has the header, it is the list that replay has behind that block which the
-- answer tells of; or a collision or a digest of zeros is among what was hashed.
abbrev pub IsSoundRun : StartRecord → List BlockFrame → BlockFrame → State → List Frame → List Answer → ClientState → List ℕ → Applied → ClientState → Type 0
IsSoundRun start blocks block state frames answers c text said n =
    AreBodies start blocks → IsBehind start blocks block state
    → Serves new_client frames answers c → AllByRecursion (λ (frame : Frame). IsBytes frame.body) frames
    → IsBytes text → MayAnswer c (apply_frame text) (Holds said) n
    → said.held ≡ block.hash → header_root block.hash c.headers ≡ Some block.merkle
    → (d : Diff) × IsDiffText text d × IsListOf n d block state × (said ≡ applied_of n)
