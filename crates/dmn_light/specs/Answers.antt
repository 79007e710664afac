-- The status, the body and the frame of each answer.
use Rattle.std.specs.Prelude.{ℕ, ◌^◌, ◌<◌, List, [], ◌++◌, length}
use Rattle.std.specs.Int.{w32, to_le_bytes}
use Rattle.dmn_client.specs.declared.client.Applied.{Applied}
use Rattle.dmn_client.specs.declared.fault.ClientFault.{ClientFault}
use Rattle.dmn_client.specs.declared.fault.ClientFault.TheVariants as faults
use Rattle.dmn_frames.specs.Frames.{framed}
use Rattle.dmn_light.specs.declared.answer.Answer.{Answer}
use Rattle.dmn_light.specs.declared.answer.Answer.TheVariants.{Added, Holds, BadRequest, Refused}

-- want of memory, which may be answered to any frame
abbrev pub lack : Answer
lack = Refused faults.Memory

abbrev pub fault_status : ClientFault → ℕ
fault_status faults.Memory = 1
fault_status (faults.DiffForm at) = 21
fault_status (faults.WrongBase held) = 22
fault_status faults.UnknownHeader = 23
fault_status faults.BadBranch = 24
fault_status faults.BadCoinbase = 25
fault_status (faults.BadRoot committed computed) = 26
fault_status (faults.HeaderDiffers held) = 27
fault_status faults.HeadersFull = 28

abbrev pub status_of : Answer → ℕ
status_of Added = 0
status_of (Holds applied) = 0
status_of (BadRequest at) = 2
status_of (Refused fault) = fault_status fault

-- the block whose list is held, the list's root, and how many entries it has
unfoldable pub held_body : Applied → List ℕ
held_body applied = applied.held.0 ++ applied.root.0 ++ to_le_bytes w32 applied.count

unfoldable pub fault_body : ClientFault → List ℕ
fault_body faults.Memory = []
fault_body (faults.DiffForm at) = to_le_bytes w32 at
fault_body (faults.WrongBase held) = held.0
fault_body faults.UnknownHeader = []
fault_body faults.BadBranch = []
fault_body faults.BadCoinbase = []
fault_body (faults.BadRoot committed computed) = committed.0 ++ computed.0
fault_body (faults.HeaderDiffers held) = held.0
fault_body faults.HeadersFull = []

abbrev pub body_of : Answer → List ℕ
body_of Added = []
body_of (Holds applied) = held_body applied
body_of (BadRequest at) = to_le_bytes w32 at
body_of (Refused fault) = fault_body fault

-- the frame of an answer
abbrev pub frame_of : Answer → List ℕ
frame_of answer = framed (status_of answer) (body_of answer)

-- the place in a fault fits its field
abbrev pub IsBounded : Answer → Type 0
IsBounded (Refused (faults.DiffForm at)) = at < 2 ^ 32
IsBounded answer = Unit {0}

-- the length of the body fits its field
abbrev pub Fits : Answer → Type 0
Fits answer = length (body_of answer) < 2 ^ 32
