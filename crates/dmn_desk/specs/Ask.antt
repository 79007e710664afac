-- The answer of a machine to each request and to each frame, in the order of its checks, and the machine after it. The machine
-- is that of a registry (dmn_registry/specs/Machine.antt); what it holds is the machine of blocks that its commands lead to
-- (dmn_branch/specs/Machine.antt), by which each question is answered.
use Rattle.std.specs.Prelude.{ℕ, ◌+◌, Bool, false, List, length, map, filter, nat_lt, if◌then◌else◌, is_some, Option, None, Some, Result, Ok, Err}
use Rattle.dmn_block.specs.declared.frame.BlockFrame.{BlockFrame}
use Rattle.dmn_block.specs.declared.refusal.Refusal.{Refusal}
use Rattle.dmn_block.specs.State.{State}
use Rattle.dmn_branch.specs.declared.fault.DisconnectRefusal.{DisconnectRefusal}
use Rattle.dmn_branch.specs.declared.fault.DisconnectRefusal.TheVariants as refusals
use Rattle.dmn_branch.specs.Asked.{members_in, payees_of, quorums_in, row_of, rows_at}
use Rattle.dmn_branch.specs.Coinbases.{CoinbasePart, coinbase_of}
use Rattle.dmn_branch.specs.Machine as machine
use Rattle.dmn_branch.specs.Machine.{MachineState, height_of, is_held, low, state_at, tip, top}
use Rattle.dmn_branch.specs.Pins.{Pinned, free_number, page_of, pin_of}
use Rattle.dmn_bytes.specs.declared.fault.Departure.{Departure}
use Rattle.dmn_bytes.specs.declared.hash.Hash256.{Hash256}
use Rattle.dmn_bytes.specs.Law.{place_of}
use Rattle.dmn_bytes.specs.Points.{is_zero}
use Rattle.dmn_diff.specs.Change.{change_of}
use Rattle.dmn_diff.specs.Rows.{is_row_told}
use Rattle.dmn_quorums.specs.Duty.{params_of}
use Rattle.dmn_rows.specs.declared.profile.QuorumParams.{QuorumParams}
use Rattle.dmn_rows.specs.declared.row.MnRow.{MnRow}
use Rattle.dmn_registry.specs.Machine as registry
use Rattle.dmn_registry.specs.Machine.{Denial, Machine, by_rules, full, state_of}
use Rattle.dmn_sml.specs.declared.entry.SmlEntry.{SmlEntry}
use Rattle.dmn_sml.specs.Defs.{root_of, simple}
use Rattle.dmn_sml.specs.Entry.{entry_of}
use Rattle.dmn_desk.specs.declared.answer.Answer.{Answer}
use Rattle.dmn_desk.specs.declared.answer.Answer.TheVariants.{Short, Grown}
use Rattle.dmn_desk.specs.declared.answer.GrownAnswer.TheVariants as grown
use Rattle.dmn_desk.specs.declared.answer.ShortAnswer.{ShortAnswer}
use Rattle.dmn_desk.specs.declared.answer.ShortAnswer.TheVariants as short
use Rattle.dmn_desk.specs.declared.kind.Kind.{Kind}
use Rattle.dmn_frames.specs.declared.limits.TheConstants.{HEAD, LONGEST_BODY}
use Rattle.dmn_desk.specs.declared.request.Request.{Request}
use Rattle.dmn_desk.specs.declared.request.Request.TheVariants as requests
use Rattle.dmn_desk.specs.Kinds.{kind_of}
use Rattle.dmn_desk.specs.Requests.{request_of}

-- ---- requests

abbrev pub tip_of : MachineState → ShortAnswer
tip_of m = short.Tip (tip m).height (tip m).hash (low m) (top m)

abbrev pub not_held : MachineState → Answer
not_held m = Short (short.NotHeld (low m) (tip m).height)

abbrev pub of_state : MachineState → (State → Answer) → Option State → Answer
of_state m tell None = not_held m
of_state m tell (Some state) = tell state

-- what is told of a height, where it is held
unfoldable pub at_height : MachineState → ℕ → (State → Answer) → Answer
at_height m height tell = if is_held m height then of_state m tell (state_at m height) else not_held m

-- the list, with the hash and the root
abbrev pub list_of : ℕ → State → Answer
list_of height state = Grown (grown.List height state.hash (root_of (simple state.rows)) (simple state.rows))

abbrev pub list_at : MachineState → ℕ → Answer
list_at m height = at_height m height (list_of height)

-- a row with the penalty in force at a height, where there is a row
abbrev pub row_or_none : ℕ → Option MnRow → Answer
row_or_none height None = Short short.NoSuch
row_or_none height (Some row) = Grown (grown.Row (record row { penalty_at = height }))

abbrev pub row_at : MachineState → ℕ → Hash256 → Answer
row_at m height hash = at_height m height (λ state. row_or_none height (row_of hash state))

abbrev pub payees_at : MachineState → ℕ → ℕ → Answer
payees_at m height n = at_height m height (λ state. Grown (grown.Payees (payees_of n state)))

-- the members, where the height is a base of the type
abbrev pub members_or_none : Option (List Hash256) → Answer
members_or_none None = Short short.NoSuch
members_or_none (Some hashes) = Grown (grown.Members hashes)

abbrev pub members_by : MachineState → ℕ → ℕ → Option QuorumParams → Answer
members_by m kind height None = Short short.NoSuch
members_by m kind height (Some params) = at_height m height (λ state. members_or_none (members_in m kind state))

-- the profile has the type, and then the height is held
abbrev pub members_at : MachineState → ℕ → ℕ → Answer
members_at m kind height = members_by m kind height (params_of (machine.profile m).quorums kind)

abbrev pub quorums_at : MachineState → ℕ → Answer
quorums_at m height = at_height m height (λ state. Grown (grown.Quorums (quorums_in m state)))

-- ---- commands

-- why a block is not accepted: by the rules first, and then by the journal's limit
abbrev pub not_connected : Denial Refusal → ShortAnswer
not_connected (by_rules refusal) = short.Refused refusal
not_connected full = short.JournalFull

abbrev pub connected : Machine → Result Machine (Denial Refusal) → ShortAnswer × Machine
connected m (Ok next) = (short.Connected (tip (state_of next)).height (tip (state_of next)).hash, next)
connected m (Err denial) = (not_connected denial, m)

-- a block is added, or refused
unfoldable pub connect : Machine → BlockFrame → List ℕ → ShortAnswer × Machine
connect m block body = connected m (registry.connect m block body)

abbrev pub not_back : DisconnectRefusal → ShortAnswer
not_back (refusals.NotTip tip) = short.NotTip tip
not_back refusals.AtStart = short.AtStart
not_back (refusals.TooDeep floor) = short.TooDeep floor

abbrev pub not_disconnected : Denial DisconnectRefusal → ShortAnswer
not_disconnected (by_rules refusal) = not_back refusal
not_disconnected full = short.JournalFull

abbrev pub disconnected : Machine → Result Machine (Denial DisconnectRefusal) → ShortAnswer × Machine
disconnected m (Ok next) = (short.Disconnected (tip (state_of next)).height (tip (state_of next)).hash, next)
disconnected m (Err denial) = (not_disconnected denial, m)

-- the last block is taken back, or not
unfoldable pub disconnect : Machine → Hash256 → ShortAnswer × Machine
disconnect m hash = disconnected m (registry.disconnect m hash)

-- ---- pins

-- a pin more, where there is a number for it
abbrev pub pinned_by : Machine → ℕ → Option ℕ → ShortAnswer × Machine
pinned_by m height None = (short.PinsFull, m)
pinned_by m height (Some number) = (short.Pinned number, registry.pinned m number height)

-- the height is held, and then the list of it is pinned
unfoldable pub pin : Machine → ℕ → ShortAnswer × Machine
pin m height =
    if is_held (state_of m) height
    then pinned_by m height (free_number m.pins)
    else (short.NotHeld (low (state_of m)) (tip (state_of m)).height, m)

abbrev pub page_by : ℕ → ℕ → Option Pinned → Answer
page_by from count None = Short short.PinUnknown
page_by from count (Some pin) = Grown (grown.Page (simple (page_of from count pin)))

-- a part of a pinned list, as it was when it was pinned
abbrev pub page : MachineState → ℕ → ℕ → ℕ → Answer
page m number from count = page_by from count (pin_of m.pins number)

unfoldable pub release : Machine → ℕ → ShortAnswer × Machine
release m number = if is_some (pin_of m.pins number) then (short.Released, registry.released m number) else (short.PinUnknown, m)

abbrev pub shortly : ShortAnswer × Machine → Answer × Machine
shortly next = (Short next.0, next.1)

-- ---- what changed between two blocks

-- the entries of these rows that the base has not, or has another one in their place
abbrev pub entries_told : List MnRow → List MnRow → List SmlEntry
entries_told base rows = map entry_of (filter (is_row_told base) rows)

-- the diff from the list of these rows to that of a state, whose block's coinbase proves it
abbrev pub diff_by : Hash256 → List MnRow → State → Option CoinbasePart → Answer
diff_by base rows state None = Short short.NoSuch
diff_by base rows state (Some part) =
    let change = change_of (simple rows) (simple state.rows) in
    Grown (grown.Diff (record { base = base; block = state.hash; branch = part.branch; coinbase = part.tx; deleted = change.deleted; entries = change.entries }))

abbrev pub diff_to : Hash256 → List MnRow → State → Answer
diff_to base rows state = diff_by base rows state (coinbase_of state)

-- no base, which is the empty list, is above nothing
abbrev pub is_above : Option ℕ → ℕ → Bool
is_above None height = false
is_above (Some from) height = nat_lt height from

abbrev pub diff_between : MachineState → Hash256 → Option ℕ → ℕ → Answer
diff_between m base from height = if is_above from height then Short short.BaseAbove else of_state m (diff_to base (rows_at m from)) (state_at m height)

abbrev pub diff_until : MachineState → Hash256 → Option ℕ → Option ℕ → Answer
diff_until m base from None = not_held m
diff_until m base from (Some height) = diff_between m base from height

abbrev pub diff_since : MachineState → Hash256 → Hash256 → Option ℕ → Answer
diff_since m base block None = not_held m
diff_since m base block (Some from) = diff_until m base (Some from) (height_of m block)

-- The base is held, or zero for the empty list; then the block is held, then not below the base, and then there is a block.
unfoldable pub diff : MachineState → Hash256 → Hash256 → Answer
diff m base block = if is_zero base.0 then diff_until m base None (height_of m block) else diff_since m base block (height_of m base)

-- ---- all requests

-- the answer to a request
unfoldable pub ask : Machine → Request → Answer × Machine
ask m (requests.Connect block body) = shortly (connect m block body)
ask m (requests.Disconnect hash) = shortly (disconnect m hash)
ask m requests.Tip = (Short (tip_of (state_of m)), m)
ask m (requests.List height) = (list_at (state_of m) height, m)
ask m (requests.Row height hash) = (row_at (state_of m) height hash, m)
ask m (requests.Payees height count) = (payees_at (state_of m) height count, m)
ask m (requests.Members kind base) = (members_at (state_of m) kind base, m)
ask m (requests.Quorums height) = (quorums_at (state_of m) height, m)
ask m (requests.Pin height) = shortly (pin m height)
ask m (requests.Page number from count) = (page (state_of m) number from count, m)
ask m (requests.Release number) = shortly (release m number)
ask m (requests.Diff base block) = (diff (state_of m) base block, m)

-- ---- frames

-- what is answered to a body that departs at a place: the frame's kind and length stand before it
abbrev pub departs_at : ℕ → Answer
departs_at place = Short (short.BadRequest (HEAD + place))

-- the answer to a body that is read, or departs
abbrev pub asked_by : Machine → Result Request Departure → Answer × Machine
asked_by m (Ok request) = ask m request
asked_by m (Err departure) = (departs_at (place_of departure), m)

-- the frame's kind is unknown
abbrev pub unknown : Answer
unknown = Short (short.BadRequest 0)

unfoldable pub asked_kind : Machine → Option Kind → List ℕ → Answer × Machine
asked_kind m None body = (unknown, m)
asked_kind m (Some kind) body = asked_by m (request_of kind body)

-- the answer to a frame whose body has this length; one that is too long is not looked at
unfoldable pub answered : Machine → ℕ → ℕ → List ℕ → Answer × Machine
answered m kind size body = if nat_lt LONGEST_BODY size then (Short (short.BadRequest 1), m) else asked_kind m (kind_of kind) body

abbrev pub answer_of : Machine → ℕ → List ℕ → Answer × Machine
answer_of m kind body = answered m kind (length body) body
