-- What a desk answers: what is defined, or want of memory, which is free for most requests; and what a crash leaves meanwhile.
use Rattle.std.specs.Prelude.{◌≡◌, ◌⊎◌, ℕ, ◌+◌, ◌≤◌, Bool, false, List, Option, None, Some, Result, Ok, Err}
use Rattle.dmn_branch.specs.Stands as branches
use Rattle.dmn_branch.specs.Stands.{Keeping}
use Rattle.dmn_journal.specs.Journal.{Entry, size_of_record}
use Rattle.dmn_outside.specs.declared.device.DiskFault.{DiskFault}
use Rattle.dmn_outside.specs.Disk.{DiskView, IfReads, Three, Told}
use Rattle.dmn_outside.specs.Failing.{KeepsDisk}
use Rattle.dmn_registry.specs.declared.registry.Registry.{Registry}
use Rattle.dmn_registry.specs.Machine.{Machine, connecting, disconnecting, state_of}
use Rattle.dmn_registry.specs.Own.{IsOwn, OwnWith, StandsOn}
use Rattle.dmn_registry.specs.Snapshots.{moved}
use Rattle.dmn_slots.specs.Slots.{records_of}
use Rattle.dmn_desk.specs.declared.answer.Answer.{Answer}
use Rattle.dmn_desk.specs.declared.answer.Answer.TheVariants.{Short}
use Rattle.dmn_desk.specs.declared.answer.ShortAnswer.TheVariants as short
use Rattle.dmn_desk.specs.declared.desk.Desk.{Desk}
use Rattle.dmn_desk.specs.declared.request.Request.{Request}
use Rattle.dmn_desk.specs.declared.request.Request.TheVariants.{Connect, Disconnect}
use Rattle.dmn_desk.specs.Ask.{ask}
use Rattle.dmn_desk.specs.Kept.{IsTrueTo}
use Rattle.dmn_desk.specs.Kinds.{takes_no_memory}
use Rattle.dmn_desk.specs.Requests.{kind_by}

-- The answer that is defined, with what stands after it; or Memory, where that may be wanted, and nothing changed.
abbrev pub OrMemory : {A M : Type 0} → A → Bool → A × M → M → A → M → Type 0
OrMemory lack never defined m answer n = (defined ≡ (answer, n)) ⊎ ((never ≡ false) × (answer ≡ lack) × (n ≡ m))

-- the machine's answer to the request, with the machine after it; or Memory, where the request may want that, and nothing changed
abbrev pub MayAnswer : Machine → Request → Answer → Machine → Type 0
MayAnswer m request answer n = OrMemory (Short short.Memory) (takes_no_memory (Some (kind_by request))) (ask m request) m answer n

-- What a desk answers to the request, over a registry that stands for a machine on a disk, where the desk is true to that machine;
-- and for which machine the registry then stands, to which the desk is true too. After a disk fault nothing is said of both.
abbrev pub Answers : Request → Result Answer DiskFault → Desk → Desk → Registry → Registry → Told → Told → Type 0
Answers request (Ok answer) desk next old new before after =
    (m : Machine) → StandsOn old m before → IsTrueTo desk (state_of m) → (n : Machine) × StandsOn new n after × IsTrueTo next (state_of n) × MayAnswer m request answer n
Answers request (Err fault) desk next old new before after = Unit {0}

-- ---- the disk

-- what the journal keeps of a request, where it is accepted
abbrev pub entry_by : Request → Option Entry
entry_by (Connect block body) = Some (connecting body)
entry_by (Disconnect hash) = Some (disconnecting hash)
entry_by request = None

-- an own image of the machine; where an entry may be added, with it or without
abbrev pub MayHold : Machine → Option Entry → Three (List ℕ) → Type 0
MayHold m None image = IsOwn m image
MayHold m (Some entry) image = OwnWith m entry image

-- the entry's record fits behind a journal that ends here, in files that may be so long
abbrev pub HasRoom : Option Entry → ℕ → ℕ → Type 0
HasRoom None end room = Unit {0}
HasRoom (Some entry) end room = end + 1 + size_of_record entry ≤ room

-- Where the newest slot stands behind a block: one that is added finds a snapshot written where one was due, and one that is not
-- leaves the slots. Without memory, or after a disk fault, nothing is said of it.
abbrev pub MarksBlock : Result Answer DiskFault → Machine → Registry → Registry → Told → Type 0
MarksBlock (Ok (Short (short.Connected height hash))) m old new told = records_of new.newest ≡ moved m old
MarksBlock (Ok (Short short.Memory)) m old new told = Unit {0}
MarksBlock (Ok answer) m old new told = IfReads told (λ all. new.newest ≡ old.newest)
MarksBlock (Err fault) m old new told = Unit {0}

-- and behind any request
abbrev pub Marks : Request → Result Answer DiskFault → Machine → Registry → Registry → Told → Type 0
Marks (Connect block body) r m old new told = MarksBlock r m old new told
Marks request r m old new told = new.newest ≡ old.newest

-- every answer but that to a command which is accepted
abbrev pub IsIdle : Result Answer DiskFault → Type 0
IsIdle (Ok (Short (short.Connected height hash))) = ⊥
IsIdle (Ok (Short (short.Disconnected height hash))) = ⊥
IsIdle (Ok answer) = Unit {0}
IsIdle (Err fault) = ⊥

-- no disk fault is answered, and the disk counts none
abbrev pub AnswersSurely : Result Answer DiskFault → DiskView → DiskView → Type 0
AnswersSurely (Ok answer) old new = KeepsDisk old new
AnswersSurely (Err fault) old new = ⊥

-- a question is answered, or there was no memory for that
abbrev pub TellsOrLacks : Request → Answer → Desk → Keeping → Type 0
TellsOrLacks request answer desk branch = (m : Machine) → branches.StandsFor branch (state_of m) → IsTrueTo desk (state_of m) → MayAnswer m request answer m
