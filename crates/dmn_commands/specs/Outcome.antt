-- What a run has read, written and sent, by its command. Of a station each command sees what is told of its disk and its line
-- before and behind the run, and when the run began and ended.
use Rattle.std.specs.Prelude.{◌≡◌, ◌⊎◌, ℕ, ◌+◌, ◌≤◌, Bool, true, List, length}
use Rattle.dmn_outside.specs.Changes.{OnlyReads}
use Rattle.dmn_outside.specs.Counts.{Rose}
use Rattle.dmn_outside.specs.Crashes.{IsKnown, LeavesOnly}
use Rattle.dmn_outside.specs.Disk.{DiskView, IfReads}
use Rattle.dmn_outside.specs.Later.{IsLater}
use Rattle.dmn_outside.specs.Line.{LineView}
use Rattle.dmn_journal.specs.Create.{IsBlank, IsBlankDisk}
use Rattle.dmn_frames.specs.Frames.{Cuts, Frame}
use Rattle.dmn_registry.specs.Audits.{audit_of}
use Rattle.dmn_registry.specs.Machine.{Machine, at_rest}
use Rattle.dmn_registry.specs.Opening.{HasTrueSlot, Reading}
use Rattle.dmn_registry.specs.Own.{IsOwn}
use Rattle.dmn_rows.specs.Defs.{IsStartText}
use Rattle.dmn_rows.specs.declared.start.StartRecord.{StartRecord}
use Rattle.dmn_init.specs.Init as inits
use Rattle.dmn_feed.specs.Laws as feed_laws
use Rattle.dmn_feed.specs.Outcome as feeds
use Rattle.dmn_feed.specs.Room as feed_room
use Rattle.dmn_feed.specs.Stamps.{SentInTurns}
use Rattle.dmn_audit.specs.Outcome as audits
use Rattle.dmn_audit.specs.Text.{audit_text}
use Rattle.dmn_light.specs.Laws as client_laws
use Rattle.dmn_light.specs.Outcome as clients
use Rattle.dmn_light.specs.Room as client_room
use Rattle.dmn_make.specs.Outcome as makes
use Rattle.dmn_make.specs.Room as make_room
use Rattle.dmn_serve.specs.Outcome as serves
use Rattle.dmn_serve.specs.Passing.{IsPassing}
use Rattle.dmn_serve.specs.Room as serve_room
use Rattle.dmn_status.specs.declared.status.Status.{Status}
use Rattle.dmn_status.specs.declared.status.Status.TheVariants as statuses
use Rattle.dmn_commands.specs.declared.command.Command.{Command}
use Rattle.dmn_commands.specs.declared.command.Command.TheVariants.{Audit, Client, Feed, Init, Make, Serve}

-- a run over a station: whether it tells its contents, their moments, and its room; how many bytes more could be sent when it
-- began; when it began and ended; the disk and the line before and behind it
pub record Run : Type 0 where
  pub tells : Bool
  pub stamped : Bool
  pub tells_room : Bool
  pub room : ℕ
  pub started : ℕ
  pub ended : ℕ
  pub before : DiskView
  pub behind : DiskView
  pub old : LineView
  pub new : LineView

-- no count of faults rose
pub record IsCalm (run : Run) : Type 0 where
  pub disk : ¬ Rose run.before.faults run.behind.faults
  pub line : ¬ Rose run.old.faults run.new.faults

-- `init`: a registry is made of the start record that is the input.
pub record RunsInit (status : Status) (run : Run) : Type 0 where
  pub ends : inits.OfInit status
  -- what was read and made
  pub outcome : run.tells ≡ true → inits.Inits status run.before run.behind run.old.talk run.new.talk
  -- what comes before the first write leaves the files
  pub unwritten : inits.ComesBefore status → OnlyReads run.before run.behind
  -- where each image was blank, a crash at any moment leaves a blank one, or one that is own with the input's start record
  pub moments : IsBlankDisk run.before.told → LeavesOnly run.started run.before run.behind (inits.IsBlankOrMade run.tells run.old.talk.left)
  -- on a blank disk, with a start record, the end is Done or Memory
  pub complete : run.tells ≡ true → IfReads run.before.told (λ all. IsBlank all.zeroth) → (start : StartRecord) → IsStartText run.old.talk.left start → IsCalm run → inits.EndsWell status
  -- where a file may be as long as the journal, no count of faults rises
  pub sure : run.tells ≡ true → run.tells_room ≡ true → 13 + length run.old.talk.left ≤ run.before.room → inits.NeverFaults status run.before run.behind run.old run.new

-- `feed`: frames are answered over the registry of the disk.
pub record RunsFeed (status : Status) (run : Run) : Type 0 where
  pub ends : feeds.OfFeed status
  -- On a disk at rest whose image is own: each answer that was sent is the one that replay of the accepted commands gives, or
  -- Memory; since each answer's send each image of a crash has its command; and since the start each image is own, with the
  -- commands of before and then some front of those that were accepted.
  pub outcome : run.tells ≡ true → (m : Machine) → IsKnown (IsOwn m) run.before.told → feeds.Outcome status run.stamped run.started (at_rest m) run.before run.behind run.old run.new
  -- Done, CutInput and Enough come only where the text's frames say so
  pub exact : run.tells ≡ true → (frames : List Frame) (left : List ℕ) → Cuts run.old.talk.left frames left → feed_laws.EndsExactly status frames left
  -- on a disk at rest whose image is own the run ends as its frames say, or with Memory
  pub complete : run.tells ≡ true → (m : Machine) → IsKnown (IsOwn m) run.before.told → IsCalm run → (frames : List Frame) (left : List ℕ) → Cuts run.old.talk.left frames left → (status ≡ feed_laws.status_of frames left) ⊎ (status ≡ statuses.Memory)
  -- where the newest slot is true of file 0: frames are answered only where this is a journal image, and NotJournal tells where it
  -- departs from one
  pub opens : Reading HasTrueSlot run.before.told → feeds.OpensOn status run.before.told
  -- whatever the slots hold, NotJournal comes only for a cause that is in the file
  pub cause : feeds.StopsFor status run.before.told
  -- NotJournal and Memory come before anything is taken or sent
  pub unserved : ¬ feeds.IsRunning status → run.new ≡ run.old
  -- answers are sent turn by turn, each behind the moment at which its turn began
  pub in_turns : run.tells ≡ true → run.stamped ≡ true → SentInTurns run.started run.ended run.old run.new
  -- where there is room for whatever may be answered and kept, no count of faults rises, and the run ends as its frames say, or
  -- with Memory
  pub sure : run.tells ≡ true → run.tells_room ≡ true → (m : Machine) → IsKnown (IsOwn m) run.before.told → feed_room.Suffices (at_rest m) run.room run.before.room run.old.talk.left → feed_room.EndsSurely status run.old run.new run.before run.behind

-- `audit`: the journal is replayed, and what it leads to is sent.
pub record RunsAudit (status : Status) (run : Run) : Type 0 where
  pub ends : audits.OfAudit status
  -- the text of the machine of file 0 was sent, or nothing where that departs from a journal image
  pub outcome : run.tells ≡ true → audits.SendsAudit status run.before.told run.old.talk run.new.talk
  -- on a disk at rest whose image is own it is the text of the machine that is recovered from it, and nothing departs
  pub own : run.tells ≡ true → (m : Machine) → IsKnown (IsOwn m) run.before.told → audits.SendsOwn status m run.old.talk run.new.talk
  -- and the end is Done or Memory
  pub complete : (m : Machine) → IsKnown (IsOwn m) run.before.told → IsCalm run → audits.EndsWell status
  -- where there is room for that text, no count of faults rises
  pub sure : (m : Machine) → IsKnown (IsOwn m) run.before.told → run.tells_room ≡ true → length (audit_text (audit_of m)) ≤ run.room → audits.NeverFaults status run.before run.behind run.old run.new
  pub disk : OnlyReads run.before run.behind

-- `client`: frames are answered by a light client.
pub record RunsClient (status : Status) (run : Run) : Type 0 where
  pub ends : clients.IsEnding status
  -- each answer that was sent is the client's, or Memory
  pub outcome : run.tells ≡ true → clients.Outcome status run.old.talk run.new.talk
  -- Done, CutInput and Enough come only where the text's frames say so, and where no count rose one of them comes
  pub exact : run.tells ≡ true → (frames : List Frame) (left : List ℕ) → Cuts run.old.talk.left frames left → client_laws.EndsExactly status frames left
  pub complete : run.tells ≡ true → IsCalm run → (frames : List Frame) (left : List ℕ) → Cuts run.old.talk.left frames left → status ≡ client_laws.ending_of frames left
  -- where there is room for whatever may be answered, no count of faults rises, and the run ends as its frames say
  pub sure : run.tells ≡ true → run.tells_room ≡ true → client_room.Suffices run.room run.old.talk.left → client_room.EndsSurely status run.old run.new
  -- no call of the disk is made
  pub disk : run.behind ≡ run.before

-- `serve`: callers are served over HTTP by the registry of the disk.
pub record RunsServe (most : ℕ) (status : Status) (run : Run) : Type 0 where
  pub ends : serves.OfServe status
  -- On a disk at rest whose image is own: each caller was sent the reply of the machine to its bytes, or the 503 of Memory, or
  -- was given up where its line failed; since each reply's send each image of a crash has its command; and since the start each
  -- image is own, with the commands of before and then some front of those that were accepted.
  pub outcome : run.tells ≡ true → (m : Machine) → IsKnown (IsOwn m) run.before.told → serves.Outcome status most run.stamped run.started (at_rest m) run.before run.behind run.old run.new
  -- Done and LineFault come only where as many callers came as they say
  pub exact : run.tells ≡ true → serves.EndsExactly status most run.old.talk run.new.talk
  -- on a disk at rest whose image is own, where no count of the disk's or of callers' faults rose, the run ends with Done or Memory
  pub complete : run.tells ≡ true → (m : Machine) → IsKnown (IsOwn m) run.before.told → ¬ Rose run.before.faults run.behind.faults → ¬ Rose run.old.caller_faults run.new.caller_faults → (status ≡ statuses.Done) ⊎ (status ≡ statuses.Memory)
  -- where the newest slot is true of file 0: callers are served only where this is a journal image, and NotJournal tells where it
  -- departs from one
  pub opens : Reading HasTrueSlot run.before.told → serves.OpensOn status run.before.told
  -- whatever the slots hold, NotJournal comes only for a cause that is in the file
  pub cause : serves.StopsFor status run.before.told
  -- NotJournal and Memory come before a caller is taken
  pub unserved : ¬ serves.IsRunning status → run.new ≡ run.old
  -- where there is room for whatever may be sent to callers and kept, no count of faults rises, and all callers are served whole,
  -- or the run ends with Memory
  pub sure : run.tells ≡ true → run.tells_room ≡ true → (m : Machine) → IsKnown (IsOwn m) run.before.told → serve_room.Suffices (at_rest m) most run.room run.before.room run.old.talk.later → serve_room.EndsSurely status run.old run.new run.before run.behind

-- `make`: a registry is made, the stream that anybody can make again is run through it, and a summary is sent.
pub record RunsMake (count : ℕ) (status : Status) (run : Run) : Type 0 where
  pub ends : makes.OfMake status
  -- the text of the run was sent, and the journal of its commands is on the disk; or nothing was sent
  pub outcome : run.tells ≡ true → makes.Makes status count run.before run.behind run.old.talk run.new.talk
  -- where file 0 is not blank nothing is written
  pub kept : Reading (λ all. IsBlank all.zeroth → ⊥) run.before.told → OnlyReads run.before run.behind
  -- where each image was blank, a crash at any moment leaves a blank one, or one that is own with a front of the run's commands
  pub moments : run.tells ≡ true → IsBlankDisk run.before.told → LeavesOnly run.started run.before run.behind (makes.IsOfRun count)
  -- on a blank disk the end is Done or Memory
  pub complete : run.tells ≡ true → IfReads run.before.told (λ all. IsBlank all.zeroth) → IsCalm run → makes.EndsWell status
  -- where there is room for the text, and before each step for the journal with what it asks for and for a snapshot, no count of
  -- faults rises, and on a blank disk the end is Done or Memory
  pub sure : run.tells ≡ true → run.tells_room ≡ true → make_room.Suffices count run.room run.before.room → make_room.EndsSurely status run.before run.behind run.old run.new

abbrev pub Runs : Command → Status → Run → Type 0
Runs Init status run = RunsInit status run
Runs Feed status run = RunsFeed status run
Runs Audit status run = RunsAudit status run
Runs Client status run = RunsClient status run
Runs (Serve callers) status run = RunsServe callers status run
Runs (Make count) status run = RunsMake count status run

-- What holds of the line besides its bytes: no count falls, time doesn't, and each byte that is sent has a moment of the run. But
-- for `serve`, the count of callers' faults is as before, and only the caller that was there was sent something.
abbrev pub Passes : Command → Bool → ℕ → ℕ → LineView → LineView → Type 0
Passes (Serve callers) stamped from to old new = IsPassing stamped from to old new
Passes command stamped from to old new = IsLater stamped from to old new

-- the count of faults for which LineFault stands
abbrev pub count_by : Command → LineView → ℕ
count_by (Serve callers) line = line.caller_faults
count_by command line = line.faults
