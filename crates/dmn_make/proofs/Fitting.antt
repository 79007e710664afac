-- The room that a run takes, over a station that tells how much is left for sending, and how long its files may be.
use Rattle.std.proofs.Common.{◌≡◌, ℕ, ◌+◌, ◌≤◌, Bool, true, false, List, [], ◌∷◌, ◌++◌, length, nat_lt, if◌then◌else◌, replicate, inr, refl, sym, ap, subst, ◌∙◌, arith, length-append}
use Rattle.std.specs.Prelude.{Option, None, Some, Result, Ok, Err}
use Rattle.std.specs.Int.{w32, to_le_bytes}
use Rattle.dmn_block.specs.Body.{connect_body}
use Rattle.dmn_block.specs.Frames.{frame_of}
use Rattle.dmn_block.specs.declared.body.ConnectBody.{ConnectBody}
use Rattle.dmn_block.specs.declared.frame.BlockFrame.{BlockFrame}
use Rattle.dmn_bytes.specs.Format.{◌>>=◌}
use Rattle.dmn_bytes.specs.declared.fault.Departure.{Departure}
use Rattle.dmn_bytes.specs.declared.fault.Departure.TheVariants.{Form}
use Rattle.dmn_desk.specs.Asked.{HasRoom, entry_by}
use Rattle.dmn_desk.specs.Requests.{request_of}
use Rattle.dmn_desk.specs.declared.kind.Kind.TheVariants as kinds
use Rattle.dmn_desk.specs.declared.request.Request.{Request}
use Rattle.dmn_desk.specs.declared.request.Request.TheVariants as requests
use Rattle.dmn_generator.specs.Blocks.{body_of, start}
use Rattle.dmn_generator.specs.declared.blocks.Place.{Place}
use Rattle.dmn_journal.specs.Create.{IsBlank}
use Rattle.dmn_journal.specs.Journal.{Entry, blocks, entry_text, gate_place, header_text, journal_text, size_of_record}
use Rattle.dmn_journal.specs.Sure.{NeverFails}
use Rattle.dmn_journal.specs.declared.fault.JournalFault.{JournalFault}
use Rattle.dmn_journal.specs.declared.fault.JournalFault.TheVariants as journals
use Rattle.dmn_office.specs.declared.office.Office.{Office}
use Rattle.dmn_outside.specs.Disk.{DiskView, IfReads, Told, contents, has_contents, nothing, whole}
use Rattle.dmn_outside.specs.Failing.{KeepsDisk, LacksRoom}
use Rattle.dmn_outside.specs.Line.{LineView}
use Rattle.dmn_quorums.specs.Forming.{Formed}
use Rattle.dmn_registry.specs.Machine.{Machine, connecting}
use Rattle.dmn_registry.specs.Snapshots.{HasRoomForSnapshot, SnapshotsFit}
use Rattle.dmn_rows.specs.Defs.{start_text}
use Rattle.dmn_rows.specs.declared.start.StartRecord.{StartRecord}
use Rattle.dmn_status.specs.declared.status.Status.{Status}
use Rattle.dmn_status.specs.declared.status.Status.TheVariants as statuses
use Rattle.dmn_make.specs.Asking.{Stands, fault_of}
use Rattle.dmn_make.specs.Going.{beginning, formed_for, place_of}
use Rattle.dmn_make.specs.Room.{EndsSurely, HasPlace, HasPlaceForBlock, HasRoomForAll}
use Rattle.dmn_make.specs.Starting.{HasMade}
use Rattle.dmn_make.specs.Steps.{adds, all_steps}
use Rattle.dmn_make.specs.Text.{make_text}
use Rattle.dmn_make.specs.declared.fault.MakeFault.{MakeFault}
use Rattle.dmn_make.specs.declared.fault.MakeFault.TheVariants as faults
use Rattle.dmn_make.specs.declared.step.Chain.{Chain}
use Rattle.dmn_make.specs.declared.step.Chain.TheVariants.{First, Fork}
use Rattle.dmn_make.specs.declared.step.Step.{Step}
use Rattle.dmn_make.specs.declared.step.Step.TheVariants.{Add, Pin, TakeBack, Tell}

-- ---- a disk that is kept

pub disk_then : (d e f : DiskView) → KeepsDisk d e → KeepsDisk e f → KeepsDisk d f
disk_then d e f k l = record { room = l.room ∙ k.room; faults = l.faults ∙ k.faults }

pub never_then : {T E : Type 0} (r : Result T E) (fault : E) (d e f : DiskView) → KeepsDisk d e → NeverFails r fault e f → NeverFails r fault d f
never_then r fault d e f kept never = record { disk = disk_then d e f kept never.disk; answer = never.answer }

pub never_ok : {T E : Type 0} (value : T) (fault : E) (d e : DiskView) → KeepsDisk d e → NeverFails {T = T} (Ok value) fault d e
never_ok value fault d e kept = record { disk = kept; answer = λ is. absurd (cc is) }

same_fault : {T E : Type 0} (e fault : E) → ◌≡◌ {A = Result T E} (Err e) (Err fault) → e ≡ fault
same_fault e fault is = cc is

-- a fault of a part is one of the whole
pub never_err : {S T E : Type 0} (e fault : E) (d f : DiskView) → NeverFails {T = S} (Err e) fault d f → NeverFails {T = T} (Err e) fault d f
never_err {S = S} {T = T} {E = E} e fault d f never = record { disk = never.disk; answer = λ is. never.answer (ap (λ (x : E). Err x) (same_fault {T = T} e fault is)) }

no_fault : {S T : Type 0} (fault : JournalFault) (d e : DiskView) → NeverFails {T = S} (Err fault) journals.DiskFault d e → NeverFails {T = T} (Err (fault_of fault)) faults.DiskFault d e
no_fault journals.Memory d e never = record { disk = never.disk; answer = λ is. cc }
no_fault journals.DiskFault d e never = absurd (never.answer refl)
no_fault (journals.NotJournal place) d e never = record { disk = never.disk; answer = λ is. cc }

-- nor is a fault of an opening one of the disk
pub never_opened : {S T : Type 0} (fault : JournalFault) (given : MakeFault) (d e : DiskView) → given ≡ fault_of fault → NeverFails {T = S} (Err fault) journals.DiskFault d e → NeverFails {T = T} (Err given) faults.DiskFault d e
never_opened {T = T} fault given d e is never = subst (λ (f : MakeFault). NeverFails {T = T} (Err f) faults.DiskFault d e) (sym is) (no_fault fault d e never)

-- ---- the journal's text

blocks_more : (entries : List Entry) (entry : Entry) → length (blocks (entries ++ entry ∷ [])) ≡ length (blocks entries) + size_of_record entry
blocks_more [] entry = omega (arith, length-append (entry_text entry) [], length-append (to_le_bytes w32 (length entry.body + 1)) (entry.kind ∷ entry.body))
blocks_more (e ∷ entries) entry = omega (arith, blocks_more entries entry, length-append (entry_text e) (blocks (entries ++ entry ∷ [])), length-append (entry_text e) (blocks entries))

-- with one command more
journal_long : (m : Machine) (entry : Entry) → length (journal_text m.start (m.commands ++ entry ∷ [])) ≡ gate_place (header_text m.start) m.commands + 1 + size_of_record entry
journal_long m entry =
    omega (arith, blocks_more m.commands entry, length-append (header_text m.start ++ blocks (m.commands ++ entry ∷ [])) (0 ∷ []), length-append (header_text m.start) (blocks (m.commands ++ entry ∷ [])), length-append (header_text m.start) (blocks m.commands))

-- without commands it is shorter
begun_long : (s : StartRecord) (entry : Entry) (room : ℕ) → length (journal_text s (entry ∷ [])) ≤ room → 13 + length (start_text s) ≤ room
begun_long s entry room fits =
    omega (arith, fits, length-append (header_text s ++ blocks (entry ∷ [])) (0 ∷ []), length-append (header_text s) (blocks (entry ∷ [])), length-append (to_le_bytes w32 (length (start_text s))) (start_text s))

-- ---- a request

place_has : (m : Machine) (found : Option Entry) (end room : ℕ) → end ≡ gate_place (header_text m.start) m.commands → HasPlace m found room → HasRoom found end room
place_has m None end room is place = tt
place_has m (Some entry) end room is place = omega (arith, place, journal_long m entry, is)

pub holds_entry : (office : Office) (m : Machine) (told : Told) (found : Option Entry) (room : ℕ) → Stands office m told → HasPlace m found room → HasRoom found office.registry.journal.end room
holds_entry office m told found room stands place = place_has m found office.registry.journal.end room stands.at.registry.registry_stands.end place

pub holds_snapshot : (office : Office) (m : Machine) (told : Told) (room : ℕ) → Stands office m told → SnapshotsFit m room → HasRoomForSnapshot office.registry room
holds_snapshot office m told room stands fits = (m, stands.at.registry.registry_stands, fits)

entry_test : (b : Bool) (d : Departure) (v : BlockFrame) (body : List ℕ) (request : Request) → if◌then◌else◌ {A = Result Request Departure} b (Err d) (Ok (requests.Connect v body)) ≡ Ok request → entry_by request ≡ Some (connecting body)
entry_test true d v body request is = absurd (cc is)
entry_test false d v body request is = let same : requests.Connect v body ≡ request = cc is in sym (ap entry_by same)

entry_made : (r : Result (ConnectBody × ℕ) Departure) (n : ℕ) (body : List ℕ) (request : Request) → (r >>= λ x. if nat_lt x.1 n then Err (Form x.1) else Ok (requests.Connect (frame_of x.0) body)) ≡ Ok request → entry_by request ≡ Some (connecting body)
entry_made (Ok x) n body request is = entry_test (nat_lt x.1 n) (Form x.1) (frame_of x.0) body request is
entry_made (Err d) n body request is = absurd (cc is)

-- the journal keeps the body that a block's request was read from
entry_read : (body : List ℕ) (request : Request) → request_of kinds.Connect body ≡ Ok request → entry_by request ≡ Some (connecting body)
unfolding request_of
entry_read body request is = entry_made (connect_body.parse body 0) (length body) body request is

pub place_read : (m : Machine) (body : List ℕ) (request : Request) (room : ℕ) → request_of kinds.Connect body ≡ Ok request → HasPlace m (Some (connecting body)) room → HasPlace m (entry_by request) room
place_read m body request room is place = subst (λ (found : Option Entry). HasPlace m found room) (sym (entry_read body request is)) place

-- ---- a block

pub place_drafted : (count : ℕ) (chain : Chain) (height : ℕ) (m : Machine) (room : ℕ) (place : Place) (known : List Formed) → place ≡ place_of chain m height → known ≡ formed_for m height
    → HasPlaceForBlock (body_of count (place_of chain m height) (formed_for m height)) m room → HasPlaceForBlock (body_of count place known) m room
place_drafted count chain height m room place known at formed has =
    subst (λ (k : List Formed). HasPlaceForBlock (body_of count place k) m room) (sym formed) (subst (λ (p : Place). HasPlaceForBlock (body_of count p (formed_for m height)) m room) (sym at) has)

-- ---- all steps

-- the steps behind the first
abbrev behind_first : List Step
behind_first = adds First 577 599 ++ Pin 1175 ∷ Tell 0 ∷ (replicate 40 TakeBack ++ (adds Fork 1136 40 ++ Tell 100 ∷ []))

first_step : all_steps ≡ Add First 576 ∷ behind_first
unfolding all_steps
first_step = refl

-- the journal with the first block has room, and so one without commands
pub begins : (count room : ℕ) → HasRoomForAll count all_steps beginning room → 13 + length (start_text start) ≤ room
begins count room enough = begun_long start _ room (enough [] (Add First 576) behind_first first_step).journal.zeros

pub all_same : (count n : ℕ) (steps : List Step) (a b : ℕ) → n ≡ count → steps ≡ all_steps → b ≡ a → HasRoomForAll count all_steps beginning a → HasRoomForAll n steps beginning b
all_same count n steps a b counts is room enough =
    subst (λ (k : ℕ). HasRoomForAll k steps beginning b) (sym counts) (subst (λ (l : List Step). HasRoomForAll count l beginning b) (sym is) (subst (λ (k : ℕ). HasRoomForAll count all_steps beginning k) (sym room) enough))

-- ---- how a run ends

never_both : (told : Told) → has_contents told ≡ true → IfReads told (λ all. IsBlank all.zeroth → ⊥) → IfReads told (λ all. IsBlank all.zeroth) → ⊥
never_both nothing known filled blank = absurd (cc known)
never_both (contents c) known filled blank = filled blank
never_both (whole w) known filled blank = filled blank

-- where no journal was made
pub ends_unmade : (status : Status) (before after : DiskView) (old new : LineView) → has_contents before.told ≡ true → HasMade {T = Unit {0}} (Err status) before after → NeverFails {T = Unit {0}} (Err status) statuses.DiskFault before after → new ≡ old → EndsSurely status before after old new
ends_unmade statuses.AlreadyInit before after old new known made never same = record {
  never = record { disk = never.disk; line = ap (λ (v : LineView). v.faults) same; no_disk_fault = λ e. cc; no_line_fault = λ e. cc };
  well = λ blank. absurd (never_both before.told known made.0 blank);
}
ends_unmade statuses.Memory before after old new known made never same = record {
  never = record { disk = never.disk; line = ap (λ (v : LineView). v.faults) same; no_disk_fault = λ e. cc; no_line_fault = λ e. cc };
  well = λ blank. inr refl;
}
ends_unmade statuses.DiskFault before after old new known made never same = absurd (never.answer refl)
ends_unmade statuses.Done before after old new known made never same = absurd made
ends_unmade statuses.LineFault before after old new known made never same = absurd made
ends_unmade statuses.Words before after old new known made never same = absurd made
ends_unmade (statuses.NotJournal place) before after old new known made never same = absurd made
ends_unmade (statuses.StartForm place) before after old new known made never same = absurd made
ends_unmade statuses.CutInput before after old new known made never same = absurd made
ends_unmade statuses.Enough before after old new known made never same = absurd made

-- the text has room
pub text_fits : (count size p q after : ℕ) (text : List ℕ) (x y : LineView) → size ≡ length text → text ≡ make_text count → q ≡ p → length (make_text count) ≤ p → LacksRoom size q after x y → ⊥
text_fits count size p q after text x y long is same enough lacks = omega (arith, long, ap length is, same, enough, lacks.lacks)
