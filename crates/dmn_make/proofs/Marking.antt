-- Where the newest slot stands behind a request, by the commands alone.
use Rattle.std.proofs.Common.{◌≡◌, ℕ, ◌+◌, Bool, true, false, List, [], ◌∷◌, ◌++◌, length, nat_lt, if◌then◌else◌, refl, sym, ap, subst, ◌∙◌, arith}
use Rattle.std.specs.Prelude.{Option, None, Some, Result, Ok, Err, is_some}
use Rattle.dmn_block.specs.declared.frame.BlockFrame.{BlockFrame}
use Rattle.dmn_block.specs.declared.refusal.Refusal.{Refusal}
use Rattle.dmn_branch.specs.Machine as blocks
use Rattle.dmn_branch.specs.Machine.{MachineState, is_held, low, tip}
use Rattle.dmn_branch.specs.Pins.{free_number, pin_of}
use Rattle.dmn_branch.specs.declared.fault.DisconnectRefusal.{DisconnectRefusal}
use Rattle.dmn_bytes.specs.declared.hash.Hash256.{Hash256}
use Rattle.dmn_desk.specs.Ask.{ask, connect, connected, disconnect, disconnected, pin, pinned_by, release, shortly}
use Rattle.dmn_desk.specs.Asked.{Marks, MarksBlock}
use Rattle.dmn_desk.specs.declared.answer.Answer.{Answer}
use Rattle.dmn_desk.specs.declared.answer.Answer.TheVariants.{Short}
use Rattle.dmn_desk.specs.declared.answer.ShortAnswer.TheVariants as short
use Rattle.dmn_desk.specs.declared.request.Request.{Request}
use Rattle.dmn_desk.specs.declared.request.Request.TheVariants as requests
use Rattle.dmn_journal.specs.Journal.{Entry, journal_text}
use Rattle.dmn_outside.specs.Disk.{IfReads, Told, contents, has_contents, nothing, whole}
use Rattle.dmn_registry.specs.Faithful.{every}
use Rattle.dmn_registry.specs.Machine as registries
use Rattle.dmn_registry.specs.Machine.{Denial, Machine, answered, by_rules, connecting, disconnecting, full, journal_max, state_of, with_entry}
use Rattle.dmn_registry.specs.Snapshots.{moved}
use Rattle.dmn_registry.specs.declared.registry.Registry.{Registry}
use Rattle.dmn_slots.specs.Slots.{records_of}
use Rattle.dmn_make.specs.Text.{mark_from, mark_of, mark_with}

-- ---- one command more

snoc_mark : (every mark place : ℕ) (entries : List Entry) (entry : Entry) → mark_from every mark place (entries ++ entry ∷ []) ≡ mark_with every (mark_from every mark place entries) (place + length entries) entry
snoc_mark every mark place [] entry = let same : place ≡ place + 0 = omega arith in ap (λ (p : ℕ). mark_with every mark p entry) same
snoc_mark every mark place (e ∷ entries) entry =
    let same : (place + 1) + length entries ≡ place + length (e ∷ entries) = omega arith in
    snoc_mark every (mark_with every mark place e) (place + 1) entries entry
    ∙ ap (λ (p : ℕ). mark_with every (mark_from every (mark_with every mark place e) (place + 1) entries) p entry) same

mark_more : (m : Machine) (entry : Entry) → mark_of (with_entry m entry) ≡ mark_with (every m.start) (mark_of m) (length m.commands) entry
unfolding mark_of
mark_more m entry = let same : 0 + length m.commands ≡ length m.commands = omega arith in snoc_mark (every m.start) 0 0 m.commands entry ∙ ap (λ (p : ℕ). mark_with (every m.start) (mark_from (every m.start) 0 0 m.commands) p entry) same

-- pins move nothing
mark_pinned : (m n : Machine) → n.start ≡ m.start → n.commands ≡ m.commands → mark_of n ≡ mark_of m
unfolding mark_of
mark_pinned m n start commands = rw (start, commands) refl

-- ---- what is accepted is the last command then

taken_if : {R : Type 0} (b : Bool) (k n : Machine) → if◌then◌else◌ {A = Result Machine (Denial R)} b (Err full) (Ok k) ≡ Ok n → n ≡ k
taken_if true k n is = absurd (cc is)
taken_if false k n is = cc

pub taken_is : {R : Type 0} (m : Machine) (entry : Entry) (r : Result MachineState R) (n : Machine) → answered m entry r ≡ Ok n → n ≡ with_entry m entry
taken_is {R = R} m entry (Ok s) n is = taken_if (nat_lt (journal_max m.start) (length (journal_text m.start (m.commands ++ entry ∷ [])))) (with_entry m entry) n is
taken_is {R = R} m entry (Err refusal) n is = absurd (cc is)

-- ---- by the answer

told_mark : (told : Told) (a b : Registry) → has_contents told ≡ true → IfReads told (λ all. b.newest ≡ a.newest) → b.newest ≡ a.newest
told_mark nothing a b known same = absurd (cc known)
told_mark (contents c) a b known same = same
told_mark (whole w) a b known same = same

module _ (m : Machine) (old new : Registry) (records : old.journal.records ≡ length m.commands) (mark : records_of old.newest ≡ mark_of m) where
  -- the newest slot stays, and so do the commands, or one is added that is no block
  stays_mark : (n : Machine) → new.newest ≡ old.newest → mark_of n ≡ mark_of m → records_of new.newest ≡ mark_of n
  stays_mark n same is = ap records_of same ∙ mark ∙ sym is

  moved_mark : (body : List ℕ) → records_of new.newest ≡ moved m old → records_of new.newest ≡ mark_of (with_entry m (connecting body))
  moved_mark body is = is ∙ rw (records, mark) refl ∙ sym (mark_more m (connecting body))

  block_mark : (told : Told) (block : BlockFrame) (body : List ℕ) (answer : Answer) (n : Machine) (r : Result Machine (Denial Refusal)) → has_contents told ≡ true → ((k : Machine) → r ≡ Ok k → k ≡ with_entry m (connecting body))
      → shortly (connected m r) ≡ (answer, n) → MarksBlock (Ok answer) m old new told → records_of new.newest ≡ mark_of n
  block_mark told block body answer n (Ok next) known accepted is marks =
      let a : Short (short.Connected (tip (state_of next)).height (tip (state_of next)).hash) ≡ answer = ap (λ (p : Answer × Machine). p.0) is in
      let b : next ≡ n = ap (λ (p : Answer × Machine). p.1) is in
      let at : records_of new.newest ≡ moved m old = subst (λ (x : Answer). MarksBlock (Ok x) m old new told) (sym a) marks in
      moved_mark body at ∙ ap mark_of (sym (accepted next refl) ∙ b)
  block_mark told block body answer n (Err (by_rules refusal)) known accepted is marks =
      let a : Short (short.Refused refusal) ≡ answer = ap (λ (p : Answer × Machine). p.0) is in
      let b : m ≡ n = ap (λ (p : Answer × Machine). p.1) is in
      stays_mark n (told_mark told old new known (subst (λ (x : Answer). MarksBlock (Ok x) m old new told) (sym a) marks)) (ap mark_of (sym b))
  block_mark told block body answer n (Err full) known accepted is marks =
      let a : Short short.JournalFull ≡ answer = ap (λ (p : Answer × Machine). p.0) is in
      let b : m ≡ n = ap (λ (p : Answer × Machine). p.1) is in
      stays_mark n (told_mark told old new known (subst (λ (x : Answer). MarksBlock (Ok x) m old new told) (sym a) marks)) (ap mark_of (sym b))

  back_mark : (hash : Hash256) (answer : Answer) (n : Machine) (r : Result Machine (Denial DisconnectRefusal)) → ((k : Machine) → r ≡ Ok k → k ≡ with_entry m (disconnecting hash)) → shortly (disconnected m r) ≡ (answer, n) → mark_of n ≡ mark_of m
  back_mark hash answer n (Ok next) accepted is = ap mark_of (sym (ap (λ (p : Answer × Machine). p.1) is) ∙ accepted next refl) ∙ mark_more m (disconnecting hash)
  back_mark hash answer n (Err denial) accepted is = ap mark_of (sym (ap (λ (p : Answer × Machine). p.1) is))

-- ---- requests that are no command

pin_mark : (m : Machine) (height : ℕ) (held : Bool) (number : Option ℕ) (answer : Answer) (n : Machine) → shortly (if held then pinned_by m height number else (short.NotHeld (low (state_of m)) (tip (state_of m)).height, m)) ≡ (answer, n) → mark_of n ≡ mark_of m
pin_mark m height true (Some number) answer n is = ap mark_of (sym (ap (λ (p : Answer × Machine). p.1) is)) ∙ mark_pinned m (registries.pinned m number height) refl refl
pin_mark m height true None answer n is = ap mark_of (sym (ap (λ (p : Answer × Machine). p.1) is))
pin_mark m height false number answer n is = ap mark_of (sym (ap (λ (p : Answer × Machine). p.1) is))

release_mark : (m : Machine) (number : ℕ) (live : Bool) (answer : Answer) (n : Machine) → shortly (if live then (short.Released, registries.released m number) else (short.PinUnknown, m)) ≡ (answer, n) → mark_of n ≡ mark_of m
release_mark m number true answer n is = ap mark_of (sym (ap (λ (p : Answer × Machine). p.1) is)) ∙ mark_pinned m (registries.released m number) refl refl
release_mark m number false answer n is = ap mark_of (sym (ap (λ (p : Answer × Machine). p.1) is))

same_mark : (m n : Machine) (answer told : Answer) → ◌≡◌ {A = Answer × Machine} (told, m) (answer, n) → mark_of n ≡ mark_of m
same_mark m n answer told is = ap mark_of (sym (ap (λ (p : Answer × Machine). p.1) is))

-- ---- any request

pub asked_mark : (m : Machine) (old new : Registry) (told : Told) (request : Request) (answer : Answer) (n : Machine) → old.journal.records ≡ length m.commands → records_of old.newest ≡ mark_of m → has_contents told ≡ true
    → ask m request ≡ (answer, n) → Marks request (Ok answer) m old new told → records_of new.newest ≡ mark_of n
unfolding ask connect disconnect pin release
asked_mark m old new told (requests.Connect block body) answer n records mark known is marks = block_mark m old new records mark told block body answer n (registries.connect m block body) known (λ k e. taken_is m (connecting body) (blocks.connect (state_of m) block) k e) is marks
asked_mark m old new told (requests.Disconnect hash) answer n records mark known is marks = stays_mark m old new records mark n marks (back_mark m old new records mark hash answer n (registries.disconnect m hash) (λ k e. taken_is m (disconnecting hash) (blocks.disconnect (state_of m) hash) k e) is)
asked_mark m old new told requests.Tip answer n records mark known is marks = stays_mark m old new records mark n marks (same_mark m n answer _ is)
asked_mark m old new told (requests.List height) answer n records mark known is marks = stays_mark m old new records mark n marks (same_mark m n answer _ is)
asked_mark m old new told (requests.Row height hash) answer n records mark known is marks = stays_mark m old new records mark n marks (same_mark m n answer _ is)
asked_mark m old new told (requests.Payees height count) answer n records mark known is marks = stays_mark m old new records mark n marks (same_mark m n answer _ is)
asked_mark m old new told (requests.Members kind base) answer n records mark known is marks = stays_mark m old new records mark n marks (same_mark m n answer _ is)
asked_mark m old new told (requests.Quorums height) answer n records mark known is marks = stays_mark m old new records mark n marks (same_mark m n answer _ is)
asked_mark m old new told (requests.Diff base block) answer n records mark known is marks = stays_mark m old new records mark n marks (same_mark m n answer _ is)
asked_mark m old new told (requests.Pin height) answer n records mark known is marks = stays_mark m old new records mark n marks (pin_mark m height (is_held (state_of m) height) (free_number m.pins) answer n is)
asked_mark m old new told (requests.Page number from count) answer n records mark known is marks = stays_mark m old new records mark n marks (same_mark m n answer _ is)
asked_mark m old new told (requests.Release number) answer n records mark known is marks = stays_mark m old new records mark n marks (release_mark m number (is_some (pin_of m.pins number)) answer n is)
