-- What a request does to the office, by its answer.
use Rattle.std.proofs.Common.{◌≡◌, ◌⊎◌, inl, inr, ⊎_elim, ℕ, ◌+◌, ◌≤◌, ◌<◌, true, false, List, length, refl, sym, ap, subst, ◌∙◌}
use Rattle.std.specs.Prelude.{Some, Result, Ok, Err}
use Rattle.std.proofs.lemmas.Bool.{le-ltb, lt-ltb}
use Rattle.dmn_block.specs.Defs.{IsBlock, IsBlockText}
use Rattle.dmn_block.specs.declared.frame.BlockFrame.{BlockFrame}
use Rattle.dmn_block.specs.declared.refusal.Refusal.{Refusal}
use Rattle.dmn_branch.specs.Machine.{Command}
use Rattle.dmn_branch.specs.declared.fault.DisconnectRefusal.{DisconnectRefusal}
use Rattle.dmn_bytes.specs.Law.{place_of}
use Rattle.dmn_bytes.specs.declared.fault.Departure.{Departure}
use Rattle.dmn_bytes.specs.declared.hash.Hash256.{Hash256}
use Rattle.dmn_desk.specs.Ask.{answered, ask, asked_kind, connect, connected, disconnect, disconnected, shortly}
use Rattle.dmn_desk.specs.Asked.{Marks, entry_by}
use Rattle.dmn_desk.specs.declared.answer.Answer.{Answer}
use Rattle.dmn_desk.specs.declared.answer.Answer.TheVariants.{Short}
use Rattle.dmn_desk.specs.declared.answer.ShortAnswer.TheVariants as short
use Rattle.dmn_desk.specs.declared.kind.Kind.TheVariants as kinds
use Rattle.dmn_desk.specs.declared.request.Request.{Request}
use Rattle.dmn_desk.specs.declared.request.Request.TheVariants as requests
use Rattle.dmn_desk.specs.Kinds.{kind_of}
use Rattle.dmn_desk.specs.Requests.{IsRequest, request_of}
use Rattle.dmn_frames.specs.declared.limits.TheConstants.{LONGEST_BODY}
use Rattle.dmn_journal.specs.Journal.{Entry}
use Rattle.dmn_office.specs.Offices.{Breaks, Gives, InHand}
use Rattle.dmn_office.specs.declared.office.Office.{Office}
use Rattle.dmn_outside.specs.Disk.{AreOver, DiskView, Told, has_contents}
use Rattle.dmn_registry.proofs.Blocks.{connect_command, disconnect_command}
use Rattle.dmn_registry.specs.Machine as registries
use Rattle.dmn_registry.specs.Machine.{Accepts, Denial, Machine, Verdict, answered as answered_by, by_answer, by_command, command_of, connecting, denied, disconnecting, formless, state_of, taken, verdict}
use Rattle.dmn_make.specs.Asking.{Answers, Does, Fails, Goes, Stands, is_memory}
use Rattle.dmn_make.specs.declared.fault.MakeFault.{MakeFault}
use Rattle.dmn_make.specs.declared.fault.MakeFault.TheVariants as faults
use Rattle.dmn_office.proofs.Moving.{hand_leads, stays}
use Rattle.dmn_make.specs.Going.{added}
use Rattle.dmn_make.proofs.Marking.{asked_mark}

-- ---- after a disk fault

machine_or : Machine → Verdict → Machine
machine_or m (taken n) = n
machine_or m denied = m
machine_or m (formless place) = m

-- what is accepted is what the machine answers
ok_by : {R : Type 0} (r : Result Machine (Denial R)) (last : Machine) → by_answer r ≡ taken last → r ≡ Ok last
unfolding machine_or
ok_by (Ok n) last is = let e : n ≡ last = ap (machine_or last) is in ap (λ (k : Machine). Ok k) e
ok_by (Err denial) last is = absurd (cc is)

connect_ok : (m : Machine) (block : BlockFrame) (body : List ℕ) (last : Machine) → IsBlock block → IsBlockText body block → Accepts m (connecting body) last → registries.connect m block body ≡ Ok last
unfolding verdict
connect_ok m block body last sound text accepts = ok_by (registries.connect m block body) last (ap (λ (c : Result Command Departure). by_command m (connecting body) c) (sym (connect_command (connecting body) block refl text sound.ids)) ∙ accepts.is)

back_ok : (m : Machine) (hash : Hash256) (last : Machine) → Accepts m (disconnecting hash) last → registries.disconnect m hash ≡ Ok last
unfolding verdict
back_ok m hash last accepts = ok_by (registries.disconnect m hash) last (ap (λ (c : Result Command Departure). by_command m (disconnecting hash) c) (sym (disconnect_command (disconnecting hash) (λ one. absurd (cc one)))) ∙ accepts.is)

some_entry : (a b : Entry) → Some a ≡ Some b → a ≡ b
some_entry a b is = cc

-- the command in hand that was accepted leads to the machine behind the request
accepted_is : (m : Machine) (request : Request) (entry : Entry) (last : Machine) → IsRequest request → entry_by request ≡ Some entry → Accepts m entry last → last ≡ (ask m request).1
unfolding ask connect disconnect
accepted_is m (requests.Connect block body) entry last sound is accepts =
    let same : connecting body ≡ entry = some_entry (connecting body) entry is in
    let ok = connect_ok m block body last sound.0 sound.1 (subst (λ (e : Entry). Accepts m e last) (sym same) accepts) in
    sym (ap (λ (r : Result Machine (Denial Refusal)). (shortly (connected m r)).1) ok)
accepted_is m (requests.Disconnect hash) entry last sound is accepts =
    let same : disconnecting hash ≡ entry = some_entry (disconnecting hash) entry is in
    let ok = back_ok m hash last (subst (λ (e : Entry). Accepts m e last) (sym same) accepts) in
    sym (ap (λ (r : Result Machine (Denial DisconnectRefusal)). (shortly (disconnected m r)).1) ok)
accepted_is m requests.Tip entry last sound is accepts = absurd (cc is)
accepted_is m (requests.List height) entry last sound is accepts = absurd (cc is)
accepted_is m (requests.Row height hash) entry last sound is accepts = absurd (cc is)
accepted_is m (requests.Payees height count) entry last sound is accepts = absurd (cc is)
accepted_is m (requests.Members kind base) entry last sound is accepts = absurd (cc is)
accepted_is m (requests.Quorums height) entry last sound is accepts = absurd (cc is)
accepted_is m (requests.Diff base block) entry last sound is accepts = absurd (cc is)
accepted_is m (requests.Pin height) entry last sound is accepts = absurd (cc is)
accepted_is m (requests.Page number from count) entry last sound is accepts = absurd (cc is)
accepted_is m (requests.Release number) entry last sound is accepts = absurd (cc is)

hand_is : (m : Machine) (request : Request) (last : Machine) → IsRequest request → InHand m (entry_by request) last → (last ≡ m) ⊎ (last ≡ (ask m request).1)
hand_is m request last sound (inl same) = inl same
hand_is m request last sound (inr (entry, is, accepts)) = inr (accepted_is m request entry last sound is accepts)

pub request_fails : (t : ℕ) (before after : DiskView) (m : Machine) (request : Request) → IsRequest request → Breaks t before after m (entry_by request) → Fails t before after m (ask m request).1
request_fails t before after m request sound b = record { last = b.last; is = hand_is m request b.last sound b.hand; leads = hand_leads m (entry_by request) b.last b.hand; run = b.run }

-- ---- the answer to a body

pub long_body : (m : Machine) (body : List ℕ) → LONGEST_BODY < length body → added body m ≡ (Short (short.BadRequest 1), m)
unfolding answered
long_body m body long = rw (lt-ltb LONGEST_BODY (length body) long) refl

pub body_departs : (m : Machine) (body : List ℕ) (d : Departure) (at : ℕ) → length body ≤ LONGEST_BODY → request_of kinds.Connect body ≡ Err d → place_of d ≡ at → added body m ≡ (Short (short.BadRequest (5 + at)), m)
unfolding answered asked_kind kind_of
body_departs m body d at fits is place = rw (le-ltb LONGEST_BODY (length body) fits, is, place) refl

pub body_asks : (m : Machine) (body : List ℕ) (request : Request) → length body ≤ LONGEST_BODY → request_of kinds.Connect body ≡ Ok request → added body m ≡ ask m request
unfolding answered asked_kind kind_of
body_asks m body request fits is = rw (le-ltb LONGEST_BODY (length body) fits, is) refl

-- ---- the office behind an answer

module _ (t : ℕ) (before after : DiskView) (m : Machine) (old new : Office) (request : Request) (known : has_contents after.told ≡ true) (stands : Stands old m before.told) where
  pub request_goes : (answer : Answer) → is_memory answer ≡ false → Gives (Ok answer) request t before after old new → Marks request (Ok answer) m old.registry new.registry after.told → Goes t before after m (ask m request).1 new × (answer ≡ (ask m request).0)
  request_goes answer some gives marks =
      let (n, may, goes) = gives m stands.at in
      let defined : ask m request ≡ (answer, n) = ⊎_elim (λ is. is) (λ free. absurd (let lack : true ≡ false = sym (ap is_memory free.1) ∙ some in cc lack)) may in
      let to : n ≡ (ask m request).1 = sym (ap (λ (p : Answer × Machine). p.1) defined) in (
        subst (λ (k : Machine). Goes t before after m k new) to (record { on = goes; mark = asked_mark m old.registry new.registry after.told request answer n stands.at.registry.registry_stands.records stands.mark known defined marks }),
        sym (ap (λ (p : Answer × Machine). p.0) defined),
      )

  pub request_lacks : (answer : Answer) → Gives (Ok answer) request t before after old new → Fails t before after m (ask m request).1
  request_lacks answer gives =
      let (n, may, goes) = gives m stands.at in
      record {
        last = n;
        is = ⊎_elim (λ defined. inr (sym (ap (λ (p : Answer × Machine). p.1) defined))) (λ free. inl free.2) may;
        leads = goes.leads;
        run = goes.run;
      }

-- ---- what is answered without the office

pub idle_goes : (t : ℕ) (disk : DiskView) (office : Office) (m : Machine) (made : Answer × Machine) (answer : Answer) → AreOver t disk.past → Stands office m disk.told → made ≡ (answer, m) → Goes t disk disk m made.1 office
idle_goes t disk office m made answer over stands is =
    let to : m ≡ made.1 = sym (ap (λ (p : Answer × Machine). p.1) is) in
    subst (λ (k : Machine). Goes t disk disk m k office) to (record { on = stays t disk disk m office over refl stands.at; mark = stands.mark })

pub idle_fails : (t : ℕ) (disk : DiskView) (office : Office) (m n : Machine) → AreOver t disk.past → Stands office m disk.told → Fails t disk disk m n
idle_fails t disk office m n over stands = let goes = stays t disk disk m office over refl stands.at in record { last = m; is = inl refl; leads = goes.leads; run = goes.run }

-- ---- by another name of the same machine

pub does_as : {T : Type 0} (r : Result T MakeFault) (f h : Machine → Machine) (t : ℕ) (before after : DiskView) (old new : Office) → ((m : Machine) → f m ≡ h m) → Does r f t before after old new → Does r h t before after old new
does_as (Ok value) f h t before after old new same does = λ m stands. subst (λ (k : Machine). Goes t before after m k new) (same m) (does m stands)
does_as (Err faults.Memory) f h t before after old new same does = λ m stands. subst (λ (k : Machine). Fails t before after m k) (same m) (does m stands)
does_as (Err faults.DiskFault) f h t before after old new same does = λ m stands. subst (λ (k : Machine). Fails t before after m k) (same m) (does m stands)
does_as (Err (faults.NotJournal place)) f h t before after old new same does = does

pub answers_as : (r : Result Answer MakeFault) (f h : Machine → Answer) (old : Office) (told : Told) → ((m : Machine) → f m ≡ h m) → Answers r f old told → Answers r h old told
answers_as (Ok answer) f h old told same answers = λ m stands. answers m stands ∙ same m
answers_as (Err fault) f h old told same answers = tt
