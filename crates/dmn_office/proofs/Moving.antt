-- From the machine before a request to the one behind it, and what a crash leaves meanwhile.
use Rattle.std.proofs.Common.{◌≡◌, ◌⊎◌, inl, inr, ℕ, ◌≤◌, Bool, true, false, List, length, refl, sym, ap, subst, ◌∙◌, if◌then◌else◌}
use Rattle.std.specs.Prelude.{Option, None, Some, Result, Ok, Err, is_some}
use Rattle.dmn_block.specs.Defs.{IsBlock, IsBlockText, most_items}
use Rattle.dmn_block.specs.declared.frame.BlockFrame.{BlockFrame}
use Rattle.dmn_block.specs.declared.refusal.Refusal.{Refusal}
use Rattle.dmn_branch.specs.Machine.{Command, is_held, low, tip}
use Rattle.dmn_branch.specs.declared.fault.DisconnectRefusal.{DisconnectRefusal}
use Rattle.dmn_branch.specs.declared.fault.DisconnectRefusal.TheVariants as refusals
use Rattle.dmn_branch.specs.Pins.{Pins, free_number, pin_of}
use Rattle.dmn_bytes.specs.declared.fault.Departure.{Departure}
use Rattle.dmn_bytes.specs.declared.hash.Hash256.{Hash256}
use Rattle.dmn_outside.specs.Crashes.{LeavesOnly}
use Rattle.dmn_outside.specs.Disk.{AreOver, DiskView}
use Rattle.dmn_outside.specs.declared.device.DiskFault.{DiskFault}
use Rattle.dmn_outside.proofs.Crash.{widened}
use Rattle.dmn_journal.specs.Journal.{Entry}
use Rattle.dmn_journal.specs.Reading.{entry_departs}
use Rattle.dmn_desk.specs.declared.answer.Answer.{Answer}
use Rattle.dmn_desk.specs.declared.answer.Answer.TheVariants.{Short}
use Rattle.dmn_desk.specs.declared.answer.ShortAnswer.TheVariants as short
use Rattle.dmn_desk.specs.declared.desk.Desk.{Desk}
use Rattle.dmn_desk.specs.declared.request.Request.{Request}
use Rattle.dmn_desk.specs.declared.request.Request.TheVariants as requests
use Rattle.dmn_desk.specs.Ask.{ask, connect, connected, disconnect, disconnected, not_connected, not_disconnected, pin, pinned_by, release, shortly}
use Rattle.dmn_desk.specs.Asked.{Answers, IsIdle, MayHold, entry_by}
use Rattle.dmn_desk.specs.Requests.{IsRequest}
use Rattle.dmn_registry.specs.declared.registry.Registry.{Registry}
use Rattle.dmn_registry.specs.Machine as registries
use Rattle.dmn_registry.specs.Machine.{Accepts, Denial, Machine, Verdict, by_answer, by_command, connecting, denied, disconnecting, formless, state_of, taken, verdict, with_pins}
use Rattle.dmn_registry.proofs.Blocks.{connect_command, connect_form, disconnect_command, disconnect_form}
use Rattle.dmn_registry.specs.Own.{IsBetween, IsOwn, Leads, OwnWith, StandsOn}
use Rattle.dmn_registry.proofs.Between.{between_command, between_refused, between_self, between_to, earlier, leads_one, leads_pins, leads_self, unmoved}
use Rattle.dmn_office.specs.declared.office.Office.{Office}
use Rattle.dmn_office.specs.Offices.{Breaks, Gives, GoesOn, InHand, StandsAt}
use Rattle.dmn_office.specs.Steps.{HasItsHash}

-- ---- commands

connect_accepts : (m : Machine) (block : BlockFrame) (body : List ℕ) (n : Machine) → IsBlock block → IsBlockText body block → length body ≤ most_items → registries.connect m block body ≡ Ok n → Accepts m (connecting body) n
unfolding verdict
connect_accepts m block body n sound text fits is = record {
  form = connect_form body fits;
  is = ap (λ (c : Result Command Departure). by_command m (connecting body) c) (connect_command (connecting body) block refl text sound.ids) ∙ ap by_answer is;
}

disconnect_accepts : (m : Machine) (hash : Hash256) (n : Machine) → length hash.0 ≡ 32 → registries.disconnect m hash ≡ Ok n → Accepts m (disconnecting hash) n
unfolding verdict
disconnect_accepts m hash n long is = record {
  form = disconnect_form hash long;
  is = ap (λ (c : Result Command Departure). by_command m (disconnecting hash) c) (disconnect_command (disconnecting hash) (λ one. absurd (cc one))) ∙ ap by_answer is;
}

-- ---- from the machine before an answer to the one behind it

leads_same : (m n : Machine) → n ≡ m → Leads m n
leads_same m n same = subst (λ (k : Machine). Leads m k) (sym same) (leads_self m)

leads_by_pins : (m n : Machine) (pins : Pins) → n ≡ with_pins m pins → Leads m n
leads_by_pins m n pins same = subst (λ (k : Machine). Leads m k) (sym same) (leads_pins m pins)

-- what an answer to a command is: the machine with its entry; or the machine, and the disk was not called
abbrev Commands : Machine → Entry → Answer → Machine → Type 0
Commands m entry answer n = Accepts m entry n ⊎ ((n ≡ m) × IsIdle (Ok answer))

idle_denial : (denial : Denial Refusal) → IsIdle (Ok (Short (not_connected denial)))
idle_denial (registries.by_rules refusal) = tt
idle_denial registries.full = tt

connect_by_result : (m : Machine) (entry : Entry) (answer : Answer) (n : Machine) (r : Result Machine (Denial Refusal)) → ((k : Machine) → r ≡ Ok k → Accepts m entry k) → shortly (connected m r) ≡ (answer, n) → Commands m entry answer n
connect_by_result m entry answer n (Ok next) accepts is = inl (subst (λ (k : Machine). Accepts m entry k) (ap (λ (p : Answer × Machine). p.1) is) (accepts next refl))
connect_by_result m entry answer n (Err denial) accepts is = inr (sym (ap (λ (p : Answer × Machine). p.1) is), subst (λ (a : Answer). IsIdle (Ok a)) (ap (λ (p : Answer × Machine). p.0) is) (idle_denial denial))

idle_back : (denial : Denial DisconnectRefusal) → IsIdle (Ok (Short (not_disconnected denial)))
idle_back (registries.by_rules (refusals.NotTip tip)) = tt
idle_back (registries.by_rules refusals.AtStart) = tt
idle_back (registries.by_rules (refusals.TooDeep floor)) = tt
idle_back registries.full = tt

back_by_result : (m : Machine) (entry : Entry) (answer : Answer) (n : Machine) (r : Result Machine (Denial DisconnectRefusal)) → ((k : Machine) → r ≡ Ok k → Accepts m entry k) → shortly (disconnected m r) ≡ (answer, n) → Commands m entry answer n
back_by_result m entry answer n (Ok next) accepts is = inl (subst (λ (k : Machine). Accepts m entry k) (ap (λ (p : Answer × Machine). p.1) is) (accepts next refl))
back_by_result m entry answer n (Err denial) accepts is = inr (sym (ap (λ (p : Answer × Machine). p.1) is), subst (λ (a : Answer). IsIdle (Ok a)) (ap (λ (p : Answer × Machine). p.0) is) (idle_back denial))

connect_commands : (m : Machine) (block : BlockFrame) (body : List ℕ) (answer : Answer) (n : Machine) → IsBlock block → IsBlockText body block → length body ≤ most_items → ask m (requests.Connect block body) ≡ (answer, n) → Commands m (connecting body) answer n
unfolding ask connect
connect_commands m block body answer n sound text fits is = connect_by_result m (connecting body) answer n (registries.connect m block body) (λ k e. connect_accepts m block body k sound text fits e) is

back_commands : (m : Machine) (hash : Hash256) (answer : Answer) (n : Machine) → length hash.0 ≡ 32 → ask m (requests.Disconnect hash) ≡ (answer, n) → Commands m (disconnecting hash) answer n
unfolding ask disconnect
back_commands m hash answer n long is = back_by_result m (disconnecting hash) answer n (registries.disconnect m hash) (λ k e. disconnect_accepts m hash k long e) is

-- ---- pins, and questions

pin_by_number : (m : Machine) (height : ℕ) (held : Bool) (number : Option ℕ) (answer : Answer) (n : Machine) → shortly (if held then pinned_by m height number else (short.NotHeld (low (state_of m)) (tip (state_of m)).height, m)) ≡ (answer, n) → Leads m n
pin_by_number m height true (Some number) answer n is = leads_by_pins m n _ (sym (ap (λ (p : Answer × Machine). p.1) is))
pin_by_number m height true None answer n is = leads_same m n (sym (ap (λ (p : Answer × Machine). p.1) is))
pin_by_number m height false number answer n is = leads_same m n (sym (ap (λ (p : Answer × Machine). p.1) is))

pin_leads : (m : Machine) (height : ℕ) (answer : Answer) (n : Machine) → ask m (requests.Pin height) ≡ (answer, n) → Leads m n
unfolding ask pin
pin_leads m height answer n is = pin_by_number m height (is_held (state_of m) height) (free_number m.pins) answer n is

release_by : (m : Machine) (number : ℕ) (live : Bool) (answer : Answer) (n : Machine) → shortly (if live then (short.Released, registries.released m number) else (short.PinUnknown, m)) ≡ (answer, n) → Leads m n
release_by m number true answer n is = leads_by_pins m n _ (sym (ap (λ (p : Answer × Machine). p.1) is))
release_by m number false answer n is = leads_same m n (sym (ap (λ (p : Answer × Machine). p.1) is))

release_leads : (m : Machine) (number : ℕ) (answer : Answer) (n : Machine) → ask m (requests.Release number) ≡ (answer, n) → Leads m n
unfolding ask release
release_leads m number answer n is = release_by m number (is_some (pin_of m.pins number)) answer n is

-- a request that is no command leads to a machine with other pins
question_leads : (m : Machine) (request : Request) (answer : Answer) (n : Machine) → entry_by request ≡ None → ask m request ≡ (answer, n) → Leads m n
unfolding ask
question_leads m (requests.Connect block body) answer n none is = absurd (cc none)
question_leads m (requests.Disconnect hash) answer n none is = absurd (cc none)
question_leads m requests.Tip answer n none is = leads_same m n (sym (ap (λ (p : Answer × Machine). p.1) is))
question_leads m (requests.List height) answer n none is = leads_same m n (sym (ap (λ (p : Answer × Machine). p.1) is))
question_leads m (requests.Row height hash) answer n none is = leads_same m n (sym (ap (λ (p : Answer × Machine). p.1) is))
question_leads m (requests.Payees height count) answer n none is = leads_same m n (sym (ap (λ (p : Answer × Machine). p.1) is))
question_leads m (requests.Members kind base) answer n none is = leads_same m n (sym (ap (λ (p : Answer × Machine). p.1) is))
question_leads m (requests.Quorums height) answer n none is = leads_same m n (sym (ap (λ (p : Answer × Machine). p.1) is))
question_leads m (requests.Pin height) answer n none is = pin_leads m height answer n is
question_leads m (requests.Page number from count) answer n none is = leads_same m n (sym (ap (λ (p : Answer × Machine). p.1) is))
question_leads m (requests.Release number) answer n none is = release_leads m number answer n is
question_leads m (requests.Diff base block) answer n none is = leads_same m n (sym (ap (λ (p : Answer × Machine). p.1) is))

pub hand_leads : (m : Machine) (found : Option Entry) (last : Machine) → InHand m found last → Leads m last
hand_leads m found last (inl same) = leads_same m last same
hand_leads m found last (inr (entry, is, accepts)) = leads_one m entry last accepts

-- ---- what a crash leaves of an answer

-- nothing was done
pub stays : (t : ℕ) (before after : DiskView) (m : Machine) (office : Office) → AreOver t before.past → after ≡ before → StandsAt office m before.told → GoesOn t before after m m office
stays t before after m office over same stands = record {
  stands = subst (λ (d : DiskView). StandsAt office m d.told) (sym same) stands;
  leads = leads_self m;
  run = unmoved t before after m over stands.registry.disk same;
}

-- what was done from a later moment on, before which the disk was as at the start
module _ (t later : ℕ) (before mid after : DiskView) (m : Machine) (office : Office) (le : t ≤ later) (over : AreOver t before.past) (same : mid ≡ before) (stands : StandsAt office m before.told) where
  run_earlier : (n : Machine) → Leads m n → LeavesOnly later mid after (IsBetween m n) → LeavesOnly t before after (IsBetween m n)
  run_earlier n leads run = earlier t later before after m n le over stands.registry.disk (subst (λ (d : DiskView). LeavesOnly later d after (IsBetween m n)) same run) leads

  pub goes_earlier : (n : Machine) (new : Office) → GoesOn later mid after m n new → GoesOn t before after m n new
  goes_earlier n new goes = record { stands = goes.stands; leads = goes.leads; run = run_earlier n goes.leads goes.run }

  pub breaks_earlier : (found : Option Entry) → Breaks later mid after m found → Breaks t before after m found
  breaks_earlier found b = record { last = b.last; hand = b.hand; run = run_earlier b.last (hand_leads m found b.last b.hand) b.run }

-- the office stands for the machine where the disk is as it was
pub stands_still : (before mid : DiskView) (m : Machine) (office : Office) → mid ≡ before → StandsAt office m before.told → StandsAt office m mid.told
stands_still before mid m office same stands = subst (λ (d : DiskView). StandsAt office m d.told) (sym same) stands

-- what an answer that is defined, or Memory, leads to
record Moved (t : ℕ) (before after : DiskView) (m n : Machine) : Type 0 where
  leads : Leads m n
  run : LeavesOnly t before after (IsBetween m n)

unmoved_to : (t : ℕ) (before after : DiskView) (m n : Machine) (registry : Registry) → AreOver t before.past → StandsOn registry m before.told → after ≡ before → Leads m n → Moved t before after m n
unmoved_to t before after m n registry over stands same leads = record { leads = leads; run = widened t before after _ _ (unmoved t before after m over stands.disk same) (λ image b. between_to m m n image leads b) }

module _ (t : ℕ) (before after : DiskView) (m n : Machine) (registry : Registry) (over : AreOver t before.past) (stands : StandsOn registry m before.told) where
  command_moved : (entry : Entry) (answer : Answer) → LeavesOnly t before after (OwnWith m entry) → (IsIdle (Ok answer) → after ≡ before) → Commands m entry answer n → Moved t before after m n
  command_moved entry answer run idle (inl accepts) = record { leads = leads_one m entry n accepts; run = widened t before after _ _ run (λ image own. between_command m entry n image accepts own) }
  command_moved entry answer run idle (inr (same, still)) = unmoved_to t before after m n registry over stands (idle still) (leads_same m n same)

  question_moved : LeavesOnly t before after (IsOwn m) → Leads m n → Moved t before after m n
  question_moved run leads = record { leads = leads; run = widened t before after _ _ run (λ image own. between_to m m n image leads (between_self m image own)) }

  memory_moved : (answer : Answer) → answer ≡ Short short.Memory → n ≡ m → (IsIdle (Ok answer) → after ≡ before) → Moved t before after m n
  memory_moved answer is same idle = unmoved_to t before after m n registry over stands (idle (subst (λ (a : Answer). IsIdle (Ok a)) (sym is) tt)) (leads_same m n same)

  asked_moved : (request : Request) (answer : Answer) → IsRequest request → HasItsHash request → LeavesOnly t before after (MayHold m (entry_by request)) → (IsIdle (Ok answer) → after ≡ before) → ask m request ≡ (answer, n) → Moved t before after m n
  asked_moved (requests.Connect block body) answer sound long run idle is = command_moved (connecting body) answer run idle (connect_commands m block body answer n sound.0 sound.1 sound.2 is)
  asked_moved (requests.Disconnect hash) answer sound long run idle is = command_moved (disconnecting hash) answer run idle (back_commands m hash answer n long is)
  asked_moved requests.Tip answer sound long run idle is = question_moved run (question_leads m requests.Tip answer n refl is)
  asked_moved (requests.List height) answer sound long run idle is = question_moved run (question_leads m (requests.List height) answer n refl is)
  asked_moved (requests.Row height hash) answer sound long run idle is = question_moved run (question_leads m (requests.Row height hash) answer n refl is)
  asked_moved (requests.Payees height count) answer sound long run idle is = question_moved run (question_leads m (requests.Payees height count) answer n refl is)
  asked_moved (requests.Members kind base) answer sound long run idle is = question_moved run (question_leads m (requests.Members kind base) answer n refl is)
  asked_moved (requests.Quorums height) answer sound long run idle is = question_moved run (question_leads m (requests.Quorums height) answer n refl is)
  asked_moved (requests.Pin height) answer sound long run idle is = question_moved run (question_leads m (requests.Pin height) answer n refl is)
  asked_moved (requests.Page number from count) answer sound long run idle is = question_moved run (question_leads m (requests.Page number from count) answer n refl is)
  asked_moved (requests.Release number) answer sound long run idle is = question_moved run (question_leads m (requests.Release number) answer n refl is)
  asked_moved (requests.Diff base block) answer sound long run idle is = question_moved run (question_leads m (requests.Diff base block) answer n refl is)

-- ---- after a disk fault

-- an entry is in a record's form, or not
form_by : (o : Option ℕ) → (o ≡ None) ⊎ (o ≡ None → ⊥)
form_by None = inl refl
form_by (Some place) = inr (λ is. cc)

form_of : (entry : Entry) → (entry_departs entry ≡ None) ⊎ (entry_departs entry ≡ None → ⊥)
form_of entry = form_by (entry_departs entry)

module _ (t : ℕ) (before after : DiskView) (m : Machine) (entry : Entry) (run : LeavesOnly t before after (OwnWith m entry)) where
  -- nothing is accepted, so nothing is there
  broken_refused : ((n : Machine) → Accepts m entry n → ⊥) → Breaks t before after m (Some entry)
  broken_refused never = record { last = m; hand = inl refl; run = widened t before after _ _ run (λ image own. between_refused m entry image never own) }

  broken : (v : Verdict) → verdict m entry ≡ v → Breaks t before after m (Some entry)
  broken (taken n) is = elim (form_of entry) [
    | inl form ↦
        let accepts : Accepts m entry n = record { form = form; is = is } in
        record { last = n; hand = inr (entry, refl, accepts); run = widened t before after _ _ run (λ image own. between_command m entry n image accepts own) }
    | inr misform ↦ broken_refused (λ k accepts. misform accepts.form)
  ]
  broken denied is = broken_refused (λ n accepts. let wrong : denied ≡ taken n = sym is ∙ accepts.is in cc)
  broken (formless place) is = broken_refused (λ n accepts. let wrong : formless place ≡ taken n = sym is ∙ accepts.is in cc)

broken_with : (t : ℕ) (before after : DiskView) (m : Machine) (found : Option Entry) → LeavesOnly t before after (MayHold m found) → Breaks t before after m found
broken_with t before after m None run = record { last = m; hand = inl refl; run = widened t before after _ _ run (λ image own. between_self m image own) }
broken_with t before after m (Some entry) run = broken t before after m entry run (verdict m entry) refl

-- ---- the desk's answer

module _ (t : ℕ) (before after : DiskView) (old next : Desk) (registry behind : Registry) (request : Request) (sound : IsRequest request) (long : HasItsHash request) (over : AreOver t before.past)
    (moments : (m : Machine) → StandsOn registry m before.told → LeavesOnly t before after (MayHold m (entry_by request))) where
  request_gives : (answer : Answer) → Answers request (Ok answer) old next registry behind before.told after.told → (IsIdle (Ok answer) → after ≡ before) → Gives (Ok answer) request t before after (record { desk = old; registry = registry }) (record { desk = next; registry = behind })
  request_gives answer answers idle m stands =
      let a = answers m stands.registry stands.desk in
      let moved : Moved t before after m a.0 = elim a.3 [
        | inl defined ↦ asked_moved t before after m a.0 registry over stands.registry request answer sound long (moments m stands.registry) idle defined
        | inr free ↦ memory_moved t before after m a.0 registry over stands.registry answer free.1 free.2 idle
      ] in
      (a.0, a.3, record { stands = record { registry = a.1; desk = a.2 }; leads = moved.leads; run = moved.run })

  pub request_does : (r : Result Answer DiskFault) → Answers request r old next registry behind before.told after.told → (IsIdle r → after ≡ before) → Gives r request t before after (record { desk = old; registry = registry }) (record { desk = next; registry = behind })
  request_does (Ok answer) answers idle = request_gives answer answers idle
  request_does (Err fault) answers idle = λ m stands. broken_with t before after m (entry_by request) (moments m stands.registry)
