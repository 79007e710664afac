-- The command that an entry keeps.
use Rattle.std.proofs.Common.{◌≡◌, ◌≢◌, eq-eqb, ℕ, ◌≤◌, ◌==◌, Bool, true, false, List, length, refl, sym, ap, ◌∙◌, arith, nat_lt, if◌then◌else◌}
use Rattle.std.specs.Prelude.{Option, None, Some, Result, Ok, Err}
use Rattle.std.specs.Prelude.{map}
use Rattle.dmn_tx.specs.Defs.{id_of}
use Rattle.dmn_block.specs.Body.{connect_body, connect_body_sound}
use Rattle.dmn_block.specs.Defs.{HasItsIds, IsBlockText, body_of}
use Rattle.dmn_block.specs.Fault.{BlockDeparts}
use Rattle.dmn_block.specs.declared.fault.BlockFault.{BlockFault}
use Rattle.dmn_block.specs.declared.fault.BlockFault.TheVariants as forms
use Rattle.dmn_registry.specs.Opening.{Reads}
use Rattle.dmn_block.specs.declared.body.ConnectBody.{ConnectBody}
use Rattle.dmn_block.specs.declared.frame.BlockFrame.{BlockFrame}
use Rattle.dmn_branch.specs.Machine.{Command, Connect, Disconnect, with_block, without_tip}
use Rattle.dmn_bytes.specs.Format.{whole}
use Rattle.dmn_bytes.specs.declared.fault.Departure.{Departure}
use Rattle.dmn_bytes.specs.declared.hash.Hash256.{Hash256}
use Rattle.dmn_bytes.specs.Sound.{whole_again}
use Rattle.std.proofs.lemmas.Bool.{le-ltb}
use Rattle.std.proofs.lemmas.Bool.Decides.{nat_tests}
use Rattle.dmn_journal.specs.Journal.{Entry}
use Rattle.dmn_journal.specs.Reading.{connect_departs as form_of_connect, entry_departs, hash_departs}
use Rattle.dmn_registry.proofs.Verdicts.{state_more}
use Rattle.dmn_registry.specs.Machine.{Machine, command_of, connect_by, connecting, disconnecting, state_of, with_entry}

-- a body that is a block's text is read as that block
pub body_read : (body : List ℕ) (block : BlockFrame) → IsBlockText body block → HasItsIds block → connect_by (whole connect_body body) ≡ Ok (Connect block)
body_read body block (numbers, fits, is) ids =
    let read : whole connect_body body ≡ Ok (body_of block numbers) = ap (λ (t : List ℕ). whole connect_body t) is ∙ whole_again connect_body connect_body_sound (body_of block numbers) fits in
    let same : Connect (record { hash = block.hash; prev = block.prev; merkle = block.merkle; txs = block.txs; ids = map id_of block.txs; verdicts = block.verdicts }) ≡ Connect block = ap (λ (is' : List Hash256). Connect (record { hash = block.hash; prev = block.prev; merkle = block.merkle; txs = block.txs; ids = is'; verdicts = block.verdicts })) (sym ids) in
    ap (λ (r : Result ConnectBody Departure). connect_by r) read ∙ ap (λ (command : Command). Ok command) same

is_one : (n : ℕ) → (n == 1) ≡ true → n ≡ 1
is_one n e = grind (arith, nat_tests)

not_one : (n : ℕ) (b : Bool) → (n == 1) ≡ b → n ≢ 1 → b ≡ false
not_one n true e other = absurd (other (is_one n e))
not_one n false e other = refl

pub connect_command : (entry : Entry) (block : BlockFrame) → entry.kind ≡ 1 → IsBlockText entry.body block → HasItsIds block → command_of entry ≡ Ok (Connect block)
unfolding command_of
connect_command entry block kind text ids = let one : (entry.kind == 1) ≡ true = eq-eqb entry.kind 1 kind in rw one (body_read entry.body block text ids)

departed : (entry : Entry) (departure : Departure) → entry.kind ≡ 1 → whole connect_body entry.body ≡ Err departure → command_of entry ≡ Err departure
unfolding command_of
departed entry departure kind departs = let one : (entry.kind == 1) ≡ true = eq-eqb entry.kind 1 kind in rw one (ap (λ (r : Result ConnectBody Departure). connect_by r) departs)

pub connect_fault : (entry : Entry) (fault : BlockFault) → entry.kind ≡ 1 → BlockDeparts fault entry.body → Reads (Err fault) entry
connect_fault entry (forms.BlockForm place) kind (departure, is, at) = (departure, departed entry departure kind is, at)
connect_fault entry forms.Memory kind departs = tt

pub disconnect_command : (entry : Entry) → entry.kind ≢ 1 → command_of entry ≡ Ok (Disconnect (record { 0 = entry.body }))
unfolding command_of
disconnect_command entry kind = let other : (entry.kind == 1) ≡ false = not_one entry.kind (entry.kind == 1) refl kind in rw other refl

-- ---- what a record's form says of its body

few : (n : ℕ) (b : Bool) → nat_lt 16777216 n ≡ b → if◌then◌else◌ {A = Option ℕ} b (Some 1) None ≡ None → n ≤ 16777216
few n true e form = let wrong : ⊥ = cc in absurd wrong
few n false e form = grind (arith, nat_tests)

as_hash : (n : ℕ) (b c : Bool) → nat_lt n 32 ≡ b → nat_lt 32 n ≡ c → if◌then◌else◌ {A = Option ℕ} b (Some 1) (if◌then◌else◌ {A = Option ℕ} c (Some 33) None) ≡ None → n ≡ 32
as_hash n true c e f form = let wrong : ⊥ = cc in absurd wrong
as_hash n false true e f form = let wrong : ⊥ = cc in absurd wrong
as_hash n false false e f form = grind (arith, nat_tests)

by_kind : (b c : Bool) (body : List ℕ) → if◌then◌else◌ {A = Option ℕ} b (form_of_connect body) (if◌then◌else◌ {A = Option ℕ} c (hash_departs body) (Some 0)) ≡ None → (b ≡ false → length body ≡ 32) × (length body ≤ 16777216)
by_kind true c body form = (λ no. absurd cc, few (length body) (nat_lt 16777216 (length body)) refl form)
by_kind false true body form = let long : length body ≡ 32 = as_hash (length body) (nat_lt (length body) 32) (nat_lt 32 (length body)) refl refl form in (λ yes. long, omega (arith, long))
by_kind false false body form = let wrong : ⊥ = cc in absurd wrong

-- a body in form is so long at most, and that of a disconnect is as long as a hash
pub body_form : (entry : Entry) → entry_departs entry ≡ None → (entry.kind ≢ 1 → length entry.body ≡ 32) × (length entry.body ≤ 16777216)
unfolding entry_departs
body_form entry form = let both = by_kind (entry.kind == 1) (entry.kind == 2) entry.body form in (λ other. both.0 (not_one entry.kind (entry.kind == 1) refl other), both.1)

pub connect_form : (body : List ℕ) → length body ≤ 16777216 → entry_departs (connecting body) ≡ None
unfolding entry_departs
connect_form body fits = let short : nat_lt 16777216 (length body) ≡ false = le-ltb 16777216 (length body) fits in rw short refl

pub disconnect_form : (hash : Hash256) → length hash.0 ≡ 32 → entry_departs (disconnecting hash) ≡ None
unfolding entry_departs
disconnect_form hash long = rw long refl

-- ---- the machine of blocks, behind a command

pub state_connected : (m : Machine) (body : List ℕ) (block : BlockFrame) → IsBlockText body block → HasItsIds block → state_of (with_entry m (connecting body)) ≡ with_block (state_of m) block
state_connected m body block text ids = state_more m (connecting body) (Connect block) (connect_command (connecting body) block refl text ids)

pub state_disconnected : (m : Machine) (hash : Hash256) → state_of (with_entry m (disconnecting hash)) ≡ without_tip (state_of m) hash
state_disconnected m hash = state_more m (disconnecting hash) (Disconnect hash) (disconnect_command (disconnecting hash) (λ (e : 2 ≡ 1). let wrong : ⊥ = omega (arith, e) in wrong))
