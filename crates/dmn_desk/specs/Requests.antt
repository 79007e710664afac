-- Requests, and the bodies by which they come.
use Rattle.std.specs.Prelude.{◌≡◌, ℕ, ◌≤◌, Bool, true, false, nat_lt, if◌then◌else◌, List, length, Result, Ok, Err}
use Rattle.std.specs.Int.{w16, w32}
use Rattle.dmn_block.specs.declared.fault.BlockFault.{BlockFault}
use Rattle.dmn_block.specs.declared.fault.BlockFault.TheVariants as blocks
use Rattle.dmn_block.specs.Body.{connect_body}
use Rattle.dmn_block.specs.Defs.{IsBlock, IsBlockText, most_items}
use Rattle.dmn_block.specs.Frames.{frame_of}
use Rattle.dmn_bytes.specs.declared.fault.Departure.{Departure}
use Rattle.dmn_bytes.specs.declared.fault.Departure.TheVariants.{Form}
use Rattle.dmn_bytes.specs.declared.fault.ReadFault.{ReadFault}
use Rattle.dmn_bytes.specs.declared.fault.ReadFault.TheVariants.{Short, LongSpelling}
use Rattle.dmn_bytes.specs.Format.{Format, ◌>>=◌, ◌⊗◌, byte, hash, number, only}
use Rattle.dmn_bytes.specs.Law.{place_of}
use Rattle.dmn_bytes.specs.Reading.{Reading}
use Rattle.dmn_desk.specs.declared.kind.Kind.{Kind}
use Rattle.dmn_desk.specs.declared.kind.Kind.TheVariants as kinds
use Rattle.dmn_desk.specs.declared.request.Request.{Request}
use Rattle.dmn_desk.specs.declared.request.Request.TheVariants.{Connect, Disconnect, Tip, List as ListAt, Row, Payees, Members, Quorums, Diff, Pin, Page, Release}
use Rattle.dmn_desk.specs.declared.request.RequestFault.{RequestFault}
use Rattle.dmn_desk.specs.declared.request.RequestFault.TheVariants as faults

-- the body is, whole, a text of this format, and this is made of its value
abbrev pub made : {V : Type 0} → Format V → (V → Request) → List ℕ → Result Request Departure
made format make body = format.parse body 0 >>= λ x. if nat_lt x.1 (length body) then Err (Form x.1) else Ok (make x.0)

-- the request of a body of this kind, or where the body departs
unfoldable pub request_of : Kind → List ℕ → Result Request Departure
request_of kinds.Connect body = made connect_body (λ b. Connect (frame_of b) body) body
request_of kinds.Disconnect body = made hash Disconnect body
request_of kinds.Tip body = made (only Tip) (λ r. r) body
request_of kinds.List body = made (number w32) ListAt body
request_of kinds.Row body = made (number w32 ⊗ hash) (λ p. Row p.0 p.1) body
request_of kinds.Payees body = made (number w32 ⊗ number w16) (λ p. Payees p.0 p.1) body
request_of kinds.Members body = made (byte ⊗ number w32) (λ p. Members p.0 p.1) body
request_of kinds.Quorums body = made (number w32) Quorums body
request_of kinds.Diff body = made (hash ⊗ hash) (λ p. Diff p.0 p.1) body
request_of kinds.Pin body = made (number w32) Pin body
request_of kinds.Page body = made (number w32 ⊗ number w32 ⊗ number w16) (λ p. Page p.0 p.1.0 p.1.1) body
request_of kinds.Release body = made (number w32) Release body

-- the kind of a request
abbrev pub kind_by : Request → Kind
kind_by (Connect block body) = kinds.Connect
kind_by (Disconnect h) = kinds.Disconnect
kind_by Tip = kinds.Tip
kind_by (ListAt height) = kinds.List
kind_by (Row height h) = kinds.Row
kind_by (Payees height count) = kinds.Payees
kind_by (Members kind base) = kinds.Members
kind_by (Quorums height) = kinds.Quorums
kind_by (Diff base block) = kinds.Diff
kind_by (Pin height) = kinds.Pin
kind_by (Page pin from count) = kinds.Page
kind_by (Release pin) = kinds.Release

-- a request that changes nothing, whatever is answered
abbrev pub is_question : Request → Bool
is_question (Connect block body) = false
is_question (Disconnect h) = false
is_question (Pin height) = false
is_question (Release pin) = false
is_question request = true

-- what each request keeps that is asked: a block has its ids, and its body is its text, and not too long
abbrev pub IsRequest : Request → Type 0
IsRequest (Connect block body) = IsBlock block × IsBlockText body block × (length body ≤ most_items)
IsRequest request = Unit {0}

-- ---- what a reader tells

abbrev pub of_read : ReadFault → RequestFault
of_read (Short at) = faults.BadRequest at
of_read (LongSpelling at) = faults.BadRequest at

abbrev pub of_block : BlockFault → RequestFault
of_block (blocks.BlockForm at) = faults.BadRequest at
of_block blocks.Memory = faults.Memory

-- the request where no byte is left behind it
abbrev pub ended : Reading → Request → Result Request Departure
ended reader request = if nat_lt reader.at (length reader.text) then Err (Form reader.at) else Ok request

abbrev pub ToldFault : Result Request Departure → RequestFault → Type 0
ToldFault defined (faults.BadRequest at) = (d : Departure) × (defined ≡ Err d) × (place_of d ≡ at)
ToldFault defined faults.Memory = Unit {0}

-- what is defined is told, unless memory ran out
abbrev pub Told : Result Request Departure → Result Request RequestFault → Type 0
Told defined (Ok request) = defined ≡ Ok request
Told defined (Err fault) = ToldFault defined fault

-- a place is within the body or at its end
abbrev pub IsWithin : List ℕ → RequestFault → Type 0
IsWithin body (faults.BadRequest at) = at ≤ length body
IsWithin body faults.Memory = Unit {0}
