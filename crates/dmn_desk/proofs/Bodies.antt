-- Bodies that are read as requests.
use Rattle.std.proofs.Common.{◌≡◌, ℕ, ◌+◌, ◌-◌, ◌<◌, ◌≤◌, Bool, true, false, cond, List, [], ◌∷◌, length, take, drop, nat_lt, if◌then◌else◌, Result, Ok, Err, refl, sym, ap, ◌∙◌, arith, inl, inr}
use Rattle.std.proofs.lemmas.Bool.{cases_lt, lt-ltb, le-ltb}
use Rattle.std.proofs.lemmas.List.{length-take, take_all}
use Rattle.std.specs.Int.{w16, w32, from_le_bytes, to_le_bytes}
use Rattle.std.specs.Prelude.{◌^◌, IfErr, slice_index}
use Rattle.dmn_block.specs.Body.{connect_body, connect_body_sound}
use Rattle.dmn_block.specs.declared.fault.BlockFault.{BlockFault}
use Rattle.dmn_block.specs.declared.fault.BlockFault.TheVariants as blocks
use Rattle.dmn_block.specs.Fault.{BlockDeparts}
use Rattle.dmn_block.specs.declared.body.ConnectBody.{ConnectBody}
use Rattle.dmn_block.specs.declared.frame.BlockFrame.{BlockFrame}
use Rattle.dmn_block.specs.Defs.{IsBlockText, HasItsIds, body_of}
use Rattle.dmn_block.specs.Frames.{frame_of}
use Rattle.dmn_bytes.specs.declared.fault.Departure.{Departure}
use Rattle.dmn_bytes.specs.declared.fault.Departure.TheVariants.{Form}
use Rattle.dmn_bytes.specs.declared.fault.ReadFault.{ReadFault}
use Rattle.dmn_bytes.specs.declared.fault.ReadFault.TheVariants.{Short, LongSpelling}
use Rattle.dmn_bytes.specs.Reading.{fault_of}
use Rattle.dmn_bytes.specs.Format.{Format, ◌>>=◌, ◌⊗◌, byte, fixed, hash, number, only, piece, via, whole}
use Rattle.dmn_bytes.specs.Law.{IsBytes, IsSound, place_of}
use Rattle.dmn_bytes.specs.Sound.{bind_ok, bind_err, both_sound, byte_sound, hash_sound, number16_sound, number32_sound, ok_is, only_sound, whole_again, whole_within}
use Rattle.dmn_desk.specs.declared.kind.Kind.{Kind}
use Rattle.dmn_desk.specs.declared.kind.Kind.TheVariants as kinds
use Rattle.dmn_frames.specs.declared.limits.TheConstants.{FRONT}
use Rattle.dmn_frames.specs.declared.reading.Reading.TheVariants.{Front}
use Rattle.dmn_desk.specs.declared.request.Request.{Request}
use Rattle.dmn_desk.specs.declared.request.Request.TheVariants as requests
use Rattle.dmn_desk.specs.declared.request.RequestFault.{RequestFault}
use Rattle.dmn_desk.specs.declared.request.RequestFault.TheVariants as faults
use Rattle.dmn_desk.specs.Kinds.{reading_of}
use Rattle.dmn_desk.specs.Requests.{IsWithin, Told, ToldFault, kind_by, made, of_block, of_read, request_of}

-- ---- what is made of a whole text

by_test : {V A : Type 0} (b : Bool) (d : Departure) (v : V) (make : V → A) → cond b (Err d) (Ok (make v)) ≡ (cond b (Err d) (Ok v) >>= λ w. Ok (make w))
by_test true d v make = refl
by_test false d v make = refl

by_parse : {V A : Type 0} (r : Result (V × ℕ) Departure) (n : ℕ) (make : V → A)
    → (r >>= λ x. if nat_lt x.1 n then Err (Form x.1) else Ok (make x.0)) ≡ ((r >>= λ x. if nat_lt x.1 n then Err (Form x.1) else Ok x.0) >>= λ w. Ok (make w))
by_parse (Ok x) n make = by_test (nat_lt x.1 n) (Form x.1) x.0 make
by_parse (Err d) n make = refl

made_is : {V : Type 0} (f : Format V) (make : V → Request) (t : List ℕ) → made f make t ≡ (whole f t >>= λ w. Ok (make w))
made_is f make t = by_parse (f.parse t 0) (length t) make

made_within : {V : Type 0} (f : Format V) (make : V → Request) (t : List ℕ) (d : Departure) → IsSound f → IsBytes t → made f make t ≡ Err d → place_of d ≤ length t
made_within f make t d sound bytes e =
    elim (bind_err (whole f t) (λ w. Ok (make w)) d (sym (made_is f make t) ∙ e)) [
      | inl departs ↦ whole_within f sound t d bytes departs
      | inr wrong ↦ absurd (cc (wrong.2))
    ]

-- where a body departs, it departs within the body or at its end
pub departs_within : (kind : Kind) (body : List ℕ) (d : Departure) → IsBytes body → request_of kind body ≡ Err d → place_of d ≤ length body
unfolding request_of
departs_within kinds.Connect body d bytes e = made_within connect_body _ body d connect_body_sound bytes e
departs_within kinds.Disconnect body d bytes e = made_within hash _ body d hash_sound bytes e
departs_within kinds.Tip body d bytes e = made_within (only requests.Tip) (λ r. r) body d (only_sound requests.Tip) bytes e
departs_within kinds.List body d bytes e = made_within (number w32) _ body d number32_sound bytes e
departs_within kinds.Row body d bytes e = made_within (number w32 ⊗ hash) _ body d (both_sound (number w32) hash number32_sound hash_sound) bytes e
departs_within kinds.Payees body d bytes e = made_within (number w32 ⊗ number w16) _ body d (both_sound (number w32) (number w16) number32_sound number16_sound) bytes e
departs_within kinds.Members body d bytes e = made_within (byte ⊗ number w32) _ body d (both_sound byte (number w32) byte_sound number32_sound) bytes e
departs_within kinds.Quorums body d bytes e = made_within (number w32) _ body d number32_sound bytes e
departs_within kinds.Diff body d bytes e = made_within (hash ⊗ hash) _ body d (both_sound hash hash hash_sound hash_sound) bytes e
departs_within kinds.Pin body d bytes e = made_within (number w32) _ body d number32_sound bytes e
departs_within kinds.Page body d bytes e = made_within (number w32 ⊗ number w32 ⊗ number w16) _ body d (both_sound (number w32) (number w32 ⊗ number w16) number32_sound (both_sound (number w32) (number w16) number32_sound number16_sound)) bytes e
departs_within kinds.Release body d bytes e = made_within (number w32) _ body d number32_sound bytes e

-- ---- kinds

made_by : {V : Type 0} (f : Format V) (make : V → Request) (t : List ℕ) (request : Request) (kind : Kind) → ((v : V) → kind_by (make v) ≡ kind) → made f make t ≡ Ok request → kind_by request ≡ kind
made_by f make t request kind is e =
    let b = bind_ok (whole f t) (λ w. Ok (make w)) request (sym (made_is f make t) ∙ e) in
    ap kind_by (sym (ok_is (make b.0) request b.2)) ∙ is b.0

only_test : (b : Bool) (d : Departure) (x y : Request) → cond b (Err d) (Ok x) ≡ Ok y → y ≡ x
only_test true d x y e = absurd (cc)
only_test false d x y e = sym (ok_is x y e)

only_tip : (body : List ℕ) (request : Request) → whole (only requests.Tip) body ≡ Ok request → request ≡ requests.Tip
only_tip body request e = only_test (nat_lt 0 (length body)) (Form 0) requests.Tip request e

-- a body of a kind is a request of that kind
pub kind_of_request : (kind : Kind) (body : List ℕ) (request : Request) → request_of kind body ≡ Ok request → kind_by request ≡ kind
unfolding request_of
kind_of_request kinds.Connect body request e = made_by connect_body (λ b. requests.Connect (frame_of b) body) body request kinds.Connect (λ v. refl) e
kind_of_request kinds.Disconnect body request e = made_by hash requests.Disconnect body request kinds.Disconnect (λ v. refl) e
kind_of_request kinds.Tip body request e =
    let b = bind_ok (whole (only requests.Tip) body) (λ w. Ok w) request (sym (made_is (only requests.Tip) (λ r. r) body) ∙ e) in
    ap kind_by (sym (ok_is b.0 request b.2)) ∙ ap kind_by (only_tip body b.0 b.1)
kind_of_request kinds.List body request e = made_by (number w32) requests.List body request kinds.List (λ v. refl) e
kind_of_request kinds.Row body request e = made_by (number w32 ⊗ hash) (λ p. requests.Row p.0 p.1) body request kinds.Row (λ v. refl) e
kind_of_request kinds.Payees body request e = made_by (number w32 ⊗ number w16) (λ p. requests.Payees p.0 p.1) body request kinds.Payees (λ v. refl) e
kind_of_request kinds.Members body request e = made_by (byte ⊗ number w32) (λ p. requests.Members p.0 p.1) body request kinds.Members (λ v. refl) e
kind_of_request kinds.Quorums body request e = made_by (number w32) requests.Quorums body request kinds.Quorums (λ v. refl) e
kind_of_request kinds.Diff body request e = made_by (hash ⊗ hash) (λ p. requests.Diff p.0 p.1) body request kinds.Diff (λ v. refl) e
kind_of_request kinds.Pin body request e = made_by (number w32) requests.Pin body request kinds.Pin (λ v. refl) e
kind_of_request kinds.Page body request e = made_by (number w32 ⊗ number w32 ⊗ number w16) (λ p. requests.Page p.0 p.1.0 p.1.1) body request kinds.Page (λ v. refl) e
kind_of_request kinds.Release body request e = made_by (number w32) requests.Release body request kinds.Release (λ v. refl) e

-- ---- a block

-- the block of a text is the one that its body asks to connect
pub connect_is : (text : List ℕ) (block : BlockFrame) → IsBlockText text block → HasItsIds block → request_of kinds.Connect text ≡ Ok (requests.Connect block text)
unfolding request_of
connect_is text block is ids =
    let again : whole connect_body text ≡ Ok (body_of block is.0) = ap (whole connect_body) is.2 ∙ whole_again connect_body connect_body_sound (body_of block is.0) is.1 in
    let same : frame_of (body_of block is.0) ≡ block = rw (← ids) refl in
    made_is connect_body (λ b. requests.Connect (frame_of b) text) text ∙ ap (λ (r : Result ConnectBody Departure). r >>= λ b. Ok (requests.Connect (frame_of b) text)) again ∙ ap (λ (b : BlockFrame). Ok (requests.Connect b text)) same

-- a text that is no block departs as the body of its request
pub connect_departs : (text : List ℕ) (d : Departure) → whole connect_body text ≡ Err d → request_of kinds.Connect text ≡ Err d
unfolding request_of
connect_departs text d e = made_is connect_body (λ b. requests.Connect (frame_of b) text) text ∙ ap (λ (r : Result ConnectBody Departure). r >>= λ b. Ok (requests.Connect (frame_of b) text)) e

-- ---- the front of a body

-- each text that is long enough is read, and this many bytes of it
abbrev pub HasSize : {V : Type 0} → Format V → ℕ → Type 0
HasSize {V} f n = (t : List ℕ) (i : ℕ) → i + n ≤ length t → (v : V) × (j : ℕ) × (f.parse t i ≡ Ok (v, j)) × (j ≡ i + n)

piece_size : {V : Type 0} (n : ℕ) (text : V → List ℕ) (Fits : V → Type 0) (value : List ℕ → V) → HasSize (piece n text Fits value) n
piece_size n text Fits value t i long = (value (take n (drop i t)), i + n, rw (le-ltb (length t - i) n (omega (arith, long))) refl, refl)

both_size : {A B : Type 0} (f : Format A) (g : Format B) (a b : ℕ) → HasSize f a → HasSize g b → HasSize (f ⊗ g) (a + b)
both_size f g a b first second t i long =
    let x = first t i (omega (arith, long)) in
    let y = second t x.1 (omega (arith, long, x.3)) in
    ((x.0, y.0), y.1, rw (x.2, y.2) refl, omega (arith, x.3, y.3))

via_size : {A V : Type 0} (to : A → V) (from : V → A) (f : Format A) (n : ℕ) → HasSize f n → HasSize (via to from f) n
via_size to from f n size t i long = let x = size t i long in (to x.0, x.1, rw x.2 refl, x.3)

only_size : {A : Type 0} (a : A) → HasSize (only a) 0
only_size a t i long = (a, i, refl, omega arith)

number4 : HasSize (number w32) 4
number4 t i long = piece_size 4 (to_le_bytes w32) (λ n. n < 2 ^ 32) (from_le_bytes w32) t i long

number2 : HasSize (number w16) 2
number2 t i long = piece_size 2 (to_le_bytes w16) (λ n. n < 2 ^ 16) (from_le_bytes w16) t i long

hash32 : HasSize hash 32
hash32 t i long = via_size (λ bytes. record { 0 = bytes }) (λ h. h.0) (fixed 32) 32 (piece_size 32 (λ bytes. bytes) (λ bytes. length bytes ≡ 32) (λ bytes. bytes)) t i long

byte1 : HasSize byte 1
byte1 t i long = piece_size 1 (λ b. b ∷ []) (λ b. b < 256) (λ bytes. slice_index bytes 0) t i long

-- a longer text departs behind these bytes
departs_behind : {V : Type 0} (f : Format V) (make : V → Request) (n : ℕ) (t : List ℕ) → HasSize f n → n < length t → made f make t ≡ Err (Form n)
departs_behind f make n t size long =
    let x = size t 0 (omega (arith, long)) in
    let here : x.1 ≡ n = omega (arith, x.3) in
    rw (x.2, here, lt-ltb n (length t) long) refl

front_same : {V : Type 0} (f : Format V) (make : V → Request) (n : ℕ) (t : List ℕ) → HasSize f n → n < 64 → made f make (take 64 t) ≡ made f make t
front_same f make n t size few =
    elim (cases_lt 64 (length t)) [
      | inl long ↦ departs_behind f make n (take 64 t) size (omega (arith, length-take 64 t, long, few)) ∙ sym (departs_behind f make n t size (omega (arith, long, few)))
      | inr short ↦ ap (made f make) (take_all 64 t short)
    ]

-- the front of a body decides, where only that is read
pub front_decides : (kind : Kind) (body : List ℕ) → reading_of kind ≡ Front → request_of kind body ≡ request_of kind (take FRONT body)
unfolding request_of
front_decides kinds.Connect body is = absurd (cc)
front_decides kinds.Disconnect body is = sym (front_same hash requests.Disconnect 32 body hash32 (omega arith))
front_decides kinds.Tip body is = sym (front_same (only requests.Tip) (λ r. r) 0 body (only_size requests.Tip) (omega arith))
front_decides kinds.List body is = sym (front_same (number w32) requests.List 4 body number4 (omega arith))
front_decides kinds.Row body is = sym (front_same (number w32 ⊗ hash) (λ p. requests.Row p.0 p.1) 36 body (both_size (number w32) hash 4 32 number4 hash32) (omega arith))
front_decides kinds.Payees body is = sym (front_same (number w32 ⊗ number w16) (λ p. requests.Payees p.0 p.1) 6 body (both_size (number w32) (number w16) 4 2 number4 number2) (omega arith))
front_decides kinds.Members body is = sym (front_same (byte ⊗ number w32) (λ p. requests.Members p.0 p.1) 5 body (both_size byte (number w32) 1 4 byte1 number4) (omega arith))
front_decides kinds.Quorums body is = sym (front_same (number w32) requests.Quorums 4 body number4 (omega arith))
front_decides kinds.Diff body is = absurd (cc)
front_decides kinds.Pin body is = sym (front_same (number w32) requests.Pin 4 body number4 (omega arith))
front_decides kinds.Page body is = sym (front_same (number w32 ⊗ number w32 ⊗ number w16) (λ p. requests.Page p.0 p.1.0 p.1.1) 10 body (both_size (number w32) (number w32 ⊗ number w16) 4 6 number4 (both_size (number w32) (number w16) 4 2 number4 number2)) (omega arith))
front_decides kinds.Release body is = sym (front_same (number w32) requests.Release 4 body number4 (omega arith))

-- what is told of a fault of a block
pub told_block : (text : List ℕ) (fault : BlockFault) → BlockDeparts fault text → ToldFault (request_of kinds.Connect text) (of_block fault)
told_block text (blocks.BlockForm at) departs = (departs.0, connect_departs text departs.0 departs.1, departs.2)
told_block text blocks.Memory departs = tt

told_within : (kind : Kind) (body : List ℕ) (fault : RequestFault) → IsBytes body → ToldFault (request_of kind body) fault → IsWithin body fault
told_within kind body (faults.BadRequest at) bytes told = omega (arith, departs_within kind body told.0 bytes told.1, told.2)
told_within kind body faults.Memory bytes told = tt

-- a place that is told is within the body
pub result_within : (kind : Kind) (body : List ℕ) (r : Result Request RequestFault) → IsBytes body → Told (request_of kind body) r → IfErr r (IsWithin body)
result_within kind body (Ok request) bytes told = tt
result_within kind body (Err fault) bytes told = told_within kind body fault bytes told

-- what is told of a field that departs
pub told_read : (defined : Result Request Departure) (fault : ReadFault) → defined ≡ Err (fault_of fault) → Told defined (Err (of_read fault))
told_read defined (Short at) is = (Form at, is, refl)
told_read defined (LongSpelling at) is = (Form at, is, refl)

-- a page's three numbers, one after another
pub page_ends : (body : List ℕ) (pin from count a b at : ℕ) → (number w32).parse body 0 ≡ Ok (pin, a) → (number w32).parse body a ≡ Ok (from, b) → (number w16).parse body b ≡ Ok (count, at)
    → request_of kinds.Page body ≡ (if nat_lt at (length body) then Err (Form at) else Ok (requests.Page pin from count))
unfolding request_of
page_ends body pin from count a b at first second third = rw (first, second, third) refl
