-- A frame is answered as the request that it is, by what is kept of its body.
use Rattle.std.proofs.Common.{◌≡◌, ◌⊎◌, inl, inr, ℕ, ◌+◌, ◌-◌, ◌<◌, ◌≤◌, ◌==◌, true, false, List, [], length, take, drop, refl, sym, ap, subst, ◌∙◌, arith}
use Rattle.std.specs.Prelude.{Option, None, Some, Result, Ok, Err}
use Rattle.std.proofs.lemmas.Bool.{cases_lt, eqb-true, le-ltb, lt-ltb}
use Rattle.std.proofs.lemmas.List.{length-take, take_all}
use Rattle.dmn_block.specs.Body.{connect_body}
use Rattle.dmn_block.specs.Defs.{most_items}
use Rattle.dmn_block.specs.Frames.{frame_of}
use Rattle.dmn_block.specs.declared.body.ConnectBody.{ConnectBody}
use Rattle.dmn_bytes.specs.Format.{◌>>=◌}
use Rattle.dmn_bytes.specs.declared.fault.Departure.TheVariants.{Form}
use Rattle.dmn_block.specs.declared.frame.BlockFrame.{BlockFrame}
use Rattle.dmn_bytes.specs.declared.fault.Departure.{Departure}
use Rattle.dmn_bytes.specs.declared.hash.Hash256.{Hash256}
use Rattle.dmn_bytes.specs.Law.{place_of}
use Rattle.dmn_outside.specs.Disk.{AreOver, DiskView}
use Rattle.dmn_outside.specs.declared.device.DiskFault.{DiskFault}
use Rattle.dmn_journal.specs.Journal.{Entry, size_of_record}
use Rattle.dmn_journal.specs.Reading.{entry_departs}
use Rattle.dmn_desk.specs.declared.answer.Answer.{Answer}
use Rattle.dmn_desk.specs.declared.answer.Answer.TheVariants.{Short}
use Rattle.dmn_desk.specs.declared.answer.ShortAnswer.TheVariants as short
use Rattle.dmn_desk.specs.declared.kind.Kind.{Kind}
use Rattle.dmn_desk.specs.declared.kind.Kind.TheVariants as kinds
use Rattle.dmn_desk.specs.declared.request.Request.{Request}
use Rattle.dmn_desk.specs.declared.request.Request.TheVariants as requests
use Rattle.dmn_desk.specs.Ask.{answer_of, answered, ask, asked_by, asked_kind, pin}
use Rattle.dmn_desk.specs.Asked.{HasRoom, OrMemory, entry_by}
use Rattle.dmn_desk.specs.Kinds.{kind_of, reading_of, takes_no_memory}
use Rattle.dmn_desk.specs.Requests.{kind_by, request_of}
use Rattle.std.specs.Prelude.{Bool, is_some, if◌then◌else◌, nat_lt}
use Rattle.dmn_desk.proofs.Bodies.{front_decides, kind_of_request}
use Rattle.dmn_frames.specs.Reading.{kept_of}
use Rattle.dmn_frames.specs.declared.limits.TheConstants.{FRONT, LONGEST_BODY}
use Rattle.dmn_frames.specs.declared.reading.Reading.{Reading}
use Rattle.dmn_frames.specs.declared.reading.Reading.TheVariants.{Nothing, Whole}
use Rattle.dmn_registry.specs.Machine.{Machine, connecting, disconnecting}
use Rattle.dmn_registry.proofs.Blocks.{body_form, connect_form, disconnect_form}
use Rattle.dmn_office.specs.declared.office.Office.{Office}
use Rattle.dmn_office.specs.Offices as offices
use Rattle.dmn_office.specs.Offices.{InHand}
use Rattle.dmn_office.proofs.Moving.{breaks_earlier, goes_earlier, stands_still, stays}
use Rattle.dmn_feed.specs.Bodies.{Decides, Gives}
use Rattle.dmn_feed.specs.Room.{HasPlace}
use Rattle.dmn_feed.specs.Steps.{Asks, MayBreak, MayServe, some_of}
use Rattle.dmn_outside.specs.Line.{Talk}
use Rattle.dmn_outside.specs.Pieces.{Took}

-- ---- how much of a body is read

-- a kind is answered by what is kept of its body
kind_decides : (kind : Kind) (body : List ℕ) → request_of kind body ≡ request_of kind (kept_of (reading_of kind) body)
kind_decides kinds.Connect body = refl
kind_decides kinds.Disconnect body = front_decides kinds.Disconnect body refl
kind_decides kinds.Tip body = front_decides kinds.Tip body refl
kind_decides kinds.List body = front_decides kinds.List body refl
kind_decides kinds.Row body = front_decides kinds.Row body refl
kind_decides kinds.Payees body = front_decides kinds.Payees body refl
kind_decides kinds.Members body = front_decides kinds.Members body refl
kind_decides kinds.Quorums body = front_decides kinds.Quorums body refl
kind_decides kinds.Diff body = refl
kind_decides kinds.Pin body = front_decides kinds.Pin body refl
kind_decides kinds.Page body = front_decides kinds.Page body refl
kind_decides kinds.Release body = front_decides kinds.Release body refl

-- what is read whole may be answered Memory
whole_lacks : (kind : Kind) → reading_of kind ≡ Whole → takes_no_memory (Some kind) ≡ false
whole_lacks kinds.Connect is = refl
whole_lacks kinds.Disconnect is = absurd (cc)
whole_lacks kinds.Tip is = absurd (cc)
whole_lacks kinds.List is = refl
whole_lacks kinds.Row is = refl
whole_lacks kinds.Payees is = refl
whole_lacks kinds.Members is = refl
whole_lacks kinds.Quorums is = refl
whole_lacks kinds.Diff is = refl
whole_lacks kinds.Pin is = refl
whole_lacks kinds.Page is = refl
whole_lacks kinds.Release is = absurd (cc)

asked_same : (number : ℕ) (kind : Kind) (m : Machine) (body : List ℕ) → kind_of number ≡ Some kind → asked_kind m (kind_of number) body ≡ asked_kind m (kind_of number) (kept_of (reading_of kind) body)
unfolding asked_kind
asked_same number kind m body is = rw is (ap (asked_by m) (kind_decides kind body))

answered_same : (number size : ℕ) (kept : List ℕ) (m : Machine) (body : List ℕ) → length body ≡ size → asked_kind m (kind_of number) body ≡ asked_kind m (kind_of number) kept → answer_of m number body ≡ answered m number size kept
unfolding answered
answered_same number size kept m body long same = rw (long, same) refl

-- ---- an entry's kinds

entry_by_kind : (kind : ℕ) (body : List ℕ) (one two : Rattle.std.specs.Prelude.Bool) → (kind == 1) ≡ one → (kind == 2) ≡ two → entry_departs (record { kind = kind; body = body }) ≡ None → (one ≡ true) ⊎ (two ≡ true)
unfolding entry_departs
entry_by_kind kind body true two is other form = inl refl
entry_by_kind kind body false true is other form = inr refl
entry_by_kind kind body false false is other form = absurd (cc (rw (is, other) at form))

entry_kinds : (kind : ℕ) (body : List ℕ) → entry_departs (record { kind = kind; body = body }) ≡ None → ((kind == 1) ≡ true) ⊎ ((kind == 2) ≡ true)
entry_kinds kind body form = entry_by_kind kind body (kind == 1) (kind == 2) refl refl form

-- the hash of a disconnect is kept whole
front_whole : (body : List ℕ) → length (take FRONT body) ≡ 32 → take FRONT body ≡ body
front_whole body long = take_all FRONT body (omega (arith, long, length-take FRONT body))

one_is : (number : ℕ) → (number == 1) ≡ true → kind_of number ≡ Some kinds.Connect
unfolding kind_of
one_is number is = rw is refl

two_is : (number : ℕ) → (number == 2) ≡ true → kind_of number ≡ Some kinds.Disconnect
unfolding kind_of
two_is number is = let e : number ≡ 2 = eqb-true number 2 is in rw e refl

some_kind : (a b : Kind) → Some a ≡ Some b → a ≡ b
some_kind a b is = cc

entry_whole : (number : ℕ) (kind : Kind) (body : List ℕ) → kind_of number ≡ Some kind → entry_departs (record { kind = number; body = kept_of (reading_of kind) body }) ≡ None → kept_of (reading_of kind) body ≡ body
entry_whole number kind body is form = elim (entry_kinds number (kept_of (reading_of kind) body) form) [
  | inl one ↦ let e : kind ≡ kinds.Connect = some_kind kind kinds.Connect (sym is ∙ one_is number one) in rw e refl
  | inr two ↦
      let e : kind ≡ kinds.Disconnect = some_kind kind kinds.Disconnect (sym is ∙ two_is number two) in
      let n : number ≡ 2 = eqb-true number 2 two in
      let long = (body_form (record { kind = number; body = kept_of (reading_of kind) body }) form).0 (λ one. absurd (omega (arith, n, one))) in
      rw e (front_whole body (rw e at long))
]

pub long_decides : (number size : ℕ) → LONGEST_BODY < size → Decides Nothing number size
unfolding answered
long_decides number size long = record {
  same = λ m body is. rw (is, lt-ltb LONGEST_BODY size long) refl;
  lacks = λ whole. absurd (cc whole);
  entry = λ fits body form. absurd (omega (arith, fits, long));
}

none_entry : (number : ℕ) (body : List ℕ) → kind_of number ≡ None → entry_departs (record { kind = number; body = body }) ≡ None → ⊥
none_entry number body is form = elim (entry_kinds number body form) [
  | inl one ↦ let wrong : None ≡ Some kinds.Connect = sym is ∙ one_is number one in cc
  | inr two ↦ let wrong : None ≡ Some kinds.Disconnect = sym is ∙ two_is number two in cc
]

none_same : (number : ℕ) (m : Machine) (body kept : List ℕ) → kind_of number ≡ None → asked_kind m (kind_of number) body ≡ asked_kind m (kind_of number) kept
unfolding asked_kind
none_same number m body kept is = rw is refl

pub unknown_decides : (number size : ℕ) → kind_of number ≡ None → Decides Nothing number size
unknown_decides number size is = record {
  same = λ m body long. answered_same number size [] m body long (none_same number m body [] is);
  lacks = λ whole. absurd (cc whole);
  entry = λ fits body form. absurd (none_entry number [] is form);
}

pub kind_decided : (number size : ℕ) (kind : Kind) → kind_of number ≡ Some kind → Decides (reading_of kind) number size
kind_decided number size kind is = record {
  same = λ m body long. answered_same number size (kept_of (reading_of kind) body) m body long (asked_same number kind m body is);
  lacks = λ whole. rw is (whole_lacks kind whole);
  entry = λ fits body form. entry_whole number kind body is form;
}

-- ---- by what was kept of a body

back_test : (more : Bool) (d : Departure) (bytes : List ℕ) (hash : Hash256) → if◌then◌else◌ {A = Result Request Departure} more (Err d) (Ok (requests.Disconnect (record { 0 = bytes }))) ≡ Ok (requests.Disconnect hash) → (more ≡ false) × (bytes ≡ hash.0)
back_test true d bytes hash is = absurd (cc)
back_test false d bytes hash is = let same : record { 0 = bytes } ≡ hash = cc in (refl, ap (λ (h : Hash256). h.0) same)

abbrev as_hash : List ℕ × ℕ → Result (Hash256 × ℕ) Departure
as_hash x = Ok (record { 0 = x.0 }, x.1)

back_made : (few : Bool) (len n : ℕ) (bytes : List ℕ) (d : Departure) (hash : Hash256)
    → ((if◌then◌else◌ {A = Result (List ℕ × ℕ) Departure} few (Err d) (Ok (bytes, n)) >>= λ x. as_hash x) >>= λ x. if nat_lt x.1 len then Err (Form x.1) else Ok (requests.Disconnect x.0)) ≡ Ok (requests.Disconnect hash) → (few ≡ false) × (nat_lt n len ≡ false) × (bytes ≡ hash.0)
back_made true len n bytes d hash is = absurd (cc is)
back_made false len n bytes d hash is = let test = back_test (nat_lt n len) (Form n) bytes hash is in (refl, test.0, test.1)

not_below : (a b : ℕ) → nat_lt a b ≡ false → b ≤ a
not_below a b is = elim (cases_lt a b) [
  | inl lt ↦ let wrong : true ≡ false = sym (lt-ltb a b lt) ∙ is in absurd cc
  | inr ge ↦ ge
]

-- the hash of a request to take a block back is the body, whole
disconnect_read : (body : List ℕ) (hash : Hash256) → request_of kinds.Disconnect body ≡ Ok (requests.Disconnect hash) → (hash.0 ≡ body) × (length hash.0 ≡ 32)
unfolding request_of
disconnect_read body hash is =
    let made = back_made (nat_lt (length body - 0) 32) (length body) (0 + 32) (take 32 (drop 0 body)) (Form 0) hash is in
    let enough : 32 ≤ length body - 0 = not_below (length body - 0) 32 made.0 in
    let fits : length body ≤ 0 + 32 = not_below (0 + 32) (length body) made.1 in
    let whole_body : take 32 body ≡ body = take_all 32 body (omega (arith, fits)) in
    let same : hash.0 ≡ body = sym made.2 ∙ whole_body in
    (same, omega (arith, ap length same, enough, fits))

connect_test : (b : Bool) (d : Departure) (v block : BlockFrame) (body told : List ℕ) → if◌then◌else◌ {A = Result Request Departure} b (Err d) (Ok (requests.Connect v body)) ≡ Ok (requests.Connect block told) → told ≡ body
connect_test true d v block body told is = absurd (cc)
connect_test false d v block body told is = let same : body ≡ told = cc in sym same

connect_made : (r : Result (ConnectBody × ℕ) Departure) (n : ℕ) (body : List ℕ) (block : BlockFrame) (told : List ℕ)
    → (r >>= λ x. if nat_lt x.1 n then Err (Form x.1) else Ok (requests.Connect (frame_of x.0) body)) ≡ Ok (requests.Connect block told) → told ≡ body
connect_made (Ok x) n body block told is = connect_test (nat_lt x.1 n) (Form x.1) (frame_of x.0) block body told is
connect_made (Err d) n body block told is = absurd (cc is)

-- the body of a block's request is the frame's
connect_read : (body : List ℕ) (block : BlockFrame) (told : List ℕ) → request_of kinds.Connect body ≡ Ok (requests.Connect block told) → told ≡ body
unfolding request_of
connect_read body block told is = connect_made (connect_body.parse body 0) (length body) body block told is

asked_request : (number size : ℕ) (kept : List ℕ) (kind : Kind) (request : Request) (m : Machine) → size ≤ LONGEST_BODY → kind_of number ≡ Some kind → request_of kind kept ≡ Ok request → answered m number size kept ≡ ask m request
unfolding answered asked_kind
asked_request number size kept kind request m fits known is = rw (le-ltb LONGEST_BODY size fits, known, is) refl

by_number : (a b c d e f g h i j k l : Bool) (kind : Kind) → if◌then◌else◌ {A = Option Kind} a (Some kinds.Connect) (if◌then◌else◌ {A = Option Kind} b (Some kinds.Disconnect) (if◌then◌else◌ {A = Option Kind} c (Some kinds.Tip) (if◌then◌else◌ {A = Option Kind} d (Some kinds.List) (if◌then◌else◌ {A = Option Kind} e (Some kinds.Row) (if◌then◌else◌ {A = Option Kind} f (Some kinds.Payees) (if◌then◌else◌ {A = Option Kind} g (Some kinds.Members) (if◌then◌else◌ {A = Option Kind} h (Some kinds.Quorums) (if◌then◌else◌ {A = Option Kind} i (Some kinds.Diff) (if◌then◌else◌ {A = Option Kind} j (Some kinds.Pin) (if◌then◌else◌ {A = Option Kind} k (Some kinds.Page) (if◌then◌else◌ {A = Option Kind} l (Some kinds.Release) (None)))))))))))) ≡ Some kind → (kind ≡ kinds.Connect → a ≡ true) × (kind ≡ kinds.Disconnect → b ≡ true)
by_number true b c d e f g h i j k l kind is = (λ e. refl, λ e. let x : Some kinds.Connect ≡ Some kind = is in absurd (cc (x, e)))
by_number false true c d e f g h i j k l kind is = (λ e. let x : Some kinds.Disconnect ≡ Some kind = is in absurd (cc (x, e)), λ e. refl)
by_number false false true d e f g h i j k l kind is = (λ e. let x : Some kinds.Tip ≡ Some kind = is in absurd (cc (x, e)), λ e. let x : Some kinds.Tip ≡ Some kind = is in absurd (cc (x, e)))
by_number false false false true e f g h i j k l kind is = (λ e. let x : Some kinds.List ≡ Some kind = is in absurd (cc (x, e)), λ e. let x : Some kinds.List ≡ Some kind = is in absurd (cc (x, e)))
by_number false false false false true f g h i j k l kind is = (λ e. let x : Some kinds.Row ≡ Some kind = is in absurd (cc (x, e)), λ e. let x : Some kinds.Row ≡ Some kind = is in absurd (cc (x, e)))
by_number false false false false false true g h i j k l kind is = (λ e. let x : Some kinds.Payees ≡ Some kind = is in absurd (cc (x, e)), λ e. let x : Some kinds.Payees ≡ Some kind = is in absurd (cc (x, e)))
by_number false false false false false false true h i j k l kind is = (λ e. let x : Some kinds.Members ≡ Some kind = is in absurd (cc (x, e)), λ e. let x : Some kinds.Members ≡ Some kind = is in absurd (cc (x, e)))
by_number false false false false false false false true i j k l kind is = (λ e. let x : Some kinds.Quorums ≡ Some kind = is in absurd (cc (x, e)), λ e. let x : Some kinds.Quorums ≡ Some kind = is in absurd (cc (x, e)))
by_number false false false false false false false false true j k l kind is = (λ e. let x : Some kinds.Diff ≡ Some kind = is in absurd (cc (x, e)), λ e. let x : Some kinds.Diff ≡ Some kind = is in absurd (cc (x, e)))
by_number false false false false false false false false false true k l kind is = (λ e. let x : Some kinds.Pin ≡ Some kind = is in absurd (cc (x, e)), λ e. let x : Some kinds.Pin ≡ Some kind = is in absurd (cc (x, e)))
by_number false false false false false false false false false false true l kind is = (λ e. let x : Some kinds.Page ≡ Some kind = is in absurd (cc (x, e)), λ e. let x : Some kinds.Page ≡ Some kind = is in absurd (cc (x, e)))
by_number false false false false false false false false false false false true kind is = (λ e. let x : Some kinds.Release ≡ Some kind = is in absurd (cc (x, e)), λ e. let x : Some kinds.Release ≡ Some kind = is in absurd (cc (x, e)))
by_number false false false false false false false false false false false false kind is = (λ e. absurd (cc is), λ e. absurd (cc is))

-- the kind of a request tells the number of its frame
number_is : (number : ℕ) (kind : Kind) → kind_of number ≡ Some kind → ((kind ≡ kinds.Connect) → number ≡ 1) × ((kind ≡ kinds.Disconnect) → number ≡ 2)
unfolding kind_of
number_is number kind known =
    let tests = by_number (number == 1) (number == 2) (number == 3) (number == 4) (number == 5) (number == 6) (number == 7) (number == 8) (number == 9) (number == 10) (number == 11) (number == 12) kind known in
    (λ e. eqb-true number 1 (tests.0 e), λ e. eqb-true number 2 (tests.1 e))

some_entry : (a b : Entry) → Some a ≡ Some b → a ≡ b
some_entry a b is = cc

module _ (number size : ℕ) (kept : List ℕ) (kind : Kind) (request : Request) (t : ℕ) (before after : DiskView) (old new : Office) (fits : size ≤ LONGEST_BODY) (few : length kept ≤ size) (known : kind_of number ≡ Some kind) (is : request_of kind kept ≡ Ok request) where
  short_body : (block : BlockFrame) (body : List ℕ) → request ≡ requests.Connect block body → length body ≤ most_items
  short_body block body e =
      let k : kinds.Connect ≡ kind = rw e at (kind_of_request kind kept request is) in
      let same : body ≡ kept = connect_read kept block body (subst (λ (r : Request). request_of kinds.Connect kept ≡ Ok r) e (subst (λ (c : Kind). request_of c kept ≡ Ok request) (sym k) is)) in
      omega (arith, ap length same, few, fits)

  long_hash : (hash : Hash256) → request ≡ requests.Disconnect hash → length hash.0 ≡ 32
  long_hash hash e =
      let k : kinds.Disconnect ≡ kind = rw e at (kind_of_request kind kept request is) in
      (disconnect_read kept hash (subst (λ (r : Request). request_of kinds.Disconnect kept ≡ Ok r) e (subst (λ (c : Kind). request_of c kept ≡ Ok request) (sym k) is))).1

  entry_is : (entry : Entry) → entry_by request ≡ Some entry → entry ≡ record { kind = number; body = kept }
  entry_is entry e = entry_of_request request entry (kind_of_request kind kept request is) is e
    where
      entry_of_request : (r : Request) (entry : Entry) → kind_by r ≡ kind → request_of kind kept ≡ Ok r → entry_by r ≡ Some entry → entry ≡ record { kind = number; body = kept }
      entry_of_request (requests.Connect block body) entry k read e =
          let one : number ≡ 1 = (number_is number kind known).0 (sym k) in
          let same : body ≡ kept = connect_read kept block body (subst (λ (c : Kind). request_of c kept ≡ Ok (requests.Connect block body)) (sym k) read) in
          let told : connecting body ≡ entry = some_entry (connecting body) entry e in
          sym told ∙ ap connecting same ∙ ap (λ (n : ℕ). record { kind = n; body = kept }) (sym one)
      entry_of_request (requests.Disconnect hash) entry k read e =
          let two : number ≡ 2 = (number_is number kind known).1 (sym k) in
          let same : hash.0 ≡ kept = (disconnect_read kept hash (subst (λ (c : Kind). request_of c kept ≡ Ok (requests.Disconnect hash)) (sym k) read)).0 in
          let told : disconnecting hash ≡ entry = some_entry (disconnecting hash) entry e in
          sym told ∙ ap (λ (l : List ℕ). record { kind = 2; body = l }) same ∙ ap (λ (n : ℕ). record { kind = n; body = kept }) (sym two)
      entry_of_request requests.Tip entry k read e = absurd (cc e)
      entry_of_request (requests.List height) entry k read e = absurd (cc e)
      entry_of_request (requests.Row height hash) entry k read e = absurd (cc e)
      entry_of_request (requests.Payees height count) entry k read e = absurd (cc e)
      entry_of_request (requests.Members base height) entry k read e = absurd (cc e)
      entry_of_request (requests.Quorums height) entry k read e = absurd (cc e)
      entry_of_request (requests.Pin height) entry k read e = absurd (cc e)
      entry_of_request (requests.Page pin from count) entry k read e = absurd (cc e)
      entry_of_request (requests.Release pin) entry k read e = absurd (cc e)
      entry_of_request (requests.Diff base block) entry k read e = absurd (cc e)

  -- what has its place has room
  pub request_room : (end room : ℕ) → HasPlace (record { kind = number; body = kept }) end room → HasRoom (entry_by request) end room
  request_room end room place = by_request request refl
    where
      placed : (entry : Entry) → entry_by request ≡ Some entry → entry_departs entry ≡ None → end + 1 + size_of_record entry ≤ room
      placed entry e form =
          let same = entry_is entry e in
          subst (λ (x : Entry). end + 1 + size_of_record x ≤ room) (sym same) (place (subst (λ (x : Entry). entry_departs x ≡ None) same form))

      by_request : (r : Request) → request ≡ r → HasRoom (entry_by r) end room
      by_request (requests.Connect block body) e = placed (connecting body) (ap entry_by e) (connect_form body (short_body block body e))
      by_request (requests.Disconnect hash) e = placed (disconnecting hash) (ap entry_by e) (disconnect_form hash (long_hash hash e))
      by_request requests.Tip e = tt
      by_request (requests.List height) e = tt
      by_request (requests.Row height hash) e = tt
      by_request (requests.Payees height count) e = tt
      by_request (requests.Members base height) e = tt
      by_request (requests.Quorums height) e = tt
      by_request (requests.Pin height) e = tt
      by_request (requests.Page pin from count) e = tt
      by_request (requests.Release pin) e = tt
      by_request (requests.Diff base block) e = tt

  -- a command in hand is the frame's
  hand_is : (m last : Machine) → InHand m (entry_by request) last → InHand m (Some (record { kind = number; body = kept })) last
  hand_is m last (inl same) = inl same
  hand_is m last (inr (entry, is_entry, accepts)) = inr (entry, ap (λ (e : Entry). Some e) (sym (entry_is entry is_entry)), accepts)

  pub request_does : (r : Result Answer DiskFault) → offices.Gives r request t before after old new → Gives r number size kept t before after old new
  request_does (Ok answer) gives = λ m stands.
      let s = gives m stands in
      let same = asked_request number size kept kind request m fits known is in
      let k : kind_by request ≡ kind = kind_of_request kind kept request is in
      let never : takes_no_memory (Some (kind_by request)) ≡ takes_no_memory (kind_of number) = ap (λ (c : Kind). takes_no_memory (Some c)) k ∙ ap takes_no_memory (sym known) in (
        s.0,
        elim s.1 [
          | inl defined ↦ inl (same ∙ defined)
          | inr free ↦ inr (sym never ∙ free.0, free.1, free.2)
        ],
        s.2,
      )
  request_does (Err fault) gives = (
    fits,
    λ m stands.
        let b = gives m stands in
        record { last = b.last; hand = hand_is m b.last b.hand; run = b.run },
  )

-- ---- what needs no request

-- nothing is done, and the answer is defined
pub gives_idle : (number size : ℕ) (kept : List ℕ) (answer : Answer) (t : ℕ) (before : DiskView) (office : Office) → AreOver t before.past → ((m : Machine) → answered m number size kept ≡ (answer, m)) → Gives (Ok answer) number size kept t before before office office
gives_idle number size kept answer t before office over is m stands = (m, inl (is m), stays t before before m office over refl stands)

pub long_answer : (m : Machine) (number size : ℕ) (kept : List ℕ) → LONGEST_BODY < size → answered m number size kept ≡ (Short (short.BadRequest 1), m)
unfolding answered
long_answer m number size kept long = rw (lt-ltb LONGEST_BODY size long) refl

pub unknown_answer : (m : Machine) (number size : ℕ) (kept : List ℕ) → size ≤ LONGEST_BODY → kind_of number ≡ None → answered m number size kept ≡ (Short (short.BadRequest 0), m)
unfolding answered asked_kind
unknown_answer m number size kept fits none = rw (le-ltb LONGEST_BODY size fits, none) refl

pub fault_answer : (m : Machine) (number size : ℕ) (kept : List ℕ) (kind : Kind) (d : Departure) (at : ℕ) → size ≤ LONGEST_BODY → kind_of number ≡ Some kind → request_of kind kept ≡ Err d → place_of d ≡ at → answered m number size kept ≡ (Short (short.BadRequest (5 + at)), m)
unfolding answered asked_kind
fault_answer m number size kept kind d at fits known is place = rw (le-ltb LONGEST_BODY size fits, known, is, place) refl

pub gives_memory : (number size : ℕ) (kept : List ℕ) (t : ℕ) (before : DiskView) (office : Office) → AreOver t before.past → takes_no_memory (kind_of number) ≡ false → Gives (Ok (Short short.Memory)) number size kept t before before office office
gives_memory number size kept t before office over free m stands = (m, inr (free, refl, refl), stays t before before m office over refl stands)

-- ---- whole frames

module _ (t later : ℕ) (before mid after : DiskView) (old new : Office) (reading : Reading) (kind size : ℕ) (body kept : List ℕ) (le : t ≤ later) (over : AreOver t before.past) (same : mid ≡ before) (decides : Decides reading kind size) (long : length body ≡ size) (is : kept ≡ kept_of reading body) where
  -- what was done by what was kept of a body is done with the frame
  does_answer : (answer : Answer) → Gives (Ok answer) kind size kept later mid after old new → MayServe t before after old (record { kind = kind; body = body }) answer new
  does_answer answer gives m stands =
      let s = gives m (stands_still before mid m old same stands) in
      let so : answer_of m kind body ≡ answered m kind size kept = decides.same m body long ∙ ap (answered m kind size) (sym is) in (
        s.0,
        subst (λ (p : Answer × Machine). OrMemory (Short short.Memory) (takes_no_memory (kind_of kind)) p m answer s.0) (sym so) s.1,
        goes_earlier t later before mid after m old le over same stands s.0 new s.2,
      )

  whole_kept : size ≤ LONGEST_BODY → entry_departs (record { kind = kind; body = kept }) ≡ None → kept ≡ body
  whole_kept fits form = is ∙ decides.entry fits body (subst (λ (l : List ℕ). entry_departs (record { kind = kind; body = l }) ≡ None) is form)

  hand_whole : (m last : Machine) → size ≤ LONGEST_BODY → InHand m (Some (record { kind = kind; body = kept })) last → InHand m (Some (record { kind = kind; body = body })) last
  hand_whole m last fits (inl here) = inl here
  hand_whole m last fits (inr (entry, e, accepts)) =
      let told : record { kind = kind; body = kept } ≡ entry = some_entry (record { kind = kind; body = kept }) entry e in
      let all : kept ≡ body = whole_kept fits (subst (λ (x : Entry). entry_departs x ≡ None) (sym told) accepts.form) in
      inr (entry, ap (λ (l : List ℕ). Some (record { kind = kind; body = l })) (sym all) ∙ e, accepts)

  does_break : (fault : DiskFault) → Gives (Err fault) kind size kept later mid after old new → MayBreak t before after old (record { kind = kind; body = body })
  does_break fault gives m stands =
      let b = breaks_earlier t later before mid after m old le over same stands (Some (record { kind = kind; body = kept })) (gives.1 m (stands_still before mid m old same stands)) in
      record { last = b.last; hand = hand_whole m b.last gives.0 b.hand; run = b.run }

pub asked_does : (r : Result Answer DiskFault) (t later : ℕ) (before mid after : DiskView) (old new : Office) (reading : Reading) (kind size : ℕ) (kept : List ℕ) (x y : Talk) → t ≤ later → AreOver t before.past → mid ≡ before → Decides reading kind size → Took size x y → kept ≡ kept_of reading (take size x.left)
    → Gives r kind size kept later mid after old new → Asks (some_of r) t before after old kind size new x y
asked_does (Ok answer) t later before mid after old new reading kind size kept x y le over same decides took is gives = (took, does_answer t later before mid after old new reading kind size (take size x.left) kept le over same decides (omega (arith, took.enough, length-take size x.left)) is answer gives)
asked_does (Err fault) t later before mid after old new reading kind size kept x y le over same decides took is gives = (took, does_break t later before mid after old new reading kind size (take size x.left) kept le over same decides (omega (arith, took.enough, length-take size x.left)) is fault gives)

-- there was no memory for a body
pub asked_lacks : (t : ℕ) (before after : DiskView) (office : Office) (reading : Reading) (kind size : ℕ) (x y : Talk) → AreOver t before.past → after ≡ before → Decides reading kind size → reading ≡ Whole → Took size x y → Asks (Ok (Some (Short short.Memory))) t before after office kind size office x y
asked_lacks t before after office reading kind size x y over same decides whole took = (took, λ m stands. (m, inr (decides.lacks whole, refl, refl), stays t before after m office over same stands))
