-- What a slot's file holds, by its gate and what stands behind.
use Rattle.std.proofs.Common.{◌≡◌, ◌≢◌, ◌⊎◌, inl, inr, ℕ, suc, ◌-◌, ◌≤◌, ◌^◌, ◌==◌, ◌&&◌, not, Bool, true, false, List, [], ◌∷◌, ◌++◌, length, take, drop, get_or, Result, Ok, Err, sym, ap, subst, ◌∙◌, arith, refl, if◌then◌else◌, eq-eqb}
use Rattle.std.specs.Prelude.{Option, None, Some, nat_le, nat_lt}
use Rattle.std.proofs.lemmas.Bool.{cases_eq, leb-true, le-leb}
use Rattle.std.proofs.lemmas.Bool.Decides.{nat_tests}
use Rattle.std.proofs.lemmas.List.{length-drop, take_all}
use Rattle.dmn_bytes.specs.declared.fault.Departure.{Departure}
use Rattle.dmn_bytes.specs.declared.fault.ReadError.{ReadError}
use Rattle.dmn_bytes.specs.declared.fault.ReadError.TheVariants as errors
use Rattle.dmn_bytes.specs.Law.{IsBytes}
use Rattle.dmn_bytes.specs.Reading.{Fails}
use Rattle.dmn_outside.specs.Changes.{ReadsAt, placed}
use Rattle.dmn_outside.specs.Disk.{Torn}
use Rattle.dmn_outside.proofs.Places.{torn_behind, placed_behind, torn_byte, placed_byte}
use Rattle.dmn_snapshot.specs.Slot.{IsBounded, IsStored, first_of, keeps_bounds, open_by, shut_by, slot, slot_behind, slot_in, slot_sound, slot_text, value_of}
use Rattle.dmn_snapshot.specs.Steps.{IsShut, IsOpen, IsLaid}
use Rattle.dmn_snapshot.specs.declared.slot.Stored.{Stored}

same : (a b : ℕ) → (a == b) ≡ true → a ≡ b
same a b e = grind (arith, nat_tests)

-- ---- the text behind a gate

pub written_behind : (stored : Stored) (rest : List ℕ) → IsStored stored → slot_behind (slot_text stored ++ rest) ≡ Some stored
unfolding slot_behind
written_behind stored rest is = ap value_of (slot_sound.again (slot_text stored ++ rest) 0 stored rest is refl)

read_as : (parsed : Result (Stored × ℕ) Departure) (stored : Stored) → value_of parsed ≡ Some stored → (j : ℕ) × (parsed ≡ Ok (stored, j))
read_as (Ok read) stored e = (read.1, ap (λ (s : Stored). Ok (s, read.1)) (let x : Some read.0 ≡ Some stored = e in cc))
read_as (Err d) stored e = absurd (let x : None ≡ Some stored = e in cc)

-- a text that departs is no slot's
pub none_of : (error : ReadError) (d : Departure) (parsed : Result (Stored × ℕ) Departure) → error ≡ errors.Departs d → Fails error parsed → None ≡ value_of parsed
none_of errors.Memory d parsed is fails = absurd cc
none_of (errors.Departs k) d parsed is fails = sym (ap value_of fails)

behind_is : (text : List ℕ) (stored : Stored) → IsBytes text → slot_behind text ≡ Some stored → IsStored stored
unfolding slot_behind
behind_is text stored bytes e = let read = read_as (slot.parse text 0) stored e in (slot_sound.takes text 0 stored read.0 bytes read.1).fits

-- ---- gates

pub open_in : (gate : ℕ) (text : List ℕ) → gate ≡ 1 → slot_in (gate ∷ text) ≡ slot_behind text
unfolding slot_in
open_in gate text is = rw (eq-eqb gate 1 is) refl

pub shut_in : (gate : ℕ) (text : List ℕ) → gate ≢ 1 → slot_in (gate ∷ text) ≡ None
unfolding slot_in
shut_in gate text shut = by (gate == 1) refl
  where
    by : (b : Bool) → (gate == 1) ≡ b → (if◌then◌else◌ {A = Option Stored} (gate == 1) (slot_behind text) None) ≡ None
    by true e = absurd (shut (same gate 1 e))
    by false e = rw e refl

pub stored_in : (file : List ℕ) (stored : Stored) → IsBytes file → slot_in file ≡ Some stored → IsStored stored
unfolding slot_in
stored_in [] stored bytes is = let wrong : None ≡ Some stored = is in let no : ⊥ = cc in absurd no
stored_in (gate ∷ text) stored bytes is = elim (cases_eq gate 1) [
  | inl open_gate ↦ behind_is text stored (λ i. bytes (suc i)) (sym (open_in gate text open_gate) ∙ is)
  | inr shut ↦ let wrong : None ≡ Some stored = sym (shut_in gate text shut) ∙ is in let no : ⊥ = cc in absurd no
]

behind_empty : slot_behind [] ≡ None
unfolding slot_behind slot
behind_empty = refl

pub short_in : (file : List ℕ) → length file ≤ 1 → slot_in file ≡ None
unfolding slot_in
short_in [] short = refl
short_in (gate ∷ []) short = elim (cases_eq gate 1) [
  | inl open_gate ↦ open_in gate [] open_gate ∙ behind_empty
  | inr shut ↦ shut_in gate [] shut
]
short_in (gate ∷ x ∷ rest) short = absurd (omega arith)

pub open_is : (stored : Stored) (file : List ℕ) → IsStored stored → IsOpen (slot_text stored) file → slot_in file ≡ Some stored
open_is stored file is o = ap slot_in o.is ∙ open_in 1 (slot_text stored ++ o.rest) refl ∙ written_behind stored o.rest is

and_both : (a b : Bool) → (a && b) ≡ true → (a ≡ true) × (b ≡ true)
and_both true b e = (refl, e)
and_both false b e = absurd (let x : false ≡ true = e in cc)

-- a slot keeps its bounds
pub bounds_of : (stored : Stored) → IsStored stored → IsBounded stored
unfolding slot
bounds_of stored is =
    let three = and_both (nat_le 1 stored.sequence && nat_le (stored.sequence - 1) stored.records && nat_le stored.records stored.position) (nat_lt stored.position (2 ^ 62)) is.1.1 in
    let two = and_both (nat_le 1 stored.sequence && nat_le (stored.sequence - 1) stored.records) (nat_le stored.records stored.position) three.0 in
    let one = and_both (nat_le 1 stored.sequence) (nat_le (stored.sequence - 1) stored.records) two.0 in
    let first : 1 ≤ stored.sequence = leb-true _ _ one.0 in
    let most : stored.sequence - 1 ≤ stored.records = leb-true _ _ one.1 in
    record { first = first; most = omega (arith, first, most); place = leb-true _ _ two.1; end = leb-true _ _ three.1 }

-- numbers within their bounds pass the test
pub keeps_bounds_is : (stored : Stored) → IsBounded stored → keeps_bounds stored ≡ true
keeps_bounds_is stored b =
    let first : nat_le 1 stored.sequence ≡ true = le-leb _ _ b.first in
    let most : nat_le (stored.sequence - 1) stored.records ≡ true = le-leb _ _ (omega (arith, b.first, b.most)) in
    let place : nat_le stored.records stored.position ≡ true = le-leb _ _ b.place in
    let end : nat_lt stored.position (2 ^ 62) ≡ true = le-leb _ _ b.end in
    rw (first, most, place, end) refl

-- ---- one byte torn, or the rest

pub closing_torn : (was image : List ℕ) (byte : Option ℕ) → byte ≡ first_of was → shut_by byte ≡ false → Torn 0 1 was image → (slot_in image ≡ None) ⊎ (slot_in image ≡ slot_in was)
closing_torn [] image byte is open_gate torn = inl (short_in image (omega (arith, torn.no_longer)))
closing_torn (gate ∷ rest) image byte is open_gate torn =
    let whole : image ≡ get_or image 0 0 ∷ rest = torn_byte [] 0 refl gate rest image torn in
    let one : gate ≡ 1 = gate_is gate (ap shut_by (sym is) ∙ open_gate) in
    elim (cases_eq (get_or image 0 0) 1) [
      | inl still ↦ inr (ap slot_in whole ∙ ap (λ (g : ℕ). slot_in (g ∷ rest)) (still ∙ sym one))
      | inr shut ↦ inl (ap slot_in whole ∙ shut_in (get_or image 0 0) rest shut)
    ]
  where
    gate_is : (g : ℕ) → not (g == 1) ≡ false → g ≡ 1
    gate_is g e = grind (arith, nat_tests)

pub closing_placed : (was : List ℕ) → IsShut (placed 0 (0 ∷ []) was)
closing_placed was = record { gate = 0; rest = drop 1 was; shut = omega arith; is = placed_behind [] 0 refl (0 ∷ []) was }

pub shut_already : (was : List ℕ) (byte : Option ℕ) → byte ≡ first_of was → shut_by byte ≡ true → IsShut was
shut_already [] byte is shut = let wrong : false ≡ true = sym (ap shut_by is) ∙ shut in let no : ⊥ = cc in absurd no
shut_already (gate ∷ rest) byte is shut = record { gate = gate; rest = rest; shut = λ (one : gate ≡ 1). let e : not (gate == 1) ≡ true = sym (ap shut_by is) ∙ shut in not_one gate one e; is = refl }
  where
    not_one : (g : ℕ) → g ≡ 1 → not (g == 1) ≡ true → ⊥
    not_one g one e = let t : (g == 1) ≡ true = eq-eqb g 1 one in let f : not true ≡ true = ap not (sym t) ∙ e in let wrong : false ≡ true = f in let no : ⊥ = cc in no

pub rest_torn : (n : ℕ) (file image : List ℕ) → IsShut file → Torn 1 n file image → slot_in image ≡ None
rest_torn n file image s torn = ap slot_in (torn_behind (s.gate ∷ []) 1 refl s.rest image n (subst (λ (f : List ℕ). Torn 1 n f image) s.is torn)) ∙ shut_in s.gate (drop 1 image) s.shut

pub rest_placed : (text file : List ℕ) → IsShut file → IsLaid text (placed 1 text file)
rest_placed text file s = record { gate = s.gate; rest = drop (length text) s.rest; is = ap (λ (f : List ℕ). placed 1 text f) s.is ∙ placed_behind (s.gate ∷ []) 1 refl text s.rest }

pub gate_torn : (text file image : List ℕ) → IsLaid text file → Torn 0 1 file image → (slot_in image ≡ None) ⊎ IsOpen text image
gate_torn text file image l torn =
    let whole : image ≡ get_or image 0 0 ∷ (text ++ l.rest) = torn_byte [] 0 refl l.gate (text ++ l.rest) image (subst (λ (f : List ℕ). Torn 0 1 f image) l.is torn) in
    elim (cases_eq (get_or image 0 0) 1) [
      | inl one ↦ inr (record { rest = l.rest; is = whole ∙ ap (λ (g : ℕ). g ∷ (text ++ l.rest)) one })
      | inr shut ↦ inl (ap slot_in whole ∙ shut_in (get_or image 0 0) (text ++ l.rest) shut)
    ]

pub gate_placed : (text file : List ℕ) → IsLaid text file → IsOpen text (placed 0 (1 ∷ []) file)
gate_placed text file l = record { rest = l.rest; is = ap (λ (f : List ℕ). placed 0 (1 ∷ []) f) l.is ∙ placed_byte [] 0 refl 1 l.gate (text ++ l.rest) }

-- ---- a file's first byte, as it is read

pub first_read : (file was out : List ℕ) (n : ℕ) → ReadsAt file 0 n was out → length was ≡ 1 → n ≡ 0 → None ≡ first_of file
first_read [] was out n r long none = refl
first_read (x ∷ file) was out n r long none = absurd (omega (arith, r.count, long, none))

pub all_of : (n : ℕ) (text : List ℕ) → take (length text - n) (drop n text) ≡ drop n text
all_of n text = take_all (length text - n) (drop n text) (omega (arith, length-drop n text))

-- ---- a slot's file, as it is read

pub closed_slot : (file : List ℕ) (byte : Option ℕ) → byte ≡ first_of file → open_by byte ≡ false → None ≡ slot_in file
unfolding slot_in
closed_slot [] byte is shut = refl
closed_slot (gate ∷ text) byte is shut = sym (shut_in gate text (λ (one : gate ≡ 1). let e : (gate == 1) ≡ false = sym (ap open_by is) ∙ shut in let wrong : true ≡ false = sym (eq-eqb gate 1 one) ∙ e in let no : ⊥ = cc in no))

pub no_slot : (file : List ℕ) (size : ℕ) → size ≡ length file → size ≡ 0 → None ≡ slot_in file
no_slot file size is none = sym (short_in file (omega (arith, is, none)))

pub open_slot : (file text : List ℕ) (size : ℕ) (byte : Option ℕ) (held : Option Stored) → byte ≡ first_of file → open_by byte ≡ true → size ≡ length file → text ≡ take (size - 1) (drop 1 file) → held ≡ slot_behind text → held ≡ slot_in file
unfolding slot_in
open_slot [] text size byte held is o long t h = let wrong : false ≡ true = sym (ap open_by is) ∙ o in let no : ⊥ = cc in absurd no
open_slot (gate ∷ rest) text size byte held is o long t h =
    let one : gate ≡ 1 = same gate 1 (sym (ap open_by is) ∙ o) in
    let all : text ≡ rest = t ∙ take_all (size - 1) rest (omega (arith, long)) in
    h ∙ ap slot_behind all ∙ sym (open_in gate rest one)
