-- What stands at the places that were read.
use Rattle.std.proofs.Common.{◌≡◌, ℕ, ◌+◌, ◌≤◌, ◌<◌, ◌==◌, ◌^◌, Bool, true, false, List, [], ◌∷◌, ◌++◌, length, take, drop, get_or, sym, ap, ◌∙◌, arith, refl, if◌then◌else◌, append_assoc, length-append, take-append-drop}
use Rattle.std.specs.Prelude.{None, Some, Err}
use Rattle.std.specs.Int.{w32, to_le_bytes, from_le_bytes}
use Rattle.std.specs.Str.{bytes_eq}
use Rattle.std.proofs.lemmas.Bool.{lt-ltb}
use Rattle.std.proofs.lemmas.List.{drop-drop, length-drop, length-take, take_all}
use Rattle.std.proofs.Math.Seq.{take-add}
use Rattle.std.proofs.lemmas.Nat.{le_bytes_4}
use Rattle.dmn_bytes.specs.Format.{whole}
use Rattle.dmn_outside.specs.Changes.{unread}
use Rattle.dmn_outside.specs.Disk.{Told, IfReads}
use Rattle.dmn_outside.proofs.Reading.{reads_back, reads_both, reads_map}
use Rattle.dmn_rows.specs.Defs.{IsStart, start_text}
use Rattle.dmn_rows.specs.Start.{start_record}
use Rattle.dmn_rows.specs.declared.start.StartRecord.{StartRecord}
use Rattle.dmn_journal.specs.declared.fault.JournalFault.{JournalFault}
use Rattle.dmn_journal.specs.declared.fault.JournalFault.TheVariants.{NotJournal, DiskFault, Memory}
use Rattle.dmn_journal.specs.Reads.{Nexts, Contents, IsContent, IsPrefix, IsSized, Sizeds}
use Rattle.dmn_journal.specs.Journal.{Entry, magic}
use Rattle.dmn_journal.specs.Reading.{Found, closed, departs, by_gate, content_at, entry_departs, found_at, header_departs, later, place_in, size_at, sized_at, start_at, IsRecord, IsHeader}

pub size_back : (bytes : List ℕ) (size : ℕ) → length bytes ≡ 4 → ((i : ℕ) → get_or bytes i 0 < 256) → size ≡ from_le_bytes w32 (get_or bytes 0 0 ∷ get_or bytes 1 0 ∷ get_or bytes 2 0 ∷ get_or bytes 3 0 ∷ []) → (to_le_bytes w32 size ≡ bytes) × (size ≡ from_le_bytes w32 bytes)
size_back [] size long bytes e = absurd (omega arith)
size_back (a ∷ []) size long bytes e = absurd (omega arith)
size_back (a ∷ b ∷ []) size long bytes e = absurd (omega arith)
size_back (a ∷ b ∷ c ∷ []) size long bytes e = absurd (omega arith)
size_back (a ∷ b ∷ c ∷ d ∷ []) size long bytes e = (le_bytes_4 (a ∷ b ∷ c ∷ d ∷ []) size refl bytes e, e)
size_back (a ∷ b ∷ c ∷ d ∷ x ∷ more) size long bytes e = absurd (omega arith)

-- ---- a gate

pub found_by : (at : ℕ) (text head : List ℕ) (f : Found) → head ≡ take 1 text → by_gate at head (drop 1 text) ≡ f → found_at at text ≡ f
unfolding found_at
found_by at text head f same is = ap (λ (l : List ℕ). by_gate at l (drop 1 text)) (sym same) ∙ is

pub gate_closed : (at gate : ℕ) (head behind : List ℕ) → head ≡ gate ∷ [] → (gate == 1) ≡ false → by_gate at head behind ≡ closed
gate_closed at gate head behind is shut = ap (λ (l : List ℕ). by_gate at l behind) is ∙ rw shut refl

pub gate_missing : (at : ℕ) (head behind : List ℕ) → head ≡ [] → by_gate at head behind ≡ departs at
gate_missing at head behind is = ap (λ (l : List ℕ). by_gate at l behind) is

next_byte : (at : ℕ) (file : List ℕ) → drop 1 (drop at file) ≡ drop (at + 1) file
next_byte at file = drop-drop 1 at file ∙ ap (λ (k : ℕ). drop k file) (omega arith)

module _ (old mid : Told) (at : ℕ) (head : List ℕ) (same : unread mid ≡ unread old) (is : head ≡ 1 ∷ []) (read : IfReads old (λ all. head ≡ take 1 (drop at all.zeroth))) where
  pub nexts_record : (entry : Entry) (behind : ℕ) → IsSized mid at entry behind → IsRecord old at entry behind
  nexts_record entry behind sized = record {
    form = sized.form;
    place = sized.place;
    short = sized.short;
    text = reads_both old _ _ _ read (reads_back old mid _ same sized.text) (λ all gate rest.
        sym (take-append-drop 1 (drop at all.zeroth))
        ∙ ap (λ (l : List ℕ). l ++ drop 1 (drop at all.zeroth)) (sym gate ∙ is)
        ∙ ap (λ (l : List ℕ). 1 ∷ l) (next_byte at all.zeroth ∙ rest));
  }

  pub nexts_fault : (fault : JournalFault) → Sizeds (Err fault) mid at → Nexts (Err fault) old at
  nexts_fault (NotJournal place) sized = reads_both old _ _ _ read (reads_back old mid _ same sized) (λ all gate there.
      found_by at (drop at all.zeroth) head (departs place) gate
      (ap (λ (l : List ℕ). by_gate at l (drop 1 (drop at all.zeroth))) is ∙ ap (λ (l : List ℕ). sized_at at (take 4 l) (drop 4 l)) (next_byte at all.zeroth) ∙ there))
  nexts_fault DiskFault sized = tt
  nexts_fault Memory sized = tt

-- ---- a length, and what it counts

pub sized_short : (at n : ℕ) (sizes four rest : List ℕ) → n < 4 → n ≤ length sizes → take n sizes ≡ four → sized_at at four rest ≡ departs (at + 1)
sized_short at n sizes [] rest few fits same = refl
sized_short at n sizes (a ∷ []) rest few fits same = refl
sized_short at n sizes (a ∷ b ∷ []) rest few fits same = refl
sized_short at n sizes (a ∷ b ∷ c ∷ []) rest few fits same = refl
sized_short at n sizes (a ∷ b ∷ c ∷ d ∷ more) rest few fits same = absurd (omega (arith, ap length same, length-take n sizes, few, fits))

sized_long : (at size : ℕ) (four rest : List ℕ) → length four ≡ 4 → size ≡ from_le_bytes w32 four → sized_at at four rest ≡ content_at at size (take size rest)
sized_long at size [] rest long e = absurd (omega arith)
sized_long at size (a ∷ []) rest long e = absurd (omega arith)
sized_long at size (a ∷ b ∷ []) rest long e = absurd (omega arith)
sized_long at size (a ∷ b ∷ c ∷ []) rest long e = absurd (omega arith)
sized_long at size (a ∷ b ∷ c ∷ d ∷ []) rest long e = ap (λ (k : ℕ). content_at at k (take k rest)) (sym e)
sized_long at size (a ∷ b ∷ c ∷ d ∷ x ∷ more) rest long e = absurd (omega arith)

behind_sizes : (at : ℕ) (file : List ℕ) → drop 4 (drop (at + 1) file) ≡ drop (at + 5) file
behind_sizes at file = drop-drop 4 (at + 1) file ∙ ap (λ (k : ℕ). drop k file) (omega arith)

-- the four bytes that were read
all_four : (n : ℕ) (sizes four : List ℕ) → n ≡ 4 → length sizes ≡ 4 → take n sizes ≡ four → sizes ≡ four
all_four n sizes four is long same = sym (take_all 4 sizes (omega arith)) ∙ ap (λ (k : ℕ). take k sizes) (sym is) ∙ same

module _ (old mid : Told) (at size n : ℕ) (sizes : List ℕ) (same : unread mid ≡ unread old) (fits : size < 2 ^ 32) (four : n ≡ 4) (long : length sizes ≡ 4) (is : size ≡ from_le_bytes w32 sizes) (back : to_le_bytes w32 size ≡ sizes)
    (read : IfReads old (λ all. take n sizes ≡ take 4 (drop (at + 1) all.zeroth))) where
  pub sized_record : (entry : Entry) (behind : ℕ) → IsContent mid at size entry behind → IsSized old at entry behind
  sized_record entry behind content = record {
    form = content.form;
    place = omega (arith, content.place, content.sized);
    short = omega (arith, content.sized, fits);
    text = reads_both old _ _ _ read (reads_back old mid _ same content.text) (λ all there rest.
        sym (take-append-drop 4 (drop (at + 1) all.zeroth))
        ∙ ap (λ (l : List ℕ). l ++ drop 4 (drop (at + 1) all.zeroth)) (sym (all_four n sizes _ four long there) ∙ sym back ∙ ap (λ (k : ℕ). to_le_bytes w32 k) content.sized)
        ∙ ap (λ (l : List ℕ). to_le_bytes w32 (length entry.body + 1) ++ l) (behind_sizes at all.zeroth ∙ rest)
        ∙ sym (append_assoc (to_le_bytes w32 (length entry.body + 1)) (entry.kind ∷ entry.body) (drop behind all.zeroth)));
  }

  pub sized_fault : (fault : JournalFault) → Contents (Err fault) mid at size → Sizeds (Err fault) old at
  sized_fault (NotJournal place) content = reads_both old _ _ _ read (reads_back old mid _ same content) (λ all there rest.
      ap (λ (l : List ℕ). sized_at at l (drop 4 (drop (at + 1) all.zeroth))) (sym (all_four n sizes _ four long there))
      ∙ sized_long at size sizes (drop 4 (drop (at + 1) all.zeroth)) long is
      ∙ ap (λ (l : List ℕ). content_at at size (take size l)) (behind_sizes at all.zeroth)
      ∙ rest)
  sized_fault DiskFault content = tt
  sized_fault Memory content = tt

-- ---- a record's content

first_is : (text : List ℕ) → 0 < length text → text ≡ get_or text 0 0 ∷ drop 1 text
first_is [] some = absurd (omega arith)
first_is (x ∷ text) some = refl

pub content_is : (told : Told) (at size behind : ℕ) (text : List ℕ) (entry : Entry) → 0 < length text → size ≤ length text → length text ≤ size → entry_departs entry ≡ None → entry ≡ record { kind = get_or text 0 0; body = drop 1 text } → behind ≡ at + 5 + size
    → IfReads told (λ all. text ≡ take size (drop (at + 5) all.zeroth)) → IsContent told at size entry behind
content_is told at size behind text entry some long few form is place read = record {
  form = form;
  place = place;
  sized = omega (arith, ap (λ (e : Entry). length e.body) is, length-drop 1 text, some, long, few);
  text = reads_map told _ _ read (λ all same.
      sym (take-append-drop size (drop (at + 5) all.zeroth))
      ∙ ap (λ (l : List ℕ). l ++ drop size (drop (at + 5) all.zeroth)) (sym same ∙ first_is text some ∙ sym (ap (λ (e : Entry). e.kind ∷ e.body) is))
      ∙ ap (λ (l : List ℕ). entry.kind ∷ (entry.body ++ l)) (drop-drop size (at + 5) all.zeroth ∙ ap (λ (k : ℕ). drop k all.zeroth) (omega (arith, place))));
}

-- ---- a header

module _ (file : List ℕ) where
  pub gate_wrong : bytes_eq (take 1 file) (1 ∷ []) ≡ false → header_departs file ≡ Some 0
  unfolding header_departs
  gate_wrong wrong = rw wrong refl

  pub magic_wrong : bytes_eq (take 1 file) (1 ∷ []) ≡ true → bytes_eq (take 7 (drop 1 file)) magic ≡ false → header_departs file ≡ Some 1
  unfolding header_departs
  magic_wrong gate wrong = rw (gate, wrong) refl

  pub size_there : bytes_eq (take 1 file) (1 ∷ []) ≡ true → bytes_eq (take 7 (drop 1 file)) magic ≡ true → header_departs file ≡ size_at (take 4 (drop 8 file)) (drop 12 file)
  unfolding header_departs
  size_there gate is = rw (gate, is) refl

  pub size_short : (sizes : List ℕ) (n : ℕ) → n < 4 → n ≤ length sizes → take n sizes ≡ take 4 (drop 8 file) → size_at (take 4 (drop 8 file)) (drop 12 file) ≡ Some 8
  size_short sizes n few fits same = short (take 4 (drop 8 file)) (omega (arith, ap length same, length-take n sizes, few, fits))
    where
      short : (l : List ℕ) → length l < 4 → size_at l (drop 12 file) ≡ Some 8
      short [] few' = refl
      short (a ∷ []) few' = refl
      short (a ∷ b ∷ []) few' = refl
      short (a ∷ b ∷ c ∷ []) few' = refl
      short (a ∷ b ∷ c ∷ d ∷ l) few' = absurd (omega arith)

  pub size_long : (sizes : List ℕ) (n size : ℕ) → n ≡ 4 → length sizes ≡ 4 → size ≡ from_le_bytes w32 sizes → take n sizes ≡ take 4 (drop 8 file) → size_at (take 4 (drop 8 file)) (drop 12 file) ≡ start_at size (drop 12 file)
  size_long sizes n size is four e same =
      let all : sizes ≡ take 4 (drop 8 file) = sym (take_all 4 sizes (omega arith)) ∙ ap (λ (k : ℕ). take k sizes) (sym is) ∙ same in
      ap (λ (l : List ℕ). size_at l (drop 12 file)) (sym all) ∙ long sizes four ∙ ap (λ (k : ℕ). start_at k (drop 12 file)) (sym e)
    where
      long : (l : List ℕ) → length l ≡ 4 → size_at l (drop 12 file) ≡ start_at (from_le_bytes w32 l) (drop 12 file)
      long [] few' = absurd (omega arith)
      long (a ∷ []) few' = absurd (omega arith)
      long (a ∷ b ∷ []) few' = absurd (omega arith)
      long (a ∷ b ∷ c ∷ []) few' = absurd (omega arith)
      long (a ∷ b ∷ c ∷ d ∷ []) few' = refl
      long (a ∷ b ∷ c ∷ d ∷ x ∷ l) few' = absurd (omega arith)

  -- the first twelve bytes
  pub prefix_is : (gate magics sizes : List ℕ) (size : ℕ) → gate ≡ 1 ∷ [] → magics ≡ magic → to_le_bytes w32 size ≡ sizes → gate ≡ take 1 file → magics ≡ take 7 (drop 1 file) → sizes ≡ take 4 (drop 8 file) → take 12 file ≡ 1 ∷ (magic ++ to_le_bytes w32 size)
  prefix_is gate magics sizes size is_gate is_magic is_size g m s =
      take-add 8 4 file ∙ ap (λ (l : List ℕ). l ++ take 4 (drop 8 file)) (take-add 1 7 file)
      ∙ ap (λ (l : List ℕ). (l ++ take 7 (drop 1 file)) ++ take 4 (drop 8 file)) (sym g ∙ is_gate) ∙ ap (λ (l : List ℕ). ((1 ∷ []) ++ l) ++ take 4 (drop 8 file)) (sym m ∙ is_magic)
      ∙ ap (λ (l : List ℕ). (1 ∷ magic) ++ l) (sym s ∙ sym is_size)

-- a start record behind them
pub header_is : (told : Told) (size behind : ℕ) (text : List ℕ) (start : StartRecord) → IsPrefix told size → IsStart start → text ≡ start_text start → size ≤ length text → length text ≤ size → behind ≡ 12 + size
    → IfReads told (λ all. text ≡ take size (drop 12 all.zeroth)) → IsHeader told start behind
header_is told size behind text start prefix is_start is long few place read =
    let one : size ≡ length (start_text start) = omega (arith, ap length is, long, few) in
    let front : List ℕ = 1 ∷ (magic ++ to_le_bytes w32 (length (start_text start))) in
    record {
      is_start = is_start;
      place = omega (arith, one, place, length-append front (start_text start));
      text = reads_both told _ _ _ prefix.text read (λ all prefix_is same.
          sym (take-append-drop 12 all.zeroth)
          ∙ ap (λ (l : List ℕ). l ++ drop 12 all.zeroth) (prefix_is ∙ ap (λ (k : ℕ). 1 ∷ (magic ++ to_le_bytes w32 k)) one)
          ∙ ap (λ (l : List ℕ). front ++ l) (sym (take-append-drop size (drop 12 all.zeroth)) ∙ ap (λ (l : List ℕ). l ++ drop size (drop 12 all.zeroth)) (sym same ∙ is))
          ∙ ap (λ (l : List ℕ). front ++ (start_text start ++ l)) (drop-drop size 12 all.zeroth ∙ ap (λ (k : ℕ). drop k all.zeroth) (sym place))
          ∙ sym (append_assoc front (start_text start) (drop behind all.zeroth)));
    }

-- a start record that is cut
start_short : (size : ℕ) (rest text : List ℕ) → length text < size → text ≡ take size rest → start_at size rest ≡ Some 12
start_short size rest text few same = ap (λ (b : Bool). if b then Some 12 else later 12 (place_in (whole start_record (take size rest)))) (lt-ltb _ _ (omega (arith, ap length same, few)))

pub header_short : (told : Told) (size : ℕ) (text : List ℕ) → IsPrefix told size → length text < size → IfReads told (λ all. text ≡ take size (drop 12 all.zeroth)) → IfReads told (λ all. header_departs all.zeroth ≡ Some 12)
header_short told size text prefix few read = reads_both told _ _ _ prefix.rest read (λ all is same. is ∙ start_short size (drop 12 all.zeroth) text few same)
