-- What a crash leaves while a journal is created.
use Rattle.std.proofs.Common.{◌≡◌, ◌≢◌, inl, inr, ℕ, suc, ◌≤◌, List, [], ◌∷◌, ◌++◌, length, take, get_or, ◌+◌, length-append, length-take, Bool, true, false, nat_lt, if◌then◌else◌, Result, Ok, Err, OnOk, refl, sym, ◌∙◌, ap, subst, arith}
use Rattle.std.proofs.lemmas.List.{append-nil, drop_all, take-take}
use Rattle.std.proofs.lemmas.Bool.{cases_eq}
use Rattle.std.proofs.lemmas.Bool.Decides.{nat_tests}
use Rattle.dmn_outside.specs.Changes.{after, after_cut, after_sync, after_three, after_write, file_cut, file_synced, file_wrote, moved, placed}
use Rattle.dmn_outside.specs.Crashes.{LeavesOnly}
use Rattle.dmn_outside.specs.Disk.{Three, File, Told, DiskView, nothing, contents, whole, Begun, cut, Torn, Leaves, MayLeave}
use Rattle.dmn_outside.proofs.Crash.{joins, widened}
use Rattle.dmn_outside.proofs.Places.{placed_behind, torn_byte, placed_byte}
use Rattle.dmn_journal.specs.Create.{IsBlank, IsBlankDisk, HoldsText, IsBlankOrMade, at_rest}

pub blank_image : (d : Told) (image : Three (List ℕ)) → IsBlankDisk d → MayLeave d image → IsBlank image.zeroth
blank_image nothing image blank now = absurd now
blank_image (contents c) image blank now = absurd now
blank_image (whole w) image blank now = blank image.zeroth now.zeroth

pub blank_first : (f : List ℕ → List ℕ) (g : File → File) (d : Told) → IsBlankDisk d → IsBlankDisk (after 1 f g d)
unfolding after moved
blank_first f g nothing blank = blank
blank_first f g (contents c) blank = blank
blank_first f g (whole w) blank = blank

pub blank_second : (f : List ℕ → List ℕ) (g : File → File) (d : Told) → IsBlankDisk d → IsBlankDisk (after 2 f g d)
unfolding after moved
blank_second f g nothing blank = blank
blank_second f g (contents c) blank = blank
blank_second f g (whole w) blank = blank

blank_cut_file : (b : Bool) (s : File) → ((c : List ℕ) → Leaves s.sure s.begun c → IsBlank c) → (c : List ℕ)
    → (let t = if b then record { reads = take 0 s.reads; sure = s.sure; begun = cut 0 ∷ s.begun } else s in Leaves t.sure t.begun c) → IsBlank c
blank_cut_file true s blank c (d, left, inl same) = subst IsBlank (sym same) (blank d left)
blank_cut_file true s blank c (d, left, inr none) = subst IsBlank (sym none) tt
blank_cut_file false s blank c left = blank c left

pub blank_cut : (d : Told) → IsBlankDisk d → IsBlankDisk (after_cut 0 0 d)
unfolding after moved
blank_cut nothing blank = blank
blank_cut (contents c) blank = blank
blank_cut (whole w) blank = blank_cut_file (nat_lt 0 (length w.files.zeroth.reads)) w.files.zeroth blank

positive : (n : ℕ) → nat_lt 0 (suc n) ≡ true
positive n = grind (arith, nat_tests)

cut_text : (text sure : List ℕ) (begun : List Begun) → file_synced (file_cut 0 (record { reads = text; sure = sure; begun = begun })) ≡ at_rest []
cut_text [] sure begun = refl
cut_text (x ∷ text) sure begun = ap (λ (b : Bool). file_synced (if b then record { reads = []; sure = sure; begun = cut 0 ∷ begun } else record { reads = x ∷ text; sure = sure; begun = begun })) (positive (length text))

cut_all : (s : File) → file_synced (file_cut 0 s) ≡ at_rest []
cut_all s = cut_text s.reads s.sure s.begun

-- all three are empty once each was cut and synced
pub all_cut : (d : Told) → HoldsText [] (after_sync 0 (after_cut 0 0 (after_sync 2 (after_cut 2 0 (after_sync 1 (after_cut 1 0 d))))))
unfolding after moved
all_cut nothing = tt
all_cut (contents c) = (refl, refl, refl)
all_cut (whole w) = (cut_all w.files.zeroth, cut_all w.files.first, cut_all w.files.second)

pub holds_written : (p : ℕ) (bytes text : List ℕ) (d : Told) → HoldsText text d → HoldsText (placed p bytes text) (after_sync 0 (after_write 0 p bytes d))
unfolding after moved
holds_written p bytes text nothing holds = tt
holds_written p bytes text (contents c) holds = (ap (λ (t : List ℕ). placed p bytes t) holds.0, holds.1, holds.2)
holds_written p bytes text (whole w) holds = (ap (λ (f : File). file_synced (file_wrote p bytes f)) holds.0, holds.1, holds.2)

-- what a write may leave of a disk at rest
pub record TornImage (p n : ℕ) (text : List ℕ) (image : Three (List ℕ)) : Type 0 where
  pub torn : Torn p n text image.zeroth
  pub first : image.first ≡ []
  pub second : image.second ≡ []

only : (s : File) (text c : List ℕ) → s ≡ at_rest text → Leaves s.sure s.begun c → c ≡ text
only s text c is left = subst (λ (t : File). Leaves t.sure t.begun c) {y = at_rest text} is left

pub torn_image : (p : ℕ) (bytes text : List ℕ) (d : Told) (image : Three (List ℕ)) → HoldsText text d → MayLeave (after_write 0 p bytes d) image → TornImage p (length bytes) text image
unfolding after moved
torn_image p bytes text nothing image holds now = absurd now
torn_image p bytes text (contents c) image holds now = absurd now
torn_image p bytes text (whole w) image holds now = record {
  torn = subst (λ (t : List ℕ). Torn p (length bytes) t image.zeroth) {y = text} (only w.files.zeroth text now.zeroth.0 holds.0 now.zeroth.1) now.zeroth.2;
  first = only w.files.first [] image.first holds.1 now.first;
  second = only w.files.second [] image.second holds.2 now.second;
}

short_blank : (c : List ℕ) → length c ≤ 1 → IsBlank c
short_blank [] short = tt
short_blank (a ∷ []) short = tt
short_blank (a ∷ b ∷ c) short = absurd (omega arith)

shut_blank : (gate : ℕ) (rest : List ℕ) → gate ≢ 1 → IsBlank (gate ∷ rest)
shut_blank gate [] shut = tt
shut_blank gate (b ∷ rest) shut = shut

pub first_byte : (image : Three (List ℕ)) → TornImage 0 1 [] image → IsBlank image.zeroth
first_byte image torn = short_blank image.zeroth (omega (arith, torn.torn.no_longer))

-- the first byte is there, and is 0
abbrev IsShut : List ℕ → Type 0
IsShut text = take 1 text ≡ 0 ∷ []

shut_text : (text : List ℕ) → IsShut text → IsBlank text
shut_text [] shut = tt
shut_text (gate ∷ rest) shut = let zero_gate : gate ≡ 0 = cc in shut_blank gate rest (omega (arith, zero_gate))

shut_long : (text : List ℕ) → IsShut text → 1 ≤ length text
shut_long [] shut = let wrong : ⊥ = cc in absurd wrong
shut_long (gate ∷ rest) shut = omega arith

-- what is torn behind the first byte leaves it
torn_shut : (p n : ℕ) (old new : List ℕ) → 1 ≤ p → IsShut old → Torn p n old new → IsShut new
torn_shut p n old new behind shut torn =
    let some : 1 ≤ length (take p old) = omega (arith, length-take p old, behind, shut_long old shut) in
    sym (take-take 1 (length (take p old)) new some) ∙ ap (λ (l : List ℕ). take 1 l) torn.before ∙ take-take 1 p old behind ∙ shut

pub rest_torn : (first second third : List ℕ) (d : Told) (image : Three (List ℕ)) → HoldsText (0 ∷ []) d → MayLeave (after_three 0 1 first second third d) image → IsBlank image.zeroth
unfolding after moved
rest_torn first second third nothing image holds now = absurd now
rest_torn first second third (contents c) image holds now = absurd now
rest_torn first second third (whole w) image holds now =
    let left = now.zeroth in
    let was : left.1.1.0 ≡ 0 ∷ [] = only w.files.zeroth (0 ∷ []) left.1.1.0 holds.0 left.1.1.1 in
    let one : IsShut left.1.0 = torn_shut 1 (length first) left.1.1.0 left.1.0 (omega arith) (ap (λ (l : List ℕ). take 1 l) was) left.1.1.2 in
    let two : IsShut left.0 = torn_shut (1 + length first) (length second) left.1.0 left.0 (omega arith) one left.1.2 in
    shut_text image.zeroth (torn_shut (1 + length first + length second) (length third) left.0 image.zeroth (omega arith) two left.2)

placed_end : (p : ℕ) (bytes text : List ℕ) → length text ≡ p → placed p bytes text ≡ text ++ bytes
placed_end p bytes text place =
    ap (λ (l : List ℕ). placed p bytes l) (sym (append-nil text))
    ∙ placed_behind text p place bytes []
    ∙ ap (λ (l : List ℕ). text ++ (bytes ++ l)) (drop_all (length bytes) [] (omega arith))
    ∙ ap (λ (l : List ℕ). text ++ l) (append-nil bytes)

three_placed : (first second third : List ℕ) → placed (1 + length first + length second) third (placed (1 + length first) second (placed 1 first (0 ∷ []))) ≡ 0 ∷ (first ++ second ++ third)
three_placed first second third =
    ap (λ (l : List ℕ). placed (1 + length first + length second) third (placed (1 + length first) second l)) (placed_end 1 first (0 ∷ []) refl)
    ∙ ap (λ (l : List ℕ). placed (1 + length first + length second) third l) (placed_end (1 + length first) second (0 ∷ first) (omega arith))
    ∙ placed_end (1 + length first + length second) third (0 ∷ (first ++ second)) (omega (arith, length-append first second))

pub gate_torn : (rest : List ℕ) (image : Three (List ℕ)) → TornImage 0 1 (0 ∷ rest) image → IsBlankOrMade rest image
gate_torn rest image torn =
    let is : image.zeroth ≡ get_or image.zeroth 0 0 ∷ rest = torn_byte [] 0 refl 0 rest image.zeroth torn.torn in
    elim (cases_eq (get_or image.zeroth 0 0) 1) [
      | inl open_gate ↦ inr (is ∙ ap (λ (n : ℕ). n ∷ rest) open_gate, torn.first, torn.second)
      | inr shut ↦ inl (subst IsBlank (sym is) (shut_blank (get_or image.zeroth 0 0) rest shut))
    ]

holds_three : (first second third : List ℕ) (d : Told) → HoldsText (0 ∷ []) d → HoldsText (0 ∷ (first ++ second ++ third)) (after_sync 0 (after_three 0 1 first second third d))
unfolding after moved
holds_three first second third nothing holds = tt
holds_three first second third (contents c) holds =
    (ap (λ (t : List ℕ). placed (1 + length first + length second) third (placed (1 + length first) second (placed 1 first t))) holds.0 ∙ three_placed first second third, holds.1, holds.2)
holds_three first second third (whole w) holds =
    (ap (λ (f : File). file_synced (file_wrote (1 + length first + length second) third (file_wrote (1 + length first) second (file_wrote 1 first f)))) holds.0 ∙ ap at_rest (three_placed first second third), holds.1, holds.2)

-- what is told after each part of the header
module _ (first second third rest : List ℕ) (is : first ++ second ++ third ≡ rest) (d0 d1 d2 d3 : Told) (holds : HoldsText [] d0) where
  holds_1 : d1 ≡ after_sync 0 (after_write 0 0 (0 ∷ []) d0) → HoldsText (0 ∷ []) d1
  holds_1 done = subst (HoldsText (0 ∷ [])) (sym done) (holds_written 0 (0 ∷ []) [] d0 holds)

  holds_2 : d1 ≡ after_sync 0 (after_write 0 0 (0 ∷ []) d0) → d2 ≡ after_sync 0 (after_three 0 1 first second third d1) → HoldsText (0 ∷ rest) d2
  holds_2 done more = subst (HoldsText (0 ∷ rest)) (sym more) (subst (λ (t : List ℕ). HoldsText (0 ∷ t) (after_sync 0 (after_three 0 1 first second third d1))) is (holds_three first second third d1 (holds_1 done)))

  pub header_made : {T E : Type 0} (r : Result T E) → d1 ≡ after_sync 0 (after_write 0 0 (0 ∷ []) d0) → d2 ≡ after_sync 0 (after_three 0 1 first second third d1) → OnOk r (d3 ≡ after_sync 0 (after_write 0 0 (1 ∷ []) d2)) → OnOk r (HoldsText (1 ∷ rest) d3)
  header_made (Ok v) done more last = subst (HoldsText (1 ∷ rest)) (sym last) (subst (λ (t : List ℕ). HoldsText t (after_sync 0 (after_write 0 0 (1 ∷ []) d2))) (placed_byte [] 0 refl 1 0 rest) (holds_written 0 (1 ∷ []) (0 ∷ rest) d2 (holds_2 done more)))
  header_made (Err e) done more last = tt

-- what is told once all three were cut
pub empty_done : {T E : Type 0} (r : Result T E) (d0 d1 d2 d3 : Told) → d1 ≡ after_sync 1 (after_cut 1 0 d0) → d2 ≡ after_sync 2 (after_cut 2 0 d1) → OnOk r (d3 ≡ after_sync 0 (after_cut 0 0 d2)) → OnOk r (HoldsText [] d3)
empty_done (Ok v) d0 d1 d2 d3 done more last = subst (HoldsText []) (sym (last ∙ ap (λ (d : Told). after_sync 0 (after_cut 0 0 d)) (more ∙ ap (λ (d : Told). after_sync 2 (after_cut 2 0 d)) done))) (all_cut d0)
empty_done (Err e) d0 d1 d2 d3 done more last = tt

-- the three parts of the header, one behind the other
module _ (first second third rest : List ℕ) (is : first ++ second ++ third ≡ rest) (t0 t1 t2 : ℕ) (d0 d1 d2 d3 : DiskView) (holds : HoldsText [] d0.told) where
  pub header_1 : LeavesOnly t0 d0 d1 (MayLeave (after_write 0 0 (0 ∷ []) d0.told)) → LeavesOnly t0 d0 d1 (IsBlankOrMade rest)
  header_1 run = widened t0 d0 d1 _ _ run (λ image now. inl (first_byte image (torn_image 0 (0 ∷ []) [] d0.told image holds now)))

  pub header_2 : LeavesOnly t0 d0 d1 (MayLeave (after_write 0 0 (0 ∷ []) d0.told)) → d1.told ≡ after_sync 0 (after_write 0 0 (0 ∷ []) d0.told) → t0 ≤ t1 → LeavesOnly t1 d1 d2 (MayLeave (after_three 0 1 first second third d1.told))
      → LeavesOnly t0 d0 d2 (IsBlankOrMade rest)
  header_2 run done le second_run = joins t0 d0 d1 d2 _ (header_1 run) t1 _ le second_run
      (λ image now. inl (rest_torn first second third d1.told image (holds_1 first second third rest is d0.told d1.told d1.told d1.told holds done) now))

  pub header_3 : LeavesOnly t0 d0 d1 (MayLeave (after_write 0 0 (0 ∷ []) d0.told)) → d1.told ≡ after_sync 0 (after_write 0 0 (0 ∷ []) d0.told) → t0 ≤ t1 → LeavesOnly t1 d1 d2 (MayLeave (after_three 0 1 first second third d1.told))
      → d2.told ≡ after_sync 0 (after_three 0 1 first second third d1.told) → t1 ≤ t2 → LeavesOnly t2 d2 d3 (MayLeave (after_write 0 0 (1 ∷ []) d2.told)) → LeavesOnly t0 d0 d3 (IsBlankOrMade rest)
  header_3 run done le second_run more le' third_run = joins t0 d0 d2 d3 _ (header_2 run done le second_run) t2 _ (omega (arith, le, le')) third_run
      (λ image now. gate_torn rest image (torn_image 0 (1 ∷ []) (0 ∷ rest) d2.told image (holds_2 first second third rest is d0.told d1.told d2.told d2.told holds done more) now))

-- the three cuts, one behind the other
module _ (t0 t1 t2 : ℕ) (d0 d1 d2 d3 : DiskView) where
  pub empty_1 : IsBlankDisk d0.told → LeavesOnly t0 d0 d1 (MayLeave (after_cut 1 0 d0.told)) → LeavesOnly t0 d0 d1 (λ image. IsBlank image.zeroth)
  empty_1 blank run = widened t0 d0 d1 _ _ run (λ image now. blank_image (after_cut 1 0 d0.told) image (blank_first _ _ d0.told blank) now)

  blank_1 : IsBlankDisk d0.told → d1.told ≡ after_sync 1 (after_cut 1 0 d0.told) → IsBlankDisk d1.told
  blank_1 blank done = subst IsBlankDisk (sym done) (blank_first _ _ (after_cut 1 0 d0.told) (blank_first _ _ d0.told blank))

  pub empty_2 : IsBlankDisk d0.told → LeavesOnly t0 d0 d1 (MayLeave (after_cut 1 0 d0.told)) → d1.told ≡ after_sync 1 (after_cut 1 0 d0.told) → t0 ≤ t1 → LeavesOnly t1 d1 d2 (MayLeave (after_cut 2 0 d1.told)) → LeavesOnly t0 d0 d2 (λ image. IsBlank image.zeroth)
  empty_2 blank run done le second = joins t0 d0 d1 d2 _ (empty_1 blank run) t1 _ le second (λ image now. blank_image (after_cut 2 0 d1.told) image (blank_second _ _ d1.told (blank_1 blank done)) now)

  pub empty_3 : IsBlankDisk d0.told → LeavesOnly t0 d0 d1 (MayLeave (after_cut 1 0 d0.told)) → d1.told ≡ after_sync 1 (after_cut 1 0 d0.told) → t0 ≤ t1 → LeavesOnly t1 d1 d2 (MayLeave (after_cut 2 0 d1.told)) → d2.told ≡ after_sync 2 (after_cut 2 0 d1.told)
      → t1 ≤ t2 → LeavesOnly t2 d2 d3 (MayLeave (after_cut 0 0 d2.told)) → LeavesOnly t0 d0 d3 (λ image. IsBlank image.zeroth)
  empty_3 blank run done le second more le' third = joins t0 d0 d2 d3 _ (empty_2 blank run done le second) t2 _ (omega (arith, le, le')) third
      (λ image now. blank_image (after_cut 0 0 d2.told) image (blank_cut d2.told (subst IsBlankDisk (sym more) (blank_second _ _ (after_cut 2 0 d1.told) (blank_second _ _ d1.told (blank_1 blank done))))) now)
