-- The three parts in which a slot is written.
use Rattle.std.proofs.Common.{◌≡◌, inl, inr, ⊎_elim, ℕ, zero, suc, ◌≤◌, true, false, List, [], ◌∷◌, length, sym, ap, subst, ◌∙◌, arith, refl, Result, Ok, Err, OnOk}
use Rattle.std.specs.Prelude.{Option, Some}
use Rattle.dmn_outside.specs.Changes.{OnlyReads, after, moved, but, placed, unread, file_synced, after_write, after_sync}
use Rattle.dmn_outside.specs.Crashes.{LeavesOnly}
use Rattle.dmn_outside.specs.Disk.{Three, File, Told, nothing, contents, whole, DiskView, IfReads, AreOver, MayLeave, LeavesEach, Leaves, Torn, change, pick}
use Rattle.dmn_outside.proofs.Crash.{started, reads_on, joins, widened, files_or}
use Rattle.dmn_snapshot.specs.Slot.{IsStored, slot_in, slot_text, first_of, shut_by}
use Rattle.dmn_snapshot.specs.Steps.{Has, IsStill, IsShut, IsOpen, IsLaid, OthersLeft, Closing, Opening, Writing, read_of}
use Rattle.dmn_snapshot.specs.declared.slot.Stored.{Stored}
use Rattle.dmn_snapshot.proofs.Gates.{closing_torn, closing_placed, open_is, shut_already, rest_torn, rest_placed, gate_torn, gate_placed}

settled_only : (f : File) → f ≡ file_synced f → (c : List ℕ) → Leaves f.sure f.begun c → c ≡ f.reads
settled_only f settled c left = subst (λ (s : File). Leaves s.sure s.begun c) {y = file_synced f} settled left

abbrev contents_or : Three (List ℕ) → Told → Three (List ℕ)
contents_or d nothing = d
contents_or d (contents c) = c
contents_or d (whole w) = d

-- ---- reads change nothing of this

pub has_unread : (file : ℕ) (P : List ℕ → Type 0) (a b : Told) → unread b ≡ unread a → Has file P a → Has file P b
has_unread file P nothing nothing same has = tt
has_unread file P nothing (contents d) same has = let wrong : ⊥ = cc in absurd wrong
has_unread file P nothing (whole v) same has = let wrong : ⊥ = cc in absurd wrong
has_unread file P (contents c) nothing same has = tt
has_unread file P (contents c) (contents d) same has = let e : d ≡ c = ap (contents_or c) same in subst (λ (t : Three (List ℕ)). P (pick file t)) (sym e) has
has_unread file P (contents c) (whole v) same has = let wrong : ⊥ = cc in absurd wrong
has_unread file P (whole w) nothing same has = tt
has_unread file P (whole w) (contents d) same has = let wrong : ⊥ = cc in absurd wrong
has_unread file P (whole w) (whole v) same has = let e : v.files ≡ w.files = ap (files_or w.files) same in subst (λ (f : Three File). P (pick file f).reads × (pick file f ≡ file_synced (pick file f))) (sym e) has

pub unread_after : (file : ℕ) (f : List ℕ → List ℕ) (g : File → File) (a b : Told) (image : Three (List ℕ)) → unread b ≡ unread a → MayLeave (after file f g b) image → MayLeave (after file f g a) image
unfolding after moved
unread_after file f g nothing nothing image same now = now
unread_after file f g nothing (contents d) image same now = absurd now
unread_after file f g nothing (whole v) image same now = let wrong : ⊥ = cc in absurd wrong
unread_after file f g (contents c) nothing image same now = absurd now
unread_after file f g (contents c) (contents d) image same now = absurd now
unread_after file f g (contents c) (whole v) image same now = let wrong : ⊥ = cc in absurd wrong
unread_after file f g (whole w) nothing image same now = absurd now
unread_after file f g (whole w) (contents d) image same now = absurd now
unread_after file f g (whole w) (whole v) image same now = let e : v.files ≡ w.files = ap (files_or w.files) same in subst (λ (fs : Three File). LeavesEach (change file g fs) image) e now

unread_but : (k : ℕ) (d : Told) → unread (but k d) ≡ but k (unread d)
unfolding but
unread_but k nothing = refl
unread_but k (contents c) = refl
unread_but k (whole w) = refl

pub but_unread : (file : ℕ) (a b : Told) → but file b ≡ but file a → but file (unread b) ≡ but file (unread a)
but_unread file a b same = sym (unread_but file b) ∙ ap unread same ∙ unread_but file a

-- ---- one write at a still file

others_back : (file : ℕ) (f : List ℕ → List ℕ) (g : File → File) (d : Told) (image : Three (List ℕ)) → OthersLeft file (after file f g d) image → OthersLeft file d image
unfolding after moved
others_back file f g nothing image left = left
others_back file f g (contents c) image left = left
others_back zero f g (whole w) image left = left
others_back (suc zero) f g (whole w) image left = left
others_back (suc (suc n)) f g (whole w) image left = left

others_here : (file : ℕ) (d : Told) (image : Three (List ℕ)) → MayLeave d image → OthersLeft file d image
others_here file nothing image now = absurd now
others_here file (contents c) image now = absurd now
others_here zero (whole w) image now = (now.first, now.second)
others_here (suc zero) (whole w) image now = (now.zeroth, now.second)
others_here (suc (suc n)) (whole w) image now = (now.zeroth, now.first)

others_now : (file : ℕ) (f : List ℕ → List ℕ) (g : File → File) (d : Told) (image : Three (List ℕ)) → MayLeave (after file f g d) image → OthersLeft file d image
others_now file f g d image now = others_back file f g d image (others_here file (after file f g d) image now)

torn_file : (file p : ℕ) (bytes : List ℕ) (P : List ℕ → Type 0) (d : Told) (image : Three (List ℕ)) → Has file P d → MayLeave (after_write file p bytes d) image → (P (read_of file d)) × Torn p (length bytes) (read_of file d) (pick file image)
unfolding after moved
torn_file file p bytes P nothing image has now = absurd now
torn_file file p bytes P (contents c) image has now = absurd now
torn_file zero p bytes P (whole w) image has now = let was = settled_only w.files.zeroth has.1 now.zeroth.0 now.zeroth.1 in (has.0, subst (λ (f : List ℕ). Torn p (length bytes) f image.zeroth) {y = w.files.zeroth.reads} was now.zeroth.2)
torn_file (suc zero) p bytes P (whole w) image has now = let was = settled_only w.files.first has.1 now.first.0 now.first.1 in (has.0, subst (λ (f : List ℕ). Torn p (length bytes) f image.first) {y = w.files.first.reads} was now.first.2)
torn_file (suc (suc n)) p bytes P (whole w) image has now = let was = settled_only w.files.second has.1 now.second.0 now.second.1 in (has.0, subst (λ (f : List ℕ). Torn p (length bytes) f image.second) {y = w.files.second.reads} was now.second.2)

has_written : (file p : ℕ) (bytes : List ℕ) (P Q : List ℕ → Type 0) (d : Told) → ((t : List ℕ) → P t → Q (placed p bytes t)) → Has file P d → Has file Q (after_sync file (after_write file p bytes d))
unfolding after moved
has_written file p bytes P Q nothing goes has = tt
has_written zero p bytes P Q (contents c) goes has = goes c.zeroth has
has_written (suc zero) p bytes P Q (contents c) goes has = goes c.first has
has_written (suc (suc n)) p bytes P Q (contents c) goes has = goes c.second has
has_written zero p bytes P Q (whole w) goes has = (goes w.files.zeroth.reads has.0, refl)
has_written (suc zero) p bytes P Q (whole w) goes has = (goes w.files.first.reads has.0, refl)
has_written (suc (suc n)) p bytes P Q (whole w) goes has = (goes w.files.second.reads has.0, refl)

still_here : (file : ℕ) (d : Told) (image : Three (List ℕ)) → IsStill file d → MayLeave d image → Closing file d image
still_here file d image still now = record { slot = inr (ap slot_in (same file d still now)); others = others_here file d image now }
  where
    same : (k : ℕ) (d : Told) → IsStill k d → MayLeave d image → pick k image ≡ read_of k d
    same k nothing still now = absurd now
    same k (contents c) still now = absurd now
    same zero (whole w) still now = settled_only w.files.zeroth still.1 image.zeroth now.zeroth
    same (suc zero) (whole w) still now = settled_only w.files.first still.1 image.first now.first
    same (suc (suc n)) (whole w) still now = settled_only w.files.second still.1 image.second now.second

-- ---- the gate is closed

pub has_read : (file : ℕ) (P Q : List ℕ → Type 0) (d : Told) → Has file P d → IfReads d (λ all. Q (pick file all)) → Has file Q d
has_read file P Q nothing has reads = tt
has_read file P Q (contents c) has reads = reads
has_read zero P Q (whole w) has reads = (reads, has.1)
has_read (suc zero) P Q (whole w) has reads = (reads, has.1)
has_read (suc (suc n)) P Q (whole w) has reads = (reads, has.1)

module _ (file : ℕ) (t0 t1 : ℕ) (d0 d1 d2 : DiskView) (over : AreOver t0 d0.past) (reads : OnlyReads d0 d1) (still : IsStill file d0.told) where
  pub close_read : LeavesOnly t0 d0 d1 (Closing file d0.told)
  close_read = reads_on t0 d0 d0 d1 _ (started t0 d0 (Closing file d0.told) over (λ image now. still_here file d0.told image still now)) reads

  pub close_write : (byte : Option ℕ) → IfReads d0.told (λ all. byte ≡ first_of (pick file all)) → shut_by byte ≡ false → t0 ≤ t1 → LeavesOnly t1 d1 d2 (MayLeave (after_write file 0 (0 ∷ []) d1.told)) → LeavesOnly t0 d0 d2 (Closing file d0.told)
  close_write byte gate open_gate le run = joins t0 d0 d1 d2 _ close_read t1 _ le run (λ image now.
      let here = unread_after file _ _ d0.told d1.told image reads.told now in
      let torn = torn_file file 0 (0 ∷ []) (λ text. byte ≡ first_of text) d0.told image (has_read file (λ text. Unit {0}) (λ text. byte ≡ first_of text) d0.told still gate) here in
      record { slot = closing_torn (read_of file d0.told) (pick file image) byte torn.0 open_gate torn.1; others = others_now file _ _ d0.told image here })

pub close_done : {T E : Type 0} (file : ℕ) (r : Result T E) (d1 d2 : Told) → IsStill file d1 → OnOk r (d2 ≡ after_sync file (after_write file 0 (0 ∷ []) d1)) → OnOk r (Has file IsShut d2)
close_done file (Ok v) d1 d2 still done = subst (Has file IsShut) (sym done) (has_written file 0 (0 ∷ []) (λ text. Unit {0}) IsShut d1 (λ t has. closing_placed t) still)
close_done file (Err e) d1 d2 still done = tt

pub close_kept : (file : ℕ) (d0 d1 : Told) (byte : Option ℕ) → unread d1 ≡ unread d0 → IsStill file d0 → IfReads d0 (λ all. byte ≡ first_of (pick file all)) → shut_by byte ≡ true → Has file IsShut d1
close_kept file d0 d1 byte same still gate shut =
    has_unread file IsShut d0 d1 same (shuts file d0 (has_read file (λ text. Unit {0}) (λ text. byte ≡ first_of text) d0 still gate))
  where
    shuts : (k : ℕ) (d : Told) → Has k (λ text. byte ≡ first_of text) d → Has k IsShut d
    shuts k nothing has = tt
    shuts k (contents c) has = shut_already (pick k c) byte has shut
    shuts k (whole w) has = (shut_already (pick k w.files).reads byte has.0 shut, has.1)

-- what is told of the other files goes back
pub others_but : (file : ℕ) (a b : Told) (image : Three (List ℕ)) → but file (unread b) ≡ but file (unread a) → OthersLeft file b image → OthersLeft file a image
unfolding but
others_but file a nothing image same left = absurd left
others_but file a (contents d) image same left = absurd left
others_but file nothing (whole v) image same left = let wrong : ⊥ = cc in absurd wrong
others_but file (contents c) (whole v) image same left = let wrong : ⊥ = cc in absurd wrong
others_but zero (whole w) (whole v) image same left =
    let first : v.files.first ≡ w.files.first = ap (λ (t : Told). (files_or w.files t).first) same in
    let second : v.files.second ≡ w.files.second = ap (λ (t : Told). (files_or w.files t).second) same in
    (subst (λ (f : File). Leaves f.sure f.begun image.first) first left.0, subst (λ (f : File). Leaves f.sure f.begun image.second) second left.1)
others_but (suc zero) (whole w) (whole v) image same left =
    let first : v.files.zeroth ≡ w.files.zeroth = ap (λ (t : Told). (files_or w.files t).zeroth) same in
    let second : v.files.second ≡ w.files.second = ap (λ (t : Told). (files_or w.files t).second) same in
    (subst (λ (f : File). Leaves f.sure f.begun image.zeroth) first left.0, subst (λ (f : File). Leaves f.sure f.begun image.second) second left.1)
others_but (suc (suc n)) (whole w) (whole v) image same left =
    let first : v.files.zeroth ≡ w.files.zeroth = ap (λ (t : Told). (files_or w.files t).zeroth) same in
    let second : v.files.first ≡ w.files.first = ap (λ (t : Told). (files_or w.files t).first) same in
    (subst (λ (f : File). Leaves f.sure f.begun image.zeroth) first left.0, subst (λ (f : File). Leaves f.sure f.begun image.first) second left.1)

-- ---- the three parts

module _ (file : ℕ) (text : List ℕ) (t0 t1 t2 : ℕ) (d0 d1 d2 d3 : DiskView) (closing : LeavesOnly t0 d0 d1 (Closing file d0.told)) where
  pub first_part : LeavesOnly t0 d0 d1 (Opening file text d0.told)
  first_part = widened t0 d0 d1 _ _ closing (λ image c. record { slot = ⊎_elim (λ none. inl none) (λ was. inr (inl was)) c.slot; others = c.others })

  pub second_part : Has file IsShut d1.told → but file (unread d1.told) ≡ but file (unread d0.told) → t0 ≤ t1 → LeavesOnly t1 d1 d2 (MayLeave (after_write file 1 text d1.told)) → LeavesOnly t0 d0 d2 (Opening file text d0.told)
  second_part shut same le run = joins t0 d0 d1 d2 _ first_part t1 _ le run (λ image now.
      let torn = torn_file file 1 text IsShut d1.told image shut now in
      record { slot = inl (rest_torn (length text) (read_of file d1.told) (pick file image) torn.0 torn.1); others = others_but file d0.told d1.told image same (others_now file _ _ d1.told image now) })

  laid : Has file IsShut d1.told → d2.told ≡ after_sync file (after_write file 1 text d1.told) → Has file (IsLaid text) d2.told
  laid shut done = subst (Has file (IsLaid text)) (sym done) (has_written file 1 text IsShut (IsLaid text) d1.told (λ t has. rest_placed text t has) shut)

  pub third_part : Has file IsShut d1.told → but file (unread d1.told) ≡ but file (unread d0.told) → t0 ≤ t1 → LeavesOnly t1 d1 d2 (MayLeave (after_write file 1 text d1.told)) → d2.told ≡ after_sync file (after_write file 1 text d1.told) → but file d2.told ≡ but file d1.told
      → t1 ≤ t2 → LeavesOnly t2 d2 d3 (MayLeave (after_write file 0 (1 ∷ []) d2.told)) → LeavesOnly t0 d0 d3 (Opening file text d0.told)
  third_part shut same le run done others le' third = joins t0 d0 d2 d3 _ (second_part shut same le run) t2 _ (omega (arith, le, le')) third (λ image now.
      let torn = torn_file file 0 (1 ∷ []) (IsLaid text) d2.told image (laid shut done) now in
      record {
        slot = ⊎_elim (λ none. inl none) (λ whole. inr (inr whole)) (gate_torn text (read_of file d2.told) (pick file image) torn.0 torn.1);
        others = others_but file d0.told d2.told image (but_unread file d1.told d2.told others ∙ same) (others_now file _ _ d2.told image now);
      })

  pub all_done : {T E : Type 0} (r : Result T E) → Has file IsShut d1.told → d2.told ≡ after_sync file (after_write file 1 text d1.told) → OnOk r (d3.told ≡ after_sync file (after_write file 0 (1 ∷ []) d2.told)) → OnOk r (Has file (IsOpen text) d3.told)
  all_done (Ok v) shut done last = subst (Has file (IsOpen text)) (sym last) (has_written file 0 (1 ∷ []) (IsLaid text) (IsOpen text) d2.told (λ t has. gate_placed text t has) (laid shut done))
  all_done (Err e) shut done last = tt

-- ---- the text of a slot

pub opened : (file : ℕ) (text : List ℕ) (stored : Stored) (t : ℕ) (old new : DiskView) → IsStored stored → text ≡ slot_text stored → LeavesOnly t old new (Opening file text old.told) → LeavesOnly t old new (Writing file stored old.told)
opened file text stored t old new is text_is run = widened t old new _ _ run (λ image o. record {
  slot = ⊎_elim (λ none. inl none) (λ rest. ⊎_elim (λ was. inr (inl was)) (λ whole. inr (inr (open_is stored (pick file image) is (subst (λ (l : List ℕ). IsOpen l (pick file image)) text_is whole)))) rest) o.slot;
  others = o.others;
})

has_more : (file : ℕ) (P Q : List ℕ → Type 0) (d : Told) → ((t : List ℕ) → P t → Q t) → Has file P d → Has file Q d
has_more file P Q nothing f has = tt
has_more file P Q (contents c) f has = f (pick file c) has
has_more file P Q (whole w) f has = (f (pick file w.files).reads has.0, has.1)

pub has_slot : (file : ℕ) (text : List ℕ) (stored : Stored) (d : Told) → IsStored stored → text ≡ slot_text stored → Has file (IsOpen text) d → Has file (λ f. slot_in f ≡ Some stored) d
has_slot file text stored d is text_is has = has_more file (IsOpen text) (λ f. slot_in f ≡ Some stored) d (λ t o. open_is stored t is (subst (λ (l : List ℕ). IsOpen l t) text_is o)) has
