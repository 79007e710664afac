-- What a slot that is written leaves of both, at each moment and once it is written.
use Rattle.std.proofs.Common.{◌≡◌, ◌⊎◌, inl, inr, ℕ, zero, suc, List, refl, sym, ap, subst, ◌∙◌}
use Rattle.std.specs.Prelude.{Option, None, Some}
use Rattle.dmn_outside.specs.Changes.{but, file_synced, unread}
use Rattle.dmn_outside.specs.Crashes.{Rests}
use Rattle.dmn_outside.specs.Disk.{File, IfReads, Leaves, Three, Told, all_reads, contents, nothing, pick, whole}
use Rattle.dmn_outside.proofs.Crash.{files_or}
use Rattle.dmn_snapshot.specs.Slot.{slot_in}
use Rattle.dmn_snapshot.specs.Steps.{Has, Writing}
use Rattle.dmn_snapshot.specs.declared.slot.Stored.{Stored}
use Rattle.dmn_slots.specs.Slots.{Slots, slots_in, with_slot}

-- of an image the journal's file is that of another one, and one slot has another value
pub record IsWith (number : ℕ) (value : Option Stored) (c d : Three (List ℕ)) : Type 0 where
  pub zeroth : d.zeroth ≡ c.zeroth
  pub slots : slots_in d ≡ with_slot number value (slots_in c)

-- while a slot is written: without it, or as before, or with it
pub data Writes (number : ℕ) (stored : Stored) (c d : Three (List ℕ)) : Type 0 where
  without : IsWith number None c d → Writes number stored c d
  before : (d.zeroth ≡ c.zeroth) → (slots_in d ≡ slots_in c) → Writes number stored c d
  with_it : IsWith number (Some stored) c d → Writes number stored c d

settled_only : (f : File) → f ≡ file_synced f → (c : List ℕ) → Leaves f.sure f.begun c → c ≡ f.reads
settled_only f settled c left = subst (λ (s : File). Leaves s.sure s.begun c) {y = file_synced f} settled left

two : (a b a' b' : Option Stored) → a' ≡ a → b' ≡ b → (λ (x : Slots). x) (record { first = a'; second = b' }) ≡ record { first = a; second = b }
two a b a' b' e f = λ i. record { first = e i; second = f i }

-- ---- at each moment

module _ (stored : Stored) (P Q : Three (List ℕ) → Type 0) where
  pub while_written : (number : ℕ) (told : Told) (image : Three (List ℕ)) → (number ≡ 1) ⊎ (number ≡ 2) → ((c d : Three (List ℕ)) → Writes number stored c d → P c → Q d) → Rests P told → Writing number stored told image → Q image
  while_written number nothing image which step rests writing = absurd writing.others
  while_written number (contents c) image which step rests writing = absurd writing.others
  while_written number (whole w) image which step rests writing = elim which [
    | inl one ↦ first_written (subst (λ (k : ℕ). Writing k stored (whole w) image) one writing) (subst (λ (k : ℕ). (c d : Three (List ℕ)) → Writes k stored c d → P c → Q d) one step)
    | inr other ↦ second_written (subst (λ (k : ℕ). Writing k stored (whole w) image) other writing) (subst (λ (k : ℕ). (c d : Three (List ℕ)) → Writes k stored c d → P c → Q d) other step)
  ]
    where
      all : Three (List ℕ)
      all = all_reads w.files

      first_written : Writing 1 stored (whole w) image → ((c d : Three (List ℕ)) → Writes 1 stored c d → P c → Q d) → Q image
      first_written writing step =
          let zeroth = settled_only w.files.zeroth rests.1.zeroth image.zeroth writing.others.0 in
          let second = settled_only w.files.second rests.1.second image.second writing.others.1 in
          step all image
          (elim writing.slot [
            | inl none ↦ without (record { zeroth = zeroth; slots = two None (slot_in all.second) _ _ none (ap slot_in second) })
            | inr (inl was) ↦ before zeroth (two (slot_in all.first) (slot_in all.second) _ _ was (ap slot_in second))
            | inr (inr new) ↦ with_it (record { zeroth = zeroth; slots = two (Some stored) (slot_in all.second) _ _ new (ap slot_in second) })
          ])
          rests.0

      second_written : Writing 2 stored (whole w) image → ((c d : Three (List ℕ)) → Writes 2 stored c d → P c → Q d) → Q image
      second_written writing step =
          let zeroth = settled_only w.files.zeroth rests.1.zeroth image.zeroth writing.others.0 in
          let first = settled_only w.files.first rests.1.first image.first writing.others.1 in
          step all image
          (elim writing.slot [
            | inl none ↦ without (record { zeroth = zeroth; slots = two (slot_in all.first) None _ _ (ap slot_in first) none })
            | inr (inl was) ↦ before zeroth (two (slot_in all.first) (slot_in all.second) _ _ (ap slot_in first) was)
            | inr (inr new) ↦ with_it (record { zeroth = zeroth; slots = two (slot_in all.first) (Some stored) _ _ (ap slot_in first) new })
          ])
          rests.0

-- ---- once it is written

abbrev contents_or : Three (List ℕ) → Told → Three (List ℕ)
contents_or d nothing = d
contents_or d (contents c) = c
contents_or d (whole w) = d

module _ (stored : Stored) (P Q : Three (List ℕ) → Type 0) where
  first_done : (old new : Told) → ((c d : Three (List ℕ)) → IsWith 1 (Some stored) c d → P c → Q d) → Rests P old → but 1 (unread new) ≡ but 1 (unread old) → Has 1 (λ file. slot_in file ≡ Some stored) new → Rests Q new
  unfolding but
  first_done old nothing step rests same has = tt
  first_done nothing (contents d) step rests same has = let wrong : ⊥ = cc in absurd wrong
  first_done nothing (whole v) step rests same has = let wrong : ⊥ = cc in absurd wrong
  first_done (contents c) (contents d) step rests same has =
      let zeroth : d.zeroth ≡ c.zeroth = ap (λ (t : Told). (contents_or c t).zeroth) same in
      let second : d.second ≡ c.second = ap (λ (t : Told). (contents_or c t).second) same in
      step c d (record { zeroth = zeroth; slots = two (Some stored) (slot_in c.second) _ _ has (ap slot_in second) }) rests
  first_done (contents c) (whole v) step rests same has = let wrong : ⊥ = cc in absurd wrong
  first_done (whole w) (contents d) step rests same has = let wrong : ⊥ = cc in absurd wrong
  first_done (whole w) (whole v) step rests same has =
      let zeroth : v.files.zeroth ≡ w.files.zeroth = ap (λ (t : Told). (files_or w.files t).zeroth) same in
      let second : v.files.second ≡ w.files.second = ap (λ (t : Told). (files_or w.files t).second) same in
      let zeroth_reads : v.files.zeroth.reads ≡ w.files.zeroth.reads = ap (λ (f : File). f.reads) zeroth in
      let second_reads : v.files.second.reads ≡ w.files.second.reads = ap (λ (f : File). f.reads) second in (
        step (all_reads w.files) (all_reads v.files) (record { zeroth = zeroth_reads; slots = two (Some stored) (slot_in w.files.second.reads) _ _ has.0 (ap slot_in second_reads) }) rests.0,
        record { zeroth = subst (λ (f : File). f ≡ file_synced f) (sym zeroth) rests.1.zeroth; first = has.1; second = subst (λ (f : File). f ≡ file_synced f) (sym second) rests.1.second },
      )

  second_done : (old new : Told) → ((c d : Three (List ℕ)) → IsWith 2 (Some stored) c d → P c → Q d) → Rests P old → but 2 (unread new) ≡ but 2 (unread old) → Has 2 (λ file. slot_in file ≡ Some stored) new → Rests Q new
  unfolding but
  second_done old nothing step rests same has = tt
  second_done nothing (contents d) step rests same has = let wrong : ⊥ = cc in absurd wrong
  second_done nothing (whole v) step rests same has = let wrong : ⊥ = cc in absurd wrong
  second_done (contents c) (contents d) step rests same has =
      let zeroth : d.zeroth ≡ c.zeroth = ap (λ (t : Told). (contents_or c t).zeroth) same in
      let first : d.first ≡ c.first = ap (λ (t : Told). (contents_or c t).first) same in
      step c d (record { zeroth = zeroth; slots = two (slot_in c.first) (Some stored) _ _ (ap slot_in first) has }) rests
  second_done (contents c) (whole v) step rests same has = let wrong : ⊥ = cc in absurd wrong
  second_done (whole w) (contents d) step rests same has = let wrong : ⊥ = cc in absurd wrong
  second_done (whole w) (whole v) step rests same has =
      let zeroth : v.files.zeroth ≡ w.files.zeroth = ap (λ (t : Told). (files_or w.files t).zeroth) same in
      let first : v.files.first ≡ w.files.first = ap (λ (t : Told). (files_or w.files t).first) same in
      let zeroth_reads : v.files.zeroth.reads ≡ w.files.zeroth.reads = ap (λ (f : File). f.reads) zeroth in
      let first_reads : v.files.first.reads ≡ w.files.first.reads = ap (λ (f : File). f.reads) first in (
        step (all_reads w.files) (all_reads v.files) (record { zeroth = zeroth_reads; slots = two (slot_in w.files.first.reads) (Some stored) _ _ (ap slot_in first_reads) has.0 }) rests.0,
        record { zeroth = subst (λ (f : File). f ≡ file_synced f) (sym zeroth) rests.1.zeroth; first = subst (λ (f : File). f ≡ file_synced f) (sym first) rests.1.first; second = has.1 },
      )

  pub once_written : (number : ℕ) (old new : Told) → (number ≡ 1) ⊎ (number ≡ 2) → ((c d : Three (List ℕ)) → IsWith number (Some stored) c d → P c → Q d) → Rests P old → but number (unread new) ≡ but number (unread old) → Has number (λ file. slot_in file ≡ Some stored) new → Rests Q new
  once_written number old new which step rests same has = elim which [
    | inl one ↦ first_done old new (subst (λ (k : ℕ). (c d : Three (List ℕ)) → IsWith k (Some stored) c d → P c → Q d) one step) rests (subst (λ (k : ℕ). but k (unread new) ≡ but k (unread old)) one same) (subst (λ (k : ℕ). Has k (λ file. slot_in file ≡ Some stored) new) one has)
    | inr other ↦ second_done old new (subst (λ (k : ℕ). (c d : Three (List ℕ)) → IsWith k (Some stored) c d → P c → Q d) other step) rests (subst (λ (k : ℕ). but k (unread new) ≡ but k (unread old)) other same) (subst (λ (k : ℕ). Has k (λ file. slot_in file ≡ Some stored) new) other has)
  ]
