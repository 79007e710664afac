-- What an append does to a registry.
use Rattle.std.proofs.Common.{refl, List, length, ◌≡◌, ℕ, ◌+◌, ◌<◌, ◌≤◌, [], ◌∷◌, ◌++◌, sym, ap, subst, ◌∙◌, arith}
use Rattle.std.specs.Prelude.{Err, IfSome, IsErrOf, None, Ok, OnErr, OnOk, Option, Result}
use Rattle.dmn_branch.specs.Machine as blocks
use Rattle.dmn_branch.specs.Machine.{Command}
use Rattle.dmn_branch.specs.Stands as branches
use Rattle.dmn_outside.specs.Changes.{but}
use Rattle.dmn_outside.specs.Crashes.{LeavesOnly, Rests}
use Rattle.dmn_outside.specs.Disk.{DiskView, IfReads, Told}
use Rattle.dmn_outside.proofs.Reading.{reads_map}
use Rattle.dmn_journal.specs.Journal.{Appending, Entry, IsShort, Stands, header_text, size_of_record}
use Rattle.dmn_journal.specs.Reading.{entry_departs}
use Rattle.dmn_journal.specs.declared.journal.Journal.{Journal}
use Rattle.dmn_registry.specs.Machine.{Machine, connect, connecting, command_of, journal_max, state_of, with_entry}
use Rattle.dmn_registry.specs.Opening.{IsAllowed}
use Rattle.dmn_registry.specs.Own.{IsOwn, OwnWith, StandsOn}
use Rattle.dmn_registry.specs.Snapshots.{HasRoom, KeepsBlock}
use Rattle.dmn_registry.specs.Steps.{Connects, Took, connect_fault}
use Rattle.dmn_snapshot.specs.declared.fault.SnapFault.{SnapFault}
use Rattle.dmn_snapshot.specs.declared.fault.SnapFault.TheVariants as snapshots
use Rattle.dmn_registry.specs.declared.fault.ConnectFault.{ConnectFault}
use Rattle.dmn_registry.specs.declared.fault.ConnectFault.TheVariants as connects
use Rattle.dmn_registry.proofs.Blocks.{connect_command, connect_form}
use Rattle.dmn_block.specs.Defs.{HasItsIds, IsBlockText}
use Rattle.dmn_block.specs.declared.frame.BlockFrame.{BlockFrame}
use Rattle.dmn_registry.specs.declared.registry.Registry.{Registry}
use Rattle.dmn_registry.proofs.Keeping.{stands_next, text_long}
use Rattle.dmn_registry.proofs.Nearing.{slotted_next}
use Rattle.dmn_registry.proofs.Resting.{Keeps, accepted, appended, newest_but, stands_rests}
use Rattle.dmn_registry.proofs.Verdicts.{long_with}
use Rattle.dmn_slots.specs.Slots.{IsWithin, newest_mark, records_of, slots_in}
use Rattle.dmn_slots.specs.declared.mark.Mark.{Mark}

-- a refusal of the journal leaves the registry
pub same_stands : (old new : Registry) (m : Machine) (told after : Told) → StandsOn old m told → branches.StandsFor new.branch (state_of m) → new.spent ≡ old.spent → new.journal ≡ old.journal → new.newest ≡ old.newest → after ≡ told → StandsOn new m after
same_stands old new m told after stands branch spent journal newest same = record {
  registry_stands = record {
    usable = spent ∙ stands.registry_stands.usable;
    branch = branch;
    end = ap (λ (j : Journal). j.end) journal ∙ stands.registry_stands.end;
    records = ap (λ (j : Journal). j.records) journal ∙ stands.registry_stands.records;
    start = stands.registry_stands.start;
    replayed = stands.registry_stands.replayed;
  };
  disk = subst (λ (d : Told). Rests (IsOwn m) d) (sym same) stands.disk;
  within = subst (λ (o : Option Mark). IfSome o IsWithin) (sym newest) stands.within;
  newest = subst (λ (d : Told). IfReads d (λ all. new.newest ≡ newest_mark (slots_in all))) (sym same) (reads_map told _ _ stands.newest (λ all is. newest ∙ is));
}

-- the record of a block's body keeps the block
pub keeps_block : (text : Entry) (body : List ℕ) (block : BlockFrame) → text ≡ connecting body → length body ≤ 16777216 → IsBlockText body block → HasItsIds block → KeepsBlock text block
keeps_block text body block same fits is ids = subst (λ (e : Entry). KeepsBlock e block) (sym same) (record { form = connect_form body fits; short = omega (arith, fits); command = connect_command (connecting body) block refl is ids })

-- what a connect did that writes
pub connects_by : (r : Result (Unit {0}) ConnectFault) (m : Machine) (block : BlockFrame) (body : List ℕ) (new : Registry) (told : Told) → OnErr r (IsErrOf r connects.DiskFault) → OnOk r ((connect m block body ≡ Ok (with_entry m (connecting body))) × Took m (connecting body) new told) → Connects r m block body new told
connects_by (Ok done) m block body new told few took = took
connects_by (Err (connects.Refused refusal)) m block body new told few took = let never : ⊥ = cc in absurd never
connects_by (Err connects.JournalFull) m block body new told few took = let never : ⊥ = cc in absurd never
connects_by (Err connects.Memory) m block body new told few took = let never : ⊥ = cc in absurd never
connects_by (Err connects.DiskFault) m block body new told few took = tt

pub took_by : (r : Result (Unit {0}) ConnectFault) (P Q : Type 0) → (P → Q) → OnOk r P → OnOk r Q
took_by (Ok done) P Q f p = f p
took_by (Err fault) P Q f p = tt

-- a snapshot that doesn't fail the disk doesn't fail the connect so
pub snap_never : (fault : SnapFault) (other : ConnectFault) → other ≡ connect_fault fault → ¬ IsErrOf {T = Unit {0}} (Err fault) snapshots.DiskFault → ¬ IsErrOf {T = Unit {0}} (Err other) connects.DiskFault
snap_never snapshots.DiskFault other is never e = never refl
snap_never snapshots.Memory other is never e = let wrong : ⊥ = cc in wrong

pub on_ok : (r : Result (Unit {0}) ConnectFault) (P : Type 0) → P → OnOk r P
on_ok (Ok done) P p = p
on_ok (Err fault) P p = tt

-- a connect keeps the slots of the disk, where fewer records stand behind the newest than a snapshot is due at
pub keeps_next : (registry : Registry) (m : Machine) (entry : Entry) (told : Told) → StandsOn registry m told → HasRoom m registry → Keeps m (with_entry m entry) told
keeps_next registry m entry told stands room = reads_map told _ _ stands.newest (λ all is s. slotted_next m entry (slots_in all) (omega (arith, room, stands.registry_stands.records, ap records_of is)) s)

-- the record that is appended is the command's
module _ (old : Registry) (m : Machine) (entry text : Entry) (command : Command) (limit : ℕ) (told : Told) (stands : StandsOn old m told) (form : entry_departs entry ≡ None) (short : IsShort entry) (same : text ≡ entry)
    (max : limit ≡ journal_max m.start) (is : command_of entry ≡ Ok command) (allowed : IsAllowed (state_of m) command) where
  size : size_of_record text ≡ size_of_record entry
  size = ap (λ (e : Entry). size_of_record e) same

  pub too_long : limit < old.journal.end + 1 + size_of_record text → journal_max m.start < long_with m entry
  too_long full = omega (arith, full, size, max, text_long m entry old.journal.end short stands.registry_stands.end)

  pub fits : ¬ (limit < old.journal.end + 1 + size_of_record text) → long_with m entry ≤ journal_max m.start
  fits room = omega (arith, room, size, max, text_long m entry old.journal.end short stands.registry_stands.end)

  below : ¬ (limit < old.journal.end + 1 + size_of_record text) → old.journal.end + size_of_record entry < journal_max m.start
  below room = omega (arith, room, size, max)

  pub took : (new : Registry) (after : Told) → Keeps m (with_entry m entry) told → new.newest ≡ old.newest → ¬ (limit < old.journal.end + 1 + size_of_record text) → branches.StandsFor new.branch (blocks.with_command (state_of m) command) → new.spent ≡ old.spent → new.journal.end ≡ old.journal.end + size_of_record text → new.journal.records ≡ old.journal.records + 1
      → Stands (header_text m.start) (m.commands ++ text ∷ []) new.journal.end after → but 0 after ≡ but 0 told → Took m entry new after
  took new after keeps newest room branch spent end records kept others =
      let next = stands_next old new m entry command stands.registry_stands form short (below room) is allowed branch spent (end ∙ ap (λ (n : ℕ). old.journal.end + n) size) records in
      let there : Stands (header_text m.start) (m.commands ++ entry ∷ []) new.journal.end after = subst (λ (e : Entry). Stands (header_text m.start) (m.commands ++ e ∷ []) new.journal.end after) same kept in
      record {
        accepts = next.accepts;
        stands = record {
          registry_stands = next.stands;
          disk = stands_rests m (with_entry m entry) new.journal.end told after next.stands.start next.stands.replayed keeps others stands.disk there;
          within = subst (λ (o : Option Mark). IfSome o IsWithin) (sym newest) stands.within;
          newest = newest_but new.newest told after others (reads_map told _ _ stands.newest (λ all is. newest ∙ is));
        };
      }

  pub run : (t : ℕ) (before now : DiskView) → before.told ≡ told → Keeps m (with_entry m entry) told → ¬ (limit < old.journal.end + 1 + size_of_record text) → LeavesOnly t before now (Appending (header_text m.start) m.commands text before.told) → LeavesOnly t before now (OwnWith m entry)
  run t before now is_told keeps room leaves =
      appended t before now old m entry stands.registry_stands (subst (λ (d : Told). Rests (IsOwn m) d) (sym is_told) stands.disk) (subst (λ (d : Told). Keeps m (with_entry m entry) d) (sym is_told) keeps) (accepted old m entry command stands.registry_stands form short (below room) is allowed)
      (subst (λ (e : Entry). LeavesOnly t before now (Appending (header_text m.start) m.commands e before.told)) same leaves)
