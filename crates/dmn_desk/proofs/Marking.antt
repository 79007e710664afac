-- Where the newest slot stands behind a request.
use Rattle.std.proofs.Common.{◌≡◌, ℕ, true, List, refl, sym, subst, ◌∙◌}
use Rattle.std.specs.Prelude.{Result, Ok, Err}
use Rattle.dmn_block.specs.declared.frame.BlockFrame.{BlockFrame}
use Rattle.dmn_block.specs.declared.refusal.Refusal.{Refusal}
use Rattle.dmn_outside.specs.Disk.{DiskView, IfReads, Told, contents, nothing, whole}
use Rattle.dmn_outside.specs.declared.device.DiskFault.{DiskFault}
use Rattle.dmn_registry.specs.Machine.{Machine}
use Rattle.dmn_registry.specs.Own.{StandsOn}
use Rattle.dmn_registry.specs.Steps.{Connects}
use Rattle.dmn_registry.specs.declared.fault.ConnectFault.{ConnectFault}
use Rattle.dmn_registry.specs.declared.fault.ConnectFault.TheVariants as connects
use Rattle.dmn_registry.specs.declared.registry.Registry.{Registry}
use Rattle.dmn_slots.specs.Slots.{newest_mark, slots_in}
use Rattle.dmn_desk.specs.declared.answer.Answer.{Answer}
use Rattle.dmn_desk.specs.declared.answer.Answer.TheVariants.{Short}
use Rattle.dmn_desk.specs.declared.answer.ShortAnswer.TheVariants as short
use Rattle.dmn_desk.specs.declared.request.Request.{Request}
use Rattle.dmn_desk.specs.declared.request.Request.TheVariants as requests
use Rattle.dmn_desk.specs.Asked.{Marks, MarksBlock}
use Rattle.dmn_desk.specs.Requests.{is_question}

-- both registries keep the mark of the newest slot of one disk
newest_of_one : (a b : Registry) (told : Told) → IfReads told (λ all. a.newest ≡ newest_mark (slots_in all)) → IfReads told (λ all. b.newest ≡ newest_mark (slots_in all)) → IfReads told (λ all. b.newest ≡ a.newest)
newest_of_one a b nothing one two = tt
newest_of_one a b (contents c) one two = two ∙ sym one
newest_of_one a b (whole w) one two = two ∙ sym one

newest_stays : (m : Machine) (a b : Registry) (before after : DiskView) → after ≡ before → StandsOn a m before.told → StandsOn b m after.told → IfReads after.told (λ all. b.newest ≡ a.newest)
newest_stays m a b before after same one two = newest_of_one a b after.told (subst (λ (d : DiskView). IfReads d.told (λ all. a.newest ≡ newest_mark (slots_in all))) (sym same) one.newest) two.newest

pub refused_marks : (block : BlockFrame) (body : List ℕ) (m : Machine) (old new : Registry) (before after : DiskView) (fault : ConnectFault) (refusal : Refusal) → fault ≡ connects.Refused refusal → StandsOn old m before.told → Connects (Err fault) m block body new after.told → after ≡ before
    → MarksBlock (Ok (Short (short.Refused refusal))) m old new after.told
refused_marks block body m old new before after fault refusal is stands gives same =
    let refused = subst (λ (f : ConnectFault). Connects (Err f) m block body new after.told) is gives in
    newest_stays m old new before after same stands refused.1

pub full_marks : (block : BlockFrame) (body : List ℕ) (m : Machine) (old new : Registry) (before after : DiskView) (fault : ConnectFault) → fault ≡ connects.JournalFull → StandsOn old m before.told → Connects (Err fault) m block body new after.told → after ≡ before
    → MarksBlock (Ok (Short short.JournalFull)) m old new after.told
full_marks block body m old new before after fault is stands gives same =
    let full = subst (λ (f : ConnectFault). Connects (Err f) m block body new after.told) is gives in
    newest_stays m old new before after same stands full.1

-- as that of the request that was asked
pub marks_as : (asked request : Request) (r : Result Answer DiskFault) (m : Machine) (old new : Registry) (told : Told) → asked ≡ request → Marks request r m old new told → Marks asked r m old new told
marks_as asked request r m old new told is marks = subst (λ (q : Request). Marks q r m old new told) (sym is) marks

pub question_marks : (request : Request) (r : Result Answer DiskFault) (m : Machine) (registry : Registry) (told : Told) → is_question request ≡ true → Marks request r m registry registry told
question_marks (requests.Connect block body) r m registry told is = absurd (cc is)
question_marks (requests.Disconnect hash) r m registry told is = refl
question_marks requests.Tip r m registry told is = refl
question_marks (requests.List height) r m registry told is = refl
question_marks (requests.Row height hash) r m registry told is = refl
question_marks (requests.Payees height count) r m registry told is = refl
question_marks (requests.Members kind base) r m registry told is = refl
question_marks (requests.Quorums height) r m registry told is = refl
question_marks (requests.Diff base block) r m registry told is = refl
question_marks (requests.Pin height) r m registry told is = refl
question_marks (requests.Page pin from count) r m registry told is = refl
question_marks (requests.Release pin) r m registry told is = refl
