-- What is sent for an answer.
use Rattle.std.proofs.Common.{◌≡◌, ℕ, false, inl, inr, List, length, refl, sym, ap, ◌∙◌, lit<}
use Rattle.dmn_outside.specs.Disk.{DiskView}
use Rattle.dmn_desk.specs.declared.answer.Answer.{Answer}
use Rattle.dmn_desk.specs.declared.answer.Answer.TheVariants.{Grown, Short}
use Rattle.dmn_desk.specs.declared.answer.ShortAnswer.TheVariants.{Memory}
use Rattle.dmn_desk.specs.Texts.{Fits, frame_of, is_short, short_body}
use Rattle.dmn_frames.specs.Frames.{Frame}
use Rattle.dmn_registry.specs.Machine.{Machine}
use Rattle.dmn_office.specs.declared.office.Office.{Office}
use Rattle.dmn_feed.specs.Serving.{MayAnswer}
use Rattle.dmn_feed.specs.Steps.{MayServe, RepliesTo}
use Rattle.dmn_feed.proofs.Growing.{answer_grows}

may_lack : (m : Machine) (frame : Frame) (answer : Answer) (n : Machine) → is_short answer ≡ false → MayAnswer m frame answer n → MayAnswer m frame (Short Memory) n
may_lack m frame answer n grown (inl is) =
    let kept = answer_grows m frame.kind (length frame.body) frame.body (ap (λ (p : Answer × Machine). is_short p.0) is ∙ grown) in
    inr (kept.1, refl, sym (ap (λ (p : Answer × Machine). p.1) is) ∙ kept.0)
may_lack m frame answer n grown (inr free) = inr (free.0, refl, free.2)

serves_lack : (started : ℕ) (before after : DiskView) (old new : Office) (frame : Frame) (answer : Answer) → is_short answer ≡ false → MayServe started before after old frame answer new → MayServe started before after old frame (Short Memory) new
serves_lack started before after old new frame answer grown may m stands = let next = may m stands in (next.0, may_lack m frame answer next.0 grown next.1, next.2)

-- the answer whose frame is sent
pub record Replied (bytes : List ℕ) (started : ℕ) (before after : DiskView) (old : Office) (frame : Frame) (new : Office) : Type 0 where
  pub answer : Answer
  pub may : MayServe started before after old frame answer new
  pub fits : Fits answer
  pub bytes_are : bytes ≡ frame_of answer

pub replied : (bytes : List ℕ) (started : ℕ) (before after : DiskView) (old new : Office) (frame : Frame) (answer : Answer) → MayServe started before after old frame answer new → RepliesTo bytes answer → Replied bytes started before after old frame new
unfolding short_body
replied bytes started before after old new frame (Short answer) may is = record { answer = Short answer; may = may; fits = is.1; bytes_are = is.0 }
replied bytes started before after old new frame (Grown answer) may (inl is) = record { answer = Grown answer; may = may; fits = is.1; bytes_are = is.0 }
replied bytes started before after old new frame (Grown answer) may (inr is) = record {
  answer = Short Memory;
  may = serves_lack started before after old new frame (Grown answer) refl may;
  fits = lit< tt;
  bytes_are = is;
}
