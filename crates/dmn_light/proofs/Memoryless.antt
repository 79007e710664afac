-- Answers of which none is Memory are the client's own.
use Rattle.std.proofs.Common.{◌≡◌, ◌≢◌, List, [], ◌∷◌, refl, sym, ap, ◌∙◌, inl, inr}
use Rattle.std.specs.List.{All, flat_map}
use Rattle.std.proofs.lemmas.List.Elements.{All-head, All-tail}
use Rattle.dmn_client.specs.Step.{ClientState, new_client}
use Rattle.dmn_frames.specs.Frames.{Frame}
use Rattle.dmn_light.specs.declared.answer.Answer.{Answer}
use Rattle.dmn_light.specs.Answers.{frame_of, lack}
use Rattle.dmn_light.specs.Ask.{answer_of}
use Rattle.dmn_light.specs.Laws.{BytesWithoutMemory}
use Rattle.dmn_light.specs.Serving.{MayAnswer, Serves, answers_from}

abbrev IsOther : Answer → Type 0
IsOther answer = answer ≢ lack

own : (c : ClientState) (frame : Frame) (answer : Answer) (n : ClientState) → MayAnswer c frame answer n → IsOther answer → answer_of c frame.kind frame.body ≡ (answer, n)
own c frame answer n (inl is) other = is
own c frame answer n (inr free) other = absurd (other free.0)

served_own : (c : ClientState) (frames : List Frame) (answers : List Answer) (n : ClientState) → Serves c frames answers n → All IsOther answers → answers ≡ answers_from c frames
served_own c [] [] n served others = refl
served_own c [] (answer ∷ answers) n served others = absurd served
served_own c (frame ∷ frames) [] n served others = absurd served
served_own c (frame ∷ frames) (answer ∷ answers) n served others =
    let is = own c frame answer served.0 served.1 (All-head IsOther answer answers others) in
    let rest = served_own served.0 frames answers n served.2 (All-tail IsOther answer answers others) in
    ap (λ (l : List Answer). answer ∷ l) rest
    ∙ ap (λ (p : Answer × ClientState). p.0 ∷ answers_from p.1 frames) (sym is)

pub bytes_without_memory : BytesWithoutMemory
bytes_without_memory frames answers n served others = ap (flat_map frame_of) (served_own new_client frames answers n served others)
