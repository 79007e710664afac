-- A run's client keeps what the law asks of its list, and its answers are by its steps.
use Rattle.std.proofs.Common.{◌≡◌, ℕ, Bool, true, false, cond, List, [], ◌∷◌, length, nat_lt, refl, sym, ap, subst, ◌∙◌, inl, inr}
use Rattle.std.specs.Prelude.{Option, None, Some, Result, Ok, Err}
use Rattle.std.specs.List.{AllByRecursion}
use Rattle.dmn_block.specs.declared.frame.BlockFrame.{BlockFrame}
use Rattle.dmn_block.specs.State.{State}
use Rattle.dmn_bytes.specs.declared.fault.Departure.{Departure}
use Rattle.dmn_bytes.specs.Format.{whole}
use Rattle.dmn_bytes.specs.Law.{IsBytes}
use Rattle.dmn_client.specs.declared.client.Applied.{Applied}
use Rattle.dmn_client.specs.declared.fault.ClientFault.{ClientFault}
use Rattle.dmn_client.specs.declared.headers.Header.{Header}
use Rattle.dmn_client.specs.Headers.{header_step}
use Rattle.dmn_client.specs.Step.{ClientState, applied_of, client_step, new_client}
use Rattle.dmn_frames.specs.declared.limits.TheConstants.{LONGEST_BODY}
use Rattle.dmn_frames.specs.Frames.{Frame}
use Rattle.dmn_light.specs.declared.answer.Answer.{Answer}
use Rattle.dmn_light.specs.declared.answer.Answer.TheVariants.{BadRequest, Holds, Refused}
use Rattle.dmn_light.specs.declared.header.HeaderBody.{HeaderBody}
use Rattle.dmn_light.specs.declared.kind.Kind.{Kind}
use Rattle.dmn_light.specs.declared.kind.Kind.TheVariants as kinds
use Rattle.dmn_light.specs.Ask.{added, answer_of, answered, applied, asked_header, asked_kind, shown}
use Rattle.dmn_light.specs.Header.{header_body, root_in}
use Rattle.dmn_light.specs.Kinds.{kind_of}
use Rattle.dmn_light.specs.Serving.{MayAnswer, Serves}
use Rattle.dmn_rows.specs.declared.start.StartRecord.{StartRecord}
use Rattle.dmn_light_laws.specs.Runs.{IsSoundRun, apply_frame}
use Rattle.dmn_light_laws.specs.Sound.{KeepsList}
use Rattle.dmn_light_laws.proofs.Sound.{keeps_first, keeps_next, sound_behind}

-- ---- what an answer leaves

keeps_added : (c : ClientState) (r : Result (List Header) ClientFault) → KeepsList c → KeepsList (added c r).1
keeps_added c (Ok headers) k = record { ascends = k.ascends; fits = k.fits }
keeps_added c (Err fault) k = k

keeps_header : (c : ClientState) (r : Result HeaderBody Departure) → KeepsList c → KeepsList (asked_header c r).1
keeps_header c (Ok body) k = keeps_added c (header_step c.headers body.hash (root_in body.header)) k
keeps_header c (Err d) k = k

keeps_applied : (c : ClientState) (text : List ℕ) (r : Result ClientState ClientFault) → client_step c text ≡ r → IsBytes text → KeepsList c → KeepsList (applied c r).1
keeps_applied c text (Ok n) is bytes k = keeps_next c n text bytes k is
keeps_applied c text (Err fault) is bytes k = k

keeps_shown : (c : ClientState) (body : List ℕ) → KeepsList c → KeepsList (shown c body).1
keeps_shown c [] k = k
keeps_shown c (byte ∷ body) k = k

keeps_kind : (c : ClientState) (kind : Option Kind) (body : List ℕ) → IsBytes body → KeepsList c → KeepsList (asked_kind c kind body).1
unfolding asked_kind
keeps_kind c None body bytes k = k
keeps_kind c (Some kinds.Header) body bytes k = keeps_header c (whole header_body body) k
keeps_kind c (Some kinds.Apply) body bytes k = keeps_applied c body (client_step c body) refl bytes k
keeps_kind c (Some kinds.Show) body bytes k = keeps_shown c body k

keeps_either : (c : ClientState) (b : Bool) (p : Answer × ClientState) → KeepsList c → KeepsList p.1 → KeepsList (cond b (BadRequest 1, c) p).1
keeps_either c true p k l = k
keeps_either c false p k l = l

keeps_answer : (c : ClientState) (kind : ℕ) (body : List ℕ) → IsBytes body → KeepsList c → KeepsList (answer_of c kind body).1
unfolding answered
keeps_answer c kind body bytes k = keeps_either c (nat_lt LONGEST_BODY (length body)) (asked_kind c (kind_of kind) body) k (keeps_kind c (kind_of kind) body bytes k)

keeps_may : (c : ClientState) (frame : Frame) (answer : Answer) (n : ClientState) → IsBytes frame.body → KeepsList c → MayAnswer c frame answer n → KeepsList n
keeps_may c frame answer n bytes k (inl is) = subst (λ (p : Answer × ClientState). KeepsList p.1) is (keeps_answer c frame.kind frame.body bytes k)
keeps_may c frame answer n bytes k (inr free) = subst KeepsList (sym free.1) k

keeps_served : (c : ClientState) (frames : List Frame) (answers : List Answer) (n : ClientState) → Serves c frames answers n → AllByRecursion (λ (frame : Frame). IsBytes frame.body) frames → KeepsList c → KeepsList n
keeps_served c [] [] n served bytes k = subst KeepsList (sym served) k
keeps_served c [] (answer ∷ answers) n served bytes k = absurd served
keeps_served c (frame ∷ frames) [] n served bytes k = absurd served
keeps_served c (frame ∷ frames) (answer ∷ answers) n served bytes k =
    keeps_served served.0 frames answers n served.2 bytes.1 (keeps_may c frame answer served.0 bytes.0 k served.1)

-- ---- an answer that tells what is held

pub record Stepped (c : ClientState) (text : List ℕ) (said : Applied) (n : ClientState) : Type 0 where
  pub step : client_step c text ≡ Ok n
  pub says : said ≡ applied_of n

abbrev pair : Answer → ClientState → Answer × ClientState
pair answer n = (answer, n)

held_is : (a b : Applied) → Holds a ≡ Holds b → a ≡ b
held_is a b e = cc

stepped_by : (c : ClientState) (text : List ℕ) (said : Applied) (n : ClientState) (r : Result ClientState ClientFault) → client_step c text ≡ r → applied c r ≡ pair (Holds said) n → Stepped c text said n
stepped_by c text said n (Ok next) is e =
    let same : next ≡ n = ap (λ (p : Answer × ClientState). p.1) e in
    let tells = held_is (applied_of next) said (ap (λ (p : Answer × ClientState). p.0) e) in
    record { step = is ∙ ap (λ (s : ClientState). Ok s) same; says = sym tells ∙ ap applied_of same }
stepped_by c text said n (Err fault) is e = absurd (refused_no fault said (ap (λ (p : Answer × ClientState). p.0) e))
  where
    refused_no : (fault : ClientFault) (said : Applied) → Refused fault ≡ Holds said → ⊥
    refused_no fault said e = cc (e)

stepped_either : (c : ClientState) (text : List ℕ) (said : Applied) (n : ClientState) (b : Bool) → cond b (BadRequest 1, c) (applied c (client_step c text)) ≡ pair (Holds said) n → Stepped c text said n
stepped_either c text said n true e = absurd (bad_no said (ap (λ (p : Answer × ClientState). p.0) e))
  where
    bad_no : (said : Applied) → BadRequest 1 ≡ Holds said → ⊥
    bad_no said e = cc (e)
stepped_either c text said n false e = stepped_by c text said n (client_step c text) refl e

stepped : (c : ClientState) (text : List ℕ) (said : Applied) (n : ClientState) → MayAnswer c (apply_frame text) (Holds said) n → Stepped c text said n
unfolding answered asked_kind kind_of
stepped c text said n (inl is) = stepped_either c text said n (nat_lt LONGEST_BODY (length text)) is
stepped c text said n (inr free) = absurd cc

pub sound_run : (start : StartRecord) (blocks : List BlockFrame) (block : BlockFrame) (state : State) (frames : List Frame) (answers : List Answer) (c : ClientState) (text : List ℕ) (said : Applied) (n : ClientState) → IsSoundRun start blocks block state frames answers c text said n
sound_run start blocks block state frames answers c text said n bodies behind served frame_bytes bytes may held header =
    let s = stepped c text said n may in
    let keeps = keeps_served new_client frames answers c served frame_bytes keeps_first in
    let held_is : n.held ≡ block.hash = sym (ap (λ (a : Applied). a.held) s.says) ∙ held in
    let sound = sound_behind start blocks block state c n text bodies behind bytes keeps s.step held_is header in
    (sound.0, sound.1, sound.2, s.says)
