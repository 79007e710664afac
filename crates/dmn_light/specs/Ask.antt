-- The answer of a light client to each frame, in the order of its checks, and what it holds after it.
use Rattle.std.specs.Prelude.{ℕ, ◌+◌, List, [], ◌∷◌, length, nat_lt, if◌then◌else◌, Option, None, Some, Result, Ok, Err}
use Rattle.dmn_bytes.specs.declared.fault.Departure.{Departure}
use Rattle.dmn_bytes.specs.Format.{whole}
use Rattle.dmn_bytes.specs.Law.{place_of}
use Rattle.dmn_client.specs.declared.fault.ClientFault.{ClientFault}
use Rattle.dmn_client.specs.declared.headers.Header.{Header}
use Rattle.dmn_client.specs.Headers.{header_step}
use Rattle.dmn_client.specs.Step.{ClientState, applied_of, client_step}
use Rattle.dmn_frames.specs.declared.limits.TheConstants.{HEAD, LONGEST_BODY}
use Rattle.dmn_light.specs.declared.answer.Answer.{Answer}
use Rattle.dmn_light.specs.declared.answer.Answer.TheVariants.{Added, Holds, BadRequest, Refused}
use Rattle.dmn_light.specs.declared.header.HeaderBody.{HeaderBody}
use Rattle.dmn_light.specs.declared.kind.Kind.{Kind}
use Rattle.dmn_light.specs.declared.kind.Kind.TheVariants as kinds
use Rattle.dmn_light.specs.Header.{header_body, root_in}
use Rattle.dmn_light.specs.Kinds.{kind_of}

-- by the headers after one more, or why it is refused
abbrev pub added : ClientState → Result (List Header) ClientFault → Answer × ClientState
added c (Ok headers) = (Added, record c { headers = headers })
added c (Err fault) = (Refused fault, c)

-- a header's body, or where it departs
abbrev pub asked_header : ClientState → Result HeaderBody Departure → Answer × ClientState
asked_header c (Ok body) = added c (header_step c.headers body.hash (root_in body.header))
asked_header c (Err d) = (BadRequest (HEAD + place_of d), c)

-- by what is held after a diff, or why it is refused
abbrev pub applied : ClientState → Result ClientState ClientFault → Answer × ClientState
applied c (Ok n) = (Holds (applied_of n), n)
applied c (Err fault) = (Refused fault, c)

-- what is held; there is no body
abbrev pub shown : ClientState → List ℕ → Answer × ClientState
shown c [] = (Holds (applied_of c), c)
shown c (byte ∷ body) = (BadRequest HEAD, c)

unfoldable pub asked_kind : ClientState → Option Kind → List ℕ → Answer × ClientState
asked_kind c None body = (BadRequest 0, c)
asked_kind c (Some kinds.Header) body = asked_header c (whole header_body body)
asked_kind c (Some kinds.Apply) body = applied c (client_step c body)
asked_kind c (Some kinds.Show) body = shown c body

-- the answer to a frame whose body has this size, by what was read of it
unfoldable pub answered : ClientState → ℕ → ℕ → List ℕ → Answer × ClientState
answered c kind size body = if nat_lt LONGEST_BODY size then (BadRequest 1, c) else asked_kind c (kind_of kind) body

abbrev pub answer_of : ClientState → ℕ → List ℕ → Answer × ClientState
answer_of c kind body = answered c kind (length body) body
