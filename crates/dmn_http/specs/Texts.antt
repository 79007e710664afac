-- The bytes of replies.
use Rattle.std.specs.Prelude.{ℕ, Bool, true, ◌==◌, List, ◌++◌, length, codes, decimal, if◌then◌else◌}
use Rattle.dmn_head.specs.declared.fault.HttpFault.{HttpFault}
use Rattle.dmn_head.specs.declared.fault.HttpFault.TheVariants as faults
use Rattle.dmn_http.specs.declared.reply.HttpReply.{HttpReply}
use Rattle.dmn_http.specs.declared.reply.ReplyBody.{ReplyBody}
use Rattle.dmn_http.specs.declared.reply.ReplyBody.TheVariants as bodies

-- A status and its words. One that is not of this table is sent as 503.
unfoldable pub words_of : ℕ → List ℕ
words_of status =
    if status == 200 then codes "200 OK" else
    (if status == 400 then codes "400 Bad Request" else
    (if status == 404 then codes "404 Not Found" else
    (if status == 405 then codes "405 Method Not Allowed" else
    (if status == 409 then codes "409 Conflict" else
    (if status == 410 then codes "410 Gone" else
    (if status == 413 then codes "413 Content Too Large" else
    (if status == 507 then codes "507 Insufficient Storage" else codes "503 Service Unavailable")))))))

unfoldable pub type_of : Bool → List ℕ
type_of json = if json then codes "application/json" else codes "application/octet-stream"

-- a reply up to its body
unfoldable pub reply_head : ℕ → Bool → ℕ → List ℕ
reply_head status json size =
    codes "HTTP/1.1 " ++ words_of status ++ codes "\r\nContent-Type: " ++ type_of json ++ codes "\r\nContent-Length: " ++ decimal size
    ++ codes "\r\nConnection: close\r\n\r\n"

abbrev pub text_of : ℕ → Bool → List ℕ → List ℕ
text_of status json body = reply_head status json (length body) ++ body

abbrev pub body_bytes : ReplyBody → List ℕ
body_bytes (bodies.Fixed bytes) = bytes
body_bytes (bodies.Grown bytes) = bytes

-- all the bytes of a reply
abbrev pub reply_text : HttpReply → List ℕ
reply_text reply = text_of reply.status reply.json (body_bytes reply.body)

-- JSON with a name as its one field
abbrev pub error_body : List ℕ → List ℕ
error_body name = codes "{\"error\":\"" ++ name ++ codes "\"}"

-- JSON of the place at which a body departs
abbrev pub place_body : ℕ → List ℕ
place_body at = codes "{\"at\":" ++ decimal at ++ codes ",\"error\":\"BadRequest\"}"

-- the reply where memory ran out
abbrev pub memory_text : List ℕ
memory_text = text_of 503 true (error_body (codes "Memory"))

-- the reply of a check that fails
abbrev pub fault_text : HttpFault → List ℕ
fault_text faults.HeadTooLong = text_of 413 true (error_body (codes "HeadTooLong"))
fault_text faults.BadHead = text_of 400 true (error_body (codes "BadHead"))
fault_text faults.Encoding = text_of 400 true (error_body (codes "Encoding"))
fault_text faults.NoRoute = text_of 404 true (error_body (codes "NoRoute"))
fault_text faults.Method = text_of 405 true (error_body (codes "Method"))
fault_text faults.BadPath = text_of 400 true (error_body (codes "BadPath"))
fault_text faults.Length = text_of 400 true (error_body (codes "Length"))
fault_text faults.BodyTooLong = text_of 413 true (error_body (codes "BodyTooLong"))
fault_text (faults.BadRequest at) = text_of 400 true (place_body at)
