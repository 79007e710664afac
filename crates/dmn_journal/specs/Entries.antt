-- What a record's length counts, in the language of formats: kind and body.
use Rattle.std.specs.Prelude.{ℕ, ◌-◌, ◌==◌, ◌||◌, not, List, length, nat_lt}
use Rattle.dmn_bytes.specs.Format.{Format, via, ◌▹◌, kept, byte, fixed, choose}
use Rattle.dmn_bytes.specs.declared.fault.Departure.TheVariants.{Form}
use Rattle.dmn_journal.specs.Journal.{Entry}
use Rattle.dmn_journal.specs.declared.limits.TheConstants.{CONNECT, DISCONNECT, LONGEST_BODY}

unfoldable pub kind_field : Format ℕ
kind_field = kept (λ i. Form i) (λ kind. (kind == CONNECT) || (kind == DISCONNECT)) byte

-- all bytes that are left, of which there may be so many; or a hash
unfoldable pub body_field : ℕ → ℕ → Format (List ℕ)
body_field left kind = choose (kind == CONNECT) (kept (λ i. Form i) (λ body. not (nat_lt LONGEST_BODY (length body))) (fixed left)) (fixed 32)

-- n bytes together
unfoldable pub entry_format : ℕ → Format Entry
entry_format n = via (λ (kind, body). record { kind = kind; body = body }) (λ entry. (entry.kind, entry.body)) (kind_field ▹ body_field (n - 1))
