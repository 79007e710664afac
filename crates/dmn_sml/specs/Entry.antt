-- The entry of a row, and its text (DIP-0004).
use Rattle.std.specs.Prelude.{◌≡◌, ℕ, zero, suc, ◌==◌, nat_le, Bool, true, false, if◌then◌else◌, refl}
use Rattle.std.proofs.lemmas.Bool.{leb-true}
use Rattle.std.proofs.Common.{arith, ◌≤◌}
use Rattle.dmn_bytes.specs.declared.fault.Departure.TheVariants.{Form}
use Rattle.dmn_bytes.specs.Format.{Format, via, ◌⊗◌, kept, as_one, byte, hash, fixed}
use Rattle.dmn_bytes.specs.Points.{service, service_sound}
use Rattle.dmn_bytes.specs.Law.{IsSound}
use Rattle.dmn_bytes.specs.Sound.{via_sound, both_sound, kept_here, as_one_sound, byte_sound, hash_sound, fixed_sound}
use Rattle.dmn_rows.specs.declared.row.MnRow.{MnRow}
use Rattle.dmn_sml.specs.declared.entry.SmlEntry.{SmlEntry}

-- A row that isn't banned is valid.
abbrev pub entry_of : MnRow → SmlEntry
entry_of row = record {
  hash = row.hash;
  confirmed = row.confirmed;
  service = row.service;
  operator = row.operator;
  voting = row.voting;
  valid = row.banned == 0;
}

abbrev pub flag_byte : Bool → ℕ
flag_byte v = if v then 1 else 0

-- a byte that is 1 or 0
abbrev pub flag : Format Bool
flag = via (λ b. b == 1) flag_byte (kept (λ i. Form i) (λ b. nat_le b 1) byte)

-- 151 bytes: 32, 32, 16 and 2, 48, 20, 1
unfoldable pub fields : Format SmlEntry
fields = via
    (λ p. record { hash = p.0; confirmed = p.1.0; service = p.1.1.0; operator = p.1.1.1.0; voting = p.1.1.1.1.0; valid = p.1.1.1.1.1 })
    (λ e. (e.hash, (e.confirmed, (e.service, (e.operator, (e.voting, e.valid))))))
    (hash ⊗ hash ⊗ service ⊗ fixed 48 ⊗ fixed 20 ⊗ flag)

-- the same as one field, which departs at its first byte
unfoldable pub entry : Format SmlEntry
entry = as_one fields

flag_back : (v : Bool) → (flag_byte v == 1) ≡ v
flag_back true = refl
flag_back false = refl

flag_again : (b : ℕ) → b ≤ 1 → flag_byte (b == 1) ≡ b
flag_again zero le = refl
flag_again (suc zero) le = refl
flag_again (suc (suc b)) le = absurd (omega arith)

pub flag_sound : IsSound flag
flag_sound = via_sound (λ b. b == 1) flag_byte (kept (λ i. Form i) (λ b. nat_le b 1) byte) flag_back (λ b fits. flag_again b (leb-true b 1 fits.1)) (kept_here (λ b. nat_le b 1) byte byte_sound)

pub entry_sound : IsSound entry
unfolding entry fields
entry_sound = as_one_sound fields (via_sound _ _ _ (λ v. refl) (λ a fits. refl)
    (both_sound hash _ hash_sound (both_sound hash _ hash_sound (both_sound service _ service_sound (both_sound (fixed 48) _ (fixed_sound 48) (both_sound (fixed 20) flag (fixed_sound 20) flag_sound))))))
