-- The payload of a special transaction, by the format of its type, and the rules on that.
use Rattle.std.specs.Prelude.{ℕ, ◌==◌, ◌||◌, nat_lt, List, [], ◌∷◌, Option, Some, None, Result, Ok, Err, if◌then◌else◌}
use Rattle.std.specs.Option.{option_map}
use Rattle.std.specs.Result.{result_ok}
use Rattle.dmn_bytes.specs.declared.fault.Departure.{Departure}
use Rattle.dmn_bytes.specs.Format.{whole}
use Rattle.dmn_bytes.specs.Law.{place_of}
use Rattle.dmn_payloads.specs.Commitments.{mined}
use Rattle.dmn_payloads.specs.Fault.{other_version}
use Rattle.dmn_payloads.specs.Payloads.{pro_reg, up_serv, up_reg, revoke}
use Rattle.dmn_rows.specs.declared.rule.Rule.TheVariants.{UnknownType, PayloadVersion, PayloadForm}
use Rattle.dmn_tx.specs.declared.kinds.TheConstants.{REGISTER_TX, SERVICE_TX, REGISTRAR_TX, REVOKE_TX, COINBASE_TX, COMMITMENT_TX}
use Rattle.dmn_rules.specs.declared.provider.Provider.{Provider}
use Rattle.dmn_rules.specs.declared.provider.Provider.TheVariants.{Register, Service, Registrar, Revoke}
use Rattle.dmn_rules.specs.Table.{Numbered, when}

-- where a payload departs from a format
abbrev pub place_in : {V : Type 0} → Result V Departure → Option ℕ
place_in (Ok v) = None
place_in (Err d) = Some (place_of d)

-- where a payload departs from the format of its type
unfoldable pub departure_of : ℕ → List ℕ → Option ℕ
departure_of kind payload =
    if kind == REGISTER_TX then place_in (whole pro_reg payload)
    else if kind == SERVICE_TX then place_in (whole up_serv payload)
    else if kind == REGISTRAR_TX then place_in (whole up_reg payload)
    else if kind == REVOKE_TX then place_in (whole revoke payload)
    else if kind == COMMITMENT_TX then place_in (whole mined payload)
    else None

-- the payload of a provider transaction, where it is in the format of its type
unfoldable pub provider_of : ℕ → List ℕ → Option Provider
provider_of kind payload =
    if kind == REGISTER_TX then option_map (λ p. Register p) (result_ok (whole pro_reg payload))
    else if kind == SERVICE_TX then option_map (λ p. Service p) (result_ok (whole up_serv payload))
    else if kind == REGISTRAR_TX then option_map (λ p. Registrar p) (result_ok (whole up_reg payload))
    else if kind == REVOKE_TX then option_map (λ p. Revoke p) (result_ok (whole revoke payload))
    else None

-- the rules on a payload as a text
unfoldable pub payload_rules : ℕ → List ℕ → Numbered
payload_rules kind payload =
    (20, when (kind == COINBASE_TX || nat_lt COMMITMENT_TX kind) (UnknownType kind))
    ∷ (21, option_map (λ found. PayloadVersion found) (other_version payload))
    ∷ (22, option_map (λ place. PayloadForm place) (departure_of kind payload))
    ∷ []
