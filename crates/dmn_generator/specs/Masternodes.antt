-- The transaction that registers a masternode (DIP-0002, DIP-0003), by the masternode's number.
use Rattle.std.specs.Prelude.{ℕ, ◌/◌, ◌%◌, List, [], ◌∷◌, ◌++◌, replicate, codes}
use Rattle.dmn_bytes.specs.declared.hash.Hash256.{Hash256}
use Rattle.dmn_bytes.specs.declared.points.OutPoint.{OutPoint}
use Rattle.dmn_bytes.specs.declared.points.Service.{Service}
use Rattle.dmn_bytes.specs.Hash.{dsha}
use Rattle.dmn_bytes.specs.Points.{out_point}
use Rattle.dmn_payloads.specs.declared.payloads.ProReg.{ProReg}
use Rattle.dmn_payloads.specs.Payloads.{pro_reg}
use Rattle.dmn_payloads.specs.Scripts.{p2pkh}
use Rattle.dmn_tx.specs.declared.kinds.TheConstants.{REGISTER_TX, SPECIAL_VERSION}
use Rattle.dmn_tx.specs.declared.tx.Tx.{Tx}
use Rattle.dmn_generator.specs.Tags.{first_20, first_48, tag}

abbrev pub no_hash : Hash256
no_hash = record { 0 = replicate 32 0 }

-- the sequence number of each input
abbrev pub sequence : ℕ
sequence = 0xffffffff

-- 1,000 DASH, in duffs
abbrev pub collateral : ℕ
collateral = 100000000000

-- the output that pays for it
abbrev pub fund : ℕ → OutPoint
fund i = record { hash = tag (codes "fund ") i; index = 0 }

-- the script that pays to a tag
abbrev pub script_to : List ℕ → ℕ → List ℕ
script_to name i = p2pkh (first_20 (tag name i))

-- the IPv4 address 10.a.b.c, mapped into an IPv6 one, where a, b and c are the number's bytes
abbrev pub service : ℕ → Service
service i = record { address = replicate 10 0 ++ 0xff ∷ 0xff ∷ 10 ∷ (i / 65536) % 256 ∷ (i / 256) % 256 ∷ i % 256 ∷ []; port = 9999 }

-- the payload; its collateral is the first output of the same transaction
abbrev pub registration : ℕ → ProReg
registration i = record {
  version = 1;
  kind = 0;
  mode = 0;
  collateral = record { hash = no_hash; index = 0 };
  service = service i;
  owner = first_20 (tag (codes "owner ") i);
  operator = first_48 (tag (codes "opa ") i) (tag (codes "opb ") i);
  voting = first_20 (tag (codes "vote ") i);
  reward = 0;
  payout = script_to (codes "pay ") i;
  inputs = record { 0 = dsha (out_point.text (fund i)) };
  signature = [];
}

unfoldable pub masternode : ℕ → Tx
masternode i = record {
  version = SPECIAL_VERSION;
  kind = REGISTER_TX;
  inputs = record { point = fund i; script = []; sequence = sequence } ∷ [];
  outputs = record { value = collateral; script = script_to (codes "coll ") i } ∷ [];
  lock = 0;
  payload = pro_reg.text (registration i);
}
