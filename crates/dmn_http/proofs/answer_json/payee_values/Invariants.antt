use Rattle.std.proofs.Common.{◌≡◌, map, take}
use Rattle.serde_json.specs.View.{view}
use Rattle.dmn_http.specs.Steps.{AllPlain, hash_data}
use Rattle.dmn_http.proofs.answer_json.payee_values.Given as goal

abbrev pub invariant-payees : goal.invariant-payees
invariant-payees l = record {
  values : map view l.values.items ≡ map hash_data (take l.hash-index l.hashes);
  plain : AllPlain (take l.hash-index l.hashes);
}
