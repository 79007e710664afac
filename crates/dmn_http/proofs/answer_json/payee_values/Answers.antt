use Rattle.std.proofs.Common.{◌≡◌, ◌∙◌, ap, sym, map, List, [], ◌∷◌, ◌++◌, take, ◌+◌, rules, arith, subst, string_bytes, get_or}
use Rattle.std.proofs.lemmas.List.{take_more, map-append}
use Rattle.dmn_bytes.specs.declared.hash.Hash256.{Hash256}
use Rattle.serde_json.specs.Data.{Data, string}
use Rattle.serde_json.specs.View.{view}
use Rattle.serde_json.specs.declared.value.Value.{the_lemmas}
use Rattle.serde_json.specs.declared.value.Value as value
use Rattle.dmn_http.specs.Steps.{hash_data, AllPlain}
use Rattle.dmn_http.proofs.Jsons.{plain_more}
use Rattle.dmn_http.proofs.answer_json.payee_values.Goals as goal

pub payees-preserved : goal.payees-preserved
payees-preserved c =
    let none : Hash256 = record { 0 = [] } in
    let hash : Hash256 = get_or c.args.hashes.now c.payees.hash-index none in
    let next : take (c.payees.hash-index + 1) c.args.hashes.now ≡ take c.payees.hash-index c.args.hashes.now ++ hash ∷ [] = take_more c.args.hashes.now c.payees.hash-index none (omega arith) in
    let seen : view (value.String c.in_ok-text.text) ≡ string (string_bytes c.in_ok-text.text) = search (rules, the_lemmas) in
    let last : view (value.String c.in_ok-text.text) ≡ hash_data hash = seen ∙ ap string c.in_ok-text.ensures.text in
    record {
      values = ap (map view) c.in_ok-push.ensures.items ∙ map-append view c.payees.values.items (value.String c.in_ok-text.text ∷ [])
          ∙ ap (λ (l : List Data). l ++ view (value.String c.in_ok-text.text) ∷ []) c.payees.invariant.values
          ∙ ap (λ (d : Data). map hash_data (take c.payees.hash-index c.args.hashes.now) ++ d ∷ []) last
          ∙ sym (map-append hash_data (take c.payees.hash-index c.args.hashes.now) (hash ∷ [])) ∙ ap (map hash_data) (sym next);
      plain = subst AllPlain (sym next) (plain_more (take c.payees.hash-index c.args.hashes.now) hash c.payees.invariant.plain c.in_ok-text.ensures.plain);
    }
