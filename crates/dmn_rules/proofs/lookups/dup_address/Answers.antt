use Rattle.std.proofs.Common.{sym, ap, ◌∙◌}
use Rattle.std.specs.Option.{option_map}
use Rattle.dmn_rows.specs.declared.rule.Rule.TheVariants.{DupAddress}
use Rattle.dmn_rules.specs.Provider.{is_hash, dup_address}
use Rattle.dmn_rules.specs.Looking.{unless}
use Rattle.dmn_rules.proofs.Seen.{service_unless}
use Rattle.dmn_rules.proofs.lookups.dup_address.Goals as goal

pub returns-in-None : goal.returns-in-None
unfolding dup_address
returns-in-None g c height =
    let out = is_hash c.args.replaced.now in
    sym (ap (option_map (λ h. DupAddress h)) (service_unless c.args.p.now.service out height (g.L.Look.rows c.args.look.now) c.requires.services ∙ ap (unless out) (sym c.by_service.ensures) ∙ sym c.in-None.ensures))

pub returns-in-Some : goal.returns-in-Some
unfolding dup_address
returns-in-Some g c height =
    let out = is_hash c.args.replaced.now in
    sym (ap (option_map (λ h. DupAddress h)) (service_unless c.args.p.now.service out height (g.L.Look.rows c.args.look.now) c.requires.services ∙ ap (unless out) (sym c.by_service.ensures) ∙ sym c.in-Some.ensures))
