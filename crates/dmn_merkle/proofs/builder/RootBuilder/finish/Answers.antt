use Rattle.std.proofs.Common.{◌∙◌, ap, []}
use Rattle.dmn_merkle.specs.OnePass.{finished}
use Rattle.dmn_merkle.proofs.Levels.{held_root}
use Rattle.dmn_merkle.proofs.builder.RootBuilder.finish.Goals as goal

pub returns : goal.returns
returns c = λ hashes holds. c.finish.ensures ∙ ap (λ l. finished l []) c.self.view_is ∙ held_root c.args.self.now hashes holds
