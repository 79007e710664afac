use Rattle.std.proofs.Common.{◌∙◌}
use Rattle.dmn_sml.proofs.Pages.{nothing_held, page_filled, entry_length}
use Rattle.dmn_sml.proofs.entry.entry_text.Goals as goal

pub returns : goal.returns
returns c =
    c.into_text.ensures.text
    ∙ page_filled _ _ _ c.into_text.ensures.all (entry_length c.args.entry.now c.lengths.ensures) (c.feed.ensures.behind _ (nothing_held _ _ c.new-page.ensures))
