use Rattle.std.proofs.Common.{◌+◌, ◌*◌, arith, length}
use Rattle.dmn_bytes.proofs.Send.{sent_as, sent_then}
use Rattle.dmn_desk.specs.Framed.{page_body}
use Rattle.dmn_desk.proofs.Paging.{page_framed, page_length}
use Rattle.dmn_desk.proofs.page.feed_page.Goals as goal

pub returns-clause-text : goal.returns-clause-text
unfolding page_body
returns-clause-text g c =
    let long = page_length c.args.entries.now c.entry_lengths.ensures in
    sent_as (page_framed (2 + 151 * length c.args.entries.now) c.args.entries.now long) (sent_then c.put.ensures (sent_then c.feed_count.ensures (sent_then c.feed.ensures c.feed_many.ensures)))

pub returns-clause-fits : goal.returns-clause-fits
returns-clause-fits g c = omega (arith, c.requires, page_length c.args.entries.now c.entry_lengths.ensures)
