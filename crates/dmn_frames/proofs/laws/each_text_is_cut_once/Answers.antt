use Rattle.dmn_frames.proofs.Cutting.{each_text_is_cut_once}
use Rattle.dmn_frames.proofs.laws.each_text_is_cut_once.Goals as goal

pub returns : goal.returns
returns c = each_text_is_cut_once
