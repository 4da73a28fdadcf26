use Rattle.std.proofs.Common.{◌∙◌}
use Rattle.pieces.proofs.Legal.{rounded_up}
use Rattle.file_windows.proofs.cuts.window.cut_count.Goals as goal

pub returns : goal.returns
returns c = c.div_ceil.ensures ∙ rounded_up c.args.size c.args.piece_length c.requires
