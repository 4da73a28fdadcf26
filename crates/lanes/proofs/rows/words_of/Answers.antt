use Rattle.lanes.proofs.FourWords.{word_of_both}
use Rattle.lanes.proofs.rows.words_of.Goals as goal

pub returns : goal.returns
returns c k lt = word_of_both c.args.first c.args.second c.fits-first.1 c.fits-second.1 k lt
