use Rattle.opening.proofs.Answering.{no_both}
use Rattle.opening.proofs.laws.torrent_is_not_refused.Goals as goal

pub returns : goal.returns
returns c = no_both c.no_spelling_begins_another.ensures c.spelling_has_no_fault.ensures
