use Rattle.opening.proofs.Answering.{torrent_is_one}
use Rattle.opening.proofs.laws.torrent_is_one.Goals as goal

pub returns : goal.returns
returns c = torrent_is_one c.no_spelling_begins_another.ensures
