use Rattle.opening.proofs.Answering.{torrent_or_refusal}
use Rattle.opening.proofs.laws.torrent_or_refusal.Goals as goal

pub returns : goal.returns
returns c = torrent_or_refusal c.spells_or_fails.ensures
