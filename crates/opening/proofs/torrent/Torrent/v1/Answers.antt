use Rattle.std.proofs.Common.{rules}
use Rattle.opening.proofs.torrent.Torrent.v1.Goals as goal

pub returns : goal.returns
returns c = search rules
