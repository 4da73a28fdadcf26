use Rattle.std.proofs.Common.{rules}
use Rattle.opening.proofs.torrent.Torrent.files.Goals as goal

pub returns : goal.returns
returns c = search rules
