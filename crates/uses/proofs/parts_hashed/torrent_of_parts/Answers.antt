use Rattle.std.proofs.Common.{map}
use Rattle.uses.proofs.MadeTorrents.{makes}
use Rattle.uses.proofs.parts_hashed.torrent_of_parts.Goals as goal

pub returns : goal.returns
returns c = makes c.all_texts_assemble.ensures c.alike_write_alike.ensures (map (λ x. x.now) c.args.texts.now) c.assemble.result c.assemble.ensures
