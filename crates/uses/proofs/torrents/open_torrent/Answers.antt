use Rattle.uses.proofs.torrents.open_torrent.Goals as goal

pub returns : goal.returns
returns c = record { described = c.open.ensures.described; comes = c.open.ensures.only }
