use Rattle.memory_tests.proofs.TorrentFiles.{sound_at}
use Rattle.memory_tests.proofs.drafting.tree_of.Goals as goal

pub returns-in-Some : goal.returns-in-Some
returns-in-Some c = λ _. sound_at c.args.torrent.now c.trees-trees.result.now c.in-Some.number _ c.trees-trees.ensures c.recall_sound.ensures
    c.if-number-trees.true
