use Rattle.std.proofs.Common.{◌<◌, arith, length}
use Rattle.std.proofs.lemmas.Option.{slice_get_within}
use Rattle.replays.proofs.Named.{run-there}
use Rattle.replays.proofs.entries.hold_block.Goals as goal

pub place-near-requires : goal.place-near-requires
place-near-requires g c = slice_get_within _ _ _ c.requires.entry

pub block_of-bytes-requires : goal.block_of-bytes-requires
block_of-bytes-requires g c =
    let there : c.args.entry < length c.args.delivery.blocks.now.refusals = slice_get_within _ _ _ c.requires.entry in
    omega (arith, c.requires.run.carried, there)

pub hold-hold-requires-clause-tree : goal.hold-hold-requires-clause-tree
hold-hold-requires-clause-tree g c = run-there c.requires.run
