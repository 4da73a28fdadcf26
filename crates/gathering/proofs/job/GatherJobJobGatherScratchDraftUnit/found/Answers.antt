use Rattle.std.proofs.Common.{◌∙◌, Some, ap}
use Rattle.chains.proofs.Cases.{item_at}
use Rattle.gathering.proofs.job.GatherJobJobGatherScratchDraftUnit.found.Goals as goal

pub found_whole-requires : goal.found_whole-requires
found_whole-requires g c =
    let a = item_at c.args.held.now.answers c.args.place c.requires.place in
    let is = rw c.in-None.is at c.nothing.ensures a.0 a.1 in
    record {
      held = record {
        hashed = c.requires.hashed;
        piece_length_is = c.requires.holds.piece_length_is;
        both = c.requires.holds.both;
        bytes = is.0;
        is = a.1 ∙ ap Some is.1;
      };
    }
