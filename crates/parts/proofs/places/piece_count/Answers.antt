use Rattle.std.proofs.Common.{◌+◌, ◌-◌, ◌/◌, ◌∙◌, ap, arith}
use Rattle.hashtree.proofs.Heights.{ceil_is}
use Rattle.folders.proofs.Places.{pieces_are_positive}
use Rattle.parts.proofs.places.piece_count.Goals as goal

pub div_ceil-requires : goal.div_ceil-requires
div_ceil-requires c = let p = pieces_are_positive c.args.torrent.now c.recall_sound.ensures in omega (arith, p, c.piece_length.ensures)

pub returns : goal.returns
returns c =
    let p = pieces_are_positive c.args.torrent.now c.recall_sound.ensures in
    c.div_ceil.ensures ∙ ceil_is c.args.file.now.length c.piece_length.result (omega (arith, p, c.piece_length.ensures))
    ∙ ap (λ p. (c.args.file.now.length + (p - 1)) / p) c.piece_length.ensures
