use Rattle.std.proofs.Common.{refl, ap, ◌∙◌}
use Rattle.opening.specs.Seen.{file_entry}
use Rattle.opening.proofs.Placing.{file_there}
use Rattle.pieces.proofs.Legal.{piece_length_is}
use Rattle.pieces.specs.Pieces.{pieces_of}
use Rattle.c_layouts.proofs.torrent_info.pieces_of_file.Goals as goal

pub returns-in-Some : goal.returns-in-Some
returns-in-Some c =
    let same = piece_length_is _ _ _ _ c.unwrap-piece_length.ensures c.new.ensures c.piece_length.ensures in (
      file_entry c.in-Some.file.now,
      file_there c.args.torrent.now c.files.result.now c.args.number c.in-Some.file.now c.files.ensures c.in-Some.ensures.lookup.3.0
          (c.in-Some.ensures.lookup.3.1 c.in-Some.file.now),
      refl,
      c.pieces.ensures ∙ ap (λ q. pieces_of q c.in-Some.file.now.length) same,
    )
