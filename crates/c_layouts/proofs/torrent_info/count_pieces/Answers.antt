use Rattle.std.proofs.Common.{◌^◌, ◌<◌, arith}
use Rattle.pieces.proofs.Legal.{piece_length_is}
use Rattle.c_layouts.specs.Torrents.{torrent_piece_count}
use Rattle.c_layouts.proofs.Counting.{last_ends}
use Rattle.c_layouts.proofs.torrent_info.count_pieces.Goals as goal

pub overflow_add-result : goal.overflow_add-result
overflow_add-result c =
    let same = piece_length_is _ _ _ _ c.unwrap-piece_length.ensures c.new.ensures c.piece_length.ensures in
    let ends = last_ends c.args.torrent.now c.files.result.now c.in-Some.file.now c.unwrap-piece_length.result c.pieces.result
    c.recall_sound.ensures.laid_out c.files.ensures c.in-Some.ensures.value same c.pieces.ensures in
    let few : torrent_piece_count c.args.torrent.now < 2 ^ 32 = c.recall_sound.ensures.laid_out.pieces in
    omega (arith, ends, few)

pub returns-in-Some : goal.returns-in-Some
returns-in-Some c =
    let same = piece_length_is _ _ _ _ c.unwrap-piece_length.ensures c.new.ensures c.piece_length.ensures in
    last_ends c.args.torrent.now c.files.result.now c.in-Some.file.now c.unwrap-piece_length.result c.pieces.result
    c.recall_sound.ensures.laid_out c.files.ensures c.in-Some.ensures.value same c.pieces.ensures
