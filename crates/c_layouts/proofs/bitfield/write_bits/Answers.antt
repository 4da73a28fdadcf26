use Rattle.std.proofs.Common.{◌≡◌, ap, ◌∙◌, subst, arith}
use Rattle.opening.specs.Sound.{IsSound}
use Rattle.c_layouts.specs.Torrents.{torrent_piece_count}
use Rattle.c_layouts.proofs.Whole.{piece_low}
use Rattle.c_layouts.proofs.bitfield.write_bits.Goals as goal

pub returns : goal.returns
returns c = λ k.
    let S = c.args.session.now in let sound = subst IsSound c.torrent.ensures c.recall_sound.ensures in
    let count : c.count_pieces-count.result ≡ torrent_piece_count S.torrent = c.count_pieces-count.ensures ∙ ap torrent_piece_count c.torrent-2.ensures in (
      λ one. ((c.pieces.invariant k).0 one).1,
      λ whole. (c.pieces.invariant k).1 (
        omega (arith, piece_low S.torrent k whole.number whole.file sound.laid_out whole.file_is whole.in_file, count, c.pieces-test.false),
        whole,
      ),
    )
