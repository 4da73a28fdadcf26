use Rattle.std.proofs.Common.{arith}
use Rattle.opening.specs.Seen.{file_entry}
use Rattle.parts.proofs.SharedPlaces.{few_pieces}
use Rattle.part_reports.proofs.report_lines.is_piece.Goals as goal

pub overflow_add-end : goal.overflow_add-end
overflow_add-end c =
    let few = few_pieces c.args.torrent.now (file_entry c.args.file.now) c.recall_sound.ensures c.requires in
    omega (arith, few, c.piece_count.ensures)

pub returns : goal.returns
returns c = (
  λ on.
      let both = c.is_between.ensures.0 on in
      record {
        from = omega (arith, both.0, c.max-from.ensures);
        to = omega (arith, both.1, c.min-to.ensures, c.piece_count.ensures);
        held = (omega (arith, both.0, c.max-from.ensures), omega (arith, both.1, c.min-to.ensures));
      },
  λ piece.
      c.is_between.ensures.1 (
        omega (arith, piece.from, piece.held.0, c.max-from.ensures),
        omega (arith, piece.to, piece.held.1, c.min-to.ensures, c.piece_count.ensures),
      ),
)
