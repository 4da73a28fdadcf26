use Rattle.session.proofs.PieceRows.{first-aligned, refused_piece}
use Rattle.session.proofs.session.SessionOf.join_piece.Goals as goal

pub take_from-requires-clause-block : goal.take_from-requires-clause-block
take_from-requires-clause-block g c = let e = c.in-Some.ensures.found.in_tree in (e.entry, e.there, e.low)

pub take_from-requires-clause-aligned : goal.take_from-requires-clause-aligned
take_from-requires-clause-aligned g c =
    let x = c.in-Some.ensures.found in
    first-aligned c.args.self.now.torrent.piece_length x.in_tree.sound.legal c.args.index x.place.entry.first_piece c.in-Some.first x.place.address

pub returns-in-Err-clause-refused : goal.returns-in-Err-clause-refused
returns-in-Err-clause-refused g c = (
  refused_piece c.args.self.now c.args.index c.args.bytes.now c.in-Some.file c.in-Some.first c.in-Err.refusal c.in-Some.ensures.found.at
      c.in-Err.ensures.refused.0,
  c.in-Err.ensures.refused.1,
)
