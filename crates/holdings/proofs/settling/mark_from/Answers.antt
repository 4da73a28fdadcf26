use Rattle.std.proofs.Common.{◌∙◌}
use Rattle.holdings.proofs.Settlements.{marked-more}
use Rattle.holdings.proofs.settling.mark_from.Goals as goal

pub each-preserved : goal.each-preserved
each-preserved g c = record {
  marked = marked-more c.args.session.now c.args.piece.tree c.args.piece.first c.args.cells.now c.args.from c.each.count c.each.session c.each.cells
      c.mark_held.new.session c.mark_held.new.cells c.each.invariant.marked c.if-not-mark_held.ensures.marked;
  torrent = c.mark_held.ensures.torrent ∙ c.each.invariant.torrent;
}
