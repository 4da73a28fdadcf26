use Rattle.benc.specs.Text.{pairs_spelling}
use Rattle.drafts.specs.DraftSeen.{outline_layers}
use Rattle.drafts.specs.Written.{pairs_of_layers}
use Rattle.drafts.proofs.Penned.{SoFar}
use Rattle.drafts.proofs.finish.put_layers.Given as goal

abbrev pub invariant-roots : goal.invariant-roots
invariant-roots g l =
    SoFar l.fn.pen (g.W.Sink.seen l.fn.w) l.pen (g.W.Sink.seen l.w) (pairs_spelling (pairs_of_layers (outline_layers l.piece_length l.roots.entries)))
    (pairs_spelling (pairs_of_layers (outline_layers l.piece_length l.root-iterator)))
