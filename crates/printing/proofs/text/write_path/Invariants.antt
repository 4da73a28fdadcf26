use Rattle.std.proofs.Common.{drop, map}
use Rattle.printing.specs.Text.{path_text}
use Rattle.printing.proofs.Escapes.{tail_text}
use Rattle.printing.proofs.Parts.{SentBut}
use Rattle.printing.proofs.text.write_path.Given as goal

-- some first components went out
abbrev pub invariant-parts : goal.invariant-parts
invariant-parts g l =
    SentBut (g.W.Sink.seen l.fn.out) (g.W.Sink.seen l.out)
    (path_text (map g.S.AsStr.text l.fn.path)) (tail_text (map g.S.AsStr.text (drop l.part-index l.others)))
