use Rattle.std.proofs.Common.{drop, map}
use Rattle.std.specs.List.{join_with_byte}
use Rattle.filetree.specs.FileTree.{slash}
use Rattle.printing.proofs.Parts.{SentBut}
use Rattle.lines.specs.Strings.{string_bytes}
use Rattle.lines.proofs.Spelled.{joined_rest}
use Rattle.lines.proofs.string.write_joined.Given as goal

-- some first components went out
abbrev pub invariant-parts : goal.invariant-parts
invariant-parts g l =
    SentBut (g.W.Sink.seen l.fn.out) (g.W.Sink.seen l.out)
    (string_bytes (join_with_byte slash (map g.S.AsStr.text l.fn.path))) (joined_rest (map g.S.AsStr.text (drop l.part-index l.others)))
