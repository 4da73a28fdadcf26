use Rattle.std.proofs.Common.{drop}
use Rattle.printing.proofs.Parts.{SentBut}
use Rattle.lines.specs.Strings.{string_bytes}
use Rattle.lines.proofs.string.write_inside.Given as goal

-- some first bytes went out
abbrev pub invariant-bytes : goal.invariant-bytes
invariant-bytes g l =
    SentBut (g.W.Sink.seen l.fn.out) (g.W.Sink.seen l.out) (string_bytes l.text) (string_bytes (drop l.byte-index l.text))
