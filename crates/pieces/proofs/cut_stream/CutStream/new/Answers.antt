use Rattle.std.proofs.Common.{[], sym, subst}
use Rattle.std.proofs.lemmas.Grind.{merely}
use Rattle.pieces.specs.Staged.{IsStaged}
use Rattle.pieces.proofs.CutStreams.{begun_none, begun_runs}
use Rattle.pieces.proofs.cut_stream.CutStream.new.Goals as goal

pub invariant_of-result : goal.invariant_of-result
invariant_of-result c = record {
  alone = λ s is. c.new.ensures.empty;
  same_length = λ s is. merely ([], subst (λ p. IsStaged s p []) (sym c.new.ensures.piece_length) (c.requires.begun s is).1);
}

pub returns-clause-begins : goal.returns-clause-begins
returns-clause-begins c = record {
  piece_length_is = c.new.ensures.piece_length;
  held = begun_runs c.new.result c.args.stages c.args.piece_length c.new.ensures.running c.requires.begun;
}

pub returns-clause-told : goal.returns-clause-told
returns-clause-told c = (begun_none c.args.stages c.args.piece_length c.requires.some c.requires.begun).0
