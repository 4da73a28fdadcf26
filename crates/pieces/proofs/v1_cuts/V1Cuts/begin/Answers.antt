use Rattle.std.proofs.Common.{◌*◌, [], ap, sym, subst, arith}
use Rattle.std.proofs.lemmas.List.{drop_all}
use Rattle.pieces.specs.CutStreams.{Runs}
use Rattle.pieces.proofs.v1_cuts.V1Cuts.begin.Goals as goal

pub returns-clause-content : goal.returns-clause-content
returns-clause-content c = record {
  whole = omega (arith, ap (λ n. c.args.piece_length * n) c.new-2.ensures.len);
  kept = λ k less. absurd (omega (arith, less, c.new-2.ensures.len));
  runs = subst (Runs c.new.result c.args.piece_length) (sym (drop_all (c.args.piece_length * _) [] (omega arith))) c.new.ensures.begins;
}
