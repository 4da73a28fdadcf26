use Rattle.std.proofs.Common.{◌*◌, [], refl, sym, subst, arith}
use Rattle.std.proofs.lemmas.List.{drop_all}
use Rattle.std.proofs.lemmas.Option.{none-some}
use Rattle.pieces.specs.CutStreams.{Runs}
use Rattle.pieces.proofs.v1_feed.V1Feed.over.Goals as goal

pub returns-clause-begins : goal.returns-clause-begins
returns-clause-begins c = record {
  total_is = refl;
  given_is = refl;
  content = record {
    given_is = refl;
    pieces_are = refl;
    piece_length_is = c.new.ensures.piece_length;
    whole = omega arith;
    bad_is = record {
      none = λ _ k less. absurd (omega arith);
      before = λ i is. absurd (none-some i is);
      within = λ i is. absurd (none-some i is);
      differs = λ i is. absurd (none-some i is);
    };
    runs = λ _. subst (Runs c.new.result c.args.piece_length) (sym (drop_all (c.args.piece_length * 0) [] (omega arith))) c.new.ensures.begins;
  };
}
