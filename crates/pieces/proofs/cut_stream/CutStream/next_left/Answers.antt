use Rattle.std.proofs.Common.{◌≡◌, ◌+◌, ◌*◌, drop, ap, sym, subst, ◌∙◌, arith}
use Rattle.std.proofs.lemmas.List.{drop-drop}
use Rattle.std.proofs.lemmas.Option.{none-some, same_Some}
use Rattle.pieces.specs.Cutting.{IsCutting}
use Rattle.pieces.proofs.cut_stream.CutStream.next_left.Goals as goal

pub returns-in-Some : goal.returns-in-Some
returns-in-Some c =
    let f = c.args.self.now in
    let old = c.args.left.now in
    let new = c.pop.new.self in
    record {
      count = omega (arith, c.in-Some.ensures.count);
      none = λ n running at is. absurd (none-some c.in-Some.digest (sym is));
      some = λ n running at d is.
          let first = c.in-Some.ensures.first n running at.known in
          let one : old.left * n ≡ n + new.left * n = ap (λ k. k * n) (sym c.in-Some.ensures.count) ∙ omega arith in (
            omega (arith, first.0, at.piece_length_is, f.cutter.some),
            sym (same_Some c.in-Some.digest d is) ∙ first.1,
            record {
              piece_length_is = at.piece_length_is;
              known = c.in-Some.ensures.next n running at.known;
              behind = subst (IsCutting f.cutter) (ap (λ k. drop k running) one ∙ sym (drop-drop (new.left * n) n running)) at.behind;
            },
          );
    }
