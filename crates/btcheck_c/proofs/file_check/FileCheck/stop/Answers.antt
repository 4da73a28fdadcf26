use Rattle.std.proofs.Common.{true≢false, ◌≡◌, ◌<◌, ◌*◌, ◌%◌, ◌^◌, length, refl, sym, ap, ◌∙◌, subst, arith}
use Rattle.pieces.proofs.WholePieces.{marks_complete, marks_whole}
use Rattle.short_pushes.specs.RowChecks as rows
use Rattle.btcheck_c.proofs.EarlyEnds.{short_of}
use Rattle.btcheck_c.proofs.FileVerdicts.{anew}
use Rattle.btcheck_c.proofs.file_check.FileCheck.stop.Goals as goal

pub returns-then-ends_with_piece-clause-verdict : goal.returns-then-ends_with_piece-clause-verdict
returns-then-ends_with_piece-clause-verdict c =
    let m = c.args.self.now in let good = c.finish-found.new.good in let layer = rows.layer_of_row m.check in
    let ends : c.len.result % (16384 * 2 ^ layer) ≡ 0 =
    subst (λ l. c.len.result % (16384 * 2 ^ l) ≡ 0) c.layer.ensures.value (c.ends_with_piece.ensures.0 c.if-ends_with_piece.true).1 in
    short_of m c.args.good.now good c.requires (λ content given.
    let count : c.len.result ≡ length content = c.len.ensures ∙ given.length_is in
    marks_whole good (rows.hashes_of_row m.check) layer content (ap (λ n. n % (16384 * 2 ^ layer)) (sym count) ∙ ends)
    (c.finish-found.ensures.found content given).2.marked)

pub returns-else-ends_with_piece-clause-verdict : goal.returns-else-ends_with_piece-clause-verdict
returns-else-ends_with_piece-clause-verdict c =
    let m = c.args.self.now in let layer = rows.layer_of_row m.check in
    let never : 0 < c.len.result → c.len.result % (16384 * 2 ^ layer) ≡ 0 → ⊥ =
    λ some ends. true≢false (sym (c.ends_with_piece.ensures.1 (
      some,
      subst (λ l. c.len.result % (16384 * 2 ^ l) ≡ 0) (sym c.layer.ensures.value) ends,
    )) ∙ c.if-ends_with_piece.false) in
    short_of m c.args.good.now c.args.good.now c.requires (λ content given.
    let count : c.len.result ≡ length content = c.len.ensures ∙ given.length_is in
    marks_complete c.args.good.now (rows.hashes_of_row m.check) layer content
    (λ some ends. never (omega (arith, some, count)) (ap (λ n. n % (16384 * 2 ^ layer)) count ∙ ends)) given.marked)

pub returns-then-ends_with_piece-clause-begins : goal.returns-then-ends_with_piece-clause-begins
returns-then-ends_with_piece-clause-begins c = anew c.args.self.now _ refl refl c.finish-found.ensures.anew
