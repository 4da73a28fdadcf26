use Rattle.std.proofs.Common.{rules, arith, ◌≡◌, ◌∙◌, ◌*◌, ◌%◌, ◌^◌, ◌<◌, refl, ap, sym, length}
use Rattle.hashtree.specs.PieceCheck.{chosen_layer, given_hashes}
use Rattle.pieces.proofs.WholePieces.{marks_complete, marks_whole}
use Rattle.folders.proofs.row_feed.end_early.Goals as goal

pub returns-then-ends_with_piece-clause-ended : goal.returns-then-ends_with_piece-clause-ended
returns-then-ends_with_piece-clause-ended c = record {
  found = λ bytes fed.
      let piece : c.len.result % (16384 * 2 ^ c.args.layer) ≡ 0 = search rules in
      let count : c.len.result ≡ length bytes = c.len.ensures ∙ fed.fed.at.length_is in
      let ends : length bytes % (16384 * 2 ^ chosen_layer c.args.check.now) ≡ 0 =
      ap (λ n. n % (16384 * 2 ^ chosen_layer c.args.check.now)) (sym count) ∙ ap (λ l. c.len.result % (16384 * 2 ^ l)) (sym c.requires.layer) ∙ piece in
      marks_whole _ (given_hashes c.args.check.now) (chosen_layer c.args.check.now) bytes ends (c.end_row-found.ensures.ended.found bytes fed).1.marked;
  bits = c.end_row-found.ensures.ended.bits;
}

pub returns-else-ends_with_piece-clause-ended : goal.returns-else-ends_with_piece-clause-ended
returns-else-ends_with_piece-clause-ended c = record {
  found = λ bytes fed.
      let count : c.len.result ≡ length bytes = c.len.ensures ∙ fed.fed.at.length_is in
      let never : 0 < c.len.result → c.len.result % (16384 * 2 ^ c.args.layer) ≡ 0 → ⊥ = λ some whole. absurd (search rules) in
      let ragged : 0 < length bytes → length bytes % (16384 * 2 ^ chosen_layer c.args.check.now) ≡ 0 → ⊥ = λ some whole.
      never (omega (arith, some, count))
      (ap (λ n. n % (16384 * 2 ^ c.args.layer)) count ∙ ap (λ l. length bytes % (16384 * 2 ^ l)) c.requires.layer ∙ whole) in
      marks_complete _ (given_hashes c.args.check.now) (chosen_layer c.args.check.now) bytes ragged fed.marked;
  bits = refl;
}
