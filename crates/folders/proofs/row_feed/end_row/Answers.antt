use Rattle.std.proofs.Common.{rules, ◌≡◌, ◌∙◌, ap, length, subst, sym}
use Rattle.hashtree.specs.Judging.{IsJudgedRow}
use Rattle.hashtree.specs.PieceCheck.{IsFedRow, chosen_layer, given_hashes}
use Rattle.folders.proofs.RowFeeding.{written}
use Rattle.folders.proofs.row_feed.end_row.Goals as goal

pub returns-clause-ended : goal.returns-clause-ended
returns-clause-ended c =
    let check = c.args.check.now in
    let items = c.args.bits.now.items in
    let good = c.finish_marking-other.new.good in
    let size : length good ≡ c.args.bits.now.len = search rules in
    let all : length items ≡ c.args.bits.now.len = search rules in
    let bits = written c.args.bits.now.len good items size all in
    record {
      found = λ bytes fed.
          let is = c.finish_marking-other.ensures.found bytes (subst (λ t. IsFedRow check t bytes) (sym c.deref_mut.ensures.value) fed) in
          (is.1, subst (λ t. IsJudgedRow (chosen_layer check) (given_hashes check) bytes t c.finish_marking-other.result.2) (sym bits) is.2);
      bits = ap length bits ∙ size ∙ sym all;
    }
