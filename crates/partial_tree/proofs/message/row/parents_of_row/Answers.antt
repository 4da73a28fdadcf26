use Rattle.std.proofs.Common.{◌≡◌, [], inl, inr, ◌∙◌, arith, rules}
use Rattle.std.proofs.lemmas.List.{get_or-set_same, get_or-set_other}
use Rattle.std.proofs.lemmas.Bool.{cases_lt}
use Rattle.partial_tree.proofs.message.row.parents_of_row.Goals as goal

pub pairs-preserved : goal.pairs-preserved
pairs-preserved c = record {
  size = search rules;
  joined = λ j lt. elim (cases_lt j c.pairs.j) [
    | inl before ↦ get_or-set_other c.pairs.above c.pairs.j j c.parent.result [] (omega arith) ∙ c.pairs.invariant.joined j before
    | inr last ↦
        let here : c.pairs.j ≡ j = omega arith in
        rw (← here) (get_or-set_same c.pairs.above c.pairs.j c.parent.result [] (omega arith) ∙ c.parent.ensures)
  ];
}
