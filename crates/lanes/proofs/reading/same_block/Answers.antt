use Rattle.std.proofs.Common.{rules, ◌≡◌, [], inl, inr, ap, slice_index, ◌∙◌, arith}
use Rattle.std.proofs.lemmas.List.{get_or-set_same, get_or-set_other}
use Rattle.std.proofs.lemmas.Bool.{cases_lt}
use Rattle.lanes.proofs.reading.same_block.Goals as goal

pub words-preserved : goal.words-preserved
words-preserved c = (
  search rules,
  λ j k lane lt. elim (cases_lt k c.words.k) [
    | inl before ↦
        ap (λ v. slice_index v j) (get_or-set_other c.words.words c.words.k k c.same.result [] (omega arith))
        ∙ c.words.invariant.1 j k lane before
    | inr last ↦
        let here : c.words.k ≡ k = omega arith in
        rw (← here)
        (ap (λ v. slice_index v j) (get_or-set_same c.words.words c.words.k c.same.result [] (omega arith))
        ∙ c.same.ensures j lane ∙ c.word.ensures)
  ],
)
