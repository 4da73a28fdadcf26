use Rattle.std.proofs.Common.{rules, ◌≡◌, [], inl, inr, ◌∙◌, arith}
use Rattle.std.proofs.lemmas.List.{get_or-set_same, get_or-set_other}
use Rattle.std.proofs.lemmas.Bool.{cases_lt}
use Rattle.lanes.proofs.output.digests_of.Goals as goal

pub messages-preserved : goal.messages-preserved
messages-preserved g c = (
  search rules,
  λ j lt. elim (cases_lt j c.messages.j) [
    | inl before ↦
        get_or-set_other c.messages.digests c.messages.j j c.digest_of.result [] (omega arith) ∙ c.messages.invariant.1 j before
    | inr last ↦
        let here : c.messages.j ≡ j = omega arith in
        rw (← here) (get_or-set_same c.messages.digests c.messages.j c.digest_of.result [] (omega arith) ∙ c.digest_of.ensures)
  ],
)
