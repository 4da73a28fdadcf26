use Rattle.std.proofs.Common.{rules, ◌≡◌, suc, ◌-◌, inl, inr, ap, slice_index, ◌∙◌, arith}
use Rattle.std.proofs.lemmas.List.{get_or-set_same, get_or-set_other}
use Rattle.std.proofs.lemmas.Bool.{cases_lt}
use Rattle.sha1_lanes.proofs.relay.passed.Goals as goal

pub lanes-preserved : goal.lanes-preserved
lanes-preserved c = record {
  long = search rules;
  begins =
      get_or-set_other c.lanes.new c.lanes.j 0 (slice_index c.args.words (c.lanes.j - 1)) 0 (omega arith) ∙ c.lanes.invariant.begins;
  passes = λ j lt. elim (cases_lt (suc j) c.lanes.j) [
    | inl before ↦
        get_or-set_other c.lanes.new c.lanes.j (suc j) (slice_index c.args.words (c.lanes.j - 1)) 0 (omega arith)
        ∙ c.lanes.invariant.passes j before
    | inr last ↦
        let here : c.lanes.j ≡ suc j = omega arith in
        let from : c.lanes.j - 1 ≡ j = omega arith in
        rw (← here)
        (get_or-set_same c.lanes.new c.lanes.j (slice_index c.args.words (c.lanes.j - 1)) 0 (omega arith))
        ∙ ap (slice_index c.args.words) from
  ];
}
