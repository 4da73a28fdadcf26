use Rattle.std.proofs.Common.{rules, ◌≡◌, ◌+◌, ◌-◌, ◌*◌, ◌≤◌, slice_index, slice_set, replicate, inl, inr, refl, ap, ◌∙◌, arith, mul-le-mul_right}
use Rattle.std.proofs.lemmas.List.{get_or-replicate, get_or-set_same, get_or-set_other}
use Rattle.std.proofs.lemmas.Bool.{cases_eq, cases_lt}
use Rattle.lanes.specs.declared.words.TheConstants.{LANES}
use Rattle.pieces.proofs.next_cuts.starts_of.Goals as goal

pub overflow_mul-starts : goal.overflow_mul-starts
overflow_mul-starts c =
    let less : c.cuts.i * c.args.size ≤ c.args.count * c.args.size = mul-le-mul_right c.args.size (omega arith) in
    omega (arith, less, c.requires.fits)

pub cuts-init : goal.cuts-init
cuts-init c = record {
  long = refl;
  starts = λ i lt. absurd (omega arith);
  inside = λ j lt.
      let none : slice_index (replicate LANES 0) j ≡ 0 = get_or-replicate LANES j 0 0 lt in
      let one : 1 * c.args.size ≤ c.args.count * c.args.size = mul-le-mul_right c.args.size c.requires.some in
      omega (arith, none, one);
}

pub cuts-preserved : goal.cuts-preserved
cuts-preserved c =
    let before = c.cuts.invariant in
    let place = LANES - c.args.count + c.cuts.i in
    let at = c.cuts.i * c.args.size in
    record {
      long = search rules;
      starts = λ i lt. elim (cases_lt i c.cuts.i) [
        | inl less ↦
            get_or-set_other c.cuts.starts place (LANES - c.args.count + i) at 0 (omega arith) ∙ before.starts i less
        | inr last ↦
            let here : c.cuts.i ≡ i = omega arith in
            rw (← here) (get_or-set_same c.cuts.starts place at 0 (omega (arith, before.long)))
      ];
      inside = λ j lt. elim (cases_eq j place) [
        | inl here ↦
            let set : slice_index (slice_set c.cuts.starts (LANES - c.args.count + c.cuts.i) (c.cuts.i * c.args.size)) j ≡ c.cuts.i * c.args.size =
            ap (slice_index (slice_set c.cuts.starts place at)) here ∙ get_or-set_same c.cuts.starts place at 0 (omega (arith, before.long)) in
            let next : (c.cuts.i + 1) * c.args.size ≤ c.args.count * c.args.size = mul-le-mul_right c.args.size (omega arith) in
            omega (arith, set, next)
        | inr other ↦
            let set : slice_index (slice_set c.cuts.starts (LANES - c.args.count + c.cuts.i) (c.cuts.i * c.args.size)) j ≡ slice_index c.cuts.starts j =
            get_or-set_other c.cuts.starts place j at 0 other in
            omega (arith, set, before.inside j lt)
      ];
    }
