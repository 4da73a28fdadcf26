use Rattle.std.proofs.Common.{◌≡◌, ◌-◌, ◌++◌, ℕ, List, length, min, take, arith}
use Rattle.std.proofs.lemmas.Result.{err_from_is_err_and}
use Rattle.conversions.specs.Steps.{Reached}
use Rattle.conversions.proofs.Reaching.{reach_prefix}
use Rattle.conversions.proofs.parts.pass_on.Given.{Over}
use Rattle.conversions.proofs.parts.pass_on.Goals as goal
use Rattle.conversions.proofs.parts.pass_on.Goals.{After-min-count}

-- what is there of the body reaches so far
reached : (g : Over) (c : After-min-count g) (fed text : List ℕ) → Reached c.args.left.now fed text
    → Reached (c.args.left.now - c.min-count.result) (fed ++ take c.min-count.result c.args.bytes.now) (text ++ take c.min-count.result c.args.bytes.now)
reached g c fed text r =
    let is : c.min-count.result ≡ min (length c.args.bytes.now) c.args.left.now = c.min-count.ensures in
    reach_prefix c.args.left.now c.min-count.result fed text c.args.bytes.now (omega (arith, is)) (omega (arith, is)) r

pub returns-in_err-put-clause-converts : goal.returns-in_err-put-clause-converts
returns-in_err-put-clause-converts g c = λ start fed text r h.
    let p = err_from_is_err_and c.from_residual.result c.from_residual.ensures.1 in
    rw p.1 (record {
      count = c.min-count.result;
      left = c.args.left.now - c.min-count.result;
      text = text ++ take c.min-count.result c.args.bytes.now;
      reached = reached g (goal.at.returns-in_err-put-clause-converts g c).After-min-count fed text r;
      broke = c.in_err-put.ensures start text h;
    })

pub returns-clause-converts : goal.returns-clause-converts
returns-clause-converts g c = λ start fed text r h. record {
  text = text ++ take c.min-count.result c.args.bytes.now;
  reached = reached g (goal.at.returns-clause-converts g c).After-min-count fed text r;
  held = c.in_ok-put.ensures start text h;
}
