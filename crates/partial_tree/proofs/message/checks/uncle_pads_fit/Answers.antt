use Rattle.std.proofs.Common.{◌≡◌, suc, ◌+◌, ◌*◌, ◌/◌, ◌^◌, ◌<◌, refl, ap, ap₂, ◌∙◌, arith, below_more, shr-shr, pow-suc}
use Rattle.hashtree.specs.Tree.{zero_hash}
use Rattle.partial_tree.specs.Claims.{sibling}
use Rattle.partial_tree.proofs.Ranges.{above-small, sibling-wide}
use Rattle.partial_tree.proofs.message.checks.uncle_pads_fit.Goals as goal

pub sibling-requires : goal.sibling-requires
sibling-requires c =
    let low = above-small c.args.node c.args.cover c.loop-uncle.uncle-index c.requires.node in
    omega (arith, low, c.loop-uncle.invariant.above)

pub overflow_mul-sibling : goal.overflow_mul-sibling
overflow_mul-sibling c =
    let i = c.loop-uncle in
    let bound : sibling (c.args.node / 2 ^ i.uncle-index) * 2 ^ (c.args.cover + i.uncle-index) < 2 ^ 64 = sibling-wide c.args.node c.args.cover i.uncle-index
    c.requires.node (omega arith) in
    let same : sibling i.above * i.width ≡ sibling (c.args.node / 2 ^ i.uncle-index) * 2 ^ (c.args.cover + i.uncle-index) =
    ap₂ (λ a b. sibling a * b) i.invariant.above i.invariant.width in
    let here : c.sibling.result * i.width ≡ sibling i.above * i.width = ap (λ a. a * i.width) c.sibling.ensures in
    omega arith

pub loop-uncle-preserved : goal.loop-uncle-preserved
loop-uncle-preserved c =
    let i = c.loop-uncle in
    let next : c.args.cover + (i.uncle-index + 1) ≡ suc (c.args.cover + i.uncle-index) = omega arith in
    let same : c.sibling.result * i.width ≡ sibling (c.args.node / 2 ^ i.uncle-index) * 2 ^ (c.args.cover + i.uncle-index) =
    ap (λ a. a * i.width) c.sibling.ensures ∙ ap₂ (λ a b. sibling a * b) i.invariant.above i.invariant.width in
    record {
      layer = omega (arith, i.invariant.layer);
      width = omega (arith, i.invariant.width, ap (λ k. 2 ^ k) next, pow-suc 2 (c.args.cover + i.uncle-index));
      upward = omega (arith, c.pad_fits.ensures.upward);
      above = ap (λ a. a / 2) i.invariant.above ∙ shr-shr c.args.node i.uncle-index 1;
      fit = below_more _ _ i.invariant.fit (λ past. c.if-not-pad_fits.ensures.fits.0 refl (omega arith) ∙ ap zero_hash i.invariant.layer);
    }
