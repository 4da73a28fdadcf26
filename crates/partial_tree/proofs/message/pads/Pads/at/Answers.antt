use Rattle.std.proofs.Common.{◌≡◌, suc, ◌+◌, ◌++◌, sym, ap, ◌∙◌, arith}
use Rattle.sha2.specs.Sha256.{sha256}
use Rattle.hashtree.specs.Tree.{zero_hash}
use Rattle.hashtree.proofs.Zeros.{zero_hash-suc}
use Rattle.partial_tree.proofs.message.pads.Pads.at.Goals as goal

pub invariant_of-self : goal.invariant_of-self
invariant_of-self c =
    let below = c.loop-below.self in
    let next : c.loop-below.below + 1 ≡ suc below.layer = omega (arith, c.loop-below.invariant) in
    record {
      low = omega (arith, c.loop-below-test.true, c.requires.low);
      is_zero_hash = c.parent.ensures ∙ ap (λ h. sha256 (h ++ h)) below.is_zero_hash ∙ sym (zero_hash-suc below.layer) ∙ ap zero_hash (sym next);
    }
