use Rattle.std.proofs.Common.{◌≡◌, ◌+◌, ◌-◌, ◌*◌, ◌/◌, ◌%◌, ◌^◌, ◌<◌, ◌≤◌, Some, length, get_or, sym, ap, ◌∙◌, [], arith}
use Rattle.std.proofs.lemmas.Nat.{one_shl}
use Rattle.partial_tree.specs.Claims.{sibling}
use Rattle.partial_tree.proofs.Given.{hash_there, hash_past, uncle-low, uncle-here}
use Rattle.partial_tree.proofs.message.evidence.Evidence.uncle.Goals as goal

pub returns-then-layer-cover : goal.returns-then-layer-cover
returns-then-layer-cover c = sym (uncle-low c.args.self.now c.args.layer c.args.index c.if-layer-cover.true)

pub returns-then-place-self : goal.returns-then-place-self
returns-then-place-self c =
    let e = c.args.self.now in
    let width : 1 * 2 ^ e.span % 2 ^ 64 ≡ 2 ^ e.span = one_shl e.span 64 (omega arith) in
    let same : c.args.index ≡ sibling (e.index / 2 ^ (c.args.layer - e.base)) = cc in
    let inside : 2 ^ e.span + (c.args.layer - (e.base + e.span)) < length e.hashes.now = omega arith in
    ap (λ k. Some (get_or e.hashes.now (k + (c.args.layer - (e.base + e.span))) [])) width
    ∙ sym (uncle-here e c.args.layer c.args.index c.if-layer-cover.false same ∙ hash_there e (2 ^ e.span + (c.args.layer - (e.base + e.span))) inside)

pub returns-else-place-self : goal.returns-else-place-self
returns-else-place-self c =
    let e = c.args.self.now in
    let width : 1 * 2 ^ e.span % 2 ^ 64 ≡ 2 ^ e.span = one_shl e.span 64 (omega arith) in
    let same : c.args.index ≡ sibling (e.index / 2 ^ (c.args.layer - e.base)) = cc in
    let outside : length e.hashes.now ≤ 2 ^ e.span + (c.args.layer - (e.base + e.span)) = omega arith in
    sym (uncle-here e c.args.layer c.args.index c.if-layer-cover.false same
    ∙ hash_past e (2 ^ e.span + (c.args.layer - (e.base + e.span))) outside (omega arith))
