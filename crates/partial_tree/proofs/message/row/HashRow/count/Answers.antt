use Rattle.std.proofs.Common.{◌≡◌, ◌≤◌, ◌*◌, ◌^◌, ◌%◌, arith, pow_mono}
use Rattle.std.proofs.lemmas.Nat.{one_shl}
use Rattle.partial_tree.proofs.message.row.HashRow.count.Goals as goal

pub returns-clause-few : goal.returns-clause-few
returns-clause-few c =
    let depth = c.args.self.now.depth in
    let exact : 1 * 2 ^ c.args.self.now.depth % 2 ^ 64 ≡ 2 ^ c.args.self.now.depth = one_shl depth 64 (omega (arith, c.requires)) in
    let most : 2 ^ c.args.self.now.depth ≤ 2 ^ 3 = pow_mono {i = depth} {j = 3} c.requires in
    omega (arith, exact, most)
