-- The piece that a block belongs to.
use Rattle.std.proofs.Common.{◌≡◌, ℕ, ◌-◌, ◌*◌, ◌/◌, ◌%◌, ◌^◌, ◌<◌, ◌≤◌, min, sym, ap, ◌∙◌, subst, arith}
use Rattle.std.proofs.lemmas.Nat.{div-add-mod'}
use Rattle.std.proofs.Math.Nat.{mul-mod_left}
use Rattle.hashtree.specs.Tree.{block_count}
use Rattle.node_maps.specs.Places.{tree_height}
use Rattle.partial_tree.specs.LeafRows.{IsLeafRow}

pub row-of_block : (len b k w size blocks : ℕ) → k ≤ tree_height len → w ≡ 2 ^ k → blocks ≡ block_count len → b < block_count len
    → size ≡ min w (blocks - (b - b % w)) → IsLeafRow len (b - b % w) k size
row-of_block len b k w size blocks inside wide count low is =
    let whole : b / w * w ≡ b - b % w = let parts = div-add-mod' b w in omega (arith, parts) in
    let aligned : (b - b % w) % w ≡ 0 = ap (λ n. n % w) (sym whole) ∙ mul-mod_left (b / w) w in
    record {
      span_inside = inside;
      aligned = subst (λ n. (b - b % w) % n ≡ 0) wide aligned;
      some = omega (arith, low);
      count_is = is ∙ ap (λ n. min n (blocks - (b - b % w))) wide ∙ ap (λ n. min (2 ^ k) (n - (b - b % w))) count;
    }
