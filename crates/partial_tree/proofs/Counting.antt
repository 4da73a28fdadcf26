-- The counts that a tree keeps beside its nodes.
use Rattle.std.proofs.Common.{◌≡◌, ℕ, suc, ◌+◌, ◌-◌, ◌^◌, ◌<◌, ◌≤◌, Bool, true, false, cond, is_some, refl, sym, ap, ◌∙◌, subst, arith}
use Rattle.std.specs.FinMap as map
use Rattle.std.specs.FinMap.{insert, empty, len-insert, len-empty, get-empty}
use Rattle.std.specs.FinSet as set
use Rattle.std.specs.Ordering.{nat_cmp}
use Rattle.std.specs.Cmp.{nat_cmp_total}
use Rattle.node_maps.specs.Digest.{Hash}
use Rattle.node_maps.specs.Places.{tree_height, IsTreePlace}
use Rattle.node_maps.specs.Known.{Known, Marked, place_cmp}
use Rattle.node_maps.specs.Nodes.{KeepsMarks, Nodes, no_nodes, with_mark, with_node}
use Rattle.partial_tree.specs.Kept.{KeptTree, IsCounted, IsGoodTree}
use Rattle.node_maps.proofs.Known.{place_total}
use Rattle.partial_tree.proofs.Ranges.{pow_more}
use Rattle.node_maps.proofs.Cells.{len-marked}

-- the root alone is one place
len-one : (m : Known) (h : ℕ) (root : Hash) → m ≡ empty → map.len (insert m (h, 0) root) ≡ 1
len-one m h root none =
    let absent : is_some (map.get m (h, 0)) ≡ false = ap (λ x. is_some (map.get x (h, 0))) none ∙ ap is_some (get-empty place_cmp (h, 0)) in
    let zero_long : map.len m ≡ 0 = ap map.len none ∙ len-empty place_cmp Hash in
    len-insert place_total m (h, 0) root ∙ ap (λ b. cond b (map.len m) (map.len m + 1)) absent ∙ omega arith

pub counted_root : (h n : ℕ) (root : Hash) (v : Nodes) → v ≡ with_node (no_nodes n) h 0 root → tree_height n ≤ 32 → IsCounted 1 0 v
counted_root h n root v is low = record {
  low = subst (λ (w : Nodes). tree_height w.length ≤ 32) (sym is) low;
  known_is = sym (ap (λ (w : Nodes). map.len w.known) is ∙ len-one empty h root refl);
  marked_is = sym (ap (λ (w : Nodes). set.len w.marked) is ∙ set.len-empty nat_cmp);
}

pub counted_more : (known marked c : ℕ) (old new : Nodes) → IsCounted known marked old → map.len new.known ≡ map.len old.known + c → KeepsMarks old new
    → IsCounted (known + c) marked new
counted_more known marked c old new is more same = record {
  low = subst (λ n. tree_height n ≤ 32) (sym same.length) is.low;
  known_is = ap (λ x. x + c) is.known_is ∙ sym more;
  marked_is = is.marked_is ∙ sym (ap set.len same.marked);
}

-- and it can be counted, where the tree has that many places
pub known_fits : (known marked c : ℕ) (v : Nodes) → IsCounted known marked v → map.len v.known + c < 2 ^ suc (tree_height v.length) → known + c < 2 ^ 33
known_fits known marked c v is fewer =
    let wide : 2 ^ suc (tree_height v.length) ≤ 2 ^ 33 = pow_more (suc (tree_height v.length)) 33 (omega (arith, is.low)) in
    omega (arith, fewer, wide, is.known_is)

pub counted_same : (known marked : ℕ) (old new : Nodes) → IsCounted known marked old → new ≡ old → IsCounted known marked new
counted_same known marked old new is same = subst (IsCounted known marked) (sym same) is

pub counted_mark : (known marked more block : ℕ) (old new : Nodes) → IsCounted known marked old → new ≡ with_mark old block
    → set.len new.marked ≡ set.len old.marked + more → IsCounted known (marked + more) new
counted_mark known marked more block old new is marks count = record {
  low = subst (λ (w : Nodes). tree_height w.length ≤ 32) (sym marks) is.low;
  known_is = is.known_is ∙ sym (ap (λ (w : Nodes). map.len w.known) marks);
  marked_is = ap (λ x. x + more) is.marked_is ∙ sym count;
}

pub len_marked_again : (M M' : Marked) (b : ℕ) (t : Bool) → M' ≡ set.insert M b → t ≡ set.contains M b → t ≡ true → set.len M' ≡ set.len M + 0
len_marked_again M M' b t m is already = ap set.len m ∙ set.len-insert nat_cmp_total M b ∙ ap (λ x. cond x (set.len M) (set.len M + 1)) (sym is ∙ already)
    ∙ omega arith

pub len_marked_first : (M M' : Marked) (b : ℕ) (t : Bool) → M' ≡ set.insert M b → t ≡ set.contains M b → t ≡ false → set.len M' ≡ set.len M + 1
len_marked_first M M' b t m is not_yet = ap set.len m ∙ set.len-insert nat_cmp_total M b ∙ ap (λ x. cond x (set.len M) (set.len M + 1)) (sym is ∙ not_yet)

-- the marks of a good tree can be counted
pub marks_fit : (t : KeptTree) → IsGoodTree t → tree_height t.length ≤ 32 → set.len t.state.marked ≤ 2 ^ 32
marks_fit t good low =
    let leaves : tree_height t.length - 0 ≤ 32 = omega arith in
    let wide : 2 ^ (tree_height t.length - 0) ≤ 2 ^ 32 = pow_more (tree_height t.length - 0) 32 leaves in
    len-marked (2 ^ 32) t.state.marked (λ i m.
    let known = good.marks i m in
    let at : IsTreePlace (tree_height t.length) 0 i = good.closed.in_tree 0 i known.0 known.1 in
    omega (arith, at.1))
