-- To one who trusts SHA-256 no collision is named, and what is hashed is made of bytes.
use Rattle.std.proofs.Common.{◌≡◌, ℕ, ◌*◌, ◌+◌, List, ◌++◌, Some, drop, subst}
use Rattle.std.proofs.lemmas.List.Elements.{All-append, All-take, All-drop}
use Rattle.hashtree.specs.Tree.{block}
use Rattle.node_maps.specs.Digest.{Hash, IsHash, AreBytes}
use Rattle.node_maps.specs.Places.{PartialTree}
use Rattle.partial_tree.specs.TreeRoot.{TreeRoot}
use Rattle.partial_tree.specs.Closed.{IsClosed, Collision, BlockCollision, whole}
use Rattle.partial_tree.specs.Trust.{HasNoCollision, AreJoinsOf, AreInputsOf}
use Rattle.partial_tree.proofs.Digests.{IsByte}
use Rattle.tree_laws.proofs.Whole.{whole-inside, node-is_hash}

pub no_collision : (P : List ℕ → Type 0) (J K : PartialTree) → HasNoCollision P → AreJoinsOf P J → AreJoinsOf P K → ¬ Collision J K
no_collision P J K none in_J in_K c =
    c.differ (none (c.J_left ++ c.J_right) (c.K_left ++ c.K_right)
    (in_J c.layer c.index c.J_left c.J_right c.J_left_known c.J_right_known)
    (in_K c.layer c.index c.K_left c.K_right c.K_left_known c.K_right_known) c.one_digest)

pub no_block_collision : (P : List ℕ → Type 0) (f : List ℕ) (i : ℕ) (b : List ℕ) → HasNoCollision P → P (block f i) → P b → ¬ BlockCollision f i b
no_block_collision P f i b none of_file given c = c.differ (none b (block f i) given of_file c.one_digest)

-- two known siblings have 32 bytes each
pub joins-are_bytes : (t : TreeRoot) (K : PartialTree) → IsClosed t K → AreJoinsOf AreBytes K
joins-are_bytes t K closed = λ l j left right at next.
    All-append IsByte left right (closed.hashes l (2 * j) left at).bytes (closed.hashes l (2 * j + 1) right next).bytes

pub whole-are_bytes : (f : List ℕ) → AreJoinsOf AreBytes (whole f)
whole-are_bytes f = λ l j left right at next.
    All-append IsByte left right (hash l (2 * j) left at).bytes (hash l (2 * j + 1) right next).bytes
  where
    hash : (l i : ℕ) (v : Hash) → whole f l i ≡ Some v → IsHash v
    hash l i v at = let there = whole-inside f l i v at in subst IsHash there.1 (node-is_hash f l i there.0)

pub inputs-are_bytes : (f : List ℕ) → AreBytes f → AreInputsOf AreBytes f
inputs-are_bytes f bytes = record {
  blocks = λ i inside. All-take IsByte 16384 (drop (16384 * i) f) (All-drop IsByte (16384 * i) f bytes);
  joins = whole-are_bytes f;
}
