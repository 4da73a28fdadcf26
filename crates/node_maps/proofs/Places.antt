-- Places of a tree, and the least power of two.
use Rattle.std.proofs.Common.{◌≡◌, ℕ, suc, ◌+◌, ◌-◌, ◌*◌, ◌/◌, ◌^◌, ◌<◌, ap, ◌∙◌, arith}
use Rattle.hashtree.proofs.Pairs.{two-pow}
use Rattle.node_maps.specs.Places.{IsTreePlace}

-- a layer has twice as many places as the next one
pub twice_above : (h l : ℕ) → l < h → 2 ^ (h - l) ≡ 2 ^ (h - suc l) + 2 ^ (h - suc l)
twice_above h l below = ap (λ k. 2 ^ k) (omega arith) ∙ two-pow (h - suc l)

pub place_parent : (h l i : ℕ) → l < h → IsTreePlace h l i → IsTreePlace h (suc l) (i / 2)
place_parent h l i below at = let e : 2 ^ (h - l) ≡ 2 ^ (h - suc l) + 2 ^ (h - suc l) = twice_above h l below in (below, omega arith)

pub place_left : (h l i : ℕ) → l < h → IsTreePlace h (suc l) i → IsTreePlace h l (2 * i)
place_left h l i below at = let e : 2 ^ (h - l) ≡ 2 ^ (h - suc l) + 2 ^ (h - suc l) = twice_above h l below in (omega arith, omega arith)

pub place_right : (h l i : ℕ) → l < h → IsTreePlace h (suc l) i → IsTreePlace h l (2 * i + 1)
place_right h l i below at = let e : 2 ^ (h - l) ≡ 2 ^ (h - suc l) + 2 ^ (h - suc l) = twice_above h l below in (omega arith, omega arith)

-- a place whose parent is a place
pub place_child : (h l i : ℕ) → l < h → IsTreePlace h (suc l) (i / 2) → IsTreePlace h l i
place_child h l i below at = let e : 2 ^ (h - l) ≡ 2 ^ (h - suc l) + 2 ^ (h - suc l) = twice_above h l below in (omega arith, omega arith)
