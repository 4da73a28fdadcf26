-- The numbers of places are small.
use Rattle.std.proofs.Common.{ℕ, ◌-◌, ◌^◌, ◌<◌, ◌≤◌, arith}
use Rattle.node_maps.specs.Places.{IsTreePlace}
use Rattle.partial_tree.proofs.Ranges.{pow_more}

pub place-low : (h l i : ℕ) → h ≤ 32 → IsTreePlace h l i → i < 2 ^ 32
place-low h l i low place =
    let few : h - l ≤ 32 = omega (arith, low) in
    let wide : 2 ^ (h - l) ≤ 2 ^ 32 = pow_more (h - l) 32 few in
    omega (arith, place.1, wide)
