-- Memory for the digests of a file's cuts.
use Rattle.std.proofs.Common.{◌≡◌, ℕ, ◌+◌, ◌-◌, ◌*◌, ◌/◌, ◌^◌, ◌<◌, ◌≤◌, List, length, vec_len, subst, arith}
use Rattle.std.proofs.lemmas.Nat.{le-div}
use Rattle.std.specs.Vec.{vec_capacity}
use Rattle.lanes.specs.declared.words.TheConstants.{LANES}
use Rattle.pieces.specs.FileCuts.{CutsTakeMemory, GoesOn, cut_bytes_running}
use Rattle.pieces.specs.Running.{told_in}
use Rattle.pieces.specs.declared.v1_cuts.V1Cuts.{V1Cuts}
use Rattle.pieces.proofs.Running.{no_room}

-- as many digests are kept as stages told, of which there are far fewer than 2 ^ 64
pub told_small : (c : V1Cuts) → told_in c.stream.stages ≤ vec_len c.cuts → told_in c.stream.stages + 2 * LANES < 2 ^ 64
told_small c in_time = omega (arith, in_time, c.cuts.ok.1, c.cuts.small)

-- where a digest is told that finds no room, a cut is closed
pub told_takes_memory : (c : V1Cuts) (more : ℕ) → c.stream.cutter.piece_length < cut_bytes_running c + more → vec_capacity c.cuts ≤ vec_len c.cuts
    → CutsTakeMemory c more
told_takes_memory c more after full =
    let p : ℕ = c.stream.cutter.piece_length in
    let many : 1 ≤ (cut_bytes_running c + more - 1) / p = le-div 1 (cut_bytes_running c + more - 1) p c.stream.cutter.some (omega (arith, after)) in
    omega (arith, many, full)

-- where later bytes close more cuts than there is room for, so do all that came
pub takes_memory : (old mid : V1Cuts) (bytes : List ℕ) (rest more : ℕ) → GoesOn old bytes mid → length bytes + rest ≡ more → CutsTakeMemory mid rest
    → CutsTakeMemory old more
takes_memory old mid bytes rest more on all takes =
    let p : ℕ = old.stream.cutter.piece_length in
    subst (CutsTakeMemory old) all
    (no_room p (vec_len old.cuts) (vec_len mid.cuts) (vec_capacity old.cuts) (vec_capacity mid.cuts) (cut_bytes_running old) (cut_bytes_running mid)
    (length bytes) rest old.stream.cutter.some on.count on.more on.capacity
    (subst (λ n. vec_capacity mid.cuts - vec_len mid.cuts < (cut_bytes_running mid + rest - 1) / n) on.piece_length takes))
