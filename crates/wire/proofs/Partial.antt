-- What is less than a whole frame.
use Rattle.std.proofs.Common.{◌≡◌, ℕ, ◌+◌, ◌^◌, ◌<◌, List, ◌++◌, length, ap, ◌∙◌, arith}
use Rattle.std.proofs.lemmas.List.{append_assoc, length-append}
use Rattle.wire.specs.Frames.{four_bytes, frame, IsPartial}
use Rattle.wire.proofs.FourBytes.{length-four_bytes, same_from_four_bytes}

pub length-frame : (body : List ℕ) → length (frame body) ≡ 4 + length body
unfolding frame
length-frame body = omega (arith, length-append (four_bytes (length body)) body, length-four_bytes (length body))

-- less than a length
pub IsPartial-from_short : (bytes : List ℕ) → length bytes < 4 → IsPartial bytes
unfolding IsPartial
IsPartial-from_short bytes short = λ body rest fits e. omega (arith, ap length e, length-append (frame body) rest, length-frame body)

-- a length, and less than a body
pub IsPartial-from_unfinished : (len : ℕ) (bytes : List ℕ) → len < 2 ^ 32 → length bytes < len → IsPartial (four_bytes len ++ bytes)
unfolding IsPartial frame
IsPartial-from_unfinished len bytes bound short = λ body rest fits e.
    let same = same_from_four_bytes len (length body) bytes (body ++ rest) bound fits (e ∙ append_assoc (four_bytes (length body)) body rest) in
    omega (arith, same.0, ap length same.1, length-append body rest)
