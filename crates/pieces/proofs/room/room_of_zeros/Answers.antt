use Rattle.std.proofs.Common.{◌≡◌, ◌+◌, ◌≤◌, ◌++◌, List, ℕ, replicate, take, vec_len, ap, sym, ◌∙◌, arith, rules}
use Rattle.pieces.proofs.Fed.{zeros_more}
use Rattle.pieces.proofs.room.room_of_zeros.Goals as goal

pub parts-preserved : goal.parts-preserved
parts-preserved c =
    let room = c.parts.room in
    let now = c.extend_from_slice.new.self in
    let part : ℕ = c.min-part.result in
    let bound : part ≤ 4096 = omega (arith, c.min-part.ensures) in
    let zeros : List ℕ = take part (replicate 4096 0) in
    let items : now.items ≡ room.items ++ zeros = search rules in
    let count : vec_len now ≡ vec_len room + part = search rules in (
      omega (arith, count, c.min-part.ensures),
      items ∙ ap (λ t. t ++ zeros) c.parts.invariant.1 ∙ zeros_more (vec_len room) part 4096 bound ∙ ap (λ k. replicate k 0) (sym count),
    )
