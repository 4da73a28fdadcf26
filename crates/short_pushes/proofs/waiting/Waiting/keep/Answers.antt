use Rattle.std.proofs.Common.{◌∙◌, ℕ, ◌+◌, ◌≤◌, ◌++◌, length, take, ap, refl, arith}
use Rattle.std.proofs.lemmas.Slice.{take-put_mid}
use Rattle.pieces.proofs.Stored.{written}
use Rattle.short_pushes.proofs.waiting.Waiting.keep.Goals as goal

pub returns : goal.returns
returns c =
    let w = c.args.self.now in
    let bytes = c.args.bytes.now in
    let at : ℕ = c.len-at.result in
    let room : at + length bytes ≤ length w.room.items = omega (arith, c.requires, c.len-at.ensures.value, w.whole, w.room.ok.0) in
    ap (take (at + length bytes)) (written w.room c.as_mut_slice.result.now bytes c.copy_from_slice.new.self at room
    c.as_mut_slice.ensures.value c.copy_from_slice.ensures.after)
    ∙ take-put_mid at (length bytes) w.room.items bytes (at + length bytes) refl (omega (arith, room))
    ∙ ap (λ k. take k w.room.items ++ bytes) c.len-at.ensures.count
