use Rattle.std.proofs.Common.{◌≡◌, ◌⊎◌, ◌∙◌, ap, inl, inr, vec_len, ℕ, Option, Some, None, IfSome, Vec, Global}
use Rattle.std.specs.Option.{unwrap_or}
use Rattle.folders.proofs.room.room_for_files.Goals as goal

-- a room of this size, or none
room_or_none : (o : Option (Vec ℕ Global)) (empty room : Vec ℕ Global) (n : ℕ) → IfSome o (λ r. vec_len r ≡ n) → vec_len empty ≡ 0
    → room ≡ unwrap_or o empty → (vec_len room ≡ n) ⊎ (vec_len room ≡ 0)
room_or_none None empty room n size none is = inr (ap vec_len is ∙ none)
room_or_none (Some r) empty room n size none is = inl (ap vec_len is ∙ size)

pub returns-clause-room : goal.returns-clause-room
returns-clause-room c =
    room_or_none c.room_of_zeros.result c.new-2.result c.unwrap_or.result 524288 c.room_of_zeros.ensures.count c.new-2.ensures.len
    c.unwrap_or.ensures
