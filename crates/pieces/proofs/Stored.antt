-- What stands in the slots of a store.
use Rattle.std.proofs.Common.{◌≡◌, ◌≢◌, ℕ, ◌+◌, ◌-◌, ◌*◌, ◌<◌, ◌≤◌, List, ◌++◌, length, take, drop, refl, sym, ap, ◌∙◌, arith, inl, inr, mul-le-mul_right}
use Rattle.std.proofs.lemmas.Bool.{cases_lt}
use Rattle.std.proofs.lemmas.List.{drop-append-le, drop-take, take-take, length-take-le, length-append, length-drop, with_items_is}
use Rattle.std.proofs.lemmas.Slice.{take-put_mid, take-put_mid_below, drop-put_mid}
use Rattle.std.specs.Prelude.{Vec}
use Rattle.std.specs.Vec.{with_items}
use borrow.Rule.Slice.PartMut.{put_mid}
use Rattle.lanes.specs.Lanes.{bytes_at}

-- a slot ends where the next one begins, or before
slot_ends : (slot other size : ℕ) → slot < other → slot * size + size ≤ other * size
slot_ends slot other size less = let m : (slot + 1) * size ≤ other * size = mul-le-mul_right size (omega arith) in omega (arith, m)

-- a write leaves as many bytes as there were
pub length_put : (xs bytes : List ℕ) (start : ℕ) → start + length bytes ≤ length xs → length (put_mid start (length bytes) xs bytes) ≡ length xs
length_put xs bytes start room =
    let after : List ℕ = drop (length bytes) (drop start xs) in
    omega (
      arith,
      room,
      length-append (take start xs) (bytes ++ after),
      length-append bytes after,
      length-drop (length bytes) (drop start xs),
      length-drop start xs,
      length-take-le start xs (omega (arith, room)),
    )

-- what was written into a list, over what was there
pub written : {A : Type 0} (v : Vec ℕ A) (was bytes now : List ℕ) (start : ℕ) → start + length bytes ≤ length v.items → was ≡ v.items → now ≡ bytes
    → (with_items v (put_mid start (start + length bytes - start) was now)).items ≡ put_mid start (length bytes) v.items bytes
written v was bytes now start room old new =
    let count : start + length bytes - start ≡ length bytes = omega arith in
    let same : put_mid start (start + length bytes - start) was now ≡ put_mid start (length bytes) v.items bytes =
    ap (λ k. put_mid start k was now) count ∙ ap (λ t. put_mid start (length bytes) t now) old ∙ ap (put_mid start (length bytes) v.items) new in
    with_items_is v (put_mid start (start + length bytes - start) was now) (ap length same ∙ length_put v.items bytes start room ∙ sym v.ok.0) ∙ same

-- bytes were written into a slot
pub front_put : (xs bytes : List ℕ) (slot size at : ℕ) → at + length bytes ≤ size → slot * size + size ≤ length xs
    → take (at + length bytes) (bytes_at (put_mid (slot * size + at) (length bytes) xs bytes) (slot * size) size)
    ≡ take at (bytes_at xs (slot * size) size) ++ bytes
front_put xs bytes slot size at room inside =
    let start = slot * size in
    let new = put_mid (start + at) (length bytes) xs bytes in
    let whole : start + (at + length bytes) ≡ start + at + length bytes = omega arith in
    let written : take (start + (at + length bytes)) new ≡ take (start + at) xs ++ bytes =
    take-put_mid (start + at) (length bytes) xs bytes (start + (at + length bytes)) whole (omega (arith, room, inside)) in
    take-take (at + length bytes) size (drop start new) room
    ∙ sym (drop-take start (at + length bytes) new)
    ∙ ap (drop start) written
    ∙ drop-append-le start (take (start + at) xs) bytes (omega (arith, length-take-le (start + at) xs (omega (arith, room, inside))))
    ∙ ap (λ t. t ++ bytes) (drop-take start at xs ∙ sym (take-take at size (drop start xs) (omega (arith, room))))

-- the other slots stay as they are
pub others_stay : (xs bytes : List ℕ) (slot other size at : ℕ) → at + length bytes ≤ size → slot * size + size ≤ length xs → other ≢ slot
    → bytes_at (put_mid (slot * size + at) (length bytes) xs bytes) (other * size) size ≡ bytes_at xs (other * size) size
others_stay xs bytes slot other size at room inside differ =
    let new = put_mid (slot * size + at) (length bytes) xs bytes in
    elim (cases_lt other slot) [
      | inl before ↦
          sym (drop-take (other * size) size new)
          ∙ ap (drop (other * size)) (take-put_mid_below (slot * size + at) (length bytes) xs bytes (other * size + size)
          (omega (arith, slot_ends other slot size before)) (omega (arith, room, inside)))
          ∙ drop-take (other * size) size xs
      | inr not_before ↦
          ap (take size) (drop-put_mid (slot * size + at) (length bytes) xs bytes (other * size)
          (omega (arith, room, slot_ends slot other size (omega (arith, differ, not_before)))) (omega (arith, room, inside)) refl)
    ]
