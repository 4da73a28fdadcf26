-- Bytes that are put into a room, one part after the other.
use Rattle.std.proofs.Common.{◌≡◌, ℕ, ◌+◌, ◌≤◌, List, ◌++◌, drop, take, length, sym, ap, ap₂, ◌∙◌, arith, append_assoc, length-append}
use Rattle.std.proofs.lemmas.List.{drop-drop, length-take-le}
use Rattle.std.proofs.Math.Seq.{drop-append-add, take-append_seam}

-- a part that is put behind another one: both, put at the first one's place
pub put-next : (room room' new a b : List ℕ) (place end next : ℕ) → end ≡ place + length a → end ≤ length room
    → room' ≡ take place room ++ (a ++ drop end room) → next ≡ end + length b → new ≡ take end room' ++ (b ++ drop next room')
    → new ≡ take place room ++ ((a ++ b) ++ drop next room)
put-next room room' new a b place end next end_is fits first next_is second =
    let front = take place room in let done = front ++ a in let rest = drop end room in
    let low : place ≤ length room = omega (arith, end_is, fits) in
    let size : length done ≡ end = omega (arith, length-append front a, length-take-le place room low, end_is) in
    let whole : room' ≡ done ++ rest = first ∙ sym (append_assoc front a rest) in
    let before : take end room' ≡ done = ap₂ take (sym size) whole ∙ take-append_seam done rest in
    let after : drop next room' ≡ drop next room =
    ap₂ drop (next_is ∙ ap (λ n. n + length b) (sym size)) whole ∙ drop-append-add done rest (length b)
    ∙ drop-drop (length b) end room ∙ ap (λ n. drop n room) (sym next_is) in
    second ∙ ap₂ (λ x y. x ++ (b ++ y)) before after ∙ append_assoc front a (b ++ drop next room)
    ∙ ap (λ x. front ++ x) (sym (append_assoc a b (drop next room)))

-- bytes were put from a place of a room on, whose other bytes are as before
pub record IsPut (room room' bytes : List ℕ) (place end : ℕ) : Type 0 where
  pub end_is : end ≡ place + length bytes
  pub fits : end ≤ length room
  pub room_is : room' ≡ take place room ++ (bytes ++ drop end room)

-- and more behind them
pub put-more : (room room' new a b : List ℕ) (place end next : ℕ) → IsPut room room' a place end → next ≡ end + length b → next ≤ length room
    → new ≡ take end room' ++ (b ++ drop next room') → IsPut room new (a ++ b) place next
put-more room room' new a b place end next so_far next_is fits is = record {
  end_is = omega (arith, next_is, so_far.end_is, length-append a b);
  fits = fits;
  room_is = put-next room room' new a b place end next so_far.end_is so_far.fits so_far.room_is next_is is;
}
