-- Where a whole frame ends.
use Rattle.std.proofs.Common.{◌≡◌, ℕ, ◌^◌, ◌<◌, List, ◌++◌, drop, take, length, sym, ap, ◌∙◌, subst, arith}
use Rattle.std.proofs.lemmas.List.{append_assoc, length-drop, length-take-le, take-append-drop}
use Rattle.wire.specs.Frames.{IsPartial, four_bytes, frame}
use Rattle.wire.proofs.Partial.{IsPartial-from_unfinished}
use Rattle.c_layouts.specs.WholeFrames.{HasMore, IsWholeFrame}

-- the number that was read at the front, and the rest
front : (bytes : List ℕ) (n : ℕ) → four_bytes n ≡ take 4 bytes → bytes ≡ four_bytes n ++ drop 4 bytes
front bytes n read = sym (take-append-drop 4 bytes) ∙ ap (λ t. t ++ drop 4 bytes) (sym read)

pub whole : (bytes : List ℕ) (n : ℕ) → n < 2 ^ 32 → four_bytes n ≡ take 4 bytes → length (drop 4 bytes) ≡ n → IsWholeFrame bytes (drop 4 bytes)
unfolding frame
whole bytes n low read size = record {
  fits = omega (arith, low, size);
  bytes_are = front bytes n read ∙ ap (λ k. four_bytes k ++ drop 4 bytes) (sym size);
}

pub cut : (bytes : List ℕ) (n : ℕ) → n < 2 ^ 32 → four_bytes n ≡ take 4 bytes → length (drop 4 bytes) < n → IsPartial bytes
cut bytes n low read short = subst IsPartial (sym (front bytes n read)) (IsPartial-from_unfinished n (drop 4 bytes) low short)

pub over : (bytes : List ℕ) (n : ℕ) → n < 2 ^ 32 → four_bytes n ≡ take 4 bytes → n < length (drop 4 bytes) → HasMore bytes
unfolding frame
over bytes n low read long =
    let rest = drop 4 bytes in
    let size : length (take n rest) ≡ n = length-take-le n rest (omega (arith, long)) in
    record {
      body = take n rest;
      fits = omega (arith, low, size);
      rest = drop n rest;
      more = omega (arith, long, length-drop n rest);
      bytes_are = front bytes n read ∙ ap (λ t. four_bytes n ++ t) (sym (take-append-drop n rest))
          ∙ ap (λ k. four_bytes k ++ (take n rest ++ drop n rest)) (sym size)
          ∙ sym (append_assoc (four_bytes (length (take n rest))) (take n rest) (drop n rest));
    }
