-- The bytes and words of blocks of messages.
use Rattle.std.proofs.Common.{◌≡◌, ℕ, ◌+◌, ◌*◌, ◌<◌, ◌≤◌, List, length, take, drop, slice_index, refl, sym, ap, ◌∙◌, arith, length-drop}
use Rattle.std.proofs.lemmas.List.{get_or-drop, get_or-take, length-take-le}
use Rattle.std.proofs.Math.Nat.{mul-le-mul_right}
use Rattle.lanes.specs.Lanes.{word_at}

-- byte i of the message of this size at this byte of a buffer
pub byte_of_message : (bytes : List ℕ) (start size i : ℕ) → i < size
    → slice_index bytes (start + i) ≡ slice_index (take size (drop start bytes)) i
byte_of_message bytes start size i lt = sym (get_or-drop start bytes i 0) ∙ sym (get_or-take size (drop start bytes) i 0 lt)

-- four bytes that are those of a block's word make up that word
pub word_of_bytes : (row m : List ℕ) (place at k : ℕ) → k < 16
    → ((i : ℕ) → i < 64 → slice_index row (place + i) ≡ slice_index m (at + i))
    → word_at row (place + 4 * k) ≡ word_at (take 64 (drop at m)) (4 * k)
word_of_bytes row m place at k lt same =
    let second : place + 4 * k + 1 ≡ place + (4 * k + 1) = omega arith in
    let third : place + 4 * k + 2 ≡ place + (4 * k + 2) = omega arith in
    let fourth : place + 4 * k + 3 ≡ place + (4 * k + 3) = omega arith in
    rw (
      second,
      third,
      fourth,
      same (4 * k) (omega arith),
      same (4 * k + 1) (omega arith),
      same (4 * k + 2) (omega arith),
      same (4 * k + 3) (omega arith),
      byte_of_message m at 64 (4 * k) (omega arith),
      byte_of_message m at 64 (4 * k + 1) (omega arith),
      byte_of_message m at 64 (4 * k + 2) (omega arith),
      byte_of_message m at 64 (4 * k + 3) (omega arith),
    ) refl

-- the length of message j of a row
pub length-message : (n : ℕ) (row : List ℕ) (size j : ℕ) → length row ≡ n * size → j < n → length (take size (drop (j * size) row)) ≡ size
length-message n row size j len lt =
    let fits : (j + 1) * size ≤ n * size = mul-le-mul_right size (omega arith) in
    length-take-le size (drop (j * size) row) (omega (arith, length-drop (j * size) row, fits))

-- word k of the block at this byte of the message of this size, which stands at this byte of a buffer
pub word_of_block : (bytes : List ℕ) (start size at k : ℕ) → at + 64 ≤ size → k < 16
    → word_at bytes (start + (at + 4 * k)) ≡ word_at (take 64 (drop at (take size (drop start bytes)))) (4 * k)
word_of_block bytes start size at k fits lt =
    let spot : start + (at + 4 * k) ≡ start + at + 4 * k = omega arith in
    ap (word_at bytes) spot
    ∙ word_of_bytes bytes (take size (drop start bytes)) (start + at) at k lt (λ i inside.
    let here : start + at + i ≡ start + (at + i) = omega arith in
    ap (slice_index bytes) here ∙ byte_of_message bytes start size (at + i) (omega arith))
