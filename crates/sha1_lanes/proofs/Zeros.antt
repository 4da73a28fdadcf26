-- Messages with zeros after them.
use Rattle.std.proofs.Common.{◌≡◌, ℕ, ◌+◌, ◌-◌, ◌*◌, ◌<◌, ◌≤◌, List, [], ◌∷◌, ◌++◌, zero, suc, length, take, drop}
use Rattle.std.proofs.Common.{replicate, slice_index, refl, sym, ap, ◌∙◌, arith, length-append, length-drop}
use borrow.Rule.Slice.PartMut.{put_mid, post_of}
use Rattle.std.proofs.lemmas.List.{get_or-append-add, get_or_append_left, length-replicate, length-take, length-take-le}
use Rattle.lanes.proofs.Messages.{word_of_bytes}
use Rattle.sha1.specs.Sha1.{word_at}
use Rattle.sha1_lanes.specs.Batches.{bytes_at, filled_at}

-- past a list's end there is zero
pub past_end : (m : List ℕ) (i : ℕ) → length m ≤ i → slice_index m i ≡ 0
past_end [] i le = refl
past_end (x ∷ m) zero le = absurd (omega arith)
past_end (x ∷ m) (suc i) le = past_end m i (omega arith)

pub zero_of_zeros : (z i : ℕ) → slice_index (replicate z 0) i ≡ 0
zero_of_zeros zero i = refl
zero_of_zeros (suc z) zero = refl
zero_of_zeros (suc z) (suc i) = zero_of_zeros z i

-- zeros behind a message change none of its bytes, and are what is past its end
pub byte_with_zeros : (m : List ℕ) (z i : ℕ) → slice_index m i ≡ slice_index (m ++ replicate z 0) i
byte_with_zeros [] z i = sym (zero_of_zeros z i)
byte_with_zeros (x ∷ m) z zero = refl
byte_with_zeros (x ∷ m) z (suc i) = byte_with_zeros m z i

-- a block past the message's end has zeros alone
pub zero_word : (m : List ℕ) (z at k : ℕ) → length m ≤ at → k < 16
    → word_at (take 64 (drop at (m ++ replicate z 0))) (4 * k) ≡ 0
zero_word m z at k le lt =
    sym (word_of_bytes [] (m ++ replicate z 0) 0 at k lt (λ i inside.
    sym (sym (byte_with_zeros m z (at + i)) ∙ past_end m (at + i) (omega arith))))

-- the message is no longer than its size
pub message_within : (bytes : List ℕ) (start size : ℕ) → length (bytes_at bytes start size) ≤ size
message_within bytes start size = omega (arith, length-take size (drop start bytes))

-- the length of a message that is all in the buffer
pub length-bytes_at : (bytes : List ℕ) (start size : ℕ) → start + size ≤ length bytes
    → length (bytes_at bytes start size) ≡ size
length-bytes_at bytes start size fits = length-take-le size (drop start bytes) (omega (arith, length-drop start bytes))

-- the length of a message that is filled up
pub length-filled_at : (bytes : List ℕ) (start size whole : ℕ) → start + size ≤ length bytes → size ≤ whole
    → length (filled_at bytes start size whole) ≡ whole
length-filled_at bytes start size whole fits le =
    let m : List ℕ = bytes_at bytes start size in
    let own : length m ≡ size = length-bytes_at bytes start size fits in
    let zeros : List ℕ = replicate (whole - size) 0 in
    let count : length zeros ≡ whole - size = length-replicate (whole - size) 0 in
    let both : length (m ++ zeros) ≡ length m + length zeros = length-append m zeros in
    omega arith

-- zeros that were put at this place of a row
pub zeros_put : (a k : ℕ) (xs ys : List ℕ) (i : ℕ) → a ≤ length xs → ys ≡ replicate 64 0 → i < 64
    → slice_index (put_mid a k xs ys) (a + i) ≡ 0
zeros_put a k xs ys i le e lt =
    let front : length (take a xs) ≡ a = length-take-le a xs le in
    let long : length ys ≡ 64 = ap length e ∙ length-replicate {A = ℕ} 64 0 in
    ap (λ n. slice_index (put_mid a k xs ys) (n + i)) (sym front)
    ∙ get_or-append-add (take a xs) (ys ++ post_of a k xs) i 0
    ∙ get_or_append_left ys (post_of a k xs) 0 i (omega arith)
    ∙ ap (λ l. slice_index l i) e
    ∙ zero_of_zeros 64 i
