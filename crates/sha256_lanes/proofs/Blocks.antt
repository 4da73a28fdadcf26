-- The blocks of messages of any lengths in a buffer, and their padding.
use Rattle.std.proofs.Common.{◌≡◌, ℕ, ◌+◌, ◌-◌, ◌*◌, ◌/◌, ◌%◌, ◌^◌, ◌<◌, ◌≤◌, List, ◌∷◌, ◌++◌, length, take, drop}
use Rattle.std.proofs.Common.{replicate, slice_index, refl, sym, ap, ◌∙◌, arith, length-append, length-drop}
use Rattle.std.proofs.lemmas.List.{get_or-drop, get_or-take, get_or_append_left, length-replicate, length-take-le}
use Rattle.std.specs.Int.{w64, to_be_bytes}
use Rattle.sha2.specs.Sha256.{compress, digest_bytes, hash_after, initial_hash_256, padded_message, padding, sha256, word_at}
use Rattle.sha2.proofs.Absorbing256.{hash_after_next}
use Rattle.sha256_lanes.specs.Lanes.{bytes_at, padded_block_count}

-- the length of a message that stands in the buffer
pub length-bytes_at : (bytes : List ℕ) (start size : ℕ) → start + size ≤ length bytes → length (bytes_at bytes start size) ≡ size
length-bytes_at bytes start size fits = length-take-le size (drop start bytes) (omega (arith, length-drop start bytes))

-- a byte of the message is that of the message with its padding
pub byte_of_message : (bytes : List ℕ) (start size i : ℕ) → start + size ≤ length bytes → i < size
    → slice_index bytes (start + i) ≡ slice_index (padded_message (bytes_at bytes start size)) i
byte_of_message bytes start size i fits lt =
    let m : List ℕ = bytes_at bytes start size in
    sym (get_or-drop start bytes i 0)
    ∙ sym (get_or-take size (drop start bytes) i 0 lt)
    ∙ sym (get_or_append_left m (padding (length m)) 0 i (omega (arith, length-bytes_at bytes start size fits)))

-- the hash value after one block more
pub block_after : (start m : List ℕ) (n : ℕ) (h k : List ℕ) → h ≡ hash_after start m n
    → k ≡ compress h (take 64 (drop (64 * n) m)) → k ≡ hash_after start m (n + 1)
block_after start m n h k held next =
    let at : 64 * n ≡ n * 64 = omega arith in
    next
    ∙ ap (λ v. compress v (take 64 (drop (64 * n) m))) held
    ∙ ap (λ i. compress (hash_after start m n) (take 64 (drop i m))) at
    ∙ sym (hash_after_next start m n)

-- a bit, this many zeros, and a length
abbrev ending : ℕ → ℕ → List ℕ
ending z bits = 0x80 ∷ replicate z 0 ++ to_be_bytes w64 bits

length_of_end : (z bits : ℕ) → length (ending z bits) ≡ 1 + (z + 8)
length_of_end z bits =
    let zero_bytes : List ℕ = replicate z 0 in
    let end : List ℕ = to_be_bytes w64 bits in
    let eight : length end ≡ 8 = refl in
    let both : length (zero_bytes ++ end) ≡ length zero_bytes + length end = length-append zero_bytes end in
    let zeros : length zero_bytes ≡ z = length-replicate z 0 in
    omega (arith, both, zeros, eight)

-- the length of what comes after a message
length-padding : (n : ℕ) → length (padding n) ≡ 1 + ((119 - n % 64) % 64 + 8)
length-padding n = length_of_end ((119 - n % 64) % 64) (n * 8 % 2 ^ 64)

-- the message and its padding are this many blocks
blocks_of : (m : List ℕ) → length (padded_message m) / 64 ≡ padded_block_count (length m)
blocks_of m =
    let sum : length (padded_message m) ≡ length m + length (padding (length m)) = length-append m (padding (length m)) in
    let zeros : length (padding (length m)) ≡ 1 + ((119 - length m % 64) % 64 + 8) = length-padding (length m) in
    omega arith

-- the digest of a message whose blocks were all taken
pub digest_of_blocks : (m : List ℕ) (n : ℕ) (h : List ℕ) → n ≡ padded_block_count (length m)
    → h ≡ hash_after initial_hash_256 (padded_message m) n → digest_bytes h 8 ≡ sha256 m
unfolding sha256
digest_of_blocks m n h count held =
    ap (λ (v : List ℕ). digest_bytes v 8) (held ∙ ap (hash_after initial_hash_256 (padded_message m)) (count ∙ sym (blocks_of m)))
