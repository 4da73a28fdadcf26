use Rattle.lanes.specs.declared.words.TheConstants.{LANES}
-- The padding of whole blocks, and pairs of hashes as messages.
use Rattle.std.proofs.Common.{◌≡◌, ℕ, zero, suc, ◌+◌, ◌*◌, ◌/◌, ◌%◌, ◌<◌, ◌≤◌, List, [], ◌∷◌, ◌++◌, length, take, drop, get_or, slice_index, refl, sym, ap, ap₂}
use Rattle.std.proofs.Common.{◌∙◌, arith, length-append, length-drop}
use Rattle.std.proofs.lemmas.List.{append_assoc, drop-append-le, drop-drop, drop_all, drop_at, get_or-drop, get_or-take, length-take-le, take_all, take_at}
use Rattle.std.proofs.Math.Nat.{mul-le-mul_right}
use Rattle.std.specs.List.{flat_map}
use Rattle.sha2.specs.Sha256.{compress, final_hash, hash_after, padding, word_at}
use Rattle.sha2.proofs.Absorbing256.{hash_after-append, hash_after_next}
use Rattle.sha256_lanes.specs.Lanes.{IsRowOfHashes, message}

-- what comes after whole blocks is one block
length-padding : (n : ℕ) → n % 64 ≡ 0 → length (padding n) ≡ 64
length-padding n whole = rw whole refl

-- the hash value of a message of whole blocks: its own blocks, and then the padding
pub padded_once : (start m : List ℕ) → length m % 64 ≡ 0
    → compress (hash_after start m (length m / 64)) (padding (length m)) ≡ final_hash start m
padded_once start m whole =
    let n : ℕ = length m / 64 in
    let pad : List ℕ = padding (length m) in
    let sum : length (m ++ pad) ≡ length m + length pad = length-append m pad in
    let one : length pad ≡ 64 = length-padding (length m) whole in
    let count : n + 1 ≡ length (m ++ pad) / 64 = omega arith in
    let none : drop (n * 64) m ≡ [] = drop_all (n * 64) m (omega arith) in
    let last : take 64 (drop (n * 64) (m ++ pad)) ≡ pad =
    rw (drop-append-le (n * 64) m pad (omega arith), none) (take_all 64 pad (omega arith)) in
    ap (λ h. compress h pad) (sym (hash_after-append start m pad n (omega arith)))
    ∙ ap (compress (hash_after start (m ++ pad) n)) (sym last)
    ∙ sym (hash_after_next start (m ++ pad) n)
    ∙ ap (hash_after start (m ++ pad)) count

-- a pair of hashes of a row is a message of 64 of the row's bytes
pub message_of_pair : (row : List (List ℕ)) (j : ℕ) → IsRowOfHashes row → 2 * j + 1 < length row
    → message (flat_map (λ x. x) row) 64 j ≡ get_or row (2 * j) [] ++ get_or row (2 * j + 1) []
message_of_pair [] j long lt = absurd (omega arith)
message_of_pair (x ∷ []) j long lt = absurd (omega arith)
message_of_pair (x ∷ y ∷ rest) zero long lt =
    let bytes : List ℕ = flat_map (λ x. x) rest in
    let size : length (x ++ y) ≡ 64 = omega (arith, length-append x y, long 0 (omega arith), long 1 (omega arith)) in
    ap (take 64) (sym (append_assoc x y bytes)) ∙ take_at (x ++ y) bytes 64 size
message_of_pair (x ∷ y ∷ rest) (suc j) long lt =
    let bytes : List ℕ = flat_map (λ x. x) rest in
    let size : length (x ++ y) ≡ 64 = omega (arith, length-append x y, long 0 (omega arith), long 1 (omega arith)) in
    let past : drop 64 (x ++ (y ++ bytes)) ≡ bytes =
    ap (drop 64) (sym (append_assoc x y bytes)) ∙ drop_at (x ++ y) bytes 64 size in
    let start : suc j * 64 ≡ 64 + j * 64 = omega arith in
    let left : suc (suc (2 * j)) ≡ 2 * suc j = omega arith in
    let right : suc (suc (2 * j + 1)) ≡ 2 * suc j + 1 = omega arith in
    ap (λ n. take 64 (drop n (x ++ (y ++ bytes)))) start
    ∙ ap (take 64) (sym (drop-drop (j * 64) 64 (x ++ (y ++ bytes))) ∙ ap (drop (j * 64)) past)
    ∙ message_of_pair rest j (λ i below. long (suc (suc i)) (omega arith)) (omega arith)
    ∙ ap₂ (λ a b. get_or (x ∷ y ∷ rest) a [] ++ get_or (x ∷ y ∷ rest) b []) left right
