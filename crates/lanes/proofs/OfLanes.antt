-- What holds of each lane of vectors, however many lanes they have.
use Rattle.std.proofs.Common.{◌≡◌, ℕ, zero, suc, ◌-◌, ◌*◌, ◌/◌, ◌%◌, ◌^◌, ◌<◌, List, [], ◌∷◌, length, replicate, slice_index, bit_or, refl, ap, ap₂, ◌∙◌, arith}
use Rattle.std.proofs.lemmas.Simd.{get_or-replicate, get_or-zip2, length-replicate, length-zip2}
use Rattle.std.specs.Int.{w32, rotate_left, rotate_right}
use Rattle.std.specs.Simd.Lanes.{zip2}
use Rattle.lanes.specs.Lanes.{lane, word_in}

-- each lane, this far lower
abbrev lowered : ℕ → ℕ → List ℕ → List ℕ
lowered n k x = zip2 (λ y m. y / 2 ^ m) x (replicate n k)

-- each lane, this far higher
abbrev raised : ℕ → ℕ → List ℕ → List ℕ
raised n k x = zip2 (λ y m. y * 2 ^ m % 2 ^ 32) x (replicate n k)

-- a lane of a vector and the same number in each lane, joined by an operation
with_same : (f : ℕ → ℕ → ℕ) (n k : ℕ) (x : List ℕ) → length x ≡ n → (j : ℕ) → j < n
    → slice_index (zip2 f x (replicate n k)) j ≡ f (slice_index x j) k
with_same f n k x len j lt =
    get_or-zip2 f x (replicate n k) j 0 0 0 (omega arith) (omega (arith, length-replicate {A = ℕ} n k))
    ∙ ap (f (slice_index x j)) (get_or-replicate n j k 0 lt)

length-with_same : (f : ℕ → ℕ → ℕ) (n k : ℕ) (x : List ℕ) → length x ≡ n → length (zip2 f x (replicate n k)) ≡ n
length-with_same f n k x len =
    let same : length (replicate n k) ≡ n = length-replicate {A = ℕ} n k in
    length-zip2 f x (replicate n k) (omega arith) ∙ len

pub lowered_in : (n k : ℕ) (x : List ℕ) → length x ≡ n → (j : ℕ) → j < n
    → slice_index (lowered n k x) j ≡ slice_index x j / 2 ^ k
lowered_in n k x len j lt = with_same (λ y m. y / 2 ^ m) n k x len j lt

raised_in : (n k : ℕ) (x : List ℕ) → length x ≡ n → (j : ℕ) → j < n
    → slice_index (raised n k x) j ≡ slice_index x j * 2 ^ k % 2 ^ 32
raised_in n k x len j lt = with_same (λ y m. y * 2 ^ m % 2 ^ 32) n k x len j lt

-- two shifts that lose no bit are a rotation
pub rotated_left_in : (n k : ℕ) → 0 < k → k < 32 → (x : List ℕ) → length x ≡ n → (j : ℕ) → j < n
    → slice_index (zip2 bit_or (raised n k x) (lowered n (32 - k) x)) j ≡ rotate_left w32 (slice_index x j) k
rotated_left_in n k some below x len j lt =
    let left : k % 32 ≡ k = omega arith in
    let right : (32 - k) % 32 ≡ 32 - k = omega arith in
    let up : length (raised n k x) ≡ n = length-with_same (λ y m. y * 2 ^ m % 2 ^ 32) n k x len in
    let down : length (lowered n (32 - k) x) ≡ n = length-with_same (λ y m. y / 2 ^ m) n (32 - k) x len in
    rw (left, right) (
    get_or-zip2 bit_or (raised n k x) (lowered n (32 - k) x) j 0 0 0 (omega arith) (omega arith)
    ∙ ap₂ bit_or (raised_in n k x len j lt) (lowered_in n (32 - k) x len j lt))

pub rotated_right_in : (n k : ℕ) → 0 < k → k < 32 → (x : List ℕ) → length x ≡ n → (j : ℕ) → j < n
    → slice_index (zip2 bit_or (lowered n k x) (raised n (32 - k) x)) j ≡ rotate_right w32 (slice_index x j) k
rotated_right_in n k some below x len j lt =
    let right : k % 32 ≡ k = omega arith in
    let left : (32 - k) % 32 ≡ 32 - k = omega arith in
    let down : length (lowered n k x) ≡ n = length-with_same (λ y m. y / 2 ^ m) n k x len in
    let up : length (raised n (32 - k) x) ≡ n = length-with_same (λ y m. y * 2 ^ m % 2 ^ 32) n (32 - k) x len in
    rw (right, left) (
    get_or-zip2 bit_or (lowered n k x) (raised n (32 - k) x) j 0 0 0 (omega arith) (omega arith)
    ∙ ap₂ bit_or (lowered_in n k x len j lt) (raised_in n (32 - k) x len j lt))

-- what a message has in vector i of a row
pub lane_at : (j : ℕ) (x : List (List ℕ)) (i : ℕ) → slice_index (lane j x) i ≡ word_in x i j
lane_at j [] i = refl
lane_at j (v ∷ x) zero = refl
lane_at j (v ∷ x) (suc i) = lane_at j x i
