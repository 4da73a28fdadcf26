-- The hash value after the blocks of a part, and after the padding.
use Rattle.std.proofs.Common.{◌≡◌, ℕ, ◌+◌, ◌*◌, ◌/◌, ◌%◌, List, [], ◌++◌, length, take, drop, refl, sym, ap}
use Rattle.std.proofs.Common.{◌∙◌, arith, length-append}
use Rattle.std.proofs.lemmas.List.{drop-append-le, drop_all, take_all}
use Rattle.std.proofs.Math.Seq.{drop-append-add}
use Rattle.sha1.specs.Sha1.{compress, hash_after, padded_message, padding}
use Rattle.sha1.proofs.Absorbing.{hash_after-append, hash_after_next}

-- the hash value after the next block of more
pub next_block : (m more : List ℕ) (n : ℕ) → length m % 64 ≡ 0
    → hash_after (m ++ more) (length m / 64 + (n + 1))
    ≡ compress (hash_after (m ++ more) (length m / 64 + n)) (take 64 (drop (64 * n) more))
next_block m more n whole =
    let q : ℕ = length m / 64 in
    let count : q + (n + 1) ≡ q + n + 1 = omega arith in
    let start : (q + n) * 64 ≡ length m + 64 * n = omega arith in
    ap (hash_after (m ++ more)) count
    ∙ hash_after_next (m ++ more) (q + n)
    ∙ ap (λ b. compress (hash_after (m ++ more) (q + n)) (take 64 b))
    (ap (λ k. drop k (m ++ more)) start ∙ drop-append-add m more (64 * n))

-- no block of more yet
pub no_block : (m more : List ℕ) (h : List ℕ) → h ≡ hash_after m (length m / 64)
    → h ≡ hash_after (m ++ more) (length m / 64 + 0)
no_block m more h value =
    let count : length m / 64 ≡ length m / 64 + 0 = omega arith in
    value ∙ sym (hash_after-append m more (length m / 64) (omega arith)) ∙ ap (hash_after (m ++ more)) count

-- what comes after whole blocks is one block
length-padding : (n : ℕ) → n % 64 ≡ 0 → length (padding n) ≡ 64
length-padding n whole = rw whole refl

-- the hash value after one more block
pub one_block : (m b : List ℕ) → length m % 64 ≡ 0 → length b ≡ 64
    → compress (hash_after m (length m / 64)) b ≡ hash_after (m ++ b) (length (m ++ b) / 64)
one_block m b whole one =
    let n : ℕ = length m / 64 in
    let sum : length (m ++ b) ≡ length m + length b = length-append m b in
    let count : n + 1 ≡ length (m ++ b) / 64 = omega arith in
    let none : drop (n * 64) m ≡ [] = drop_all (n * 64) m (omega arith) in
    let last : take 64 (drop (n * 64) (m ++ b)) ≡ b =
    rw (drop-append-le (n * 64) m b (omega arith), none) (take_all 64 b (omega arith)) in
    ap (λ h. compress h b) (sym (hash_after-append m b n (omega arith)))
    ∙ ap (compress (hash_after (m ++ b) n)) (sym last)
    ∙ sym (hash_after_next (m ++ b) n)
    ∙ ap (hash_after (m ++ b)) count

-- the hash value of a message of whole blocks: its own blocks, and then the padding
pub padded_once : (m : List ℕ) → length m % 64 ≡ 0
    → compress (hash_after m (length m / 64)) (padding (length m)) ≡ hash_after (padded_message m) (length (padded_message m) / 64)
padded_once m whole = one_block m (padding (length m)) whole (length-padding (length m) whole)
