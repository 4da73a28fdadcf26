-- The last blocks of a message: its last bytes, and the padding.
use Rattle.std.proofs.Common.{◌≡◌, ℕ, suc, ◌+◌, ◌-◌, ◌*◌, ◌/◌, ◌%◌, ◌^◌, ◌<◌, ◌≤◌, List, [], ◌∷◌, ◌++◌, length, take, drop, replicate, set, refl, sym, ap}
use Rattle.std.proofs.Common.{◌∙◌, arith, length-append, length-drop, append-nil, append_assoc}
use borrow.Rule.Slice.PartMut.{put_mid, post_of}
use Rattle.std.specs.Int.{w64, to_be_bytes}
use Rattle.std.proofs.lemmas.List.{drop_all, drop-replicate, length-replicate, length-take-le, replicate-append-replicate, set_at, take-replicate}
use Rattle.std.proofs.Math.Seq.{take-append-add}
use Rattle.sha1.specs.Sha1.{compress, hash_after, padded_message}
use Rattle.sha1_lanes.proofs.Blocks.{one_block}

-- the last bytes of a message, a bit, and zeros
abbrev pub begun : List ℕ → List ℕ
begun rest = rest ++ 128 ∷ replicate (63 - length rest) 0

-- the number of bits at the end of a block
abbrev pub with_length : List ℕ → ℕ → List ℕ
with_length block n = take 56 block ++ to_be_bytes w64 (n * 8 % 2 ^ 64)

-- the bit behind the last bytes is put
pub bit_put : (rest xs : List ℕ) → xs ≡ rest → length rest < 64 → set (xs ++ drop (length rest) (replicate 64 0)) (length rest) 128 ≡ begun rest
bit_put rest xs same short =
    let r : ℕ = length rest in
    let count : 64 - r ≡ suc (63 - r) = omega (arith, short) in
    let zeros : drop r (replicate {A = ℕ} 64 0) ≡ 0 ∷ replicate (63 - r) 0 = drop-replicate r 64 0 ∙ ap (λ n. replicate n 0) count in
    ap (λ ys. set (ys ++ drop r (replicate 64 0)) r 128) same
    ∙ ap (λ zs. set (rest ++ zs) r 128) zeros
    ∙ set_at rest 0 (replicate (63 - r) 0) 128 r refl

-- the length is put at a block's end
pub length_put : (block ys : List ℕ) (n : ℕ) → length block ≡ 64 → ys ≡ to_be_bytes w64 (n * 8 % 2 ^ 64) → put_mid 56 8 block ys ≡ with_length block n
length_put block ys n long same =
    let none : post_of 56 8 block ≡ [] = drop_all 8 (drop 56 block) (omega (arith, length-drop 56 block, long)) in
    ap (λ zs. take 56 block ++ (ys ++ zs)) none ∙ ap (λ zs. take 56 block ++ zs) (append-nil ys ∙ same)

length-begun : (rest : List ℕ) → length rest < 64 → length (begun rest) ≡ 64
length-begun rest short =
    let r : ℕ = length rest in
    let end : List ℕ = 128 ∷ replicate (63 - r) 0 in
    let tail : length end ≡ 64 - r = ap suc (length-replicate {A = ℕ} (63 - r) 0) ∙ omega (arith, short) in
    length-append rest end ∙ omega (arith, tail, short)

length-with_length : (block : List ℕ) (n : ℕ) → length block ≡ 64 → length (with_length block n) ≡ 64
length-with_length block n long =
    let front : length (take 56 block) ≡ 56 = length-take-le 56 block (omega (arith, long)) in
    let end : length (to_be_bytes w64 (n * 8 % 2 ^ 64)) ≡ 8 = refl in
    length-append (take 56 block) (to_be_bytes w64 (n * 8 % 2 ^ 64)) ∙ omega (arith, front, end)

-- the bytes into the last block
into_block : (m rest : List ℕ) → length m % 64 ≡ 0 → length rest < 64 → length (m ++ rest) % 64 ≡ length rest
into_block m rest whole short = omega (arith, length-append m rest, whole, short)

-- a short rest and the whole padding are one block
pub one_ending : (m rest : List ℕ) → length m % 64 ≡ 0 → length rest < 56
    → m ++ with_length (begun rest) (length (m ++ rest)) ≡ padded_message (m ++ rest)
one_ending m rest whole short =
    let r : ℕ = length rest in
    let bits : List ℕ = to_be_bytes w64 (length (m ++ rest) * 8 % 2 ^ 64) in
    let room : 56 ≡ r + suc (55 - r) = omega (arith, short) in
    let few : (119 - length (m ++ rest) % 64) % 64 ≡ 55 - r = omega (arith, into_block m rest whole (omega (arith, short)), short) in
    let front : take 56 (begun rest) ≡ rest ++ 128 ∷ replicate (55 - r) 0 =
    ap (λ n. take n (begun rest)) room
    ∙ take-append-add rest (128 ∷ replicate (63 - r) 0) (suc (55 - r))
    ∙ ap (λ zs. rest ++ 128 ∷ zs) (take-replicate (55 - r) (63 - r) 0 (omega (arith, short))) in
    ap (λ b. m ++ (b ++ bits)) front
    ∙ ap (λ b. m ++ b) (append_assoc rest (128 ∷ replicate (55 - r) 0) bits)
    ∙ sym (append_assoc m rest ((128 ∷ replicate (55 - r) 0) ++ bits))
    ∙ ap (λ n. (m ++ rest) ++ ((128 ∷ replicate n 0) ++ bits)) (sym few)

-- a longer one and the padding are two
pub two_endings : (m rest : List ℕ) → length m % 64 ≡ 0 → 56 ≤ length rest → length rest < 64
    → (m ++ begun rest) ++ with_length (replicate 64 0) (length (m ++ rest)) ≡ padded_message (m ++ rest)
two_endings m rest whole long short =
    let r : ℕ = length rest in
    let bits : List ℕ = to_be_bytes w64 (length (m ++ rest) * 8 % 2 ^ 64) in
    let first : List ℕ = 128 ∷ replicate (63 - r) 0 in
    let zeros : List ℕ = replicate 56 0 in
    let all : (119 - length (m ++ rest) % 64) % 64 ≡ 63 - r + 56 = omega (arith, into_block m rest whole short, long, short) in
    let joined : replicate (63 - r) 0 ++ zeros ≡ replicate (63 - r + 56) 0 = replicate-append-replicate (63 - r) 56 0 in
    append_assoc m (rest ++ first) (zeros ++ bits)
    ∙ ap (λ b. m ++ b) (append_assoc rest first (zeros ++ bits))
    ∙ sym (append_assoc m rest (first ++ (zeros ++ bits)))
    ∙ ap (λ b. (m ++ rest) ++ b) (sym (append_assoc first zeros bits))
    ∙ ap (λ b. (m ++ rest) ++ ((128 ∷ b) ++ bits)) (joined ∙ ap (λ n. replicate n 0) (sym all))

-- the hash value of a message that ends in one block
pub ended_once : (m rest b h : List ℕ) → length m % 64 ≡ 0 → length rest < 56 → b ≡ with_length (begun rest) (length (m ++ rest))
    → h ≡ hash_after m (length m / 64)
    → compress h b ≡ hash_after (padded_message (m ++ rest)) (length (padded_message (m ++ rest)) / 64)
ended_once m rest b h whole short is value =
    let block : List ℕ = with_length (begun rest) (length (m ++ rest)) in
    ap (λ g. compress g b) value
    ∙ ap (compress (hash_after m (length m / 64))) is
    ∙ one_block m block whole (length-with_length (begun rest) (length (m ++ rest)) (length-begun rest (omega (arith, short))))
    ∙ ap (λ p. hash_after p (length p / 64)) (one_ending m rest whole short)

-- the hash value of one that ends in two
pub ended_twice : (m rest b h : List ℕ) → length m % 64 ≡ 0 → 56 ≤ length rest → length rest < 64
    → b ≡ with_length (replicate 64 0) (length (m ++ rest)) → h ≡ hash_after m (length m / 64)
    → compress (compress h (begun rest)) b ≡ hash_after (padded_message (m ++ rest)) (length (padded_message (m ++ rest)) / 64)
ended_twice m rest b h whole long short is value =
    let first : List ℕ = begun rest in
    let last : List ℕ = with_length (replicate 64 0) (length (m ++ rest)) in
    let one : length first ≡ 64 = length-begun rest short in
    let more : length (m ++ first) % 64 ≡ 0 = omega (arith, length-append m first, one, whole) in
    ap (λ g. compress (compress g first) b) value
    ∙ ap (λ g. compress g b) (one_block m first whole one)
    ∙ ap (compress (hash_after (m ++ first) (length (m ++ first) / 64))) is
    ∙ one_block (m ++ first) last more (length-with_length (replicate 64 0) (length (m ++ rest)) refl)
    ∙ ap (λ p. hash_after p (length p / 64)) (two_endings m rest whole long short)
