-- Numbers as four bytes.
use Rattle.std.proofs.Common.{◌≡◌, ℕ, ◌^◌, ◌<◌, ◌≤◌, take, ⊎_elim, List, ◌++◌, length, get_or, sym, ap, ◌∙◌, arith}
use Rattle.byteorder.specs.Endian.{big_number}
use Rattle.byteorder.specs.Numbers.{big_number-reads_back, length-bytes_high_first, big_from-lt, big_from-take}
use Rattle.std.proofs.lemmas.Bool.{cases_lt}
use Rattle.std.proofs.lemmas.List.{append_cancel_left, length-take, length-take-le, get_or-take, get_or_past}
use Rattle.std.proofs.lemmas.Nat.{be_bytes_4}
use Rattle.wire.specs.Frames.{four_bytes}

pub length-four_bytes : (n : ℕ) → length (four_bytes n) ≡ 4
unfolding four_bytes
length-four_bytes n = length-bytes_high_first 4 n

-- the number that was written is read
pub big_number-four_bytes : (n : ℕ) (rest : List ℕ) → n < 2 ^ 32 → big_number 4 (four_bytes n ++ rest) ≡ n
unfolding four_bytes
big_number-four_bytes n rest h = big_number-reads_back 4 n rest h

-- the bytes that were read are those of their number
pub four_bytes-big_number : (bytes : List ℕ) → length bytes ≡ 4 → ((i : ℕ) → get_or bytes i 0 < 256) → four_bytes (big_number 4 bytes) ≡ bytes
unfolding four_bytes
four_bytes-big_number bytes len fits = be_bytes_4 bytes (big_number 4 bytes) len fits (omega arith)

-- and so at the front of more
pub four_bytes-big_number_at : (bytes : List ℕ) → 4 ≤ length bytes → ((i : ℕ) → get_or bytes i 0 < 256) → four_bytes (big_number 4 bytes) ≡ take 4 bytes
four_bytes-big_number_at bytes enough fits =
    let front = take 4 bytes in
    let same : big_number 4 front ≡ big_number 4 bytes = big_from-take 0 4 4 bytes (omega arith) in
    ap four_bytes (sym same) ∙ four_bytes-big_number front (length-take-le 4 bytes enough) (λ i. get_or-front bytes i fits)
  where
    get_or-front : (xs : List ℕ) (i : ℕ) → ((k : ℕ) → get_or xs k 0 < 256) → get_or (take 4 xs) i 0 < 256
    get_or-front xs i each = ⊎_elim (λ lt. rw (get_or-take 4 xs i 0 lt) (each i)) (λ past. rw (get_or_past (take 4 xs) i 0 (omega (arith, length-take 4 xs)))
        (omega arith)) (cases_lt i 4)

pub big_number-fits : (bytes : List ℕ) → ((i : ℕ) → get_or bytes i 0 < 256) → big_number 4 bytes < 2 ^ 32
big_number-fits bytes fits = big_from-lt 0 4 bytes fits

-- a number's bytes at the front give the number, and what follows
pub same_from_four_bytes : (m n : ℕ) (xs ys : List ℕ) → m < 2 ^ 32 → n < 2 ^ 32 → four_bytes m ++ xs ≡ four_bytes n ++ ys → (m ≡ n) × (xs ≡ ys)
same_from_four_bytes m n xs ys p q e =
    let same : m ≡ n = sym (big_number-four_bytes m xs p) ∙ ap (big_number 4) e ∙ big_number-four_bytes n ys q in
    (same, append_cancel_left (four_bytes n) xs ys (ap (λ k. four_bytes k ++ xs) (sym same) ∙ e))
