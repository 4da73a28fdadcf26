-- Words that are read and turned four at a time.
use Rattle.std.proofs.Common.{◌≡◌, ℕ, zero, suc, ◌+◌, ◌-◌, ◌*◌, ◌<◌, ◌≤◌, ◌++◌, List, [], ◌∷◌, length}
use Rattle.std.proofs.Common.{take, drop, slice_index, slice_index_or, inl, inr, refl, sym, ap, subst, ◌∙◌, arith, Fits, w8}
use Rattle.std.proofs.lemmas.Bool.{cases_lt}
use Rattle.std.proofs.lemmas.List.{get_or_append_left, get_or-append-add}
use Rattle.std.proofs.lemmas.Simd.{get_or-chunk, length-chunk, get_or_wider}
use lib.Lanes.{Each1, pick_l, number_l, digits_l, chunk}
use Rattle.lanes.specs.Lanes.{first_pairs, first_words, last_word_pairs, last_words, word_at, word_in}

-- what holds of 0, 1, 2 and 3
pub below_four : (P : ℕ → Type 0) → P 0 → P 1 → P 2 → P 3 → (k : ℕ) → k < 4 → P k
below_four P a b c d zero lt = a
below_four P a b c d (suc zero) lt = b
below_four P a b c d (suc (suc zero)) lt = c
below_four P a b c d (suc (suc (suc zero))) lt = d
below_four P a b c d (suc (suc (suc (suc k)))) lt = absurd (omega arith)

-- what holds of the first four numbers and of the next four
pub below_eight : (P : ℕ → Type 0) → ((k : ℕ) → k < 4 → P k) → ((k : ℕ) → k < 4 → P (4 + k)) → (k : ℕ) → k < 8 → P k
below_eight P first second k lt = elim (cases_lt k 4) [
  | inl low ↦ first k low
  | inr high ↦
      let back : 4 + (k - 4) ≡ k = omega arith in
      subst P back (second (k - 4) (omega arith))
]

-- four bytes that are equal make up equal words
same_word : (x y : List ℕ) (i j : ℕ) → ((n : ℕ) → n < 4 → slice_index x (i + n) ≡ slice_index y (j + n)) → word_at x i ≡ word_at y j
same_word x y i j same =
    let here : i + 0 ≡ i = omega arith in
    let there : j + 0 ≡ j = omega arith in
    let start : slice_index x i ≡ slice_index y j = ap (slice_index x) (sym here) ∙ same 0 (omega arith) ∙ ap (slice_index y) there in
    rw (start, same 1 (omega arith), same 2 (omega arith), same 3 (omega arith)) refl

-- words of two parts of a buffer, the one behind the other
module _ (bytes : List ℕ) (first second : ℕ) (fits_first : first + 16 ≤ length bytes) (fits_second : second + 16 ≤ length bytes) where
  abbrev both : List ℕ
  both = take 16 (drop first bytes) ++ take 16 (drop second bytes)

  byte_of_first : (i : ℕ) → i < 16 → slice_index both i ≡ slice_index bytes (first + i)
  byte_of_first i lt =
      get_or_append_left (chunk first 16 bytes) (chunk second 16 bytes) 0 i (omega (arith, length-chunk first 16 bytes fits_first))
      ∙ get_or-chunk first 16 bytes i 0 lt

  byte_of_second : (i : ℕ) → i < 16 → slice_index both (16 + i) ≡ slice_index bytes (second + i)
  byte_of_second i lt =
      ap (λ n. slice_index both (n + i)) (sym (length-chunk first 16 bytes fits_first))
      ∙ get_or-append-add (chunk first 16 bytes) (chunk second 16 bytes) i 0
      ∙ get_or-chunk second 16 bytes i 0 lt

  pub word_of_first : (k : ℕ) → k < 4 → word_at both (4 * k) ≡ word_at bytes (first + 4 * k)
  word_of_first k lt = same_word both bytes (4 * k) (first + 4 * k) (λ n less.
      let spot : first + (4 * k + n) ≡ first + 4 * k + n = omega arith in
      byte_of_first (4 * k + n) (omega arith) ∙ ap (slice_index bytes) spot)

  pub word_of_second : (k : ℕ) → k < 4 → word_at both (4 * (4 + k)) ≡ word_at bytes (second + 4 * k)
  word_of_second k lt = same_word both bytes (4 * (4 + k)) (second + 4 * k) (λ n less.
      let here : 4 * (4 + k) + n ≡ 16 + (4 * k + n) = omega arith in
      let spot : second + (4 * k + n) ≡ second + 4 * k + n = omega arith in
      ap (slice_index both) here ∙ byte_of_second (4 * k + n) (omega arith) ∙ ap (slice_index bytes) spot)

-- the bytes of eight words, those of each word from its last to its first
abbrev last_to_first : List ℕ
last_to_first = 3 ∷ 2 ∷ 1 ∷ 0 ∷ 7 ∷ 6 ∷ 5 ∷ 4 ∷ 11 ∷ 10 ∷ 9 ∷ 8 ∷ 15 ∷ 14 ∷ 13 ∷ 12
    ∷ 19 ∷ 18 ∷ 17 ∷ 16 ∷ 23 ∷ 22 ∷ 21 ∷ 20 ∷ 27 ∷ 26 ∷ 25 ∷ 24 ∷ 31 ∷ 30 ∷ 29 ∷ 28 ∷ []

abbrev reversed : List ℕ → List ℕ
reversed xs = pick_l 0 xs last_to_first

byte_of_both : (x y : List ℕ) → Each1 (Fits w8) x → Each1 (Fits w8) y → (k : ℕ) → slice_index (x ++ y) k < 256
byte_of_both [] [] hx hy k = omega arith
byte_of_both [] (y ∷ ys) hx hy zero = hy.0.fits
byte_of_both [] (y ∷ ys) hx hy (suc k) = byte_of_both [] ys hx hy.1 k
byte_of_both (x ∷ xs) ys hx hy zero = hx.0.fits
byte_of_both (x ∷ xs) ys hx hy (suc k) = byte_of_both xs ys hx.1 hy k

bytes_picked : (xs : List ℕ) → ((k : ℕ) → slice_index xs k < 256) → (ks : List ℕ) → Each1 (λ x. x < 256) (pick_l 0 xs ks)
bytes_picked xs h [] = tt
bytes_picked xs h (k ∷ ks) = (h k, bytes_picked xs h ks)

-- four digits, the last first
spelled : (a b c d : ℕ) → d + 256 * (c + 256 * (b + 256 * (a + 256 * 0))) ≡ a * 16777216 + b * 65536 + c * 256 + d
spelled a b c d = omega arith

-- the digits of a word, with its place known
word_spelled : (xs : List ℕ) (k : ℕ) → k < 8 → number_l 256 (chunk (4 * k) 4 (reversed xs)) ≡ word_at xs (4 * k)
word_spelled xs =
    let b = slice_index xs in
    below_eight (λ k. number_l 256 (chunk (4 * k) 4 (reversed xs)) ≡ word_at xs (4 * k))
    (below_four (λ k. number_l 256 (chunk (4 * k) 4 (reversed xs)) ≡ word_at xs (4 * k))
    (spelled (b 0) (b 1) (b 2) (b 3)) (spelled (b 4) (b 5) (b 6) (b 7))
    (spelled (b 8) (b 9) (b 10) (b 11)) (spelled (b 12) (b 13) (b 14) (b 15)))
    (below_four (λ k. number_l 256 (chunk (4 * (4 + k)) 4 (reversed xs)) ≡ word_at xs (4 * (4 + k)))
    (spelled (b 16) (b 17) (b 18) (b 19)) (spelled (b 20) (b 21) (b 22) (b 23))
    (spelled (b 24) (b 25) (b 26) (b 27)) (spelled (b 28) (b 29) (b 30) (b 31)))

-- the words that two vectors of bytes spell
pub word_of_both : (x y : List ℕ) → Each1 (Fits w8) x → Each1 (Fits w8) y → (k : ℕ) → k < 8
    → slice_index (digits_l 4294967296 8 (number_l 256 (reversed (x ++ y)))) k ≡ word_at (x ++ y) (4 * k)
word_of_both x y hx hy k lt =
    get_or_wider 256 4 4294967296 8 (reversed (x ++ y)) k refl (bytes_picked (x ++ y) (byte_of_both x y hx hy) last_to_first) lt
    ∙ word_spelled (x ++ y) k lt

-- what the shuffles make of four rows
abbrev columns_of : List ℕ → List ℕ → List ℕ → List ℕ → List (List ℕ)
columns_of a b c d =
    first_pairs (first_words a b) (first_words c d)
    ∷ last_word_pairs (first_words a b) (first_words c d)
    ∷ first_pairs (last_words a b) (last_words c d)
    ∷ last_word_pairs (last_words a b) (last_words c d)
    ∷ []

abbrev pub columns : List (List ℕ) → List (List ℕ)
columns rows = columns_of (slice_index_or rows 0 []) (slice_index_or rows 1 []) (slice_index_or rows 2 []) (slice_index_or rows 3 [])

pub column_in_second : (rows : List (List ℕ)) (j k : ℕ) → j < 4 → k < 4 → word_in (columns rows) k (4 + j) ≡ word_in rows j (4 + k)
column_in_second rows j k a b =
    let P : ℕ → ℕ → Type 0 = λ j k. word_in (columns rows) k (4 + j) ≡ word_in rows j (4 + k) in
    below_four (λ j. P j k)
    (below_four (P 0) refl refl refl refl k b) (below_four (P 1) refl refl refl refl k b)
    (below_four (P 2) refl refl refl refl k b) (below_four (P 3) refl refl refl refl k b) j a
