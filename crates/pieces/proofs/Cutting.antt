-- The cuts of a stream as it grows.
use Rattle.std.proofs.Common.{◌≡◌, ℕ, zero, suc, ◌+◌, ◌-◌, ◌*◌, ◌/◌, ◌%◌, ◌<◌, ◌≤◌, List, [], ◌++◌, length, take, drop, slice_get, Some, ap, ◌∙◌}
use Rattle.std.proofs.Common.{add_assoc, arith, inl, inr}
use Rattle.std.proofs.Math.Nat.{mul-le-mul_left, div-eq_of_lt-le, le-div_iff_mul-le, mul-add-div_right}
use Rattle.std.proofs.lemmas.Bool.{cases_lt}
use Rattle.std.proofs.lemmas.List.{length-drop, length-map, take-append-le, drop-append-le, take_all, get_or-map}
use Rattle.std.proofs.lemmas.List.FromFn.{length-map-range_with_len, get_or-map-range_with_len}
use Rattle.std.proofs.lemmas.Option.{slice_get-get_or}
use Rattle.sha1.specs.Sha1.{sha1}
use Rattle.pieces.specs.Cuts.{cut, cuts, cut_digests}
use Rattle.pieces.specs.Pieces.{pieces_of}

-- a cut that is full stays as it is
pub cut_append : (n : ℕ) (content more : List ℕ) (k : ℕ) → n * k + n ≤ length content → cut n (content ++ more) k ≡ cut n content k
cut_append n content more k h =
    ap (take n) (drop-append-le (n * k) content more (omega arith))
    ∙ take-append-le n (drop (n * k) content) more (omega (arith, length-drop (n * k) content))

-- the last cut is what is left after the cuts before it
pub last_cut : (n : ℕ) (content : List ℕ) (k : ℕ) → length content ≤ n * k + n → cut n content k ≡ drop (n * k) content
last_cut n content k h = take_all n (drop (n * k) content) (omega (arith, length-drop (n * k) content))

-- a cut before another ends where that begins, or earlier
pub cut_ends : (n k c : ℕ) → k < c → n * k + n ≤ n * c
cut_ends n k c lt = let m : n * (k + 1) ≤ n * c = mul-le-mul_left n (let s : k + 1 ≤ c = omega arith in s) in omega (arith, m)

pub cut_count_is : (n c filled : ℕ) → 0 < filled → filled ≤ n → pieces_of n (n * c + filled) ≡ c + 1
cut_count_is n c filled some bound =
    div-eq_of_lt-le {k = c + 1} n {m = n * c + filled + (n - 1)}
    (let a : (c + 1) * n ≤ n * c + filled + (n - 1) = omega arith in a)
    (let b : n * c + filled + (n - 1) < (c + 1 + 1) * n = omega arith in b)

-- this many whole cuts are there at most
pub cut_count_least : (n c len : ℕ) → 0 < n → n * c ≤ len → c ≤ pieces_of n len
cut_count_least n c len some whole = (le-div_iff_mul-le {k = n} {x = c} {y = len + (n - 1)} some).1 (let a : c * n ≤ len + (n - 1) = omega arith in a)

pub cut_count_none : (n : ℕ) → 0 < n → pieces_of n 0 ≡ 0
cut_count_none n some =
    div-eq_of_lt-le {k = 0} n {m = 0 + (n - 1)}
    (let a : 0 * n ≤ 0 + (n - 1) = omega arith in a)
    (let b : 0 + (n - 1) < (0 + 1) * n = omega arith in b)

-- whole cuts
pub whole_count : (p n : ℕ) → 0 < p → pieces_of p (p * n) ≡ n
whole_count p zero some = let none : p * 0 ≡ 0 = omega arith in ap (pieces_of p) none ∙ cut_count_none p some
whole_count p (suc n) some =
    let step : p * suc n ≡ p * n + p = omega arith in ap (pieces_of p) step ∙ cut_count_is p n p some (omega arith) ∙ omega arith

pub length-cut_digests : (n : ℕ) (content : List ℕ) → length (cut_digests n content) ≡ pieces_of n (length content)
length-cut_digests n content =
    length-map (cuts n content) sha1 ∙ length-map-range_with_len (cut n content) 0 (pieces_of n (length content))

pub digest_of_cut : (n : ℕ) (content : List ℕ) (k : ℕ) → k < pieces_of n (length content)
    → slice_get (cut_digests n content) k ≡ Some (sha1 (cut n content k))
digest_of_cut n content k lt =
    let count : ℕ = pieces_of n (length content) in
    let within : k < length (cuts n content) = omega (arith, length-map-range_with_len (cut n content) 0 count) in
    slice_get-get_or (cut_digests n content) k [] (omega (arith, length-cut_digests n content))
    ∙ ap Some (get_or-map sha1 (cuts n content) k [] [] within
    ∙ ap sha1 (get_or-map-range_with_len (cut n content) 0 count k k [] lt (omega arith)))

-- ---- how many pieces

-- the pieces have room for all bytes
pub pieces_cover : (p n : ℕ) → 0 < p → n ≤ pieces_of p n * p
pieces_cover p n h =
    let all : p * ((n + (p - 1)) / p) + (n + (p - 1)) % p ≡ n + (p - 1) = omega (arith, h) in
    let less : (n + (p - 1)) % p < p = omega (arith, h) in
    omega (arith, all, less)

-- what is not empty has a piece
pub some_pieces : (p n : ℕ) → 0 < p → 0 < n → 0 < pieces_of p n
some_pieces p n legal some = positive (pieces_of p n) (omega (arith, pieces_cover p n legal, some))
  where
    positive : (c : ℕ) → 0 < c * p → 0 < c
    positive zero h = absurd (omega (arith, h))
    positive (suc c) h = omega arith

-- whole pieces before some bytes come on top of theirs
pub more_pieces : (p k n : ℕ) → 0 < p → pieces_of p (k * p + n) ≡ k + pieces_of p n
more_pieces p k n legal = ap (λ m. m / p) (add_assoc (k * p) n (p - 1)) ∙ mul-add-div_right legal k (n + (p - 1))

-- the cuts behind some whole ones
pub pieces_behind : (p k : ℕ) (content : List ℕ) → 0 < p → p * k ≤ length content
    → pieces_of p (length content) ≡ k + pieces_of p (length (drop (p * k) content))
pieces_behind p k content legal whole =
    let rest : ℕ = length (drop (p * k) content) in
    let all : length content ≡ k * p + rest = omega (arith, length-drop (p * k) content, whole) in
    ap (pieces_of p) all ∙ more_pieces p k rest legal

-- and behind the first one, which may be shorter
pub pieces_after : (p : ℕ) (running : List ℕ) → 0 < p → 0 < length running
    → pieces_of p (length running) ≡ 1 + pieces_of p (length (drop p running))
pieces_after p running legal some = elim (cases_lt (length running) p) [
  | inl short ↦
      let none : length (drop p running) ≡ 0 = omega (arith, length-drop p running, short) in
      let one : pieces_of p (length running) ≡ 0 + 1 =
      ap (pieces_of p) (let e : length running ≡ p * 0 + length running = omega arith in e) ∙ cut_count_is p 0 (length running) some (omega (arith, short)) in
      omega (arith, one, ap (pieces_of p) none, cut_count_none p legal)
  | inr long ↦
      let at : p * 1 ≡ p = omega arith in
      pieces_behind p 1 running legal (omega (arith, long)) ∙ ap (λ m. 1 + pieces_of p (length (drop m running))) at
]
