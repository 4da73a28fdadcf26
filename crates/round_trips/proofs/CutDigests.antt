-- The digests of a stream's cuts, behind whole cuts.
use Rattle.std.proofs.Common.{◌≡◌, ℕ, zero, suc, ◌+◌, ◌-◌, ◌*◌, ◌<◌, ◌≤◌, List, [], ◌∷◌, ◌++◌, length, map, take, drop, replicate, refl, sym, ap, ◌∙◌}
use Rattle.std.proofs.Common.{append_assoc, ◌%◌, arith, length-append, zero-mul}
use Rattle.std.proofs.Math.Seq.{drop-append-add}
use Rattle.std.proofs.lemmas.List.{length-drop, length-replicate, length-take-le, map-append, take-append-drop}
use Rattle.std.specs.List.{range_with_len}
use Rattle.sha1.specs.Sha1.{sha1}
use Rattle.pieces.proofs.Closing.{digests_grow}
use Rattle.pieces.proofs.Cutting.{cut_append, cut_count_none, cut_ends, last_cut, pieces_cover, more_pieces}
use Rattle.pieces.specs.Cuts.{cut, cut_digests, filled_up, last_cut_of}
use Rattle.pieces.specs.Pieces.{pieces_of}

range_split : (a n m : ℕ) → range_with_len a (n + m) ≡ range_with_len a n ++ range_with_len (a + n) m
range_split a zero m =
    let none : 0 + m ≡ m = omega arith in
    let at : a ≡ a + 0 = omega arith in ap (range_with_len a) none ∙ ap (λ b. range_with_len b m) at
range_split a (suc n) m =
    let more : suc n + m ≡ suc (n + m) = omega arith in
    let at : (a + 1) + n ≡ a + suc n = omega arith in
    ap (range_with_len a) more ∙ ap (λ xs. a ∷ xs) (range_split (a + 1) n m) ∙ ap (λ b. a ∷ (range_with_len (a + 1) n ++ range_with_len b m)) at

moved : {A : Type 0} (f g : ℕ → A) (a b m : ℕ) → ((j : ℕ) → j < m → f (a + j) ≡ g (b + j)) → map f (range_with_len a m) ≡ map g (range_with_len b m)
moved f g a b zero each = refl
moved f g a b (suc m) each =
    let first : f a ≡ g b = let x : a + 0 ≡ a = omega arith in let y : b + 0 ≡ b = omega arith in ap f (sym x) ∙ each 0 (omega arith) ∙ ap g y in
    ap (λ x. x ∷ map f (range_with_len (a + 1) m)) first
    ∙ ap (λ xs. g b ∷ xs) (moved f g (a + 1) (b + 1) m (λ j less. let x : (a + 1) + j ≡ a + suc j = omega arith in let y : b + suc j ≡ (b + 1) + j =
    omega arith in ap f x ∙ each (suc j) (omega (arith, less)) ∙ ap g y))

cut_behind : (p n j : ℕ) (front rest : List ℕ) → length front ≡ p * n → cut p (front ++ rest) (n + j) ≡ cut p rest j
cut_behind p n j front rest whole =
    let at : p * (n + j) ≡ length front + p * j = omega (arith, whole) in
    ap (λ k. take p (drop k (front ++ rest))) at ∙ ap (take p) (drop-append-add front rest (p * j))

-- whole cuts, and what follows them
pub digests_append : (p n : ℕ) (front rest : List ℕ) → 0 < p → length front ≡ p * n → cut_digests p (front ++ rest) ≡ cut_digests p front ++ cut_digests p rest
digests_append p n front rest some whole =
    let m = pieces_of p (length rest) in
    let turned : p * n + length rest ≡ n * p + length rest = omega arith in
    let count : pieces_of p (length (front ++ rest)) ≡ n + m = ap (pieces_of p) (length-append front rest ∙ ap (λ k. k + length rest) whole ∙ turned)
    ∙ more_pieces p n (length rest) some in
    let bare : p * n ≡ n * p + 0 = omega arith in
    let none : n + 0 ≡ n = omega arith in
    let before : pieces_of p (length front) ≡ n = ap (pieces_of p) (whole ∙ bare) ∙ more_pieces p n 0 some ∙ ap (λ k. n + k) (cut_count_none p some) ∙ none in
    let first : map (cut p (front ++ rest)) (range_with_len 0 n) ≡ map (cut p front) (range_with_len 0 n) =
    moved (cut p (front ++ rest)) (cut p front) 0 0 n (λ j less. cut_append p front rest (0 + j) (let ends = cut_ends p (0 + j) n (omega (arith, less)) in
    omega (arith, ends, whole))) in
    let second : map (cut p (front ++ rest)) (range_with_len (0 + n) m) ≡ map (cut p rest) (range_with_len 0 m) =
    moved (cut p (front ++ rest)) (cut p rest) (0 + n) 0 m (λ j less. let x : (0 + n) + j ≡ n + j = omega arith in let y : j ≡ 0 + j = omega arith in
    ap (cut p (front ++ rest)) x ∙ cut_behind p n j front rest whole ∙ ap (cut p rest) y) in
    ap (λ k. map sha1 (map (cut p (front ++ rest)) (range_with_len 0 k))) count
    ∙ ap (λ r. map sha1 (map (cut p (front ++ rest)) r)) (range_split 0 n m)
    ∙ ap (map sha1) (map-append (cut p (front ++ rest)) (range_with_len 0 n) (range_with_len (0 + n) m))
    ∙ map-append sha1 (map (cut p (front ++ rest)) (range_with_len 0 n)) (map (cut p (front ++ rest)) (range_with_len (0 + n) m))
    ∙ ap (λ xs. map sha1 xs ++ map sha1 (map (cut p (front ++ rest)) (range_with_len (0 + n) m))) first
    ∙ ap (λ ys. map sha1 (map (cut p front) (range_with_len 0 n)) ++ map sha1 ys) second
    ∙ ap (λ k. map sha1 (map (cut p front) (range_with_len 0 k)) ++ cut_digests p rest) (sym before)

without_last : {A : Type 0} (xs : List A) (x : A) → take (length (xs ++ x ∷ []) - 1) (xs ++ x ∷ []) ≡ xs
without_last [] x = refl
without_last (y ∷ xs) x =
    let count : suc (length (xs ++ x ∷ [])) - 1 ≡ suc (length (xs ++ x ∷ []) - 1) = let more = length-append xs (x ∷ []) in omega (arith, more) in
    ap (λ n. take n (y ∷ (xs ++ x ∷ []))) count ∙ ap (λ zs. y ∷ zs) (without_last xs x)

-- a content that is filled up with zeros to a piece boundary
abbrev pub block_of : ℕ → List ℕ → List ℕ
block_of p c = c ++ replicate (pieces_of p (length c) * p - length c) 0

some_pieces : (q p len : ℕ) → 0 < len → len ≤ q * p → q ≡ (q - 1) + 1
some_pieces zero p len more cover = let none : 0 * p ≡ 0 = zero-mul p in absurd (omega (arith, none, cover, more))
some_pieces (suc k) p len more cover = omega arith

-- its digests are those of the content but for the last, which is that of the last cut filled up
pub block_digests : (p : ℕ) (c : List ℕ) → 0 < p → 0 < length c → cut_digests p (block_of p c) ≡ take (length (cut_digests p c) - 1) (cut_digests p c)
    ++ sha1 (filled_up p (last_cut_of p c)) ∷ []
block_digests p c some more =
    let q = pieces_of p (length c) in
    let n = q - 1 in
    let cover = pieces_cover p (length c) some in
    let all : p * q + (length c + (p - 1)) % p ≡ length c + (p - 1) = omega (arith, some) in
    let front = take (p * n) c in
    let last = drop (p * n) c in
    let gap = q * p - length c in
    let zeros = replicate {A = ℕ} gap 0 in
    let pieces : q ≡ n + 1 = some_pieces q p (length c) more cover in
    let turned : p * (n + 1) ≡ p * n + p = omega arith in
    let step : p * q ≡ p * n + p = ap (λ k. p * k) pieces ∙ turned in
    let high : length c ≤ p * n + p = omega (arith, cover, step) in
    let low : p * n < length c = omega (arith, all, step, some) in
    let whole : length front ≡ p * n = length-take-le (p * n) c (omega (arith, low)) in
    let size : length last ≡ length c - p * n = length-drop (p * n) c in
    let rest : gap ≡ p - length last = omega (arith, size, step, low, high) in
    let both : front ++ last ≡ c = take-append-drop (p * n) c in
    let own = digests_grow p n front last some whole (omega (arith, size, low)) (omega (arith, size, high)) in
    let count = length-replicate {A = ℕ} gap 0 in
    let joined = length-append last zeros in
    let long : length (last ++ zeros) ≡ p = omega (arith, count, joined, rest, size, high) in
    let filled = digests_grow p n front (last ++ zeros) some whole (omega (arith, long, some)) (omega (arith, long)) in
    let is : last_cut_of p c ≡ last = last_cut p c n high in
    let parts : cut_digests p c ≡ cut_digests p front ++ sha1 last ∷ [] = ap (cut_digests p) (sym both) ∙ own in
    let before : take (length (cut_digests p c) - 1) (cut_digests p c) ≡ cut_digests p front = ap (λ ds. take (length ds - 1) ds) parts
    ∙ without_last (cut_digests p front) (sha1 last) in
    let end : filled_up p (last_cut_of p c) ≡ last ++ zeros = ap (filled_up p) is ∙ ap (λ k. last ++ replicate k 0) (sym rest) in
    ap (λ x. cut_digests p (x ++ zeros)) (sym both) ∙ ap (cut_digests p) (append_assoc front last zeros) ∙ filled
    ∙ ap (λ ds. ds ++ sha1 (last ++ zeros) ∷ []) (sym before)
    ∙ ap (λ x. take (length (cut_digests p c) - 1) (cut_digests p c) ++ sha1 x ∷ []) (sym end)
