-- Pieces of several contents put one after the other.
use Rattle.std.proofs.Common.{◌≡◌, inl, inr, ℕ, zero, suc, ◌+◌, ◌-◌, ◌*◌, ◌<◌, ◌≤◌, min, List, [], ◌++◌, length, take, drop, ap, sym, ◌∙◌, subst}
use Rattle.std.proofs.Common.{arith}
use Rattle.std.proofs.Math.Nat.{mul-le-mul_left}
use Rattle.std.proofs.lemmas.Bool.{cases_lt}
use Rattle.std.proofs.lemmas.List.{drop-append-le, drop_all, length-append, length-drop, length-take, take-append-le, take_all}
use Rattle.pieces.specs.Cuts.{cut}
use Rattle.pieces.specs.Pieces.{pieces_of}
use Rattle.pieces.proofs.Cutting.{pieces_cover}
use Rattle.parts.proofs.Streams.{in_pieces}

next_start : (pl k : ℕ) → pl * (k + 1) ≡ pl * k + pl
next_start pl k = omega arith

-- a piece stays if more bytes come after it
pub cut_more : (pl : ℕ) (xs ys : List ℕ) (k : ℕ) → pl * (k + 1) ≤ length xs → cut pl (xs ++ ys) k ≡ cut pl xs k
cut_more pl xs ys k inside =
    let next = next_start pl k in
    let room : pl ≤ length (drop (pl * k) xs) = omega (arith, inside, next, length-drop (pl * k) xs) in
    ap (take pl) (drop-append-le (pl * k) xs ys (omega (arith, inside, next))) ∙ take-append-le pl (drop (pl * k) xs) ys room

-- the bytes that come after whole pieces are the next one
cut_next : (pl : ℕ) (xs ys : List ℕ) (k : ℕ) → length xs ≡ pl * k → length ys ≤ pl → cut pl (xs ++ ys) k ≡ ys
cut_next pl xs ys k whole few =
    let at : drop (pl * k) (xs ++ ys) ≡ ys =
    drop-append-le (pl * k) xs ys (omega (arith, whole)) ∙ ap (λ l. l ++ ys) (drop_all (pl * k) xs (omega (arith, whole))) in
    ap (take pl) at ∙ take_all pl ys few

-- a content has this piece of a file whole, and the last one ends with the file
pub record IsLong (pl len k : ℕ) (bytes : List ℕ) : Type 0 where
  pub whole : min (pl * (k + 1)) len ≤ length bytes
  pub last : k + 1 ≡ pieces_of pl len → length bytes ≡ len

-- the file itself does
pub long_file : (pl len k : ℕ) (bytes : List ℕ) → length bytes ≡ len → IsLong pl len k bytes
long_file pl len k bytes is = record { whole = omega (arith, is); last = λ end. is }

-- how many bytes of the file the first pieces are with this one
with_piece : (pl len k : ℕ) (own : List ℕ) → 0 < pl → k < pieces_of pl len → IsLong pl len k own
    → pl * k + length (cut pl own k) ≡ min (pl * (k + 1)) len
with_piece pl len k own some lt long =
    let next = next_start pl k in
    let size : length (cut pl own k) ≡ min pl (length own - pl * k) = length-take pl (drop (pl * k) own) ∙ ap (min pl) (length-drop (pl * k) own) in
    let begins : pl * k < len = in_pieces pl k len some lt in
    elim (cases_lt (k + 1) (pieces_of pl len)) [
      | inl more ↦
          let inside : pl * (k + 1) < len = in_pieces pl (k + 1) len some more in
          omega (arith, size, long.whole, inside, next)
      | inr past ↦
          let end : k + 1 ≡ pieces_of pl len = omega (arith, past, lt) in
          let cover : len ≤ pieces_of pl len * pl = pieces_cover pl len some in
          let all : pieces_of pl len * pl ≡ pl * k + pl = ap (λ n. n * pl) (sym end) ∙ omega arith in
          omega (arith, size, long.last end, cover, all, begins, next)
    ]

-- The first pieces of a file, each as one of the contents that may stand for it has it.
pub record FirstPieces (pl len : ℕ) (Own : ℕ → List ℕ → Type 0) (m : ℕ) : Type 0 where
  pub bytes : List ℕ
  pub count : length bytes ≡ min (pl * m) len
  pub each : (k : ℕ) → k < m → (own : List ℕ) × Own k own × (cut pl bytes k ≡ cut pl own k)

module _ (pl len : ℕ) (some : 0 < pl) (Own : ℕ → List ℕ → Type 0)
    (there : (k : ℕ) → k < pieces_of pl len → (own : List ℕ) × Own k own)
    (long : (k : ℕ) (own : List ℕ) → Own k own → IsLong pl len k own)
  where
    one_more : (m : ℕ) → m < pieces_of pl len → FirstPieces pl len Own m → FirstPieces pl len Own (m + 1)
    one_more m lt before =
        let own = there m lt in
        let piece : List ℕ = cut pl own.0 m in
        let begins : pl * m < len = in_pieces pl m len some lt in
        let whole : length before.bytes ≡ pl * m = omega (arith, before.count, begins) in
        let size : length piece ≤ pl = omega (arith, length-take pl (drop (pl * m) own.0)) in
        record {
          bytes = before.bytes ++ piece;
          count = length-append before.bytes piece ∙ ap (λ n. n + length piece) whole ∙ with_piece pl len m own.0 some lt (long m own.0 own.1);
          each = λ k less. elim (cases_lt k m) [
            | inl earlier ↦
                let old = before.each k earlier in
                let next = next_start pl k in
                let inside : pl * (k + 1) ≤ length before.bytes = subst (λ n. pl * (k + 1) ≤ n) (sym whole) (within pl k m earlier) in
                (old.0, old.1, cut_more pl before.bytes piece k inside ∙ old.2)
            | inr late ↦
                let same : k ≡ m = omega (arith, less, late) in
                subst (λ j. (o : List ℕ) × Own j o × (cut pl (before.bytes ++ piece) j ≡ cut pl o j)) (sym same)
                (own.0, own.1, cut_next pl before.bytes piece m whole size)
          ];
        }
      where
        within : (p k m : ℕ) → k < m → p * (k + 1) ≤ p * m
        within p k m lt = mul-le-mul_left p (let a : k + 1 ≤ m = omega (arith, lt) in a)

    first_pieces : (m : ℕ) → m ≤ pieces_of pl len → FirstPieces pl len Own m
    first_pieces zero le = record {
      bytes = [];
      count = (let a : 0 ≡ min (pl * 0) len = omega arith in a);
      each = λ k lt. absurd (omega (arith, lt));
    }
    first_pieces (suc m) le =
        let s : m + 1 ≡ suc m = omega arith in
        subst (FirstPieces pl len Own) s (one_more m (omega (arith, le)) (first_pieces m (omega (arith, le))))

    -- all of them are as long as the file
    pub all_pieces : (whole : FirstPieces pl len Own (pieces_of pl len)) × (length whole.bytes ≡ len)
    all_pieces =
        let whole = first_pieces (pieces_of pl len) (let a : pieces_of pl len ≤ pieces_of pl len = omega arith in a) in
        let cover : len ≤ pieces_of pl len * pl = pieces_cover pl len some in
        let same : pieces_of pl len * pl ≡ pl * pieces_of pl len = omega arith in
        (whole, omega (arith, whole.count, cover, same))
