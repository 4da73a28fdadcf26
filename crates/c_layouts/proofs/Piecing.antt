-- Where the pieces of a torrent lie in its files.
use Rattle.std.proofs.Common.{◌≡◌, ℕ, suc, ◌+◌, ◌-◌, ◌*◌, ◌/◌, ◌^◌, ◌<◌, ◌≤◌, List, [], ◌∷◌, take, Some, refl, ap, ◌∙◌, inl, inr, arith, pow-add}
use Rattle.std.specs.Prelude.{slice_get, sum_by}
use Rattle.std.proofs.Math.Nat.{mul-le-mul_right, le-div_iff_mul-le}
use Rattle.std.proofs.lemmas.Bool.{cases_lt}
use Rattle.std.proofs.lemmas.List.Sums.{sum_by-cons, sum_by-take-le}
use Rattle.hashtree.specs.Tree.{block_count}
use Rattle.opening.specs.Description.{Description, FileEntry}
use Rattle.opening.specs.Places.{IsBlockPlace}
use Rattle.opening.specs.Sound.{IsSound}
use Rattle.pieces.specs.Pieces.{IsPieceLength, pieces_of}
use Rattle.pieces.proofs.Legal.{legal_bounds}
use Rattle.c_layouts.specs.Places.{IsPieceOf}
use Rattle.c_layouts.specs.Torrents.{torrent_piece_count}

-- ---- pieces of a file

-- a piece begins before its file's end
pub piece_begins : (p j len : ℕ) → 0 < p → j < pieces_of p len → j * p < len
piece_begins p j len some lt =
    let m : (j + 1) * p ≤ len + (p - 1) = (le-div_iff_mul-le {k = p} {x = j + 1} {y = len + (p - 1)} some).0 (omega (arith, lt)) in
    omega (arith, m, some)

-- and what begins there is a piece
pub begins_piece : (p j len : ℕ) → 0 < p → j * p < len → j < pieces_of p len
begins_piece p j len some lt =
    let low : (j + 1) * p ≤ len + (p - 1) = omega (arith, lt, some) in
    let m : j + 1 ≤ pieces_of p len = (le-div_iff_mul-le {k = p} {x = j + 1} {y = len + (p - 1)} some).1 low in
    omega (arith, m)

-- pieces are whole blocks
whole_blocks : (p : ℕ) → IsPieceLength p → p ≡ 16384 * (p / 16384)
whole_blocks p legal =
    let at : legal.0 ≡ legal.0 - 14 + 14 = omega (arith, legal.1) in
    let is : p ≡ 2 ^ (legal.0 - 14) * 2 ^ 14 = legal.3 ∙ ap (λ e. 2 ^ e) at ∙ pow-add 2 (legal.0 - 14) 14 in
    omega (arith, is)

-- ---- at an address

begins_low : (p first i rest : ℕ) → 0 < p → i * p + 0 ≡ first * p + rest → first ≤ i
begins_low p first i rest some e = elim (cases_lt i first) as (λ _. first ≤ i) [
  | inl lt ↦
      let next : i + 1 ≤ first = omega (arith, lt) in
      let over : (i + 1) * p ≤ first * p = mul-le-mul_right p next in
      absurd (omega (arith, over, some, e))
  | inr le ↦ le
]

offset_of : (p first j i rest : ℕ) → i ≡ first + j → i * p + 0 ≡ first * p + rest → rest ≡ j * p
offset_of p first j i rest is e =
    let whole : i * p ≡ (first + j) * p = ap (λ n. n * p) is in
    omega (arith, whole, e)

block_low : (b len : ℕ) → b < block_count len → 16384 * b < len
block_low b len lt = omega (arith, lt)

block_high : (b len : ℕ) → 16384 * b < len → b < block_count len
block_high b len lt = omega (arith, lt)

-- a block that begins at a piece lies in that piece of its file
pub record IsPieceAt (d : Description) (piece file b : ℕ) : Type 0 where
  pub entry : FileEntry
  pub there : slice_get d.files file ≡ Some entry
  pub in_file : IsPieceOf d entry piece
  pub offset : 16384 * b ≡ (piece - entry.first_piece) * d.piece_length
  pub low : 16384 * b < entry.length

pub piece_at : (d : Description) (piece file b : ℕ) → IsPieceLength d.piece_length → IsBlockPlace d piece 0 file b → IsPieceAt d piece file b
piece_at d piece file b legal place =
    let p = d.piece_length in let f = place.entry in
    let some : 0 < p = omega (arith, (legal_bounds p legal).0) in
    let from : f.first_piece ≤ piece = begins_low p f.first_piece piece (16384 * b) some place.address in
    let offset : 16384 * b ≡ (piece - f.first_piece) * p =
    offset_of p f.first_piece (piece - f.first_piece) piece (16384 * b) (omega (arith, from)) place.address in
    let low : 16384 * b < f.length = block_low b f.length place.in_file in
    let lies : piece - f.first_piece < pieces_of p f.length = begins_piece p (piece - f.first_piece) f.length some (omega (arith, offset, low)) in
    record {
      entry = f;
      there = place.there;
      in_file = record { from = from; to = omega (arith, lies, from) };
      offset = offset;
      low = low;
    }

-- and each piece of a file begins with such a block
pub place_at : (d : Description) (piece file : ℕ) (f : FileEntry) → IsPieceLength d.piece_length → slice_get d.files file ≡ Some f → IsPieceOf d f piece
    → (b : ℕ) × IsBlockPlace d piece 0 file b
place_at d piece file f legal there lies =
    let p = d.piece_length in let q = p / 16384 in
    let j = piece - f.first_piece in
    let some : 0 < p = omega (arith, (legal_bounds p legal).0) in
    let low : j * p < f.length = piece_begins p j f.length some (omega (arith, lies.from, lies.to)) in
    let whole : j * p ≡ 16384 * (j * q) = blocks_in j p q (whole_blocks p legal) in (
      j * q,
      record {
        entry = f;
        there = there;
        in_file = block_high (j * q) f.length (omega (arith, low, whole));
        address = address p f.first_piece j piece (16384 * (j * q)) (omega (arith, lies.from)) whole;
      },
    )
  where
    blocks_in : (j p q : ℕ) → p ≡ 16384 * q → j * p ≡ 16384 * (j * q)
    blocks_in j p q is = let e : j * p ≡ j * (16384 * q) = ap (λ n. j * n) is in omega (arith, e)

    address : (p first j i rest : ℕ) → i ≡ first + j → j * p ≡ rest → i * p + 0 ≡ first * p + rest
    address p first j i rest is e =
        let whole : i * p ≡ (first + j) * p = ap (λ n. n * p) is in
        omega (arith, whole, e)

-- ---- the file of a piece

-- the file that has it, with what goes before
record IsHolder (p i : ℕ) (fs : List FileEntry) : Type 0 where
  pub file : ℕ
  pub entry : FileEntry
  pub there : slice_get fs file ≡ Some entry
  pub from : sum_by (λ (g : FileEntry). pieces_of p g.length) (take file fs) ≤ i
  pub to : i < sum_by (λ (g : FileEntry). pieces_of p g.length) (take file fs) + pieces_of p entry.length

holder : (p i : ℕ) (fs : List FileEntry) → i < sum_by (λ (g : FileEntry). pieces_of p g.length) fs → IsHolder p i fs
holder p i [] lt = absurd (omega (arith, lt))
holder p i (f ∷ fs) lt =
    let F : FileEntry → ℕ = λ g. pieces_of p g.length in
    let sum : sum_by F (f ∷ fs) ≡ pieces_of p f.length + sum_by F fs = sum_by-cons F f fs in
    elim (cases_lt i (pieces_of p f.length)) as (λ _. IsHolder p i (f ∷ fs)) [
      | inl here ↦
          let none : sum_by F (take 0 (f ∷ fs)) ≡ 0 = refl in
          record { file = 0; entry = f; there = refl; from = omega (arith, none); to = omega (arith, here, none) }
      | inr past ↦
          let rest = holder p (i - pieces_of p f.length) fs (omega (arith, lt, past, sum)) in
          let before = take rest.file fs in
          let more : sum_by F (take (suc rest.file) (f ∷ fs)) ≡ pieces_of p f.length + sum_by F before = sum_by-cons F f before in record {
            file = suc rest.file;
            entry = rest.entry;
            there = rest.there;
            from = omega (arith, rest.from, past, more);
            to = omega (arith, rest.to, past, more);
          }
    ]

-- each piece of the torrent has a place
pub place_there : (d : Description) (piece : ℕ) → IsSound d → piece < torrent_piece_count d → (file : ℕ) × ((b : ℕ) × IsBlockPlace d piece 0 file b)
place_there d piece sound lt =
    let at = holder d.piece_length piece d.files lt in
    let first = sound.laid_out.first_pieces at.file at.entry at.there in (
      at.file,
      place_at d piece at.file at.entry sound.legal at.there (record {
        from = omega (arith, first, at.from);
        to = omega (arith, first, at.to);
      }),
    )

-- first pieces are few
pub first_low : (d : Description) (n : ℕ) (f : FileEntry) → IsSound d → slice_get d.files n ≡ Some f → f.first_piece < 2 ^ 32
first_low d n f sound there =
    let F : FileEntry → ℕ = λ g. pieces_of d.piece_length g.length in
    let less : sum_by F (take n d.files) ≤ sum_by F d.files = sum_by-take-le F d.files n in
    omega (arith, sound.laid_out.first_pieces n f there, less, sound.laid_out.pieces)
