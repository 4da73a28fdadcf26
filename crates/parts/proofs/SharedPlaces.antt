-- The shares of all parts have all places, and what is counted for them fits.
use Rattle.std.proofs.Common.{◌≡◌, inl, inr, ℕ, zero, suc, ◌+◌, ◌-◌, ◌*◌, ◌/◌, ◌^◌, ◌<◌, ◌≤◌, List, [], ◌∷◌, length, drop, take, add-one}
use Rattle.std.proofs.Common.{slice_get, sum_by, true, false, cond, nat_lt, nat_eq, Some, refl, ap, sym, ◌∙◌, subst, arith}
use Rattle.std.proofs.Math.Nat.{div-mul-le_self, mul-le-mul, mul-le-mul_left, pow-le-pow_right}
use Rattle.std.proofs.lemmas.Bool.{cases_lt}
use Rattle.std.proofs.lemmas.List.{drop_more}
use Rattle.std.proofs.lemmas.List.Sums.{sum_by-cons, sum_by_more, sum_by-take-le}
use Rattle.std.proofs.lemmas.Option.{get_or_from_slice_get, slice_get_within}
use Rattle.chains.proofs.Cases.{item_at}
use Rattle.opening.specs.Description.{Description, FileEntry}
use Rattle.opening.specs.Sound.{IsSound}
use Rattle.pieces.specs.Pieces.{pieces_of}
use Rattle.pieces.proofs.Cutting.{pieces_cover}
use Rattle.folders.proofs.Places.{pieces_are_positive}
use Rattle.folders.specs.Verdicts.{IsFileOf}
use Rattle.parts.specs.Laws.{SharesHaveAllPlaces}
use Rattle.parts.specs.Parts.{Holds, piece_count, place_count}
use Rattle.parts.specs.Shares.{all_bytes, piece_at_byte, start}

-- ---- all places

start_first : (t : Description) (n : ℕ) → start t 0 n ≡ 0
start_first t n = refl

start_last : (t : Description) (n : ℕ) → 0 < n → start t n n ≡ place_count t
start_last t n some =
    let other : nat_eq n 0 ≡ false = grind arith in
    let same : nat_eq n n ≡ true = grind arith in
    let byte : ℕ = piece_at_byte t.piece_length (place_count t) t.files (all_bytes t / n * n) in
    ap (λ b. cond b 0 (cond (nat_eq n n) (place_count t) byte)) other ∙ ap (λ b. cond b (place_count t) byte) same

-- a place that comes before where some part begins is one of an earlier part
in_earlier : (t : Description) (n x m : ℕ) → x < start t m n → (i : ℕ) × (i < m) × (start t i n ≤ x) × (x < start t (i + 1) n)
in_earlier t n x zero lt = absurd (omega (arith, lt, start_first t n))
in_earlier t n x (suc m) lt = elim (cases_lt x (start t m n)) [
  | inl before ↦ (let e = in_earlier t n x m before in (e.0, omega (arith, e.1), e.2, e.3))
  | inr after ↦ (m, omega arith, after, subst (λ k. x < start t k n) (sym (add-one m)) lt)
]

pub shares_have_all : SharesHaveAllPlaces
shares_have_all t parts some shared x lt =
    let n : ℕ = length parts in
    let e = in_earlier t n x n (subst (λ k. x < k) (sym (start_last t n some)) lt) in
    let at = item_at parts e.0 e.1 in
    (e.0, at.0, at.1, subst (λ r. Holds r x) (sym (shared e.0 at.0 at.1)) (e.2, e.3))

-- ---- counts

-- the bytes of some files are no more than their pieces
bytes_within : (pl : ℕ) (fs : List FileEntry) → 0 < pl → sum_by (λ (f : FileEntry). f.length) fs ≤ sum_by (λ (f : FileEntry). pieces_of pl f.length) fs * pl
bytes_within pl [] some = omega arith
bytes_within pl (f ∷ fs) some =
    let one = pieces_cover pl f.length some in
    let rest = bytes_within pl fs some in
    let bytes : ℕ = sum_by (λ (g : FileEntry). g.length) fs in
    let pieces : ℕ = sum_by (λ (g : FileEntry). pieces_of pl g.length) fs in
    let both : (pieces_of pl f.length + pieces) * pl ≡ pieces_of pl f.length * pl + pieces * pl = omega arith in
    let more : sum_by (λ (g : FileEntry). g.length) (f ∷ fs) ≡ f.length + bytes = sum_by-cons (λ (g : FileEntry). g.length) f fs in
    let whole : sum_by (λ (g : FileEntry). pieces_of pl g.length) (f ∷ fs) * pl ≡ (pieces_of pl f.length + pieces) * pl =
    ap (λ k. k * pl) (sum_by-cons (λ (g : FileEntry). pieces_of pl g.length) f fs) in
    omega (arith, one, rest, both, more, whole)

-- all bytes fit
pub bytes_fit : (t : Description) → IsSound t → all_bytes t < 2 ^ 63
bytes_fit t sound =
    let pl : ℕ = t.piece_length in
    let pieces : ℕ = sum_by (λ (f : FileEntry). pieces_of pl f.length) t.files in
    let short : pl ≤ 2 ^ 30 = subst (λ p. p ≤ 2 ^ 30) (sym sound.legal.3) (let le : 2 ^ sound.legal.0 ≤ 2 ^ 30 = pow-le-pow_right
    (let o : 0 < 2 = omega arith in o) sound.legal.2 in le) in
    let few : pieces ≤ 2 ^ 32 = omega (arith, sound.laid_out.pieces) in
    let most : pieces * pl ≤ 2 ^ 32 * 2 ^ 30 = mul-le-mul few short in
    omega (arith, bytes_within pl t.files (pieces_are_positive t sound), most)

-- the first byte of a part is no more than all bytes
pub part_byte : (total parts part : ℕ) → part ≤ parts → total / parts * part ≤ total
part_byte total parts part le =
    let less : total / parts * part ≤ total / parts * parts = mul-le-mul_left (total / parts) le in
    let within : total / parts * parts ≤ total = div-mul-le_self total parts in
    omega (arith, less, within)

-- a sum over the files so far, with the next one
pub sum_next : (f : FileEntry → ℕ) (t : Description) (n : ℕ) (g : FileEntry) → slice_get t.files n ≡ Some g
    → (sum_by f (take (n + 1) t.files) ≡ sum_by f (take n t.files) + f g) × (sum_by f (take n t.files) + f g ≤ sum_by f t.files)
sum_next f t n g there =
    let next : sum_by f (take (n + 1) t.files) ≡ sum_by f (take n t.files) + f g =
    sum_by_more f t.files n g (slice_get_within t.files n g there) ∙ ap (λ h. sum_by f (take n t.files) + f h) (get_or_from_slice_get t.files n g g there) in
    (next, omega (arith, next, sum_by-take-le f t.files (n + 1)))

-- the numbers of a file's pieces are small
pub few_pieces : (t : Description) (f : FileEntry) → IsSound t → IsFileOf t f → f.first_piece + piece_count t f < 2 ^ 32
few_pieces t f sound file =
    let end = sum_next (λ (g : FileEntry). piece_count t g) t file.0 f file.1 in
    omega (arith, end.1, sound.laid_out.first_pieces file.0 f file.1, sound.laid_out.pieces)

-- the place of a byte, one file on
pub place_next : (pl past : ℕ) (fs : List FileEntry) (n byte : ℕ) (f : FileEntry) → slice_get fs n ≡ Some f
    → piece_at_byte pl past (drop n fs) byte
    ≡ cond (nat_lt byte f.length) (f.first_piece + byte / pl) (piece_at_byte pl past (drop (n + 1) fs) (byte - f.length))
place_next pl past fs n byte f there =
    ap (λ xs. piece_at_byte pl past xs byte)
    (drop_more fs n f (slice_get_within fs n f there) ∙ ap (λ g. g ∷ drop (n + 1) fs) (get_or_from_slice_get fs n f f there))

pub place_here : (pl past : ℕ) (fs : List FileEntry) (n byte : ℕ) (f : FileEntry) → slice_get fs n ≡ Some f → byte < f.length
    → piece_at_byte pl past (drop n fs) byte ≡ f.first_piece + byte / pl
place_here pl past fs n byte f there lt =
    let is : nat_lt byte f.length ≡ true = grind arith in
    place_next pl past fs n byte f there ∙ ap (λ b. cond b (f.first_piece + byte / pl) (piece_at_byte pl past (drop (n + 1) fs) (byte - f.length))) is

pub place_later : (pl past : ℕ) (fs : List FileEntry) (n byte : ℕ) (f : FileEntry) → slice_get fs n ≡ Some f → f.length ≤ byte
    → piece_at_byte pl past (drop n fs) byte ≡ piece_at_byte pl past (drop (n + 1) fs) (byte - f.length)
place_later pl past fs n byte f there le =
    let is : nat_lt byte f.length ≡ false = grind arith in
    place_next pl past fs n byte f there ∙ ap (λ b. cond b (f.first_piece + byte / pl) (piece_at_byte pl past (drop (n + 1) fs) (byte - f.length))) is
