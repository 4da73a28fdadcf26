-- What is held of the pieces of a torrent's trees.
use Rattle.std.specs.Prelude.{◌≡◌, ◌⊎◌, ℕ, ◌+◌, ◌-◌, ◌/◌, ◌^◌, ◌<◌, ◌≤◌, max, min}
use Rattle.std.specs.Prelude.{is_some, sum_by, count_by, List, map, length, set, replicate, Option, Some, None, refl}
use Rattle.std.specs.Coded.{Coded, code_by, coded×, coded_list, coded_option, coded_ℕ}
use Rattle.std.specs.FinMap as finite
use Rattle.std.specs.FinMap.{FinMap, get, insert, remove, len}
use Rattle.node_maps.specs.Digest.{Hash}
use Rattle.node_maps.specs.Known.{place_cmp}
use Rattle.fixed_maps.specs.FixedMaps.{FixedMapSeen, map_of, map_room, most_room}
use Rattle.holdings.specs.Cells.{Cells, digest_in}
use Rattle.holdings.specs.Settling.{run_of}
use Rattle.holdings.specs.declared.piece_range.Pieces.{Pieces}
use Rattle.holdings.specs.declared.run.Run.{Run}

-- of one piece: its cells, and when its newest block came
pub record PieceSeen : Type 0 where
  pub cells : Cells
  pub newest : ℕ

-- the held pieces, each by its tree and its first block there; how many there may be, and how many
-- blocks each may have; and the time, which is how often a digest was held
pub record HoldingsSeen : Type 0 where
  pub pieces : FinMap place_cmp PieceSeen
  pub most : ℕ
  pub longest : ℕ
  pub clock : ℕ

-- all pieces of tree n
abbrev pub all_pieces : ℕ → Pieces
all_pieces n = record { tree = n; from = 0; end = 2 ^ 64 - 1 }

-- how many pieces may be held, by the bound on the blocks held and the blocks of the longest piece:
-- at least one, and 2^31 at most
abbrev pub most_pieces : ℕ → ℕ → ℕ
most_pieces bound longest = min (max (bound / max longest 1) 1) (2 ^ 31)

abbrev pub digest_of : Option PieceSeen → ℕ → Option Hash
digest_of None j = None
digest_of (Some x) j = digest_in x.cells j

-- the digest that is held of block j of the piece of tree n from block `first` on
abbrev pub held_at : HoldingsSeen → ℕ → ℕ → ℕ → Option Hash
held_at h n first j = digest_of (get h.pieces (n, first)) j

-- how many digests are held of a piece
abbrev pub held_in : Cells → ℕ
held_in cells = count_by is_some cells

-- how many digests are held
abbrev pub held_count : HoldingsSeen → ℕ
held_count h = sum_by (λ x. held_in x.cells) (finite.values h.pieces)

-- with these cells of a piece, whose newest block comes now
abbrev pub with_piece : HoldingsSeen → ℕ × ℕ → Cells → HoldingsSeen
with_piece h q cells = record h {
  pieces = insert h.pieces q (record { cells = cells; newest = h.clock });
  clock = h.clock + 1;
}

-- without a piece
abbrev pub without_piece : HoldingsSeen → ℕ × ℕ → HoldingsSeen
without_piece h q = record h { pieces = remove h.pieces q }

-- of the held pieces this one's newest block came longest ago
pub record IsOldest (h : HoldingsSeen) (q : ℕ × ℕ) (x : PieceSeen) : Type 0 where
  pub there : get h.pieces q ≡ Some x
  pub oldest : (r : ℕ × ℕ) (y : PieceSeen) → get h.pieces r ≡ Some y → x.newest ≤ y.newest

-- all blocks of this piece give way
pub record GivesWay (h : HoldingsSeen) (run : Run) (h' : HoldingsSeen) : Type 0 where
  pub piece : ℕ × ℕ
  pub seen : PieceSeen
  pub is_oldest : IsOldest h piece seen
  pub full : h.most ≤ len h.pieces
  pub run_is : run ≡ run_of piece.0 piece.1 0 (length seen.cells - 1)
  pub after : h' ≡ without_piece h piece

-- there is room for one more piece, or the oldest gives way
abbrev pub MakesRoom : HoldingsSeen → Option Run → HoldingsSeen → Type 0
MakesRoom h None h' = (len h.pieces < h.most) × (h' ≡ h)
MakesRoom h (Some run) h' = GivesWay h run h'

-- something is held of the piece, and now also this digest of its block j
pub record Renews (h : HoldingsSeen) (q : ℕ × ℕ) (j : ℕ) (d : Hash) (h' : HoldingsSeen)
    : Type 0 where
  pub seen : PieceSeen
  pub there : get h.pieces q ≡ Some seen
  pub inside : j < length seen.cells
  pub after : h' ≡ with_piece h q (set seen.cells j (Some d))

-- nothing was held of the piece of `size` blocks, and now this digest of its block j
pub record BeginsPiece (h : HoldingsSeen) (q : ℕ × ℕ) (size j : ℕ) (d : Hash) (dropped : Option Run)
    (h' : HoldingsSeen) : Type 0 where
  pub absent : get h.pieces q ≡ None
  pub between : HoldingsSeen
  pub room : MakesRoom h dropped between
  pub after : h' ≡ with_piece between q (set (replicate size None) j (Some d))

-- no digest can be held of block j of the piece of `size` blocks: as many were held as a number of
-- 64 bits says; or the piece is held with fewer blocks, or it is not held and has more than a piece
-- may have, so that it is one of another torrent
abbrev pub CannotKeep : HoldingsSeen → ℕ × ℕ → ℕ → ℕ → Type 0
CannotKeep h q size j = (h.clock + 1 ≡ 2 ^ 64)
    ⊎ (((x : PieceSeen) × (get h.pieces q ≡ Some x) × (length x.cells ≤ j))
    ⊎ ((get h.pieces q ≡ None) × (h.longest < size)))

-- the digest is held of block j of the piece, in place of an older one
abbrev pub KeepsDigest : HoldingsSeen → ℕ × ℕ → ℕ → ℕ → Hash → Option Run → HoldingsSeen → Type 0
KeepsDigest h q size j d dropped h' = ((dropped ≡ None) × Renews h q j d h')
    ⊎ BeginsPiece h q size j d dropped h'

-- ---- as it is kept

-- the held pieces, for how many there is room, and how many blocks each may have
pub record KeptPieces : Type 0 where
  pub pieces : FinMap place_cmp PieceSeen
  pub room : ℕ
  pub width : ℕ

-- an ordered map from times, behind a zero, to the pieces whose newest block came then
abbrev pub KeptAges : Type 0
KeptAges = FixedMapSeen

-- the piece whose newest block came at a time
abbrev pub age_at : KeptAges → ℕ → Option (ℕ × ℕ)
age_at ages t = get (map_of ages) (0, t)

-- what contracts see of a piece, if it is there
abbrev pub seen_at : KeptPieces → ℕ × ℕ → Option PieceSeen
seen_at m q = get m.pieces q

-- what contracts see of it
abbrev pub seen_holdings : KeptPieces → ℕ → ℕ → HoldingsSeen
seen_holdings m most clock =
    record { pieces = m.pieces; most = most; longest = m.width; clock = clock }

-- with this of a piece
abbrev pub with_table_piece : KeptPieces → ℕ × ℕ → PieceSeen → KeptPieces
with_table_piece m q x = record m { pieces = insert m.pieces q x }

-- the digest of a block of a piece that is there is written
pub record WritesCell (m : KeptPieces) (q : ℕ × ℕ) (j : ℕ) (d : Hash) (now : ℕ) (m' : KeptPieces)
    : Type 0 where
  pub seen : PieceSeen
  pub there : seen_at m q ≡ Some seen
  pub inside : j < length seen.cells
  pub after : m' ≡ with_table_piece m q (record { cells = set seen.cells j (Some d); newest = now })

-- the blocks of a piece are numbers of 64 bits, and it has 2^32 at most
abbrev pub IsLowPiece : ℕ × ℕ → PieceSeen → Type 0
IsLowPiece q x = (q.1 + length x.cells < 2 ^ 64) × (length x.cells ≤ 2 ^ 32)

-- each piece stands at its time among the ages, and nothing else stands there; each time is past,
-- and each piece is low
pub record IsAged (piece : ℕ × ℕ → Option PieceSeen) (age : ℕ → Option (ℕ × ℕ)) (clock : ℕ)
    : Type 0 where
  pub at : (q : ℕ × ℕ) (x : PieceSeen) → piece q ≡ Some x → age x.newest ≡ Some q
  pub of : (t : ℕ) (q : ℕ × ℕ) → age t ≡ Some q
      → (x : PieceSeen) × (piece q ≡ Some x) × (x.newest ≡ t)
  pub past : (t : ℕ) (q : ℕ × ℕ) → age t ≡ Some q → t < clock
  pub low : (q : ℕ × ℕ) (x : PieceSeen) → piece q ≡ Some x → IsLowPiece q x

-- the same of the two maps, which have as many entries; each age stands behind a zero; there are no
-- more pieces than there may be; and memory was asked for one more, and not for more than that
pub record IsKept (pieces : KeptPieces) (ages : KeptAges) (most clock : ℕ) : Type 0 where
  pub aged : IsAged (seen_at pieces) (age_at ages) clock
  pub zero : (k q : ℕ × ℕ) → get (map_of ages) k ≡ Some q → k.0 ≡ 0
  pub as_many : len (map_of ages) ≡ len pieces.pieces
  pub some : 0 < most
  pub many : most ≤ 2 ^ 31
  pub few : len pieces.pieces ≤ most
  pub room : pieces.room ≡ most + 1
  pub ages_room : most < map_room ages
  pub few_ages : map_room ages ≤ most_room (most + 1)

abbrev cells_code : Coded Cells
cells_code = coded_list (coded_option (coded_list coded_ℕ))

abbrev pub piece_code : Coded PieceSeen
piece_code = code_by (Cells × ℕ) (coded× cells_code coded_ℕ) (λ x. (x.cells, x.newest))
    (λ p. record { cells = p.0; newest = p.1 }) (λ _. refl)

abbrev pub holdings_code : Coded HoldingsSeen
holdings_code = code_by (FinMap place_cmp PieceSeen × (ℕ × (ℕ × ℕ)))
    (coded× (finite.code (coded× coded_ℕ coded_ℕ) piece_code)
    (coded× coded_ℕ (coded× coded_ℕ coded_ℕ)))
    (λ h. (h.pieces, (h.most, (h.longest, h.clock))))
    (λ p. record { pieces = p.0; most = p.1.0; longest = p.1.1.0; clock = p.1.1.1 }) (λ _. refl)

abbrev pub kept_code : Coded KeptPieces
kept_code = code_by (FinMap place_cmp PieceSeen × (ℕ × ℕ))
    (coded× (finite.code (coded× coded_ℕ coded_ℕ) piece_code) (coded× coded_ℕ coded_ℕ))
    (λ h. (h.pieces, (h.room, h.width)))
    (λ p. record { pieces = p.0; room = p.1.0; width = p.1.1 }) (λ _. refl)
