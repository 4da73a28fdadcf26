-- The pieces of a session whose blocks are all marked.
use Rattle.std.proofs.Common.{◌≡◌, ℕ, ◌+◌, ◌-◌, ◌*◌, ◌/◌, ◌<◌, ◌≤◌, length, min, take, Some, None, sym, ap, ◌∙◌, subst, inl, inr, arith}
use Rattle.std.specs.Prelude.{slice_get, sum_by}
use Rattle.std.specs.FinSet as set
use Rattle.std.proofs.lemmas.Bool.{cases_lt}
use Rattle.std.proofs.lemmas.List.{length-map, take_all}
use Rattle.std.proofs.lemmas.Option.{same_Some, slice_get_cases, slice_get_within}
use Rattle.hashtree.specs.Tree.{block_count}
use Rattle.opening.specs.Description.{Description, FileEntry}
use Rattle.opening.specs.Places.{AreLaidOut}
use Rattle.opening.specs.Sound.{IsSound}
use Rattle.opening.proofs.Placing.{sum_grows}
use Rattle.pieces.specs.Pieces.{pieces_of}
use Rattle.pieces.proofs.Legal.{legal_bounds}
use Rattle.session.specs.Layouts.{root_of_entry}
use Rattle.session.specs.Session.{SessionSeen, TreeState, HasClosedTrees}
use Rattle.c_layouts.specs.Marks.{AreLeavesMarked, IsWholePiece, begin_of}
use Rattle.c_layouts.specs.Places.{IsPieceInfo, IsPieceOf}
use Rattle.c_layouts.specs.Torrents.{torrent_piece_count}
use Rattle.c_layouts.specs.declared.piece_info.PieceInfo.{PieceInfo}
use Rattle.c_layouts.proofs.Piecing.{piece_begins}

-- ---- a piece has one file

-- a piece of a file is one of the torrent's
pub piece_low : (d : Description) (piece n : ℕ) (f : FileEntry) → AreLaidOut d.piece_length d.files → slice_get d.files n ≡ Some f → IsPieceOf d f piece
    → piece < torrent_piece_count d
piece_low d piece n f laid there lies =
    let F : FileEntry → ℕ = λ g. pieces_of d.piece_length g.length in
    let all : take (length d.files) d.files ≡ d.files = take_all (length d.files) d.files (omega arith) in
    let grows = sum_grows d.piece_length n (length d.files) d.files f there (slice_get_within d.files n f there) in
    omega (arith, grows, ap (sum_by F) all, laid.first_pieces n f there, lies.to)

apart : (d : Description) (piece i j : ℕ) (f g : FileEntry) → AreLaidOut d.piece_length d.files → slice_get d.files i ≡ Some f
    → slice_get d.files j ≡ Some g → IsPieceOf d f piece → IsPieceOf d g piece → i < j → ⊥
apart d piece i j f g laid there there' lies lies' lt =
    let grows = sum_grows d.piece_length i j d.files f there lt in
    absurd (omega (arith, grows, laid.first_pieces i f there, laid.first_pieces j g there', lies.to, lies'.from))

pub one_file : (d : Description) (piece i j : ℕ) (f g : FileEntry) → AreLaidOut d.piece_length d.files → slice_get d.files i ≡ Some f
    → slice_get d.files j ≡ Some g → IsPieceOf d f piece → IsPieceOf d g piece → f ≡ g
one_file d piece i j f g laid there there' lies lies' = elim (cases_lt i j) as (λ _. f ≡ g) [
  | inl lt ↦ absurd (apart d piece i j f g laid there there' lies lies' lt)
  | inr le ↦ elim (cases_lt j i) as (λ _. f ≡ g) [
    | inl lt ↦ absurd (apart d piece j i g f laid there' there lies' lies lt)
    | inr ge ↦
        let same : i ≡ j = omega (arith, le, ge) in
        same_Some f g (sym there ∙ ap (slice_get d.files) same ∙ there')
  ]
]

-- ---- its tree

-- a file with a piece is not empty
pub some_tree : (d : Description) (piece n : ℕ) (f : FileEntry) → IsSound d → slice_get d.files n ≡ Some f → IsPieceOf d f piece → f.tree ≡ None → ⊥
some_tree d piece n f sound there lies none =
    let some : 0 < d.piece_length = omega (arith, (legal_bounds d.piece_length sound.legal).0) in
    let begins = piece_begins d.piece_length (piece - f.first_piece) f.length some (omega (arith, lies.from, lies.to)) in
    absurd (omega (arith, begins, (sound.files n f there).no_tree none))

pub tree_low : (d : Description) (n t : ℕ) (f : FileEntry) → IsSound d → slice_get d.files n ≡ Some f → f.tree ≡ Some t → t < length d.trees
tree_low d n t f sound there is =
    let tree = (sound.files n f there).tree_there t is in slice_get_within d.trees t tree.0 tree.1

pub state_there : (S : SessionSeen) (t : ℕ) → HasClosedTrees S → t < length S.torrent.trees → (s : TreeState) × (slice_get S.trees t ≡ Some s)
state_there S t closed low =
    let count : length S.trees ≡ length S.torrent.trees = closed.count ∙ length-map S.torrent.trees root_of_entry in
    elim ((slice_get_cases S.trees t).1) as (λ _. (s : TreeState) × (slice_get S.trees t ≡ Some s)) [
      | inl at ↦ (at.0, at.2)
      | inr past ↦ absurd (omega (arith, past.0, count, low))
    ]

-- ---- its blocks

-- where the blocks of a piece end, in its file
abbrev pub end_of : PieceInfo → ℕ
end_of p = p.block + (p.length + 16383) / 16384

-- a block that lies in the piece is one of its range
in_range : (b block begin piece_length len size : ℕ) → begin ≡ 16384 * block → size ≡ min piece_length (len - begin) → b < block_count len
    → begin ≤ 16384 * b → 16384 * b < begin + piece_length → (block ≤ b) × (b < block + (size + 16383) / 16384)
in_range b block begin piece_length len size begin_is size_is low from to =
    (omega (arith, begin_is, from), omega (arith, begin_is, size_is, low, from, to))

-- and the other way round
of_range : (b block begin piece_length len size : ℕ) → begin ≡ 16384 * block → size ≡ min piece_length (len - begin) → block ≤ b
    → b < block + (size + 16383) / 16384 → (b < block_count len) × (begin ≤ 16384 * b) × (16384 * b < begin + piece_length)
of_range b block begin piece_length len size begin_is size_is from to =
    (omega (arith, begin_is, size_is, from, to), omega (arith, begin_is, from), omega (arith, begin_is, size_is, from, to))

module _ (S : SessionSeen) (piece t : ℕ) (p : PieceInfo) (s : TreeState) (sound : IsSound S.torrent) (is : IsPieceInfo S.torrent piece p)
    (tree_is : is.file.tree ≡ Some t) (state_is : slice_get S.trees t ≡ Some s)
  where
    size_is : p.length ≡ min S.torrent.piece_length (is.file.length - begin_of S.torrent is.file piece)
    size_is = is.length_is ∙ ap (λ n. min S.torrent.piece_length (is.file.length - n)) is.offset_is

    begin_is : begin_of S.torrent is.file piece ≡ 16384 * p.block
    begin_is = sym is.offset_is ∙ is.block_is

    -- all of its blocks are marked
    pub whole_piece : AreLeavesMarked s p.block (end_of p) → IsWholePiece S piece
    whole_piece all = record {
      number = p.file;
      file = is.file;
      file_is = is.file_is;
      in_file = is.in_file;
      tree = t;
      tree_is = tree_is;
      state = s;
      state_is = state_is;
      marked = λ b low from to.
          let at = in_range b p.block (begin_of S.torrent is.file piece) S.torrent.piece_length is.file.length p.length begin_is size_is low from to in
          all b at.0 at.1;
    }

    pub piece_marked : IsWholePiece S piece → AreLeavesMarked s p.block (end_of p)
    piece_marked w = λ b from to.
        let same : w.file ≡ is.file = one_file S.torrent piece w.number p.file w.file is.file sound.laid_out w.file_is is.file_is w.in_file is.in_file in
        let at = of_range b p.block (begin_of S.torrent is.file piece) S.torrent.piece_length is.file.length p.length begin_is size_is from to in
        let tree : w.tree ≡ t = same_Some w.tree t (sym w.tree_is ∙ ap (λ (f : FileEntry). f.tree) same ∙ tree_is) in
        let state : w.state ≡ s = same_Some w.state s (sym w.state_is ∙ ap (slice_get S.trees) tree ∙ state_is) in
        let begin : begin_of S.torrent w.file piece ≡ begin_of S.torrent is.file piece = ap (λ f. begin_of S.torrent f piece) same in
        let there : b < block_count w.file.length = subst (λ (f : FileEntry). b < block_count f.length) (sym same) at.0 in
        ap (λ (x : TreeState). set.contains x.marked b) (sym state) ∙ w.marked b there (omega (arith, begin, at.1)) (omega (arith, begin, at.2))
