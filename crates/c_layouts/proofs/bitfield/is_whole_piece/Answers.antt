use Rattle.std.proofs.Common.{◌≡◌, ◌↔◌, ◌+◌, ◌-◌, ◌/◌, ◌<◌, ◌≤◌, length, lit<, sym, ap, ◌∙◌, subst, arith}
use Rattle.std.specs.Prelude.{IsTrue, slice_get, Some}
use Rattle.std.proofs.lemmas.Bool.{false≢true}
use Rattle.std.proofs.lemmas.Option.{same_Some, slice_get_within}
use Rattle.opening.specs.Description.{Description, FileEntry}
use Rattle.opening.specs.Sound.{IsSound}
use Rattle.pieces.proofs.Legal.{legal_bounds, rounded_up}
use Rattle.c_layouts.specs.Marks.{AreLeavesMarked}
use Rattle.c_layouts.specs.Places.{IsPieceInfo}
use Rattle.c_layouts.specs.Torrents.{torrent_piece_count}
use Rattle.c_layouts.proofs.Piecing.{piece_begins}
use Rattle.c_layouts.proofs.Whole.{end_of, piece_low, piece_marked, some_tree, state_there, tree_low, whole_piece}
use Rattle.c_layouts.proofs.bitfield.is_whole_piece.Goals as goal

pub returns-in_default : goal.returns-in_default
returns-in_default c =
    let S = c.args.session.now in let sound = subst IsSound c.torrent-torrent.ensures c.recall_sound.ensures in
    let past = subst (λ d. torrent_piece_count d ≤ c.args.piece) c.torrent-torrent.ensures c.in_default.ensures in (
      λ e. absurd (false≢true e),
      λ w. absurd (omega (arith, past, piece_low S.torrent c.args.piece w.number w.file sound.laid_out w.file_is w.in_file)),
    )

pub tree_of-requires : goal.tree_of-requires
tree_of-requires c = slice_get_within c.torrent-torrent.result.now.files c.in-Some.info.file c.in-Some.ensures.file c.in-Some.ensures.file_is

pub returns-in_default-tree_of : goal.returns-in_default-tree_of
returns-in_default-tree_of c =
    let p = c.in-Some.ensures in
    absurd (some_tree c.torrent-torrent.result.now c.args.piece c.in-Some.info.file p.file c.recall_sound.ensures p.file_is p.in_file
    (sym (c.tree_of.ensures p.file p.file_is) ∙ c.in_default-tree_of.is))

pub overflow_add-end : goal.overflow_add-end
overflow_add-end c =
    let d = c.torrent-torrent.result.now in let p = c.in-Some.ensures in let sound = c.recall_sound.ensures in
    let some : 0 < d.piece_length = omega (arith, (legal_bounds d.piece_length sound.legal).0) in
    let begins = piece_begins d.piece_length (c.args.piece - p.file.first_piece) p.file.length some (omega (arith, p.in_file.from, p.in_file.to)) in
    let blocks : c.div_ceil.result ≡ (c.in-Some.info.length + 16383) / 16384 = c.div_ceil.ensures ∙ rounded_up c.in-Some.info.length 16384 (lit< tt) in
    omega (arith, begins, (sound.files c.in-Some.info.file p.file p.file_is).bound, p.offset_is, p.block_is, p.length_is, blocks)

pub are_marked-requires : goal.are_marked-requires
are_marked-requires c =
    let p = c.in-Some.ensures in
    let low = tree_low c.torrent-torrent.result.now c.in-Some.info.file c.in-Some-tree_of.tree p.file c.recall_sound.ensures p.file_is
    (sym (c.tree_of.ensures p.file p.file_is) ∙ c.in-Some-tree_of.is) in
    subst (λ d. c.in-Some-tree_of.tree < length d.trees) c.torrent-torrent.ensures low

pub returns : goal.returns
returns c =
    let S = c.args.session.now in let info = c.in-Some.info in let tree = c.in-Some-tree_of.tree in let q = c.in-Some.ensures in
    let sound = subst IsSound c.torrent-torrent.ensures c.recall_sound.ensures in
    let p = subst (λ d. IsPieceInfo d c.args.piece info) c.torrent-torrent.ensures q in
    let there : slice_get S.torrent.files info.file ≡ Some q.file =
    subst (λ (d : Description). slice_get d.files info.file ≡ Some q.file) c.torrent-torrent.ensures q.file_is in
    let file : p.file ≡ q.file = same_Some p.file q.file (sym p.file_is ∙ there) in
    let is : p.file.tree ≡ Some tree =
    ap (λ (f : FileEntry). f.tree) file ∙ sym (c.tree_of.ensures q.file q.file_is) ∙ c.in-Some-tree_of.is in
    let at = state_there S tree c.recall_closed_trees.ensures (tree_low S.torrent info.file tree p.file sound p.file_is is) in
    let end : info.block + c.div_ceil.result ≡ end_of info =
    ap (λ n. info.block + n) (c.div_ceil.ensures ∙ rounded_up info.length 16384 (lit< tt)) in
    let has = subst (λ n. IsTrue c.are_marked.result ↔ AreLeavesMarked at.0 info.block n) end (c.are_marked.ensures at.0 at.1) in (
      λ all. whole_piece S c.args.piece tree info at.0 sound p is at.1 (has.0 all),
      λ whole. has.1 (piece_marked S c.args.piece tree info at.0 sound p is at.1 whole),
    )
