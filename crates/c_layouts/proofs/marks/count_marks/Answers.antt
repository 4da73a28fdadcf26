use Rattle.std.proofs.Common.{◌<◌, length, lit<, ◌∙◌, subst}
use Rattle.std.specs.Prelude.{IfSome, slice_get, Some}
use Rattle.std.proofs.Common.{◌≡◌}
use Rattle.opening.specs.Description.{Description}
use Rattle.opening.specs.Seen.{file_entry}
use Rattle.opening.proofs.Placing.{file_there}
use Rattle.pieces.proofs.Legal.{rounded_up}
use Rattle.c_layouts.proofs.Entries.{tree_inside}
use Rattle.c_layouts.proofs.marks.count_marks.Goals as goal

pub marks_of-requires : goal.marks_of-requires
marks_of-requires c =
    let d = c.torrent-torrent.result.now in let n = c.args.number in let file = c.in-Some.file.now in
    let there = file_there d c.files.result.now n file c.files.ensures c.in-Some.ensures.lookup.3.0 (c.in-Some.ensures.lookup.3.1 file) in
    subst (λ (e : Description). IfSome file.tree (λ t. t < length e.trees)) c.torrent-torrent.ensures
    (tree_inside d (file_entry file) (c.recall_sound.ensures.files n (file_entry file) there))

pub returns-in-Some : goal.returns-in-Some
returns-in-Some c =
    let d = c.torrent-torrent.result.now in let n = c.args.number in let file = c.in-Some.file.now in
    let there = file_there d c.files.result.now n file c.files.ensures c.in-Some.ensures.lookup.3.0 (c.in-Some.ensures.lookup.3.1 file) in record {
      file = file_entry file;
      file_is = subst (λ (e : Description). slice_get e.files n ≡ Some (file_entry file)) c.torrent-torrent.ensures there;
      marked_is = c.marks_of.ensures;
      blocks_is = c.div_ceil.ensures ∙ rounded_up file.length 16384 (lit< tt);
    }
