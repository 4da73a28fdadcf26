use Rattle.std.proofs.Common.{◌≡◌, ◌+◌, ◌<◌, ◌++◌, List, ℕ, drop, get_or, length, map, ap, arith}
use Rattle.std.proofs.lemmas.Result.{err_from_is_err_and}
use Rattle.lines.specs.Rows.{Spelling, spell}
use Rattle.opening.specs.Description.{TreeEntry}
use Rattle.opening.specs.declared.torrent.File.{File}
use Rattle.opening.specs.Seen.{file_entry, tree_entry}
use Rattle.printing.proofs.Parts.{item_next, sent_fault, sent_next}
use Rattle.torrent_lines.specs.Rows.{entry_row, entry_rows}
use Rattle.torrent_lines.proofs.showing.say_files.Goals as goal

-- the line at an index, and those behind it
next_line : (spelled : Spelling) (trees : List TreeEntry) (files : List File) (i : ℕ) (file : File) → i < length files → file ≡ get_or files i file
    → spell spelled (entry_rows trees (map file_entry (drop i files)))
    ≡ spelled (entry_row trees (file_entry file)) ++ spell spelled (entry_rows trees (map file_entry (drop (i + 1) files)))
next_line spelled trees files i file lt there =
    ap (λ fs. spell spelled (entry_rows trees (map file_entry fs))) (item_next files i file lt there)

pub returns-in_err-say_file : goal.returns-in_err-say_file
returns-in_err-say_file g c =
    let next = next_line g.L.LineSink.spelled (map tree_entry c.args.trees.now) c.args.files.now c.files.file-index c.file-item.result (omega arith)
    c.file-item.is in
    let p = err_from_is_err_and c.from_residual.result c.from_residual.ensures.1 in
    sent_fault _ p.0 _ _ _ _ _ _ _ c.files.invariant next p.1 c.in_err-say_file.ensures

pub files-preserved : goal.files-preserved
files-preserved g c =
    let next = next_line g.L.LineSink.spelled (map tree_entry c.args.trees.now) c.args.files.now c.files.file-index c.file-item.result (omega arith)
    c.file-item.is in
    sent_next _ _ _ _ _ _ _ c.files.invariant next c.in_ok-say_file.ensures
