use Rattle.std.proofs.Common.{◌≡◌, ◌≤◌, length, sym, ap, ◌∙◌, subst, arith}
use Rattle.std.proofs.lemmas.List.{length-map}
use Rattle.std.proofs.lemmas.Option.{slice_get_past}
use Rattle.session.specs.Layouts.{tree_number}
use Rattle.opening.specs.Seen.{file_entry}
use Rattle.replays.proofs.Named.{tree-there}
use Rattle.replays.proofs.naming.tree_of_file.Goals as goal

pub returns-then-file-files-clause-there : goal.returns-then-file-files-clause-there
returns-then-file-files-clause-there c =
    let count : length c.files.result.now ≡ length c.args.torrent.now.files =
    sym (length-map c.files.result.now file_entry) ∙ ap length c.files.ensures in
    tree-there c.args.torrent.now c.args.file c.tree_of.result c.recall_sound.ensures (omega (arith, count, c.if-file-files.true)) c.tree_of.ensures

pub returns-else-file-files-clause-value : goal.returns-else-file-files-clause-value
returns-else-file-files-clause-value c =
    let count : length c.files.result.now ≡ length c.args.torrent.now.files =
    sym (length-map c.files.result.now file_entry) ∙ ap length c.files.ensures in
    sym (ap tree_number (slice_get_past c.args.torrent.now.files c.args.file (omega (arith, count, c.if-file-files.false))))
