use Rattle.std.proofs.Common.{length, refl, sym, ap, ◌∙◌}
use Rattle.std.proofs.lemmas.List.{length-map}
use Rattle.opening.specs.Description.{Description}
use Rattle.opening.specs.Seen.{file_entry, tree_entry}
use Rattle.btcheck_c.proofs.file_calls.count_files.Goals as goal

pub returns-clause-done : goal.returns-clause-done
returns-clause-done c =
    let files = sym (length-map c.files.result.now file_entry) ∙ ap length c.files.ensures
    ∙ ap (λ (d : Description). length d.files) c.torrent.ensures in
    let trees = sym (length-map c.trees.result.now tree_entry) ∙ ap length c.trees.ensures
    ∙ ap (λ (d : Description). length d.trees) c.torrent-2.ensures in
    (refl, (refl, (files, trees)))
