use Rattle.std.proofs.Common.{◌≡◌, ◌<◌, length, get_or, Some, refl, sym, ap, ◌∙◌, subst, IfSome}
use Rattle.std.specs.Prelude.{slice_get}
use Rattle.hashtree.specs.Tree.{block_count, height}
use Rattle.opening.specs.Description.{Description, TreeEntry}
use Rattle.opening.specs.Seen.{tree_entry}
use Rattle.session.specs.Layouts.{root_of_entry}
use Rattle.session_exports.proofs.Entries.{no_info, entry_there, root_at}
use Rattle.session_exports.proofs.ranges.root_and_height.Goals as goal

pub unwrap-shape-requires : goal.unwrap-shape-requires
unwrap-shape-requires g c =
    let d : Description = c.lent_torrent.result.now in let infos = c.trees.result.now in let n = c.args.tree in
    let e : TreeEntry = tree_entry (get_or infos n no_info) in
    let same : c.lent_torrent-2.result.now ≡ d = c.lent_torrent-2.ensures ∙ sym c.lent_torrent.ensures in
    let there : slice_get d.trees n ≡ Some e =
    entry_there d infos n (c.trees.ensures ∙ ap (λ (x : Description). x.trees) same)
    (subst (λ (x : Description). n < length x.trees) (sym c.lent_torrent.ensures) c.requires) in
    let sound = c.recall_sound.ensures.trees n e there in
    c.of.ensures.some.1 (sound.some, sound.bound)

pub returns-clause-value : goal.returns-clause-value
returns-clause-value g c =
    let d : Description = c.args.session.now.torrent in let infos = c.trees.result.now in let n = c.args.tree in
    let e : TreeEntry = tree_entry (get_or infos n no_info) in
    let there : slice_get d.trees n ≡ Some e =
    entry_there d infos n (c.trees.ensures ∙ ap (λ (x : Description). x.trees) c.lent_torrent-2.ensures) c.requires in
    let shape : c.unwrap-shape.result ≡ e.length =
    subst (λ o. IfSome o (λ s. s ≡ e.length)) c.unwrap-shape.ensures c.of.ensures.value in
    (root_of_entry e, root_at d n e there, refl, c.height.ensures.value ∙ ap (λ k. height (block_count k)) shape)
