use Rattle.std.proofs.Common.{◌<◌, length, sym, ◌∙◌, subst}
use Rattle.std.proofs.lemmas.Option.{slice_get_within}
use Rattle.opening.specs.Description.{Description}
use Rattle.opening.specs.Sound.{IsSound}
use Rattle.session.proofs.BlockTrees.{IsTreeOf, has_block, some_tree, block_tree}
use Rattle.session.proofs.session.SessionOf.tree_of_block.Goals as goal

pub tree_of-requires : goal.tree_of-requires
tree_of-requires g c =
    let has = has_block _ c.args.self.now c.args.file c.args.block c.self.view_is c.requires in
    subst (λ (d : Description). c.args.file < length d.files) (sym c.lend-torrent.ensures)
    (slice_get_within (g.T.HoldsTorrent.described c.self.inside.torrent).files c.args.file has.0 has.1)

pub unwrap-requires : goal.unwrap-requires
unwrap-requires g c =
    let has = has_block _ c.args.self.now c.args.file c.args.block c.self.view_is c.requires in
    some_tree (g.T.HoldsTorrent.described c.self.inside.torrent) (subst IsSound c.lend-torrent.ensures c.recall_sound.ensures) c.args.file c.args.block has
    c.tree_of.result (subst (λ d. IsTreeOf d c.args.file c.tree_of.result) c.lend-torrent.ensures c.tree_of.ensures)

pub returns : goal.returns
returns g c =
    let (f, there, low) = has_block _ c.args.self.now c.args.file c.args.block c.self.view_is c.requires in
    let of_file = subst (λ d. IsTreeOf d c.args.file c.tree_of.result) c.lend-torrent.ensures c.tree_of.ensures in
    block_tree c.self.inside.asks _ _ c.self.invariant _ c.self.view_is (subst IsSound c.lend-torrent.ensures c.recall_sound.ensures) c.args.file
    c.args.block c.unwrap.result f there low (sym (of_file f there) ∙ c.unwrap.ensures)
