use Rattle.std.proofs.Common.{◌≡◌, ◌<◌, Some, map, sym, ap, ◌∙◌, subst}
use Rattle.std.specs.Prelude.{slice_get}
use Rattle.std.proofs.lemmas.Bool.{ltb-true, lt-ltb}
use Rattle.std.proofs.lemmas.Option.{slice_get-get_or}
use Rattle.opening.specs.Description.{Description}
use Rattle.opening.specs.Seen.{tree_entry}
use Rattle.btcheck_c.proofs.TreeBlocks.{tree_at, block_of}
use Rattle.btcheck_c.proofs.trees.has_block.Goals as goal

pub returns-in-Some : goal.returns-in-Some
returns-in-Some c =
    let d : Description = c.args.torrent.now in
    let n = c.args.tree in let infos = c.trees.result.now in let info = c.in-Some.info.now in
    let at : slice_get infos n ≡ Some info =
    slice_get-get_or infos n info c.in-Some.ensures.lookup.3.0 ∙ ap Some (sym (c.in-Some.ensures.lookup.3.1 info)) in
    let there = tree_at d infos n info c.trees.ensures at in (
      λ low. (tree_entry info, there, subst (λ count. c.args.block < count) c.blocks_in.ensures (ltb-true c.args.block c.blocks_in.result low)),
      λ has. lt-ltb c.args.block c.blocks_in.result
          (subst (λ count. c.args.block < count) (sym c.blocks_in.ensures) (block_of d n c.args.block (tree_entry info) there has)),
    )
