use Rattle.std.proofs.Common.{◌++◌, sym, ap, ◌∙◌}
use Rattle.node_maps.specs.Flat.{cells}
use Rattle.node_maps.proofs.Cells.{look-cells}
use Rattle.node_maps.proofs.Runs.{alike-each, alike-back, known-alike, hashes-alike}
use Rattle.node_maps.proofs.flat.FlatNodeMap.copy_to.Goals as goal

pub copy_hashes-requires-clause-known : goal.copy_hashes-requires-clause-known
copy_hashes-requires-clause-known c =
    let map = c.args.self.now in
    known-alike (alike-back (alike-each (λ i. c.row_of.ensures i ∙ ap (λ rows. cells rows c.args.layer i) c.deref.ensures.value
    ∙ sym (look-cells map.height map.rows.items map.in_tree c.args.layer i)) c.args.from c.args.count))
    c.requires.known

pub returns-clause-copied : goal.returns-clause-copied
returns-clause-copied c =
    let map = c.args.self.now in
    c.copy_hashes.ensures.copied ∙ ap (λ xs. c.args.out.now.items ++ xs)
    (hashes-alike _ _ c.args.from c.args.from c.args.count
    (alike-each (λ i. c.row_of.ensures i ∙ ap (λ rows. cells rows c.args.layer i) c.deref.ensures.value
    ∙ sym (look-cells map.height map.rows.items map.in_tree c.args.layer i)) c.args.from c.args.count))
