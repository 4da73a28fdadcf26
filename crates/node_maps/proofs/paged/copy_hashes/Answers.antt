use Rattle.std.proofs.Common.{◌++◌, sym, ap, ◌∙◌, append-nil}
use Rattle.node_maps.specs.Paged.{hashes}
use Rattle.node_maps.proofs.Paging.{row-hashes, no_row-hashes}
use Rattle.node_maps.proofs.Runs.{alike-each, alike-back, known-alike, hashes-alike, some-known, none-hashes}
use Rattle.node_maps.proofs.paged.copy_hashes.Goals as goal

pub copy_to-requires-clause-known : goal.copy_to-requires-clause-known
copy_to-requires-clause-known c =
    known-alike (alike-back (alike-each (row-hashes c.args.rows.now c.args.layer c.index-rows-layer.result c.if-layer-rows.true c.index-rows-layer.is)
    c.args.from c.args.count)) c.requires.known

pub returns-then-layer-rows-clause-copied : goal.returns-then-layer-rows-clause-copied
returns-then-layer-rows-clause-copied c =
    c.copy_to.ensures.copied ∙ ap (λ xs. c.args.out.now.items ++ xs)
    (hashes-alike _ _ c.args.from c.args.from c.args.count
    (alike-each (row-hashes c.args.rows.now c.args.layer c.index-rows-layer.result c.if-layer-rows.true c.index-rows-layer.is) c.args.from c.args.count))

pub returns-else-layer-rows-clause-copied : goal.returns-else-layer-rows-clause-copied
returns-else-layer-rows-clause-copied c =
    let f = hashes c.args.rows.now c.args.layer in
    let none = some-known f c.args.from c.args.count (no_row-hashes c.args.rows.now c.args.layer c.if-layer-rows.false) c.requires.known in
    sym (ap (λ xs. c.args.out.now.items ++ xs) (none-hashes f c.args.from c.args.count none) ∙ append-nil c.args.out.now.items)
