use Rattle.std.proofs.Common.{◌≡◌, ◌<◌, ◌+◌, ◌*◌, ◌^◌, is_some, ap, ◌∙◌, arith}
use Rattle.std.proofs.lemmas.Grind.{common_steps}
use Rattle.partial_tree.specs.Evidence.{given_by}
use Rattle.partial_tree.specs.FoldedRows.{place_in_row}
use Rattle.partial_tree.proofs.message.evidence.Evidence.base_row.Goals as goal

pub unwrap-requires : goal.unwrap-requires
unwrap-requires c =
    let row = c.args.row.now in
    let low : c.places.j < 2 ^ c.args.row.now.depth = omega (arith, c.places-test.true, c.count-j-end.ensures.count) in
    let at : row.node * c.count.result + c.places.j ≡ place_in_row row c.places.j = ap (λ k. row.node * k + c.places.j) c.count.ensures.count in
    ap is_some (c.given.ensures ∙ ap (given_by c.args.self.now row.layer) at ∙ (c.requires.given c.places.j low).1)

pub places-preserved : goal.places-preserved
places-preserved c = grind (arith, common_steps)
