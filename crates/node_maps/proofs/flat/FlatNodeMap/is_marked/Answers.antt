use Rattle.std.proofs.Common.{◌<◌, ◌≤◌, false, length, arith, sym, ◌∙◌}
use Rattle.std.proofs.lemmas.List.{get_or_past, get_or_read}
use Rattle.std.proofs.lemmas.Bool.{le-ltb}
use Rattle.node_maps.proofs.Cells.{contains-marked}
use Rattle.node_maps.proofs.flat.FlatNodeMap.is_marked.Goals as goal

pub returns-then-index-len : goal.returns-then-index-len
returns-then-index-len c =
    let marks = c.args.self.now.marks in
    let inside : c.args.index < length marks.items = omega (arith, marks.ok.0) in
    get_or_read marks.items c.args.index c.index.result.now inside c.index.ensures false ∙ sym (contains-marked marks.items c.args.index)

pub returns-else-index-len : goal.returns-else-index-len
returns-else-index-len c =
    let marks = c.args.self.now.marks in
    let past : length marks.items ≤ c.args.index = omega (arith, marks.ok.0) in
    le-ltb c.args.index c.len.result (omega arith) ∙ sym (contains-marked marks.items c.args.index ∙ get_or_past marks.items c.args.index false past)
