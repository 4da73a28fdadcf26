use Rattle.std.proofs.Common.{◌≡◌, arith, length, vec_len}
use Rattle.node_maps.proofs.Cells.{marked-longer}
use Rattle.node_maps.proofs.flat.add_marks.Goals as goal

pub returns-in_ok-resize-clause-marked : goal.returns-in_ok-resize-clause-marked
returns-in_ok-resize-clause-marked c =
    let len : vec_len c.args.marks.now ≡ length c.args.marks.now.items = omega (arith, c.args.marks.now.ok.0) in
    marked-longer c.args.marks.now.items c.resize.new.self.items c.args.end (vec_len c.args.marks.now) len (omega arith) c.in_ok-resize.ensures.items
