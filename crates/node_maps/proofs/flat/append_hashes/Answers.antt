use Rattle.std.proofs.Common.{vec_len, sym, ap, ◌∙◌, arith}
use Rattle.std.specs.Vec.{vec_capacity}
use Rattle.node_maps.specs.Flat.{hash_in_row}
use Rattle.node_maps.proofs.Runs.{from-start, run-pushed}
use Rattle.node_maps.proofs.flat.append_hashes.Goals as goal
use Rattle.node_maps.proofs.flat.append_hashes.Goals.{in-Some, in_default}

pub cells-preserved : goal.cells-preserved
cells-preserved c =
    let f = hash_in_row c.args.row.now in
    let i = c.cells.cell-index in
    elim c.match-cell.branch [
      | in-Some w ↦ record {
        copied = ap (λ v. v.items) w.out-is ∙ run-pushed f c.args.out.now.items c.cells.out.items w.push_reserved.new.self.items i w.in-Some.hash
            c.cells.invariant.copied w.push_reserved.ensures.items w.in-Some.is;
        len = omega (arith, ap vec_len w.out-is, w.push_reserved.ensures.len, c.cells.invariant.len);
        capacity = ap vec_capacity w.out-is ∙ w.push_reserved.ensures.capacity ∙ c.cells.invariant.capacity;
      }
      | in_default w ↦
          let here = c.requires.known i c.cells-test.true in
          absurd (w.in_default.not-Some here.0 (sym (from-start f i) ∙ here.1))
    ]
