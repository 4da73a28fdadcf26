use Rattle.std.proofs.Common.{◌≡◌, Some, vec_len, sym, ap, ◌∙◌, inl, inr, arith}
use Rattle.std.specs.Vec.{vec_capacity}
use Rattle.std.proofs.lemmas.Option.{none-some}
use Rattle.node_maps.specs.Cell.{hash_of, hash_in}
use Rattle.node_maps.proofs.Runs.{from-start, run-pushed}
use Rattle.node_maps.proofs.page.copy_hashes.Goals as goal
use Rattle.node_maps.proofs.page.copy_hashes.Goals.{in-Empty, in-Known2}

pub cells-preserved : goal.cells-preserved
cells-preserved c =
    let f = hash_in c.args.cells.now in
    let i = c.cells.cell-index in
    elim c.match-cell.branch [
      | in-Empty w ↦
          let here = c.requires.known i c.cells-test.true in
          absurd (none-some here.0 (sym (from-start f i ∙ ap hash_of w.in-Empty.is) ∙ here.1))
      | in-Known2 w ↦
          let is : f i ≡ Some w.in-Known.hash = elim w.in-Known.is [ inl e ↦ ap hash_of e | inr e ↦ ap hash_of e ] in
          record {
            copied = ap (λ v. v.items) w.out-is ∙ run-pushed f c.args.out.now.items c.cells.out.items w.push_reserved.new.self.items i w.in-Known.hash
                c.cells.invariant.copied w.push_reserved.ensures.items is;
            len = omega (arith, ap vec_len w.out-is, w.push_reserved.ensures.len, c.cells.invariant.len);
            capacity = ap vec_capacity w.out-is ∙ w.push_reserved.ensures.capacity ∙ c.cells.invariant.capacity;
          }
    ]
