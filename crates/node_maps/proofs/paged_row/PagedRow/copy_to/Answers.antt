use Rattle.std.proofs.Common.{◌+◌, ◌≤◌, ◌++◌, vec_len, sym, ap, ◌∙◌, append_assoc, arith}
use Rattle.std.specs.Vec.{vec_capacity}
use Rattle.node_maps.specs.Cell.{hash_in}
use Rattle.node_maps.specs.PageIndexes.{on_rows}
use Rattle.node_maps.specs.PagedRow.{pages_of, row_hashes}
use Rattle.node_maps.specs.Runs.{hashes_from}
use Rattle.node_maps.proofs.Runs.{known-alike, alike-back, known-part, hashes-alike, hashes-join}
use Rattle.node_maps.proofs.Parts.{page-alike, page-there}
use Rattle.node_maps.proofs.paged_row.PagedRow.copy_to.Goals as goal
use Rattle.node_maps.proofs.paged_row.PagedRow.copy_to.Goals.{in-Some, in_default}

pub copy_to-requires-clause-known : goal.copy_to-requires-clause-known
unfolding pages_of
copy_to-requires-clause-known c =
    let row = c.args.self.now in
    let part = c.first_of-part in
    let alike = page-alike (on_rows row.pages) (c.args.from + c.parts.done) part.result.number part.result.first part.result.count c.in-Some.page.now
    part.ensures.number part.ensures.first part.ensures.inside (sym c.in-Some.ensures) in
    let fits : c.parts.done + part.result.count ≤ c.args.count = omega (arith, part.ensures.most, c.parts-test.true) in
    known-alike (alike-back alike) (known-part (row_hashes row) c.args.from c.args.count c.parts.done part.result.count fits c.requires.known)

pub parts-preserved : goal.parts-preserved
unfolding pages_of
parts-preserved c =
    let row = c.args.self.now in
    let part = c.first_of-part in
    let f = row_hashes row in
    let at = c.args.from + c.parts.done in
    elim c.match-page.branch [
      | in-Some w ↦
          let alike = page-alike (on_rows row.pages) at part.result.number part.result.first part.result.count w.in-Some.page.now
          part.ensures.number part.ensures.first part.ensures.inside (sym w.in-Some.ensures) in
          record {
            copied = ap (λ v. v.items) w.out-is ∙ w.copy_to.ensures.copied
                ∙ ap (λ xs. xs ++ hashes_from (hash_in w.in-Some.page.now.kept.items) part.result.first part.result.count) c.parts.invariant.copied
                ∙ append_assoc c.args.out.now.items (hashes_from f c.args.from c.parts.done) _
                ∙ ap (λ xs. c.args.out.now.items ++ xs)
                (ap (λ xs. hashes_from f c.args.from c.parts.done ++ xs) (hashes-alike (hash_in w.in-Some.page.now.kept.items) f part.result.first at
                part.result.count alike)
                ∙ sym (hashes-join f c.args.from c.parts.done part.result.count));
            len = omega (arith, ap vec_len w.out-is, w.copy_to.ensures.len, c.parts.invariant.len);
            capacity = ap vec_capacity w.out-is ∙ w.copy_to.ensures.no_memory ∙ c.parts.invariant.capacity;
            most = omega (arith, part.ensures.most, c.parts-test.true);
          }
      | in_default w ↦
          absurd (page-there (on_rows row.pages) c.args.from c.args.count c.parts.done part.result.number part.ensures.number c.parts-test.true
          (sym w.in_default.ensures) c.requires.known)
    ]
