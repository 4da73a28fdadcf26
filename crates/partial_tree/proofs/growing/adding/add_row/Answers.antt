use Rattle.std.proofs.Common.{◌≡◌, ℕ, ◌+◌, ◌-◌, ◌≤◌, [], Some, inr, ap, ◌∙◌, subst, arith, slice_index_or}
use Rattle.std.specs.FinMap.{len}
use Rattle.node_maps.proofs.Nodes.{known-of, stays-added, stays-both}
use Rattle.partial_tree.specs.Grown.{AddsRow}
use Rattle.partial_tree.proofs.AddedRows.{adds-one, len-absent}
use Rattle.partial_tree.proofs.growing.adding.add_row.Goals as goal

pub places-preserved : goal.places-preserved
places-preserved g c =
    let before = c.places.invariant in
    let old = (g.N.NodeMap.seen c.args.map.now).known in
    let mid = (g.N.NodeMap.seen c.places.map).known in
    let new = (g.N.NodeMap.seen c.put.new.self).known in
    let n = c.args.from + c.places.j in
    let row = λ (i : ℕ). Some (slice_index_or c.args.hashes.now (i - c.args.from) []) in
    let low : c.args.from ≤ n = omega arith in
    let offset : n - c.args.from ≡ c.places.j = omega arith in
    let next : n + 1 ≡ c.args.from + (c.places.j + 1) = omega arith in
    let absent = before.adds.rest c.args.layer n (inr (inr (omega arith))) ∙ c.requires.absent n low in
    let put = known-of c.put.ensures.seen in
    record {
      stays = stays-both (stays-added c.put.ensures.seen) before.stays;
      room = λ i after under. c.put.ensures.keeps c.args.layer i (before.room i after under);
      adds = subst (λ k. AddsRow old c.args.layer c.args.from k row new) next
          (adds-one old c.args.layer c.args.from row mid new n (slice_index_or c.args.hashes.now c.places.j []) low before.adds
          (ap (λ k. Some (slice_index_or c.args.hashes.now k [])) offset) put (ap len put ∙ len-absent mid c.args.layer n _ absent));
    }
