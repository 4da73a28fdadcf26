use Rattle.std.proofs.Common.{◌/◌, ◌%◌}
use Rattle.node_maps.specs.PageIndexes.{on_rows}
use Rattle.node_maps.specs.PagedRow.{pages_of}
use Rattle.node_maps.proofs.Pages.{put-spare, put-there}
use Rattle.node_maps.proofs.Numbers.{counted-same}
use Rattle.node_maps.proofs.paged_row.PagedRow.put.Goals as goal

pub invariant_of-self : goal.invariant_of-self
unfolding pages_of
invariant_of-self c =
    let row = c.args.self.now in
    let f = on_rows row.pages in
    let g = on_rows c.put.new.self in
    let q = c.args.index / 512 in
    record {
      in_use = c.put.ensures.in_use row.in_use;
      counted = counted-same f g row.count (put-there f g q (c.args.index % 512) c.args.hash c.args.mark c.put.ensures.here c.put.ensures.others c.requires)
          row.counted;
      spare = put-spare f g q (c.args.index % 512) c.args.hash c.args.mark c.put.ensures.here c.put.ensures.others row.fresh.items row.spare;
    }
