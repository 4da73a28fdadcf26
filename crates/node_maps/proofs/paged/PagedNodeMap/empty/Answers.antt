use Rattle.std.proofs.Common.{length, sym, ap, ap₂, ◌∙◌}
use Rattle.std.specs.FinSet as set
use Rattle.std.specs.FinSet.{same_set, contains-empty, nat_cmp-IsAntisymmetric}
use Rattle.std.specs.Ordering.{nat_cmp}
use Rattle.std.specs.Cmp.{nat_cmp_total}
use Rattle.node_maps.specs.Cell.{mark_of}
use Rattle.node_maps.specs.Nodes.{nodes}
use Rattle.node_maps.specs.Paged.{cell_at, marked_cells}
use Rattle.node_maps.proofs.Paging.{no_rows-known, no_rows-in_tree, contains-marked_cells, no_rows-trimmed, in_rows}
use Rattle.node_maps.proofs.Counted.{trimmed-count}
use Rattle.node_maps.proofs.paged.PagedNodeMap.empty.Goals as goal

pub returns-clause-seen : goal.returns-clause-seen
returns-clause-seen c =
    ap₂ (nodes c.args.shape) (no_rows-known c.height.result c.new.result.items c.new.ensures.items)
    (same_set nat_cmp_total nat_cmp-IsAntisymmetric (marked_cells c.height.result c.new.result.items) set.empty (λ i.
    contains-marked_cells c.height.result c.new.result.items (no_rows-in_tree c.height.result c.new.result.items c.new.ensures.items) i
    ∙ ap (λ rows. mark_of (cell_at rows 0 i)) c.new.ensures.items ∙ sym (contains-empty nat_cmp i)))

pub returns-clause-held : goal.returns-clause-held
returns-clause-held c =
    trimmed-count c.height.result c.new.result.items (no_rows-in_tree c.height.result c.new.result.items c.new.ensures.items) (length c.new.result.items)
    (λ l row e. in_rows c.new.result.items l row e) (no_rows-trimmed c.new.result.items (length c.new.result.items) c.new.ensures.items)
