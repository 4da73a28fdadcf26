use Rattle.std.proofs.Common.{ap, sym, ◌∙◌}
use Rattle.std.proofs.lemmas.Bool.{false≢true}
use Rattle.node_maps.specs.Pages.{is_spare}
use Rattle.node_maps.specs.PageIndexes.{on_rows}
use Rattle.node_maps.specs.PagedRow.{pages_of}
use Rattle.node_maps.proofs.Numbers.{counted-none}
use Rattle.node_maps.proofs.paged_row.PagedRow.new.Goals as goal

pub invariant_of-result : goal.invariant_of-result
unfolding pages_of
invariant_of-result c = record {
  counted = counted-none (on_rows c.new.result) c.new.ensures.none;
  in_use = c.new.ensures.in_use;
  spare = record { known = λ n e. absurd (false≢true (sym (ap is_spare (c.new.ensures.none n)) ∙ e)) };
}
