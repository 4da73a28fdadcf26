use Rattle.std.proofs.Common.{subst, arith}
use Rattle.std.proofs.lemmas.List.{nil_from_length}
use Rattle.node_maps.specs.Pages.{AreSpare}
use Rattle.node_maps.specs.PagedRow.{pages_of}
use Rattle.node_maps.proofs.paged_row.PagedRow.trim.Goals as goal

pub returns-clause-full : goal.returns-clause-full
unfolding pages_of
returns-clause-full c =
    let row = c.give_back.new.self in
    subst (AreSpare (pages_of row)) (nil_from_length row.fresh.items (omega (arith, c.give_back.ensures.fresh))) row.spare
