use Rattle.std.proofs.Common.{◌≡◌, [], inr, sym, ◌∙◌}
use Rattle.hashtree.specs.Complete.{complete_nodes}
use Rattle.hashtree.proofs.Complete.{none_complete}
use Rattle.seeding.proofs.leaves.Leaves.new.Goals as goal

pub returns-clause-content : goal.returns-clause-content
returns-clause-content g c =
    let none : complete_nodes [] 0 ≡ [] = none_complete 0 in
    record { fed = c.new.ensures.content; leaves_are = inr (c.new-2.ensures.leaves ∙ sym none) }
