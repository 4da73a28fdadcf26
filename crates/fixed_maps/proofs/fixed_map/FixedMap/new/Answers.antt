use Rattle.std.proofs.Common.{ap, ◌∙◌}
use Rattle.std.specs.FinMap.{from_sorted}
use Rattle.fixed_maps.proofs.Kept.{none-kept}
use Rattle.fixed_maps.proofs.fixed_map.FixedMap.new.Goals as goal

pub returns-clause-none : goal.returns-clause-none
returns-clause-none c = ap from_sorted c.in_ok-tiers.ensures.none ∙ none-kept
