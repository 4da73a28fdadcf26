use Rattle.std.proofs.Common.{◌≡◌, ◌≤◌, drop, length, map}
use Rattle.benc.specs.View.{items_view}
use Rattle.opening.specs.Matching.{are_texts}
use Rattle.opening.proofs.version1.are_texts.Given as goal

abbrev pub invariant-values : goal.invariant-values
invariant-values l = record {
  within : l.next ≤ length l.texts;
  same : are_texts (items_view l.values) (map (λ s. s.now) l.texts) ≡ are_texts (items_view (drop l.value-index l.values))
      (drop l.next (map (λ s. s.now) l.texts));
}
