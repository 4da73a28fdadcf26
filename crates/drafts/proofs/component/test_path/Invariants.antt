use Rattle.std.proofs.Common.{◌≡◌, ℕ, ◌<◌, List, map}
use Rattle.std.specs.Prelude.{Some, slice_get}
use Rattle.filetree.specs.Paths.{IsComponent}
use Rattle.drafts.proofs.component.test_path.Given as goal

abbrev pub invariant-components : goal.invariant-components
invariant-components l =
    (k : ℕ) (x : List ℕ) → k < l.component-index → slice_get (map (λ s. s.now) l.path) k ≡ Some x → IsComponent x
