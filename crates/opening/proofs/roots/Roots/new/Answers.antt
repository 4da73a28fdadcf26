use Rattle.std.proofs.Common.{◌≡◌, ℕ, List, [], refl}
use Rattle.std.specs.BTreeMap.{BTreeMap, IsEmpty}
use Rattle.opening.specs.Rooted.{AreNumbers}
use Rattle.opening.specs.declared.roots.Root.{Root}
use Rattle.opening.proofs.roots.Roots.new.Goals as goal

none_numbered : (m : BTreeMap (List ℕ) ℕ) (ts : List Root) → IsEmpty m → ts ≡ [] → AreNumbers m ts
none_numbered m ts empty none = λ s. rw (empty, none) refl

pub returns : goal.returns
returns c = c.new-2.ensures.items

pub invariant_of-result : goal.invariant_of-result
invariant_of-result c = none_numbered c.new.result c.new-2.result.items c.new.ensures.empty c.new-2.ensures.items
