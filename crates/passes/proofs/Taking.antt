-- What came of a batch is taken.
use Rattle.std.proofs.Common.{◌≡◌, ℕ, ◌+◌, List, take, slice_get, Some, Ok, sym, subst}
use Rattle.chains.specs.Chain.{Chain}
use Rattle.chains.proofs.Cases.{taken_more}
use Rattle.chains.proofs.Chains.{Chain-item}
use Rattle.passes.specs.Held.{Answer}
use Rattle.passes.specs.Passing.{Takes, TakesTo, Task}

module _ {Item State Found Stop : Type 0} (t : Task Item State Found Stop) (k : State) (all : List Answer) where
  -- one more
  pub takes_more : (n : ℕ) (mid k' : State) (i : Item) (a : Answer) → TakesTo t k all n mid → slice_get t.items n ≡ Some i → slice_get all n ≡ Some a
      → t.takes mid i a (Ok tt) k' → TakesTo t k all (n + 1) k'
  takes_more n mid k' i a before there is takes =
      subst (λ os. Chain (Takes t) k (take (n + 1) t.items) os k') (sym (taken_more all n a is))
      (Chain-item (Takes t) k mid k' t.items n (take n all) i a there before takes)
