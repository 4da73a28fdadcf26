use Rattle.std.proofs.Common.{◌≡◌, ℕ, None, Option, Some, inr, is_some, refl, true}
use Rattle.std.specs.Option.{SomeIff}
use Rattle.gathering.proofs.Listed.{listed_as}
use Rattle.commands.proofs.creations.list_files.Goals as goal

-- what is answered only if this holds
holds : (o : Option ℕ) (P : Type 0) (n : ℕ) → is_some o ≡ true → SomeIff o P n → P
holds None P n some is = let no : ⊥ = cc in absurd no
holds (Some m) P n some is = is.0

pub returns-in-Ok-clause-lists : goal.returns-in-Ok-clause-lists
returns-in-Ok-clause-lists g c = (
  holds c.new.result _ _ c.if-is_none.ensures c.new.ensures,
  listed_as g.S.Shelf c.args.shelf.now _ c.in-Ok.paths c.sort_unstable.new.self.items c.in-Ok.ensures.lists c.in-Ok.ensures.listed
      c.sort_unstable.ensures.permutation c.sort_unstable.ensures.sorted,
  c.in-Ok.ensures.counts,
  refl,
)

pub returns-in-Err-clause-lists : goal.returns-in-Err-clause-lists
returns-in-Err-clause-lists g c = inr (
  c.in-Err.fault,
  record {
    legal = holds c.new.result _ _ c.if-is_none.ensures c.new.ensures;
    answered = c.in-Err.ensures.lists;
    listed = c.in-Err.ensures.listed;
    counted = c.in-Err.ensures.counts;
  },
  c.fault_of_listing.ensures,
  refl,
)
