use Rattle.std.proofs.Common.{[], refl, arith}
use Rattle.std.proofs.lemmas.Grind.{merely}
use Rattle.drafting.proofs.Given.{begun}
use Rattle.drafting.proofs.coming_file.ComingFile.new.Goals as goal

pub invariant_of-result : goal.invariant_of-result
invariant_of-result c = record { given = λ _. merely ([], begun _ _ _ c.new-hashing.ensures) }

pub returns : goal.returns
returns c = record {
  length_is = refl;
  hybrid_is = refl;
  left = omega (arith, c.new-hashing.ensures.tree.count);
  given = begun _ _ _ c.new-hashing.ensures;
}
