use Rattle.parts.specs.Joins.{NoWorse, NoWorseV1, says_of, says_of_v1}
use Rattle.parts.specs.Worse.{worse, worse_v1}
use Rattle.folders.specs.declared.report.FileVerdict.TheVariants as file
use Rattle.folders.specs.declared.report.V1Verdict.TheVariants as version1
use Rattle.parts.proofs.Ranks.{no_worse_same, no_worse_same_v1, one_more_part, still_no_worse, still_no_worse_v1, worse_is, worse_is_v1}
use Rattle.parts.proofs.laws.worse_joins.Goals as goal

pub returns : goal.returns
returns c = record {
  files = λ parts p n w so_far. one_more_part NoWorse file.Good worse no_worse_same worse_is still_no_worse (says_of n) parts p w so_far;
  version1 = λ parts p w so_far. one_more_part NoWorseV1 version1.Good worse_v1 no_worse_same_v1 worse_is_v1 still_no_worse_v1 says_of_v1 parts p w so_far;
}
