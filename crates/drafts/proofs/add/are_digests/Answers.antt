use Rattle.std.proofs.Common.{length, ap, ◌∙◌}
use Rattle.std.proofs.lemmas.List.{get_or_default}
use Rattle.drafts.proofs.add.are_digests.Goals as goal

pub returns : goal.returns
returns c = λ k d within. ap length (get_or_default _ _ _ _ within) ∙ c.told-digests k within
