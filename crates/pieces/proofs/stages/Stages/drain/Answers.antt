use Rattle.std.proofs.Common.{◌*◌, ap, sym, ◌∙◌, arith}
use Rattle.sha1.specs.Sha1.{sha1}
use Rattle.lanes.specs.declared.words.TheConstants.{LANES}
use Rattle.pieces.specs.Cuts.{cut}
use Rattle.pieces.specs.Staged.{told_before}
use Rattle.pieces.proofs.stages.Stages.drain.Goals as goal

pub returns-clause-digest : goal.returns-clause-digest
returns-clause-digest c = λ n content draining fewer d is.
    c.step.ensures.digest (LANES * c.args.self.now.piece) content draining.passing (λ _. omega (arith, fewer)) d is
    ∙ ap (λ k. sha1 (cut k content (told_before c.args.step))) (sym draining.piece_length_is)
