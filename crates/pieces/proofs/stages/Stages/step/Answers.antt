use Rattle.std.proofs.Common.{ℕ, List, ◌+◌, sym, ◌∙◌}
use Rattle.std.proofs.lemmas.Option.{same_Some}
use Rattle.pieces.specs.Staged.{IsPassing}
use Rattle.pieces.specs.Stored.{slot_bytes}
use Rattle.pieces.proofs.Staged.{digest_told, passing_step}
use Rattle.pieces.proofs.stages.Stages.step.Goals as goal
use Rattle.pieces.proofs.stages.Stages.step.Goals.{After-step-digest}

passing : (c : After-step-digest) (whole : ℕ) (content : List ℕ)
    → IsPassing c.args.self.now.relay (slot_bytes c.args.self.now.store) c.args.self.now.store.size c.args.step whole content
    → IsPassing c.step-digest.new.relay (slot_bytes c.args.self.now.store) c.args.self.now.store.size (c.args.step + 1) whole content
passing c = passing_step c.args.self.now.relay c.step-digest.new.relay (slot_bytes c.args.self.now.store) c.args.self.now.store.size c.args.step
    c.step-digest.ensures.passes c.step-digest.ensures.begins

pub returns-then-step-clause-passing : goal.returns-then-step-clause-passing
returns-then-step-clause-passing c = passing (goal.at.returns-then-step-clause-passing c).After-step-digest

pub returns-clause-passing : goal.returns-clause-passing
returns-clause-passing c = passing (goal.at.returns-clause-passing c).After-step-digest

pub returns-clause-digest : goal.returns-clause-digest
returns-clause-digest c = λ whole content passing came d is.
    let f = c.args.self.now in
    sym (same_Some c.step-digest.result d is)
    ∙ digest_told f.relay (slot_bytes f.store) f.store.size c.args.step whole content c.step-digest.result c.step-digest.ensures.digest
    c.if-step.false (came c.if-step.false) passing
