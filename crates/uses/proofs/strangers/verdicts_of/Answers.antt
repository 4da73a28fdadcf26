use Rattle.std.proofs.Common.{subst}
use Rattle.std.proofs.lemmas.Result.{IfOk-weaker}
use Rattle.chains.specs.Chain.{Chain}
use Rattle.uses.specs.Strangers.{VerifiesTheBlock}
use Rattle.uses.proofs.strangers.verdicts_of.Goals as goal

pub returns-in-Ok : goal.returns-in-Ok
returns-in-Ok c = IfOk-weaker c.verdicts_by.result _ _ (λ vs run. record {
  start = c.in-Ok.session;
  knew = c.in-Ok.ensures;
  end = run.0;
  steps = subst (λ t. Chain (VerifiesTheBlock t) c.in-Ok.session c.args.messages.now vs.items run.0) c.in-Ok.ensures.fresh.torrent run.1;
}) c.verdicts_by.ensures
