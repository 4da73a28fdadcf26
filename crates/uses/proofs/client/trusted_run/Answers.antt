-- The law of the inputs in use, of the run that the call answers.
use Rattle.std.proofs.lemmas.Result.{IfOk-weaker}
use Rattle.uses.proofs.client.trusted_run.Goals as goal

pub returns : goal.returns
returns g c = record {
  safe = IfOk-weaker c.run.result _ _ (λ vs chain file trust.
      (c.trusting_the_inputs_in_use.ensures.runs c.args.session.now c.args.messages.now vs.items c.run.new.self file chain trust).0)
      c.run.ensures.is_safe;
}
