use Rattle.std.proofs.Common.{true, false, take, subst}
use Rattle.conversions.specs.Steps.{ShowsForm}
use Rattle.conversions.proofs.Stopping.{ends_at_once, ends_later}
use Rattle.conversions.proofs.converting.convert_rest.Goals as goal

pub returns-then-more : goal.returns-then-more
returns-then-more g c = λ first start gave shows has sent.
    let front = take c.args.held c.args.buffer.now in
    let known : ShowsForm true (g.R.Source.seen c.args.source.now) front = subst (λ b. ShowsForm b (g.R.Source.seen c.args.source.now) front) c.if-more.true
    shows in
    ends_later first (g.R.Source.seen c.convert_frames.new.source) start (g.W.Sink.seen c.convert_frames.new.out) front known has c.convert_frames.result
    (c.convert_frames.ensures first start gave sent)

pub returns-else-more : goal.returns-else-more
returns-else-more g c = λ first start gave shows has sent.
    let front = take c.args.held c.args.buffer.now in
    let known : ShowsForm false (g.R.Source.seen c.args.source.now) front = subst (λ b. ShowsForm b (g.R.Source.seen c.args.source.now) front) c.if-more.false
    shows in
    ends_at_once first (g.R.Source.seen c.args.source.now) start (g.W.Sink.seen c.args.out.now) c.args.held c.args.buffer.now c.requires.held gave known sent
