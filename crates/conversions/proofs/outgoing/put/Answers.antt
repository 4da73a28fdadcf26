use Rattle.std.proofs.lemmas.Result.{err_from_is_err_and}
use Rattle.benc.proofs.Out.{Broke-front}
use Rattle.conversions.proofs.outgoing.put.Goals as goal

pub returns-in_err-send : goal.returns-in_err-send
returns-in_err-send g c = λ start text h.
    let S = g.W.Sink in
    let p = err_from_is_err_and c.from_residual.result c.from_residual.ensures.1 in
    rw p.1 (Broke-front start (S.seen c.send.new.out) text c.args.bytes.now (c.in_err-send.ensures.text start text h))
