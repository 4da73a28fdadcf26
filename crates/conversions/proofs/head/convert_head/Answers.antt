use Rattle.std.proofs.Common.{◌^◌, ◌<◌, ◌++◌, ◌∷◌, [], subst, arith}
use Rattle.std.proofs.lemmas.Result.{err_from_is_err_and}
use Rattle.benc.specs.Device.{Broke}
use Rattle.benc.proofs.Out.{Broke-front}
use Rattle.conversions.specs.Steps.{Held}
use Rattle.conversions.proofs.Opening.{head_breaks, head_within}
use Rattle.conversions.proofs.Sending.{broke_joined, three_parts}
use Rattle.conversions.proofs.head.convert_head.Goals as goal

pub returns-in_err-put_request : goal.returns-in_err-put_request
returns-in_err-put_request g c = λ start text h.
    let p = err_from_is_err_and c.from_residual.result c.from_residual.ensures.1 in
    let out = g.W.Sink.seen c.put_request.new.out in
    let (request, goes, broke) = c.in_err-put_request.ensures start text h in
    rw p.1 (head_breaks start out text request c.args.head.now c.requires goes
    (broke_joined start out text request (0 ∷ c.args.head.now) (Broke-front start out (text ++ request) (0 ∷ c.args.head.now) broke)))

pub returns-in_err-put : goal.returns-in_err-put
returns-in_err-put g c = λ start text h.
    let p = err_from_is_err_and c.from_residual-in_err-put.result c.from_residual-in_err-put.ensures.1 in
    let out = g.W.Sink.seen c.put.new.out in
    let r = c.in_ok-put_request.ensures start text h in
    rw p.1 (head_breaks start out text r.0 c.args.head.now c.requires r.1 (subst (Broke start out) (three_parts text r.0 c.args.head.now)
    (Broke-front start out ((text ++ r.0) ++ (0 ∷ [])) c.args.head.now (rw c.byte.ensures at (c.in_err-put.ensures start (text ++ r.0) r.2)))))

pub returns-in_err-put-2 : goal.returns-in_err-put-2
returns-in_err-put-2 g c = λ start text h.
    let p = err_from_is_err_and c.from_residual-in_err-put-2.result c.from_residual-in_err-put-2.ensures.1 in
    let (request, goes, held) = c.in_ok-put_request.ensures start text h in
    let one = rw c.byte.ensures at (c.in_ok-put.ensures start (text ++ request) held) in
    rw p.1 (head_breaks start (g.W.Sink.seen c.put-2.new.out) text request c.args.head.now c.requires goes
    (subst (Broke start (g.W.Sink.seen c.put-2.new.out)) (three_parts text request c.args.head.now)
    (c.in_err-put-2.ensures start ((text ++ request) ++ (0 ∷ [])) one)))

pub overflow_sub-result : goal.overflow_sub-result
overflow_sub-result g c =
    let bound : c.number_at.result < 2 ^ 32 = omega (arith, c.number_at.type_inv) in
    head_within c.number_at.result c.args.head.now c.requires bound c.number_at.ensures

pub returns : goal.returns
returns g c = λ start text h.
    let head = c.args.head.now in
    let r = c.in_ok-put_request.ensures start text h in
    let bound : c.number_at.result < 2 ^ 32 = omega (arith, c.number_at.type_inv) in (
      r.0 ++ (0 ∷ head),
      r.1 c.number_at.result bound c.number_at.ensures,
      subst (Held start (g.W.Sink.seen c.put-2.new.out) c.put-2.new.outgoing.items) (three_parts text r.0 head)
          (c.in_ok-put-2.ensures start ((text ++ r.0) ++ (0 ∷ [])) (rw c.byte.ensures at (c.in_ok-put.ensures start (text ++ r.0) r.2))),
    )
