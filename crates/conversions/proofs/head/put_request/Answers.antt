use Rattle.std.proofs.Common.{◌-◌, ◌++◌, [], List, ℕ, length, take, drop, subst, sym}
use Rattle.std.proofs.lemmas.List.{append-nil, append_assoc, take_rest}
use Rattle.std.proofs.lemmas.Result.{err_from_is_err_and}
use Rattle.benc.specs.Device.{Broke}
use Rattle.benc.proofs.Out.{Broke-front}
use Rattle.conversions.specs.Steps.{Held}
use Rattle.conversions.proofs.Opening.{goes_nothing, goes_request, request_breaks, request_head}
use Rattle.conversions.proofs.Sending.{broke_joined}
use Rattle.conversions.proofs.head.put_request.Goals as goal

pub returns-in_err-put : goal.returns-in_err-put
returns-in_err-put g c = λ start text h.
    let p = err_from_is_err_and c.from_residual.result c.from_residual.ensures.1 in
    let out = g.W.Sink.seen c.put.new.out in
    let fields = drop 5 c.args.head.now in
    rw p.1 (request_breaks start out text c.args.head.now c.requires c.if-begins_hashes.ensures
    (broke_joined start out text request_head fields (Broke-front start out (text ++ request_head) fields (c.in_err-put.ensures start text h))))

pub returns-in_err-put-2 : goal.returns-in_err-put-2
returns-in_err-put-2 g c = λ start text h.
    let p = err_from_is_err_and c.from_residual-in_err-put-2.result c.from_residual-in_err-put-2.ensures.1 in
    let head = c.args.head.now in
    let out = g.W.Sink.seen c.put-then-begins_hashes.new.out in
    rw p.1 (request_breaks start out text head c.requires c.if-begins_hashes.ensures
    (subst (λ (xs : List ℕ). Broke start out (text ++ (request_head ++ xs))) (take_rest head 5)
    (broke_joined start out text request_head (take (length head - 5) (drop 5 head))
    (c.in_err-put-2.ensures start (text ++ request_head) (c.in_ok-put.ensures start text h)))))

pub returns-in_ok-put-2 : goal.returns-in_ok-put-2
returns-in_ok-put-2 g c = λ start text h.
    let S = g.W.Sink in
    let head = c.args.head.now in
    let begins = c.if-begins_hashes.ensures c.requires.len c.requires.front c.requires.fits c.requires.head_is in (
      request_head ++ drop 5 head,
      goes_request head c.requires begins,
      subst (λ (xs : List ℕ). Held start (S.seen c.put-then-begins_hashes.new.out) c.put-then-begins_hashes.new.outgoing.items (text ++ (request_head ++ xs)))
          (take_rest head 5)
          (subst (Held start (S.seen c.put-then-begins_hashes.new.out) c.put-then-begins_hashes.new.outgoing.items)
          (append_assoc text request_head (take (length head - 5) (drop 5 head)))
          (c.in_ok-put-2.ensures start (text ++ request_head) (c.in_ok-put.ensures start text h))),
    )

pub returns-else-begins_hashes : goal.returns-else-begins_hashes
returns-else-begins_hashes g c = λ start text h.
    let not = c.if-begins_hashes.ensures c.requires.len c.requires.front c.requires.fits c.requires.head_is in
    ([], goes_nothing c.args.head.now c.requires not, subst (Held start (g.W.Sink.seen c.args.out.now) c.args.outgoing.now.items) (sym (append-nil text)) h)
