use Rattle.std.proofs.Common.{◌≡◌, ◌++◌, ◌∙◌, take, drop, ap}
use Rattle.std.proofs.lemmas.List.{append_assoc, take-append-drop}
use Rattle.std.proofs.lemmas.Result.{err_from_is_err_and}
use Rattle.conversions.proofs.Sending.{held_is_sent, sent_held}
use Rattle.conversions.proofs.converting.convert_held.Goals as goal

pub returns-in_err-done-clause-converts : goal.returns-in_err-done-clause-converts
returns-in_err-done-clause-converts g c = λ start fed text r s.
    let S = g.W.Sink in
    let p = err_from_is_err_and c.from_residual.result c.from_residual.ensures.1 in
    rw p.1 (c.in_err-done.ensures.converts start fed text r (sent_held start (S.seen c.args.out.now) c.args.outgoing.now.items text c.requires.empty s))

pub returns-in_err-send-clause-converts : goal.returns-in_err-send-clause-converts
returns-in_err-send-clause-converts g c = λ start fed text r s.
    let S = g.W.Sink in
    let p = err_from_is_err_and c.from_residual-in_err-send.result c.from_residual-in_err-send.ensures.1 in
    let a = c.in_ok-done.ensures.converts start fed text r (sent_held start (S.seen c.args.out.now) c.args.outgoing.now.items text c.requires.empty s) in
    rw p.1 (record {
      count = c.in_ok-done.done;
      left = c.convert_part.new.left;
      text = a.text;
      reached = a.reached;
      broke =
          c.in_err-send.ensures.text start a.text a.held;
    })

pub returns-clause-converts : goal.returns-clause-converts
returns-clause-converts g c = λ start fed text r s.
    let S = g.W.Sink in
    let a = c.in_ok-done.ensures.converts start fed text r (sent_held start (S.seen c.args.out.now) c.args.outgoing.now.items text c.requires.empty s) in
    let done = c.in_ok-done.done in
    let held = take c.args.held c.args.buffer.now in
    let moved : take c.move_to_front.result c.move_to_front.new.buffer ≡ drop done held = c.move_to_front.ensures.moved in (
      fed ++ take done held,
      a.text,
      a.reached,
      held_is_sent start (S.seen c.send.new.out) c.send.new.outgoing.items a.text c.in_ok-send.ensures.empty (c.in_ok-send.ensures.text start a.text a.held),
      append_assoc fed (take done held) _ ∙ ap (λ t. fed ++ (take done held ++ t)) moved ∙ ap (λ t. fed ++ t) (take-append-drop done held),
    )
