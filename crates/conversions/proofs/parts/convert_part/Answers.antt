use Rattle.std.proofs.Common.{rules, ◌-◌, ◌+◌, ◌++◌, ℕ, List, length, take, drop, ap, subst, arith}
use Rattle.std.proofs.lemmas.Grind.{common_steps}
use Rattle.std.proofs.lemmas.List.{length-drop, take_rest}
use Rattle.std.proofs.lemmas.Result.{err_from_is_err_and}
use Rattle.benc.specs.Device.{SinkSeen}
use Rattle.conversions.specs.Steps.{ConvertsFurther, Held, Reached}
use Rattle.conversions.proofs.Reaching.{breaks_later, fed_later, head_later, none_left}
use Rattle.conversions.proofs.parts.convert_part.Given.{Over}
use Rattle.conversions.proofs.parts.convert_part.Goals as goal
use Rattle.conversions.proofs.parts.convert_part.Goals.{In-Some}

-- a head follows, so nothing is left of the body before it
passed : (g : Over) (c : In-Some g) (start : SinkSeen) (fed text : List ℕ) → Reached c.args.left.now fed text
    → Held start (g.W.Sink.seen c.args.out.now) c.args.outgoing.now.items text
    → ConvertsFurther start (g.W.Sink.seen c.pass_on.new.out) c.pass_on.new.outgoing.items 0
    (fed ++ take (c.frames.done + c.in_ok-done.field-0) c.args.part.now)
passed g c start fed text r h =
    let part = c.args.part.now in
    let a = c.frames.invariant.converts start fed text r h in
    let none = none_left c.pass_on.new.left c.frames.done c.in_ok-done.field-0 c.in-Some.size part c.in_ok-done.ensures.counts.2 c.in-Some.ensures.0
    c.in-Some.ensures.1 in
    subst (ConvertsFurther start (g.W.Sink.seen c.pass_on.new.out) c.pass_on.new.outgoing.items 0) (fed_later fed part c.frames.done c.in_ok-done.field-0)
    (subst (λ (n : ℕ). ConvertsFurther start (g.W.Sink.seen c.pass_on.new.out) c.pass_on.new.outgoing.items n
    ((fed ++ take c.frames.done part) ++ take c.in_ok-done.field-0 (take (length part - c.frames.done) (drop c.frames.done part)))) none
    (c.in_ok-done.ensures.converts start (fed ++ take c.frames.done part) a.text a.reached a.held))

pub returns-in_err-done-clause-converts : goal.returns-in_err-done-clause-converts
returns-in_err-done-clause-converts g c = λ start fed text r h.
    let p = err_from_is_err_and c.from_residual.result c.from_residual.ensures.1 in
    let done = c.frames.done in
    let a = c.frames.invariant.converts start fed text r h in
    rw p.1 (breaks_later start (g.W.Sink.seen c.pass_on.new.out) fed c.args.part.now done
    (c.in_err-done.ensures.converts start (fed ++ take done c.args.part.now) a.text a.reached a.held))

pub returns-in_default-clause-converts : goal.returns-in_default-clause-converts
returns-in_default-clause-converts g c = λ start fed text r h.
    let s = c.frames.invariant.converts start fed text r h in
    subst (ConvertsFurther start (g.W.Sink.seen c.pass_on.new.out) c.pass_on.new.outgoing.items c.pass_on.new.left)
    (fed_later fed c.args.part.now c.frames.done c.in_ok-done.field-0)
    (c.in_ok-done.ensures.converts start (fed ++ take c.frames.done c.args.part.now) s.text s.reached s.held)

pub returns-in_err-left-clause-converts : goal.returns-in_err-left-clause-converts
returns-in_err-left-clause-converts g c = λ start fed text r h.
    let p = err_from_is_err_and c.from_residual-in_err-left.result c.from_residual-in_err-left.ensures.1 in
    let at = c.frames.done + c.in_ok-done.field-0 in
    let b = passed g (goal.at.returns-in_err-left-clause-converts g c).In-Some start fed text r h in
    let (left, sent, begins, broke) = c.in_err-left.ensures start b.text b.held in
    rw p.1 (record {
      count = at + c.in-Some.size;
      left = left;
      text = b.text ++ sent;
      reached = head_later left at c.in-Some.size fed b.text c.args.part.now sent b.reached begins;
      broke = broke;
    })

pub frames-preserved : goal.frames-preserved
frames-preserved g c =
    let part = c.args.part.now in
    let at = c.frames.done + c.in_ok-done.field-0 in
    record {
      within = omega (arith, c.in-Some.ensures.0, c.in-Some.ensures.1.size_is, ap length (take_rest part at), length-drop at part);
      converts = λ start fed text r h.
          let s = passed g (goal.at.frames-preserved g c).In-Some start fed text r h in
          let e = c.in_ok-left.ensures start s.text s.held in
          record {
            text = s.text ++ e.0;
            reached = head_later c.in_ok-left.field-0 at c.in-Some.size fed s.text part e.0 s.reached e.1;
            held = e.2;
          };
    }

pub returns-in_err-done-clause-within : goal.returns-in_err-done-clause-within
returns-in_err-done-clause-within g c = search rules

pub returns-in_err-done-clause-waits : goal.returns-in_err-done-clause-waits
returns-in_err-done-clause-waits g c = search rules

pub returns-in_default-clause-within : goal.returns-in_default-clause-within
returns-in_default-clause-within g c = search rules

pub returns-in_default-clause-waits : goal.returns-in_default-clause-waits
returns-in_default-clause-waits g c = grind (arith, common_steps)

pub returns-in_err-left-clause-within : goal.returns-in_err-left-clause-within
returns-in_err-left-clause-within g c = search rules

pub returns-in_err-left-clause-waits : goal.returns-in_err-left-clause-waits
returns-in_err-left-clause-waits g c = search rules
