use Rattle.std.proofs.Common.{◌++◌, drop, take, ap, ◌∙◌, arith, append_assoc}
use Rattle.wire.specs.Frames.{four_bytes}
use Rattle.wire.specs.Meaning.{ask_bytes}
use Rattle.wire.proofs.FourBytes.{length-four_bytes}
use Rattle.c_layouts.proofs.PartsPut.{IsPut, put-more}
use Rattle.c_layouts.proofs.frame_head.put_ask.Goals as goal

pub returns-clause-room : goal.returns-clause-room
unfolding ask_bytes
returns-clause-room c =
    let room = c.args.room.now in let place = c.args.place in let ask = c.args.ask.now in
    let b = four_bytes ask.base in let i = four_bytes ask.index in let l = four_bytes ask.length in let p = four_bytes ask.proof in
    let root : IsPut room c.put-end.new.room ask.root place c.put-end.result = record {
      end_is = c.put-end.ensures.end;
      fits = omega arith;
      room_is = c.put-end.ensures.room;
    } in
    let one = put-more room c.put-end.new.room c.put_number-end.new.room ask.root b place c.put-end.result c.put_number-end.result root
    (omega (arith, c.put_number-end.ensures.end, length-four_bytes ask.base)) (omega arith) c.put_number-end.ensures.room in
    let two = put-more room c.put_number-end.new.room c.put_number-end-2.new.room (ask.root ++ b) i place c.put_number-end.result
    c.put_number-end-2.result one (omega (arith, c.put_number-end-2.ensures.end, length-four_bytes ask.index)) (omega arith)
    c.put_number-end-2.ensures.room in
    let three = put-more room c.put_number-end-2.new.room c.put_number-end-3.new.room ((ask.root ++ b) ++ i) l place c.put_number-end-2.result
    c.put_number-end-3.result two (omega (arith, c.put_number-end-3.ensures.end, length-four_bytes ask.length)) (omega arith)
    c.put_number-end-3.ensures.room in
    let four = put-more room c.put_number-end-3.new.room c.put_number.new.room (((ask.root ++ b) ++ i) ++ l) p place c.put_number-end-3.result
    c.put_number.result three (omega (arith, c.put_number.ensures.end, length-four_bytes ask.proof)) (omega arith) c.put_number.ensures.room in
    four.room_is ∙ ap (λ bytes. take place room ++ (bytes ++ drop c.put_number.result room))
    (ap (λ x. x ++ p) (append_assoc (ask.root ++ b) i l) ∙ append_assoc (ask.root ++ b) (i ++ l) p ∙ append_assoc ask.root b ((i ++ l) ++ p)
    ∙ ap (λ x. ask.root ++ (b ++ x)) (append_assoc i l p))
