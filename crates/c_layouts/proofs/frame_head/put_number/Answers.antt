use Rattle.std.proofs.Common.{◌++◌, drop, take, ap, ◌∙◌}
use Rattle.std.proofs.lemmas.List.{append-nil}
use Rattle.wire.specs.Frames.{four_bytes}
use Rattle.c_layouts.proofs.frame_head.put_number.Goals as goal

pub returns-clause-room : goal.returns-clause-room
unfolding four_bytes
returns-clause-room c =
    c.put.ensures.room ∙ ap (λ bytes. take c.args.place c.args.room.now ++ (bytes ++ drop c.put.result c.args.room.now))
    (c.write_u32.ensures ∙ append-nil (four_bytes c.args.number))
