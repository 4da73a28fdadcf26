use Rattle.std.proofs.Common.{ℕ, ◌-◌, ◌*◌, ap}
use Rattle.std.specs.Prelude.{slice_range}
use Rattle.opening.specs.Description.{Version1}
use Rattle.parts.proofs.row.stream_part.Goals as goal

pub returns : goal.returns
returns c =
    let pieces = slice_range c.args.v1.now.pieces.now c.args.from c.args.to in
    let part : ℕ → Version1 = λ end. record { pieces = pieces; total = end - c.args.piece_length * c.args.from } in
    ap part c.min.ensures
