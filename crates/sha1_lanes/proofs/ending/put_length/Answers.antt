use Rattle.std.proofs.Common.{rules, ◌≡◌, ◌∙◌, ◌*◌, ◌%◌, ◌^◌, ap, arith}
use Rattle.std.specs.Int.{w64, to_be_bytes}
use Rattle.sha1_lanes.proofs.Endings.{length_put}
use Rattle.sha1_lanes.proofs.ending.put_length.Goals as goal

pub returns : goal.returns
returns c n size =
    let bits : c.args.size * 8 % 2 ^ 64 ≡ n * 8 % 2 ^ 64 = omega arith in
    length_put c.args.block.now c.copy_from_slice.new.self n (search rules)
    (c.copy_from_slice.ensures.after ∙ c.to_be_bytes.ensures ∙ ap (to_be_bytes w64) bits)
