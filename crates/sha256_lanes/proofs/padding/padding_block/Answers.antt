use Rattle.std.proofs.Common.{◌≡◌, ◌*◌, ◌%◌, ◌^◌, arith, refl}
use Rattle.sha256_lanes.proofs.padding.padding_block.Goals as goal

pub returns : goal.returns
returns c =
    let bits : c.args.size * 8 % 2 ^ 64 ≡ 8 * c.args.size = omega arith in
    rw (c.copy_from_slice.ensures.after, c.to_be_bytes.ensures, c.requires.whole, bits) refl
