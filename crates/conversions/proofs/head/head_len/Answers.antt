use Rattle.std.proofs.Common.{◌≡◌, ◌+◌, ◌<◌, ◌^◌, min, take, subst, sym, arith}
use Rattle.conversions.specs.Steps.{IsHeadOf}
use Rattle.conversions.proofs.Opening.{cut_head, short_head, whole_head}
use Rattle.conversions.proofs.head.head_len.Goals as goal

pub returns-then-bytes-lt4 : goal.returns-then-bytes-lt4
returns-then-bytes-lt4 c = short_head c.args.bytes.now c.if-bytes-lt4.true

pub returns-then-bytes-size : goal.returns-then-bytes-size
returns-then-bytes-size c =
    let is : c.min.result ≡ min c.number_at.result 49 = c.min.ensures in
    let bound : c.number_at.result < 2 ^ 32 = omega (arith, c.number_at.type_inv) in
    cut_head c.args.bytes.now c.number_at.result c.if-bytes-lt4.false bound c.number_at.ensures (omega (arith, is, c.if-bytes-size.true))

pub returns-else-bytes-size : goal.returns-else-bytes-size
returns-else-bytes-size c =
    let is : c.min.result ≡ min c.number_at.result 49 = c.min.ensures in
    let bound : c.number_at.result < 2 ^ 32 = omega (arith, c.number_at.type_inv) in (
      c.if-bytes-size.false,
      subst (λ n. IsHeadOf (take (4 + n) c.args.bytes.now) (4 + n)) (sym is) (whole_head c.args.bytes.now c.number_at.result bound c.number_at.ensures
          (omega (arith, is, c.if-bytes-size.false))),
    )
