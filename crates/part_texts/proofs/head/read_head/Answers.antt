use Rattle.std.proofs.Common.{◌≡◌, ◌+◌, arith}
use Rattle.part_texts.proofs.Heads.{head_in_front}
use Rattle.part_texts.proofs.head.read_head.Goals as goal

pub returns-clause-front : goal.returns-clause-front
returns-clause-front c =
    let e = c.in_ok-text.ensures.cases in
    let number : c.in_ok-from_one.from_one ≡ c.in_ok-part.part + 1 = omega (arith, c.in_ok-part.ensures) in
    head_in_front c.args.text.now c.in_ok-text.text.now c.in_ok-from_one.text.now c.in_ok-parts.text.now c.in_ok-listing.listing.now c.in_ok-listing.rows.now
    c.in_ok-part.part c.in_ok-from_one.from_one c.in_ok-parts.parts e.0 e.1 c.in_ok-from_one.ensures.front c.in_ok-parts.ensures.front
    c.in_ok-listing.ensures.front number
