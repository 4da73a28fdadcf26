use Rattle.std.proofs.Common.{◌≡◌, ◌<◌, drop, length, refl, sym, inl, inr, subst, arith}
use Rattle.std.proofs.lemmas.List.{length-drop, take_rest}
use Rattle.wire.proofs.Partial.{IsPartial-from_short}
use Rattle.c_layouts.specs.WholeFrames.{IsWholeFrame}
use Rattle.c_layouts.proofs.FrameEnds.{cut, over, whole}
use Rattle.c_layouts.proofs.whole_frame.body_in.Goals as goal

pub returns-then-frame-lt-LENGTH_SIZE-clause-none : goal.returns-then-frame-lt-LENGTH_SIZE-clause-none
returns-then-frame-lt-LENGTH_SIZE-clause-none c =
    let short : length c.args.frame.now < 4 = omega (arith, c.if-frame-lt-LENGTH_SIZE.true) in
    inl (refl, IsPartial-from_short c.args.frame.now short)

pub returns-then-body-length-clause-none : goal.returns-then-body-length-clause-none
returns-then-body-length-clause-none c =
    let frame = c.args.frame.now in
    let short : length (drop 4 frame) < c.number_at-length.result = omega (arith, c.if-body-length.true, length-drop 4 frame) in
    inl (refl, cut frame c.number_at-length.result (omega arith) c.number_at-length.ensures short)

pub returns-then-body-length-2-clause-none : goal.returns-then-body-length-2-clause-none
returns-then-body-length-2-clause-none c =
    let frame = c.args.frame.now in
    let long : c.number_at-length.result < length (drop 4 frame) = omega (arith, c.if-body-length-2.true, length-drop 4 frame) in
    inr (refl, over frame c.number_at-length.result (omega arith) c.number_at-length.ensures long)

pub returns-clause-body : goal.returns-clause-body
returns-clause-body c =
    let frame = c.args.frame.now in
    let size : length (drop 4 frame) ≡ c.number_at-length.result =
    omega (arith, c.if-body-length.false, c.if-body-length-2.false, length-drop 4 frame) in
    subst (IsWholeFrame frame) (sym (take_rest frame 4)) (whole frame c.number_at-length.result (omega arith) c.number_at-length.ensures size)
