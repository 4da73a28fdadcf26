use Rattle.std.proofs.Common.{List, ℕ, take, refl, subst, arith}
use Rattle.std.proofs.lemmas.List.{length-take-le}
use Rattle.std.proofs.lemmas.Option.{same_Some}
use Rattle.pieces.specs.Running.{HoldsSomeContent}
use Rattle.pieces.specs.declared.stages.Stages.{Stages}
use Rattle.pieces.proofs.CutStreams.{tells_staged, told_after}
use Rattle.pieces.proofs.Running.{holds_more}
use Rattle.pieces.proofs.cut_stream.CutStream.take.Goals as goal

pub invariant_of-self : goal.invariant_of-self
invariant_of-self c =
    let f = c.args.self.now in
    let s = c.in-Some.stages in
    let t = c.take.new.self in
    record {
      alone = λ x is. f.alone s c.in-Some.is;
      same_length = λ x is. subst (λ (u : Stages). HoldsSomeContent u f.cutter.piece_length) (same_Some t x is)
          (holds_more s t f.cutter.piece_length (take c.take.result.0 c.args.bytes.now) c.take.result.1 c.take.ensures.takes
          (f.same_length s c.in-Some.is));
    }

pub returns-in-Some-clause-tells : goal.returns-in-Some-clause-tells
returns-in-Some-clause-tells c =
    tells_staged c.args.self.now _ c.in-Some.stages c.take.new.self (take c.take.result.0 c.args.bytes.now) c.take.result.1 c.in-Some.is refl refl
    c.take.ensures.takes

pub returns-in-Some-clause-after : goal.returns-in-Some-clause-after
returns-in-Some-clause-after c = λ some.
    let part : List ℕ = take c.take.result.0 c.args.bytes.now in
    told_after c.args.self.now c.in-Some.stages c.take.new.self part c.take.result.1 _ c.in-Some.is c.take.ensures.takes
    (omega (arith, length-take-le c.take.result.0 c.args.bytes.now c.take.ensures.bound, c.take.ensures.bound)) some
