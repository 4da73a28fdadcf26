use Rattle.std.proofs.Common.{◌<◌, ◌^◌, ◌∷◌, [], ◌++◌, ap, refl, arith, ◌∙◌}
use Rattle.std.proofs.lemmas.List.{length_push}
use Rattle.std.proofs.lemmas.List.Elements.{All-nil}
use Rattle.wire.specs.Frames.{IsBody}
use Rattle.wire.proofs.Partial.{length-frame, IsPartial-from_short}
use Rattle.wire.proofs.Runs.{All-push, Gave-no_frame, Gave-one_more, Frames-from_run, length-frames}
use Rattle.wire.specs.Reader.{ReadsFrame}
use Rattle.library_tests.proofs.frames.count_frames.Given.{Over}
use Rattle.library_tests.proofs.frames.count_frames.Goals as goal
use Rattle.library_tests.proofs.frames.count_frames.Goals.{After-frame}

-- the frame that was read
next : (g : Over) (c : After-frame g) → ReadsFrame g.R.Source.seen c.frames.reader c.advance.new.self
next g c = rw c.if-branch.true at (c.in_ok-advance.ensures.reads c.frames.invariant.stands)

pub frames-init : goal.frames-init
frames-init g c =
    let none = Gave-no_frame (g.R.Source.seen c.args.source.now) (g.R.Source.seen c.new-reader.result.source.now)
    (ap g.R.Source.seen c.new-reader.ensures.source) in
    record { stands = c.new-reader.ensures.open; same = refl; read = ([], All-nil IsBody, refl, none) }

pub overflow_add-n : goal.overflow_add-n
overflow_add-n g c =
    let read = c.frames.invariant.read in
    let fin : (g.R.Source.seen c.args.source.now).limit < 2 ^ 64 = g.met.R.Source.finite c.args.source.now in
    omega (arith, read.2, read.3.falls, length-frames read.0, fin)

pub frames-smaller : goal.frames-smaller
frames-smaller g c =
    let frame = next g (goal.at.frames-smaller g c).After-frame in
    omega (arith, frame.gave.gave.falls, length-frame frame.body)

pub frames-preserved : goal.frames-preserved
frames-preserved g c =
    let S = g.R.Source in
    let read = c.frames.invariant.read in
    let frame = next g (goal.at.frames-preserved g c).After-frame in
    record {
      stands = frame.stays;
      same = c.in_ok-advance.ensures.source ∙ c.frames.invariant.same;
      read = (
        read.0 ++ frame.body ∷ [],
        All-push read.0 frame.body read.1 frame.fits,
        omega (arith, read.2, length_push read.0 frame.body),
        Gave-one_more (S.seen c.args.source.now) (S.seen c.frames.reader.source.now) (S.seen c.advance.new.self.source.now) read.0 frame.body read.3
            frame.gave.gave,
      );
    }

pub returns : goal.returns
returns g c = λ bytes known.
    let (bodies, each, count, gave) = c.frames.invariant.read in
    let seen = g.R.Source.seen in
    let end = rw c.if-branch.false at (c.in_ok-advance.ensures.reads c.frames.invariant.stands) in (
      bodies,
      Frames-from_run (seen c.args.source.now) (seen c.frames.reader.source.now) (seen c.advance.new.self.source.now) bytes bodies [] known each
          gave end.gave.gave end.at_end (IsPartial-from_short [] (omega arith)),
      count,
    )
