use Rattle.std.proofs.Common.{◌<◌, ◌^◌, ◌∷◌, [], ◌++◌, ap, refl, subst, sym, arith, ◌∙◌}
use Rattle.std.proofs.lemmas.List.{length_push}
use Rattle.wire.proofs.RecordRuns.{HasRead, cut-nothing, frame_falls, read_more, read_nothing, read_to, read_whole}
use Rattle.wire.specs.RecordReader.{ReadsDirected}
use Rattle.library_tests.proofs.frames.count_directed.Given.{Over}
use Rattle.library_tests.proofs.frames.count_directed.Goals as goal
use Rattle.library_tests.proofs.frames.count_directed.Goals.{After-frame}

-- the frame that was read
next : (g : Over) (c : After-frame g) → ReadsDirected g.R.Source.seen c.frames.reader c.advance.new.self
next g c = rw c.if-branch.true at (c.in_ok-advance.ensures.reads c.frames.invariant.stands)

pub frames-init : goal.frames-init
frames-init g c =
    let seen = g.R.Source.seen in
    let same = ap seen c.new-reader.ensures.source in
    let none = subst (λ f. HasRead (seen c.args.source.now) (seen c.new-reader.result.source.now) f []) (sym c.new-reader.ensures.form)
    (read_nothing _ _ same) in
    record { stands = c.new-reader.ensures.open; same = refl; room = omega (arith, ap (λ s. s.limit) same); read = ([], refl, none) }

pub overflow_add-n : goal.overflow_add-n
overflow_add-n g c =
    let fin : (g.R.Source.seen c.args.source.now).limit < 2 ^ 64 = g.met.R.Source.finite c.args.source.now in
    omega (arith, c.frames.invariant.room, frame_falls _ _ _ _ _ (next g (goal.at.overflow_add-n g c).After-frame).gave, fin)

pub frames-smaller : goal.frames-smaller
frames-smaller g c = omega (arith, frame_falls _ _ _ _ _ (next g (goal.at.frames-smaller g c).After-frame).gave)

pub frames-preserved : goal.frames-preserved
frames-preserved g c =
    let S = g.R.Source in
    let read = c.frames.invariant.read in
    let frame = next g (goal.at.frames-preserved g c).After-frame in
    record {
      stands = frame.stays;
      same = c.in_ok-advance.ensures.source ∙ c.frames.invariant.same;
      room = omega (arith, c.frames.invariant.room, frame_falls _ _ _ _ _ frame.gave);
      read = (
        read.0 ++ frame.directed ∷ [],
        omega (arith, read.1, length_push read.0 frame.directed),
        subst (λ f. HasRead (S.seen c.args.source.now) (S.seen c.advance.new.self.source.now) f (read.0 ++ frame.directed ∷ [])) (sym frame.known)
            (read_more (S.seen c.args.source.now) (S.seen c.frames.reader.source.now) (S.seen c.advance.new.self.source.now) c.frames.reader.form frame.form
            read.0 frame.directed read.2 frame.gave),
      );
    }

pub returns : goal.returns
returns g c = λ bytes known.
    let (frames, count, has) = c.frames.invariant.read in
    let first = g.R.Source.seen c.args.source.now in
    let last = g.R.Source.seen c.advance.new.self.source.now in
    let end = rw c.if-branch.false at (c.in_ok-advance.ensures.reads c.frames.invariant.stands) in
    let to = read_to first (g.R.Source.seen c.frames.reader.source.now) last c.frames.reader.form end.form frames [] has end.ends.part (cut-nothing end.form) in
    (end.form, frames, read_whole first last bytes end.form frames [] known to end.ends.at_end, count)
