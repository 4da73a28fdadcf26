use Rattle.std.proofs.Common.{◌≡◌, ◌-◌, ◌<◌, ◌≤◌, length, take, drop, subst, sym, arith}
use Rattle.std.proofs.lemmas.List.{length-drop, length-take}
use Rattle.std.proofs.lemmas.Result.{err_from_is_err_and}
use Rattle.benc.specs.Device.{SinkSeen, SourceSeen, Sent}
use Rattle.wire.specs.Reading.{GaveFaultless}
use Rattle.wire.specs.Records.{header}
use Rattle.wire.proofs.Giving.{Faultless-take, le-length-put, take-put_more}
use Rattle.conversions.proofs.Ending.{SoFar, breaks_in_text, ended_here, ends_front, read_fails, so_far_converted, so_far_first, so_far_read, whole_is}
use Rattle.conversions.proofs.Fronts.{read_none}
use Rattle.conversions.proofs.converting.convert_frames.Given.{Over}
use Rattle.conversions.proofs.converting.convert_frames.Goals as goal
use Rattle.conversions.proofs.converting.convert_frames.Goals.{After-read}

-- what is held was converted, before more is read
converted : (g : Over) (c : After-read g) (first : SourceSeen) (start : SinkSeen)
    → GaveFaultless first (g.R.Source.seen c.args.source.now) (take c.args.held c.args.buffer.now) → Sent start (g.W.Sink.seen c.args.out.now) header
    → SoFar first (g.R.Source.seen c.parts.source) start (g.W.Sink.seen c.convert_held.new.out) c.convert_held.new.left
    (take c.args.held c.args.buffer.now) (take c.in_ok-held.held c.convert_held.new.buffer)
converted g c first start gave sent =
    let s = c.parts.invariant.converts first start gave sent in
    let d = c.in_ok-held.ensures.converts start s.fed s.text s.reached s.sent in
    so_far_converted first (g.R.Source.seen c.parts.source) start (g.W.Sink.seen c.parts.out) (g.W.Sink.seen c.convert_held.new.out) c.parts.left
    c.convert_held.new.left (take c.args.held c.args.buffer.now) (take c.parts.held c.parts.buffer) (take c.in_ok-held.held c.convert_held.new.buffer)
    d.0 d.1 s d.2 d.3 d.4

pub parts-init : goal.parts-init
parts-init g c = record {
  within = c.requires.held;
  empty = c.new-outgoing.ensures;
  converts = λ first start gave sent. so_far_first first (g.R.Source.seen c.args.source.now) start (g.W.Sink.seen c.args.out.now)
      (take c.args.held c.args.buffer.now) gave sent;
}

pub returns-in_err-held : goal.returns-in_err-held
returns-in_err-held g c = λ first start gave sent.
    let W = g.W.Sink in
    let p = err_from_is_err_and c.from_residual.result c.from_residual.ensures.1 in
    let so-far = c.parts.invariant.converts first start gave sent in
    rw (p.1, p.2) (breaks_in_text first (g.R.Source.seen c.parts.source) start (W.seen c.parts.out) (W.seen c.convert_held.new.out) c.parts.left
    (take c.args.held c.args.buffer.now) (take c.parts.held c.parts.buffer) so-far
    (c.in_err-held.ensures.converts start so-far.fed so-far.text so-far.reached so-far.sent))

pub returns-in_err-count : goal.returns-in_err-count
returns-in_err-count g c = λ first start gave sent.
    let S = g.R.Source in
    let p = err_from_is_err_and c.from_residual-in_err-count.result c.from_residual-in_err-count.ensures.1 in
    let failed = c.in_err-count.ensures in
    rw (p.1, p.2) (read_fails first (S.seen c.parts.source) (S.seen c.read.new.self) start (g.W.Sink.seen c.convert_held.new.out) c.convert_held.new.left
    (take c.args.held c.args.buffer.now) (take c.in_ok-held.held c.convert_held.new.buffer)
    (converted g (goal.at.returns-in_err-count g c).After-read first start gave sent)
    c.in_ok-held.ensures.waits.0 failed.bytes failed.falls failed.counts)

pub returns-in-0 : goal.returns-in-0
returns-in-0 g c = λ first start gave sent.
    let R = g.R.Source in
    let out = g.W.Sink.seen c.convert_held.new.out in
    let front = take c.args.held c.args.buffer.now in
    let held = c.in_ok-held.held in
    let left = c.convert_held.new.left in
    let buffer = c.convert_held.new.buffer in
    let rest = take held buffer in
    let e = c.in_ok-count.ensures in
    let few : held < 53 = c.in_ok-held.ensures.waits.1 in
    let size : length buffer ≡ 40960 = omega (arith, c.convert_held.auto.buffer, c.parts.auto.buffer, c.requires.room) in
    let room : 0 < length c.read.new.buf = omega (
      arith,
      few,
      size,
      c.read.auto.buf,
      length-take (length buffer - held) (drop held buffer),
      length-drop held buffer,
    ) in
    let nothing = read_none (R.seen c.parts.source) (R.seen c.read.new.self) c.in_ok-count.count c.read.new.buf c.in-0.is e.bytes.0 e.falls e.counts in
    let u = ended_here first (R.seen c.parts.source) (R.seen c.read.new.self) start out left front rest
    (converted g (goal.at.returns-in-0 g c).After-read first start gave sent) nothing in
    ends_front _ first (R.seen c.read.new.self) start out left front rest u c.in_ok-held.ensures.waits.0 (e.bytes.1 c.in-0.is room)
    (whole_is c.is_between.result left held buffer c.is_between.ensures (omega (arith, few, size)))

pub parts-preserved : goal.parts-preserved
parts-preserved g c =
    let read = g.R.Source.seen c.read.new.self in
    let out = g.W.Sink.seen c.convert_held.new.out in
    let count = c.in_ok-count.count in
    let given = c.in_ok-count.ensures in
    let fits : count ≤ length c.read.new.buf = given.bound in
    let held = c.in_ok-held.held in
    let buffer = c.convert_held.new.buffer in
    let within : held ≤ length buffer = omega (arith, c.in_ok-held.ensures.waits.1, c.convert_held.auto.buffer, c.parts.auto.buffer, c.requires.room) in
    record {
      within = le-length-put held count buffer c.read.new.buf within fits;
      empty = c.in_ok-held.ensures.empty;
      converts = λ first start gave sent.
          subst (SoFar first read start out c.convert_held.new.left (take c.args.held c.args.buffer.now))
          (sym (take-put_more held count buffer c.read.new.buf within fits))
          (so_far_read first (g.R.Source.seen c.parts.source) read start out c.convert_held.new.left (take c.args.held c.args.buffer.now)
          (take held buffer) (take count c.read.new.buf) (converted g (goal.at.parts-preserved g c).After-read first start gave sent)
          (Faultless-take (g.R.Source.seen c.parts.source) read count c.read.new.buf fits given.bytes.0 given.falls given.counts));
    }
