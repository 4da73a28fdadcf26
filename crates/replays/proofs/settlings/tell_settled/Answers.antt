use Rattle.std.proofs.Common.{[], refl, ◌∙◌, sym}
use Rattle.replays.specs.Held.{work}
use Rattle.replays.proofs.Falling.{few-blocks, settled-falls, settled-torrent, settled-tree}
use Rattle.replays.proofs.SaidAll.{none-noted, none-sent, settled-none, settling-broke, settling-done, settling-more}
use Rattle.replays.proofs.settlings.tell_settled.Goals as goal

pub settlings-init : goal.settlings-init
settlings-init g c = record {
  torrent = refl;
  tree = c.requires.tree;
  so_far = record {
    told = [];
    settled = settled-none c.args.touched.file (work c.args.session.now c.args.held.now c.args.touched.pieces);
    sent = none-sent g.L.LineSink.spelled c.args.number (g.L.LineSink.seen c.args.out.now);
    noted = none-noted g.L.LineSink.spelled c.args.outcome.now;
  };
}

pub settlings-smaller : goal.settlings-smaller
settlings-smaller g c =
    settled-falls c.args.touched.file (work c.settlings.session c.settlings.held c.settlings.pieces)
    (work c.settle_one.new.session c.settle_one.new.held c.settle_one.new.pieces) c.in-Some.said
    (few-blocks c.args.session.now c.settlings.session c.args.touched.tree c.settlings.pieces.tree c.blocks-few.result c.blocks-few.ensures.value
    c.blocks-few.ensures.bound c.settlings.invariant.torrent c.settlings.invariant.tree) c.in-Some.ensures.settled

pub settlings-preserved : goal.settlings-preserved
settlings-preserved g c =
    let here = work c.settlings.session c.settlings.held c.settlings.pieces in
    let next = work c.settle_one.new.session c.settle_one.new.held c.settle_one.new.pieces in
    record {
      torrent = settled-torrent c.args.touched.file here next c.in-Some.said c.in-Some.ensures.settled ∙ c.settlings.invariant.torrent;
      tree = settled-tree c.args.touched.file here next c.in-Some.said c.in-Some.ensures.settled ∙ c.settlings.invariant.tree;
      so_far = settling-more c.args.touched.file c.args.session.now c.args.held.now c.args.touched.pieces here next g.L.LineSink.spelled c.args.number
          (g.L.LineSink.seen c.args.out.now) (g.L.LineSink.seen c.settlings.out) (g.L.LineSink.seen c.say.new.out) c.args.outcome.now c.settlings.outcome
          c.say.new.outcome c.in-Some.said c.settlings.invariant.so_far c.in-Some.ensures.settled tt c.in-Ok.ensures;
    }

pub returns-in-Err : goal.returns-in-Err
returns-in-Err g c =
    let here = work c.settlings.session c.settlings.held c.settlings.pieces in
    let next = work c.settle_one.new.session c.settle_one.new.held c.settle_one.new.pieces in
    settling-broke c.args.touched.file c.args.session.now c.args.held.now c.args.touched.pieces here next g.L.LineSink.spelled c.args.number
    (g.L.LineSink.seen c.args.out.now) (g.L.LineSink.seen c.settlings.out) (g.L.LineSink.seen c.say.new.out) c.args.outcome.now c.settlings.outcome
    c.say.new.outcome c.in-Some.said c.settlings.invariant.so_far c.in-Some.ensures.settled c.in-Err.fault c.in-Err.ensures

pub returns : goal.returns
returns g c =
    settling-done c.args.touched.file c.args.session.now c.args.held.now c.args.touched.pieces c.settlings.session c.settlings.held c.settlings.pieces
    c.settle_one.new.session c.settle_one.new.held g.L.LineSink.spelled c.args.number (g.L.LineSink.seen c.args.out.now) (g.L.LineSink.seen c.settlings.out)
    c.args.outcome.now
    c.settlings.outcome c.settlings.invariant.so_far c.in_default.ensures.done c.in_default.ensures.same_session c.in_default.ensures.same_held
