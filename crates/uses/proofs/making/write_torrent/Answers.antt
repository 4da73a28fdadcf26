use Rattle.uses.proofs.Gathered.{written}
use Rattle.uses.proofs.making.write_torrent.Goals as goal

pub returns : goal.returns
returns g c = written c.args.draft.now (g.W.Sink.seen c.args.out.now) (g.W.Sink.seen c.finish.new.w) c.finish.result c.finish.ensures.written
    c.finish.ensures.opens
