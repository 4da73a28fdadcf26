use Rattle.std.proofs.Common.{refl, ap, sym, ◌+◌}
use Rattle.pieces.proofs.Fed.{fed_skipped}
use Rattle.pieces.proofs.v1_feed.V1Feed.skip.Goals as goal

pub returns-clause-feeds : goal.returns-clause-feeds
returns-clause-feeds c = λ bytes counted.
    let given = ap (λ k. c.args.self.now.given + k) (sym counted) in
    record {
      same_total = refl;
      given_is = given;
      content = λ pieces n content fed. fed_skipped c.args.self.now _ pieces n content bytes fed c.requires.bad given refl refl refl refl;
    }
