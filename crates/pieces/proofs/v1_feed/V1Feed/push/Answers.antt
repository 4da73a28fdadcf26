use Rattle.std.proofs.Common.{arith, drop, take, ◌+◌, ◌-◌, ◌∙◌, ◌≡◌, ap, sym, length, subst, ◌++◌}
use Rattle.std.proofs.lemmas.List.{drop-drop, take_all, take_rest, length-take-le}
use Rattle.std.proofs.Math.Seq.{take-add}
use Rattle.pieces.specs.Feeding.{FeedsStream}
use Rattle.pieces.specs.NextCuts.{KnowsCuts}
use Rattle.pieces.proofs.CutStreams.{fewer_turns, rest_long}
use Rattle.pieces.proofs.Fed.{feeds_both, feeds_nothing}
use Rattle.pieces.proofs.v1_feed.V1Feed.push.Goals as goal

pub take-start-requires-clause-room : goal.take-start-requires-clause-room
take-start-requires-clause-room c =
    let before = c.parts.invariant in
    let rest = rest_long c.args.bytes.now c.parts.start in
    omega (arith, c.requires, before.feeds.given_is, before.feeds.same_total, length-take-le c.parts.start c.args.bytes.now before.within, rest)

pub take-start-requires-clause-next : goal.take-start-requires-clause-next
take-start-requires-clause-next c = λ alone.
    subst (KnowsCuts c.parts.next c.parts.self.stream.cutter.piece_length) (sym (take_rest c.args.bytes.now c.parts.start))
    (c.parts.invariant.next c.parts-test.true alone)

pub parts-init : goal.parts-init
parts-init c = record {
  within = omega arith;
  next = λ some alone. c.new-next.ensures.knows c.args.self.now.stream.cutter.piece_length c.args.bytes.now;
  feeds = feeds_nothing c.args.self.now;
}

pub parts-preserved : goal.parts-preserved
parts-preserved c =
    let bytes = c.args.bytes.now in
    let start = c.parts.start in
    let taken = c.take-start.result in
    let rest = take (length bytes - start) (drop start bytes) in
    let joined : take start bytes ++ take taken rest ≡ take (start + taken) bytes =
    ap (λ t. take start bytes ++ take taken t) (take_rest bytes start) ∙ sym (take-add start taken bytes) in
    record {
      within = omega (arith, c.take-start.ensures.bound, rest_long bytes start);
      feeds = feeds_both c.args.self.now c.parts.self c.take-start.new.self (take start bytes) (take taken rest) _ joined
          c.parts.invariant.feeds c.take-start.ensures.feeds;
      next = λ more alone.
          let after : drop taken rest ≡ drop (start + taken) bytes =
          ap (drop taken) (take_rest bytes start) ∙ drop-drop taken start bytes in
          subst (KnowsCuts c.take-start.new.next c.take-start.new.self.stream.cutter.piece_length) after
          (c.take-start.ensures.next (omega (arith, more, rest_long bytes start)) alone);
    }

pub parts-smaller : goal.parts-smaller
parts-smaller c =
    fewer_turns c.parts.self.stream c.take-start.new.self.stream c.args.bytes.now c.parts.start c.take-start.result c.take-start.ensures.less

pub returns : goal.returns
returns c = subst (λ part. FeedsStream c.args.self.now part c.parts.self) (take_all c.parts.start c.args.bytes.now (omega arith)) c.parts.invariant.feeds
