use Rattle.std.proofs.Common.{arith, ◌≡◌, ◌≤◌, ◌-◌, ℕ, replicate, subst, take}
use Rattle.std.proofs.lemmas.List.{length-replicate}
use Rattle.pieces.specs.Feeding.{FeedsStream}
use Rattle.pieces.proofs.Fed.{feeds_both, feeds_nothing, length-zeros, zeros_more, zeros_rest}
use Rattle.pieces.proofs.v1_feed.V1Feed.zeros.Goals as goal
use Rattle.pieces.proofs.v1_feed.V1Feed.zeros.Goals.{After-min-part}

small : (c : After-min-part) → c.min-part.result ≤ 4096
small c = omega (arith, c.min-part.ensures)

pub parts-init : goal.parts-init
parts-init c = record { within = omega arith; feeds = feeds_nothing c.args.self.now }

pub skip-requires-clause-room : goal.skip-requires-clause-room
skip-requires-clause-room c =
    let feeds = c.parts.invariant.feeds in
    omega (arith, c.requires, c.parts.invariant.within, feeds.given_is, feeds.same_total, length-replicate {A = ℕ} c.parts.done 0)

pub push-requires : goal.push-requires
push-requires c =
    let before = c.parts.invariant.feeds in
    let long = length-zeros c.min-part.result 4096 (small (goal.at.push-requires c).After-min-part) in
    omega (arith, c.requires, c.min-part.ensures, before.given_is, before.same_total, length-replicate {A = ℕ} c.parts.done 0, long)

pub parts-preserved : goal.parts-preserved
parts-preserved c =
    let part = c.min-part.result in
    let more = zeros_more c.parts.done part 4096 (small (goal.at.parts-preserved c).After-min-part) in
    record {
      within = omega (arith, c.min-part.ensures);
      feeds = feeds_both c.args.self.now c.parts.self c.push.new.self (replicate c.parts.done 0) (take part (replicate 4096 0)) _ more
          c.parts.invariant.feeds c.push.ensures;
    }

pub returns-then-is_some : goal.returns-then-is_some
returns-then-is_some c =
    let done = c.parts.done in
    let rest = c.args.n - done in
    feeds_both c.args.self.now c.parts.self c.skip.new.self (replicate done 0) (replicate rest 0) _ (zeros_rest done c.args.n c.parts.invariant.within)
    c.parts.invariant.feeds (c.skip.ensures.feeds (replicate rest 0) (length-replicate {A = ℕ} rest 0))

pub returns : goal.returns
returns c =
    let all : c.parts.done ≡ c.args.n = omega (arith, c.parts.invariant.within) in
    subst (λ k. FeedsStream c.args.self.now (replicate k 0) c.parts.self) all c.parts.invariant.feeds
