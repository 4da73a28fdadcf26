use Rattle.std.proofs.Common.{◌≡◌, ◌+◌, length, None, Some, take, refl, ap, sym, subst, arith, rules}
use Rattle.std.proofs.lemmas.List.{length-take-le}
use Rattle.pieces.specs.Cuts.{IsNext}
use Rattle.pieces.specs.CutStreams.{TellsCut}
use Rattle.pieces.proofs.Comparing.{first_bad_next}
use Rattle.pieces.proofs.Fed.{feeds_told}
use Rattle.pieces.proofs.Settling.{told_fits}
use Rattle.pieces.proofs.v1_feed.V1Feed.take.Goals as goal
use Rattle.pieces.proofs.v1_feed.V1Feed.take.Goals.{After-take-taken}

pub take-taken-requires-clause-fits : goal.take-taken-requires-clause-fits
take-taken-requires-clause-fits c =
    let f = c.args.self.now in told_fits f.stream f.cut f.given f.in_time f.counted (omega arith)

good : (c : After-take-taken) → c.args.self.now.bad ≡ None
good c = search rules

counts : (c : After-take-taken) → c.args.self.now.given + c.take-taken.result.0
    ≡ c.args.self.now.given + length (take c.take-taken.result.0 c.args.bytes.now)
counts c = ap (λ k. c.args.self.now.given + k) (sym (length-take-le c.take-taken.result.0 c.args.bytes.now c.take-taken.ensures.bound))

pub returns-in_default-clause-feeds : goal.returns-in_default-clause-feeds
returns-in_default-clause-feeds c =
    let f = c.args.self.now in
    let s = (goal.at.returns-in_default-clause-feeds c).After-take-taken in
    feeds_told f _ _ None (good s) (subst (λ o. TellsCut f.stream (take c.take-taken.result.0 c.args.bytes.now) o c.take-taken.new.self) c.in_default.is
    c.take-taken.ensures.tells) refl (counts s) refl (omega arith) (λ pieces n content fed _ first. first)

pub returns-clause-feeds : goal.returns-clause-feeds
returns-clause-feeds c =
    let f = c.args.self.now in
    let s = (goal.at.returns-clause-feeds c).After-take-taken in
    let d = c.in-Some.digest in
    feeds_told f _ _ (Some d) (good s) (subst (λ o. TellsCut f.stream (take c.take-taken.result.0 c.args.bytes.now) o c.take-taken.new.self) c.in-Some.is
    c.take-taken.ensures.tells) refl (counts s) refl refl
    (λ pieces n content fed is first. first_bad_next n pieces _ f.cut d f.bad c.first_bad-self.result (is d refl)
    (subst (λ p. IsNext p f.cut d f.bad c.first_bad-self.result) fed.pieces_are c.first_bad-self.ensures) first)
