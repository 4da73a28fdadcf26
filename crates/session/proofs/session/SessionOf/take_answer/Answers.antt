use Rattle.std.proofs.Common.{Ok, true≢false, refl, sym, ap, ◌∙◌, subst}
use Rattle.session.specs.Asks.{AskSet}
use Rattle.session.specs.Layouts.{SessionSeen, seen}
use Rattle.session.specs.Noted.{without_ask}
use Rattle.session.specs.SafeStep.{KeepsKnown}
use Rattle.session.specs.Wanted.{WantedClosesOneGap}
use Rattle.session.proofs.OtherAsks.{keeps_asking}
use Rattle.session.proofs.NotedSteps.{closes-asking}
use Rattle.session.proofs.session.SessionOf.take_answer.Goals as goal

pub returns-then-not-is_open-clause-refused : goal.returns-then-not-is_open-clause-refused
returns-then-not-is_open-clause-refused g c = (λ was. true≢false (sym (c.is_open.ensures.1 was) ∙ c.if-not-is_open.true), refl)

pub returns-in-Ok-clause-stored : goal.returns-in-Ok-clause-stored
returns-in-Ok-clause-stored g c = record {
  was_open = c.is_open.ensures.0 c.if-not-is_open.false;
  joined = c.take_hashes.new.self;
  stored = c.in-Ok.ensures.stored;
  state_after = ap (λ (o : AskSet). seen (g.T.HoldsTorrent.described c.self.inside.torrent) o c.self.inside.trees.items) c.remove.ensures
      ∙ ap (λ (v : SessionSeen). without_ask v c.args.ask.now) c.self.view_is;
}

-- closing the ask leaves the trees
pub returns-in-Ok-clause-keeps_known : goal.returns-in-Ok-clause-keeps_known
returns-in-Ok-clause-keeps_known g c =
    subst (KeepsKnown c.args.self.now)
    (sym (ap (λ (o : AskSet). seen (g.T.HoldsTorrent.described c.self.inside.torrent) o c.self.inside.trees.items) c.remove.ensures
    ∙ ap (λ (v : SessionSeen). without_ask v c.args.ask.now) c.self.view_is))
    (keeps_asking _ c.args.self.now c.take_hashes.new.self c.in-Ok.ensures.keeps_known)

pub returns-in-Ok-clause-closes_one_gap : goal.returns-in-Ok-clause-closes_one_gap
returns-in-Ok-clause-closes_one_gap g c = λ was.
    subst (WantedClosesOneGap c.args.self.now c.args.ask.now c.args.hashes.now (Ok c.in-Ok.count))
    (sym (ap (λ (o : AskSet). seen (g.T.HoldsTorrent.described c.self.inside.torrent) o c.self.inside.trees.items) c.remove.ensures
    ∙ ap (λ (v : SessionSeen). without_ask v c.args.ask.now) c.self.view_is))
    (closes-asking _ c.args.self.now c.args.ask.now c.args.hashes.now (Ok c.in-Ok.count) c.take_hashes.new.self
    c.in-Ok.ensures.closes_one_gap)

pub returns-in-Ok-clause-stores_true_hashes : goal.returns-in-Ok-clause-stores_true_hashes
returns-in-Ok-clause-stores_true_hashes g c = λ was. c.in-Ok.ensures.stores_true_hashes

pub returns-in-Ok-clause-stores_answers : goal.returns-in-Ok-clause-stores_answers
returns-in-Ok-clause-stores_answers g c = λ was. c.in-Ok.ensures.stores_answers

pub returns-in-Err-clause-keeps_known : goal.returns-in-Err-clause-keeps_known
returns-in-Err-clause-keeps_known g c = c.in-Err.ensures.keeps_known

pub returns-in-Err-clause-stores_true_hashes : goal.returns-in-Err-clause-stores_true_hashes
returns-in-Err-clause-stores_true_hashes g c = λ was. c.in-Err.ensures.stores_true_hashes

pub returns-in-Err-clause-stores_answers : goal.returns-in-Err-clause-stores_answers
returns-in-Err-clause-stores_answers g c = λ was. c.in-Err.ensures.stores_answers

pub returns-in-Err-clause-closes_one_gap : goal.returns-in-Err-clause-closes_one_gap
returns-in-Err-clause-closes_one_gap g c = λ was. c.in-Err.ensures.closes_one_gap
