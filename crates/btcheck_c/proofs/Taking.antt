-- What a session makes of a call, as one statement.
use Rattle.std.proofs.Common.{◌≡◌, ℕ, List, Option, Result, Ok, Err, Bor, IfOk, IfErr, OnErr, sym, ap, subst}
use Rattle.std.specs.Result.{result_ok}
use Rattle.partial_tree.specs.declared.answer.Answer.{Answer}
use Rattle.partial_tree.specs.declared.refusal.BlockRefusal.{BlockRefusal}
use Rattle.session.proofs.Runs.{step-torrent}
use Rattle.session.specs.Answers.{IsAnswerTo}
use Rattle.session.specs.Blocks.{BlocksSeen}
use Rattle.session.specs.Session.{SessionSeen, IsAnswered, AreTaken, AreRefused}
use Rattle.session.specs.declared.verdict.Verdict.TheVariants as verdict
use Rattle.wire.specs.declared.message.Ask.{Ask}
use Rattle.wire.specs.declared.message.Message.TheVariants as message
use Rattle.btcheck_c.specs.Taken.{AnswerGiven}

-- the blocks of a message leave the torrent
pub torrent_after_blocks : (S S' : SessionSeen) (index begin : ℕ) (bytes : Bor (List ℕ)) (answer : Result BlocksSeen BlockRefusal)
    → IfOk answer (λ v. AreTaken S index begin bytes.now v S')
    → IfErr answer (λ r. AreRefused S index begin bytes.now r × (S' ≡ S)) → S'.torrent ≡ S.torrent
torrent_after_blocks S S' index begin bytes (Ok v) taken refused =
    step-torrent S (message.Piece index begin bytes) (verdict.Blocks v) S' taken
torrent_after_blocks S S' index begin bytes (Err r) taken refused = ap (λ (s : SessionSeen). s.torrent) refused.1

-- an answer, of which only the lack of memory is dropped
pub answer_given : {E : Type 0} (S : SessionSeen) (ask : Ask) (r : Result Answer E) (given : Option Answer)
    → given ≡ result_ok r → IfOk r (IsAnswerTo S ask) → OnErr r (IsAnswered S ask) → AnswerGiven S ask given
answer_given S ask (Ok a) given is answer no_memory = subst (AnswerGiven S ask) (sym is) answer
answer_given S ask (Err e) given is answer no_memory = subst (AnswerGiven S ask) (sym is) no_memory
