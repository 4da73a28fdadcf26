-- What the calls write that give the frames of requests and of what answers them (BEP 52, "hash
-- request", "hashes", "hash reject").
use Rattle.std.specs.Prelude.{◌≡◌, ℕ, List, Option}
use Rattle.partial_tree.specs.declared.answer.Answer.{Answer}
use Rattle.wire.specs.declared.message.Ask.{Ask}
use Rattle.c_layouts.specs.AnswerFrames.{HasAnswerFrame}
use Rattle.btcheck_c.specs.Holds.{IsWrongKind}
use Rattle.btcheck_c.specs.Taken.{AnswerGiven}
use Rattle.btcheck_c.specs.declared.thing.Kind.{Kind}
use Rattle.btcheck_c.specs.declared.thing.Kind.TheVariants as kind

-- the frame of what the session answers to a request, and it stays as it is
abbrev pub AnswersFrame : Ask → List ℕ → List ℕ → ℕ → Kind → ℕ → Kind → Type 0
AnswersFrame ask room room' size (kind.Session S) status k' = (k' ≡ kind.Session S)
    × ((given : Option Answer) × HasAnswerFrame given ask status room room' size
    × AnswerGiven S ask given)
AnswersFrame ask room room' size k status k' = IsWrongKind k status k'
