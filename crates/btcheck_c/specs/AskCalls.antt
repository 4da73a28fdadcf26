-- What the calls about hash requests do: what to ask for, noting it, taking its answer, answering
-- one.
use Rattle.std.specs.Prelude.{◌≡◌, ◌⊎◌, ◌↔◌, IsTrue, ℕ, ◌<◌, Bool, true, false, List, ◌++◌, drop, length, Option, Some, None, Result}
use Rattle.partial_tree.specs.declared.refusal.HashRefusal.{HashRefusal}
use Rattle.partial_tree.specs.declared.answer.Answer.{Answer}
use Rattle.partial_tree.specs.declared.answer.Answer.TheVariants as answer
use Rattle.node_maps.specs.Digest.{Hash}
use Rattle.session.specs.Session.{SessionSeen, IsAnswered}
use Rattle.wire.specs.declared.message.Ask.{Ask}
use Rattle.btcheck_c.specs.Taken.{AnswerTaken, AskNoted, AnswerGiven, HasTreeBlock, WantIs}
use Rattle.c_layouts.specs.Asks.{asked_of}
use Rattle.btcheck_c.specs.Holds.{IsWrongKind}
use Rattle.c_layouts.specs.Statuses.{HasHashesStatus, IsAnswer}
use Rattle.c_layouts.specs.declared.asked.Asked.{Asked}
use Rattle.btcheck_c.specs.declared.thing.Kind.{Kind}
use Rattle.btcheck_c.specs.declared.thing.Kind.TheVariants as kind

-- ---- what to ask for

-- the ask, or that there is nothing to ask for
abbrev pub HasWant : Option Ask → ℕ → Asked → Type 0
HasWant (Some a) status asked = (status ≡ 0) × (asked ≡ asked_of a)
HasWant None status asked = status ≡ 6

-- what the session wants to learn the leaf of a block, or that no tree n has this block; and it
-- stays as it is
abbrev pub Wants : ℕ → ℕ → Asked → Kind → ℕ → Kind → Type 0
Wants n b asked (kind.Session S) status k' = (k' ≡ kind.Session S)
    × ((HasTreeBlock S.torrent n b
    × ((want : Option Ask) × HasWant want status asked × WantIs S n b want))
    ⊎ ((status ≡ 5) × ¬ HasTreeBlock S.torrent n b))
Wants n b asked k status k' = IsWrongKind k status k'

-- ---- a request of our own

abbrev pub HasNote : Bool → ℕ → Type 0
HasNote true status = status ≡ 0
HasNote false status = status ≡ 2

-- the session notes that a request was sent; or memory was refused
abbrev pub SessionNotes : Ask → Kind → ℕ → Kind → Type 0
SessionNotes ask (kind.Session S) status k' = (done : Bool) × HasNote done status
    × ((S' : SessionSeen) × (k' ≡ kind.Session S') × AskNoted S ask done S')
SessionNotes ask k status k' = IsWrongKind k status k'

-- the session takes hashes that answer an open ask; status and places are its answer
abbrev pub TakesAnswer : Ask → List Hash → ℕ → Kind → ℕ → Kind → Type 0
TakesAnswer ask hashes places (kind.Session S) status k' =
    (answer : Result ℕ HashRefusal) × HasHashesStatus answer status places
    × ((S' : SessionSeen) × (k' ≡ kind.Session S') × AnswerTaken S ask hashes answer S')
TakesAnswer ask hashes places k status k' = IsWrongKind k status k'

-- ---- a request of a peer

-- the hashes at the front of the room, whose other places stay; or how much room they need; or that
-- there are none; or memory was refused
abbrev pub HasAnswer : Option Answer → ℕ → List Hash → List Hash → ℕ → Type 0
HasAnswer (Some (answer.Hashes hashes)) status room room' count = (count ≡ length hashes.items)
    × (((status ≡ 0) × (room' ≡ hashes.items ++ drop count room))
    ⊎ ((status ≡ 7) × (length room < count)))
HasAnswer (Some answer.Reject) status room room' count = status ≡ 6
HasAnswer None status room room' count = status ≡ 2

-- the session answers a request, and stays as it is
abbrev pub SessionAnswers : Ask → List Hash → List Hash → ℕ → Kind → ℕ → Kind → Type 0
SessionAnswers ask room room' count (kind.Session S) status k' = (k' ≡ kind.Session S)
    × ((given : Option Answer) × HasAnswer given status room room' count × AnswerGiven S ask given)
SessionAnswers ask room room' count k status k' = IsWrongKind k status k'

-- whether the session can answer a request, and it stays as it is
abbrev pub AnswersIfAnswered : Ask → Kind → ℕ → Kind → Type 0
AnswersIfAnswered ask (kind.Session S) status k' = (k' ≡ kind.Session S)
    × ((can : Bool) × IsAnswer can status × (IsTrue can ↔ IsAnswered S ask))
AnswersIfAnswered ask k status k' = IsWrongKind k status k'
