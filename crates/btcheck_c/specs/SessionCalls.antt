-- What the calls on a session do.
use Rattle.std.specs.Prelude.{◌≡◌, ◌⊎◌, ℕ, ◌≤◌, Bool, List, length, Result}
use Rattle.std.specs.FinMap as finite
use Rattle.std.specs.FinSet as set
use Rattle.node_maps.specs.Digest.{Hash}
use Rattle.partial_tree.specs.declared.refusal.HashRefusal.{HashRefusal}
use Rattle.partial_tree.specs.declared.refusal.BlockRefusal.{BlockRefusal}
use Rattle.partial_tree.specs.declared.refusal.PieceRefusal.{PieceRefusal}
use Rattle.session.specs.Session.{SessionSeen}
use Rattle.wire.specs.declared.message.Ask.{Ask}
use Rattle.btcheck_c.specs.Taken.{HashesTaken, BlockTaken, HasTreeBlock, PieceTaken}
use Rattle.btcheck_c.specs.TreeStates.{HasState}
use Rattle.btcheck_c.specs.Holds.{IsWrongKind}
use Rattle.c_layouts.specs.Statuses.{HasHashesStatus, HasBlockStatus, HasPieceStatus, IsAnswer}
use Rattle.btcheck_c.specs.declared.thing.Kind.{Kind}
use Rattle.btcheck_c.specs.declared.thing.Kind.TheVariants as kind

-- ---- what is known

-- how many places of a tree are known, and how many of its leaves are marked
abbrev pub Counted : ℕ → ℕ → ℕ → Kind → ℕ → Kind → Type 0
Counted tree known marked (kind.Session S) status k' = (k' ≡ kind.Session S)
    × (((status ≡ 0) × (HasState S tree (λ s. known ≡ finite.len s.known)
    × HasState S tree (λ s. marked ≡ set.len s.marked)))
    ⊎ ((status ≡ 5) × (length S.torrent.trees ≤ tree)))
Counted tree known marked k status k' = IsWrongKind k status k'

-- whether the leaf of a block of tree n is marked, or that no tree n has this block
abbrev pub AnswersIfMarked : ℕ → ℕ → Kind → ℕ → Kind → Type 0
AnswersIfMarked n b (kind.Session S) status k' = (k' ≡ kind.Session S)
    × ((HasTreeBlock S.torrent n b × ((marked : Bool) × IsAnswer marked status
    × HasState S n (λ s. marked ≡ set.contains s.marked b)))
    ⊎ ((status ≡ 5) × ¬ HasTreeBlock S.torrent n b))
AnswersIfMarked n b k status k' = IsWrongKind k status k'

-- ---- messages

-- the session takes a hashes message, and status and places are its answer
abbrev pub SessionTakesHashes : Ask → List Hash → ℕ → Kind → ℕ → Kind → Type 0
SessionTakesHashes ask hashes places (kind.Session S) status k' =
    (answer : Result ℕ HashRefusal) × HasHashesStatus answer status places
    × ((S' : SessionSeen) × (k' ≡ kind.Session S') × HashesTaken S ask hashes answer S')
SessionTakesHashes ask hashes places k status k' = IsWrongKind k status k'

-- the session takes a block of a piece message; status, file and block are its answer
abbrev pub TakesBlock : ℕ → ℕ → List ℕ → ℕ → ℕ → Kind → ℕ → Kind → Type 0
TakesBlock index begin bytes file block (kind.Session S) status k' =
    (answer : Result (ℕ × ℕ) BlockRefusal) × HasBlockStatus answer status file block
    × ((S' : SessionSeen) × (k' ≡ kind.Session S') × BlockTaken S index begin bytes answer S')
TakesBlock index begin bytes file block k status k' =
    IsWrongKind k status k'

-- the session takes the bytes of a whole piece; status, file and block are its answer
abbrev pub TakesPiece : ℕ → List ℕ → ℕ → ℕ → Kind → ℕ → Kind → Type 0
TakesPiece index bytes file block (kind.Session S) status k' =
    (answer : Result (ℕ × ℕ) PieceRefusal) × HasPieceStatus answer status file block
    × ((S' : SessionSeen) × (k' ≡ kind.Session S') × PieceTaken S index bytes answer S')
TakesPiece index bytes file block k status k' = IsWrongKind k status k'
