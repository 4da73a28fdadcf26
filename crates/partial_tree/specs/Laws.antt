-- The laws of partial trees.
use Rattle.std.specs.Prelude.{◌≡◌, ℕ, ◌+◌, ◌-◌, ◌/◌, ◌^◌, ◌<◌, ◌≤◌, ◌⊎◌, Bool, List, None, Some}
use Rattle.sha2.specs.Sha256.{sha256}
use Rattle.wire.specs.declared.message.Ask.{Ask as Asked}
use Rattle.partial_tree.specs.TreeRoot.{TreeRoot as Tree, Fits}
use Rattle.node_maps.specs.Digest.{Hash, AreBytes}
use Rattle.hashtree.specs.Tree.{block, block_count}
use Rattle.node_maps.specs.Places.{tree_height, PartialTree, IsKnown, IsTreePlace}
use Rattle.partial_tree.specs.Closed.{IsClosed, Keeps, Collision, BlockCollision, whole}
use Rattle.partial_tree.specs.Claims.{AreHashes, claims, joined, top_layer, top_index, GoodRange, GoodCount, IsAccepted, IsHeldBy, CanAnswer, answer_of}
use Rattle.partial_tree.specs.Claims.{Refuses}
use Rattle.partial_tree.specs.declared.refusal.HashRefusal.{HashRefusal as Refusal}
use Rattle.partial_tree.specs.Fill.{fill_claims, IsFillAccepted}
use Rattle.partial_tree.specs.EndPads.{AreEndPadsKnown, IsShortAsk}
use Rattle.partial_tree.specs.LeafRows.{TakesRow}
use Rattle.node_maps.specs.Known.{Known, look}
use Rattle.partial_tree.specs.Gaps.{gaps, window, want_ask, want_of}
use Rattle.partial_tree.specs.Trust.{PassesTest, HasNoCollision, AreJoinsOf, AreInputsOf}

-- the whole tree of a file that fits a tree is closed
abbrev pub WholeIsClosed : Type 0
WholeIsClosed = (t : Tree) (f : List ℕ) → Fits f t.length t.root → IsClosed t (whole f)

-- two closed partial trees of one tree agree wherever both have a value, or a collision of them is
-- named
abbrev pub ClosedTreesAgree : Type 0
ClosedTreesAgree = (t : Tree) (J K : PartialTree) → IsClosed t J → IsClosed t K
    → (l i : ℕ) (u v : Hash) → J l i ≡ Some u → K l i ≡ Some v → (u ≡ v) ⊎ Collision J K

-- a block whose digest is a known leaf is that block of every file that fits, or a collision is
-- named
abbrev pub KnownLeafNamesBlock : Type 0
KnownLeafNamesBlock = (t : Tree) (K : PartialTree) (f : List ℕ) → IsClosed t K
    → Fits f t.length t.root
    → (i : ℕ) → i < block_count t.length → (leaf b : List ℕ) → K 0 i ≡ Some leaf → sha256 b ≡ leaf
    → (b ≡ block f i) ⊎ (Collision (whole f) K ⊎ BlockCollision f i b)

-- a partial tree stays closed when an accepted message is joined to it
abbrev pub JoinedStaysClosed : Type 0
JoinedStaysClosed = (t : Tree) (K : PartialTree) (ask : Asked) (hashes : List Hash) → IsClosed t K
    → AreHashes hashes
    → IsAccepted t.length K ask hashes → IsClosed t (joined K (claims ask hashes))

-- what is joined to a partial tree keeps what it has
abbrev pub JoinedKeeps : Type 0
JoinedKeeps = (K C : PartialTree) → Keeps K (joined K C)

-- a partial tree stays closed when an accepted whole layer is joined to it
abbrev pub FilledStaysClosed : Type 0
FilledStaysClosed = (t : Tree) (K : PartialTree) (l : ℕ) (hashes : List Hash) → IsClosed t K
    → AreHashes hashes
    → IsFillAccepted t.length K l hashes → IsClosed t (joined K (fill_claims t.length l hashes))

-- a message with what a closed tree has is accepted by each closed tree that knows its top, or a
-- collision is named
abbrev pub TrueMessageIsAccepted : Type 0
TrueMessageIsAccepted = (t : Tree) (J K : PartialTree) (ask : Asked) (hashes : List Hash)
    → IsClosed t J → IsClosed t K
    → GoodRange (tree_height t.length) ask → GoodCount (tree_height t.length) ask hashes
    → IsHeldBy J ask hashes
    → IsKnown K (top_layer ask hashes) (top_index ask hashes) → IsAccepted t.length K ask hashes
    ⊎ Collision J K

-- what one session answers to an ask with enough proof layers, each other accepts, or a collision
-- is named
abbrev pub AnswerIsAccepted : Type 0
AnswerIsAccepted = (t : Tree) (J K : PartialTree) (ask : Asked) → IsClosed t J → IsClosed t K
    → CanAnswer (tree_height t.length) J ask → tree_height t.length - ask.base - 1 ≤ ask.proof
    → IsAccepted t.length K ask (answer_of (tree_height t.length) J ask) ⊎ Collision J K

-- gaps never rise
abbrev pub GapsNeverRise : Type 0
GapsNeverRise = (len : ℕ) (K L : PartialTree) → Keeps K L → gaps len L ≤ gaps len K

-- gaps are at most the windows that hold a block
abbrev pub GapsAreAtMostWindows : Type 0
GapsAreAtMostWindows = (len : ℕ) (K : PartialTree)
    → gaps len K ≤ (block_count len + window len - 1) / window len

-- if there is no gap, all leaves of blocks are known
abbrev pub NoGapMeansAllKnown : Type 0
NoGapMeansAllKnown = (len : ℕ) (K : PartialTree) → gaps len K ≡ 0 → (b : ℕ) → b < block_count len
    → IsKnown K 0 b

-- if all leaves of blocks are known, there is no gap
abbrev pub AllKnownMeansNoGap : Type 0
AllKnownMeansNoGap = (len : ℕ) (K : PartialTree) → ((b : ℕ) → b < block_count len → IsKnown K 0 b)
    → gaps len K ≡ 0

-- an accepted answer to what was wanted and is not known yet closes one gap
abbrev pub AnswerClosesOneGap : Type 0
AnswerClosesOneGap = (t : Tree) (b : ℕ) → 1 ≤ tree_height t.length → b < block_count t.length
    → (K : PartialTree) (hashes : List Hash)
    → IsAccepted t.length K (want_ask t b) hashes → K 0 b ≡ None
    → gaps t.length (joined K (claims (want_ask t b) hashes)) + 1 ≡ gaps t.length K

-- an accepted answer to what was wanted leaves fewer gaps than there were at the ask
abbrev pub AnswerLeavesFewerGaps : Type 0
AnswerLeavesFewerGaps = (t : Tree) (b : ℕ) → 1 ≤ tree_height t.length → b < block_count t.length
    → (K : PartialTree) (hashes : List Hash)
    → IsAccepted t.length K (want_ask t b) hashes → (before : PartialTree) → Keeps before K
    → before 0 b ≡ None
    → gaps t.length (joined K (claims (want_ask t b) hashes)) < gaps t.length before

-- each message is accepted, or refused by the first refusal that holds of it
abbrev pub MessageIsAcceptedOrRefused : Type 0
MessageIsAcceptedOrRefused = (t : Tree) (K : PartialTree) (ask : Asked) (hashes : List Hash)
    → ((l i : ℕ) (v : Hash) → K l i ≡ Some v → IsTreePlace (tree_height t.length) l i)
    → IsAccepted t.length K ask hashes ⊎ ((r : Refusal) × Refuses t.length K ask hashes r)

-- ---- at a file's end

-- leaves that reach the file's end make the pads beside it known
abbrev pub RowBringsEndPads : Type 0
RowBringsEndPads = (len first k : ℕ) (hashes : List Hash) (before after : Known) (c : ℕ)
    → TakesRow len first k hashes before c after → block_count len ≤ first + 2 ^ k
    → AreEndPadsKnown len (look after)

-- they stay known
abbrev pub EndPadsStay : Type 0
EndPadsStay = (len : ℕ) (K L : PartialTree) → Keeps K L → AreEndPadsKnown len K
    → AreEndPadsKnown len L

-- a tree that knows them and the leaves of all blocks can answer each short ask for a block
abbrev pub EndPadsLetAnswer : Type 0
EndPadsLetAnswer = (t : Tree) (K : PartialTree) (ask : Asked) → IsClosed t K
    → ((b : ℕ) → b < block_count t.length → IsKnown K 0 b) → AreEndPadsKnown t.length K
    → IsShortAsk t.length ask → CanAnswer (tree_height t.length) K ask

-- whatever is wanted for a block is such an ask
abbrev pub WantedIsShortAsk : Type 0
WantedIsShortAsk = (t : Tree) (K : PartialTree) (b : ℕ) (ask : Asked) → IsClosed t K
    → b < block_count t.length → want_of t K b ≡ Some ask → IsShortAsk t.length ask

-- ---- to one who trusts SHA-256

-- no collision of two trees is named, if no two different inputs that pass a test have one digest,
-- and each two siblings of either tree, joined, pass
abbrev pub TrustedTreesNameNone : Type 0
TrustedTreesNameNone = (test : List ℕ → Bool) (J K : PartialTree) → HasNoCollision (PassesTest test)
    → AreJoinsOf (PassesTest test) J → AreJoinsOf (PassesTest test) K → ¬ Collision J K

-- none of a block of a file and other bytes is named, if both pass such a test
abbrev pub TrustedBlockNamesNone : Type 0
TrustedBlockNamesNone = (test : List ℕ → Bool) (f : List ℕ) (i : ℕ) (b : List ℕ)
    → HasNoCollision (PassesTest test) → PassesTest test (block f i) → PassesTest test b
    → ¬ BlockCollision f i b

-- each two known siblings of a closed tree, joined, are bytes, and so an input of SHA-256
abbrev pub ClosedTreesJoinBytes : Type 0
ClosedTreesJoinBytes = (t : Tree) (K : PartialTree) → IsClosed t K → AreJoinsOf AreBytes K

-- so are each two siblings of the whole tree of a file
abbrev pub WholeTreesJoinBytes : Type 0
WholeTreesJoinBytes = (f : List ℕ) → AreJoinsOf AreBytes (whole f)

-- and all that is hashed for a file of bytes
abbrev pub FilesOfBytesGiveBytes : Type 0
FilesOfBytesGiveBytes = (f : List ℕ) → AreBytes f → AreInputsOf AreBytes f
