-- What is held beside a session of blocks that cannot be proved yet, and how it is settled, as the
-- calls have it.
use Rattle.std.specs.Prelude.{◌≡◌, ◌⊎◌, ℕ, zero, suc, ◌+◌, ◌-◌, ◌/◌, ◌%◌, ◌^◌, ◌≤◌, List, length, slice_get, Option, Some, None, Result, Ok, Err}
use Rattle.std.specs.FinMap.{empty}
use Rattle.hashtree.specs.Tree.{block}
use Rattle.opening.specs.Blocks.{IsBlockRun}
use Rattle.opening.specs.Description.{Description}
use Rattle.partial_tree.specs.Names.{block_refusal_number}
use Rattle.partial_tree.specs.TreeRoot.{TreeRoot}
use Rattle.partial_tree.specs.declared.refusal.BlockRefusal.{BlockRefusal}
use Rattle.partial_tree.specs.declared.refusal.BlockRefusal.TheVariants.{Unproved}
use Rattle.session.specs.Blocks.{BlocksSeen}
use Rattle.session.specs.Layouts.{roots, tree_of}
use Rattle.session.specs.Pieces.{piece_span}
use Rattle.session.specs.Session.{SessionSeen}
use Rattle.holdings.specs.declared.holding.Hold.{Hold}
use Rattle.holdings.specs.declared.piece_range.Pieces.{Pieces}
use Rattle.holdings.specs.declared.run.Settled.{Settled}
use Rattle.holdings.specs.Holding.{IsBlockHeldBy}
use Rattle.holdings.specs.Holdings.{HoldingsSeen, all_pieces, held_count, most_pieces}
use Rattle.holdings.specs.Next.{AreUnsettled, LacksMemoryNext, SettlesNext}
use Rattle.btcheck_c.specs.Taken.{BlocksTaken}
use Rattle.c_layouts.specs.Held.{with_hold, HasSettled, IsUnheld}
use Rattle.c_layouts.specs.declared.held_info.HeldInfo.{HeldInfo}
use Rattle.c_layouts.specs.declared.held_info.RunInfo.{RunInfo}
use Rattle.btcheck_c.specs.Holds.{IsWrongKind, Started}
use Rattle.btcheck_c.specs.declared.held.Held.{Held}
use Rattle.btcheck_c.specs.declared.thing.Thing.{Thing}
use Rattle.btcheck_c.specs.declared.thing.Kind.{Kind}
use Rattle.btcheck_c.specs.declared.thing.Kind.TheVariants as kind

-- ---- beginning

-- nothing is held yet; this many blocks may be, or those of the torrent's longest piece
pub record IsNewHeld (d : Description) (bound : ℕ) (h : Held) : Type 0 where
  pub nothing : h.holdings.pieces ≡ empty
  pub most : h.holdings.most ≡ most_pieces bound (d.piece_length / 16384)
  pub longest : h.holdings.longest ≡ d.piece_length / 16384
  pub clock : h.holdings.clock ≡ 0
  pub looks : h.cursor.pieces ≡ all_pieces 0

-- so the session's torrent has it, or memory is refused; and the session stays as it is
abbrev pub StartsHolding : ℕ → Kind → Result Held ℕ → Kind → Type 0
StartsHolding bound (kind.Session S) made k' = (k' ≡ kind.Session S)
    × ((made ≡ Err 2) ⊎ ((h : Held) × (made ≡ Ok h) × IsNewHeld S.torrent bound h))
StartsHolding bound k made k' = (made ≡ Err 1) × (k' ≡ k)

-- such holdings are in the empty handle, or are not; one that is full stays as it is, and so does
-- the session
abbrev pub HoldingStarted : ℕ → Option Thing → Option Thing → ℕ → Option Thing → Option Thing
    → Type 0
HoldingStarted bound = Started kind.Holdings (StartsHolding bound)

-- ---- holding

-- the blocks of a message are blocks of tree n, which is the tree of their file
pub record AreBlocksPlaced (S : SessionSeen) (v : BlocksSeen) (size : ℕ) : Type 0 where
  pub number : ℕ
  pub tree : TreeRoot
  pub of_file : tree_of S v.file ≡ Some number
  pub there : slice_get (roots S) number ≡ Some tree
  pub run : IsBlockRun tree.length v.first size (length v.refusals)

-- entry m of a message: if its block is unproved, the block is to be held in tree n
abbrev pub EntryHeld : SessionSeen → ℕ → BlocksSeen → List ℕ → ℕ → Option BlockRefusal
    → HoldingsSeen → HeldInfo → HoldingsSeen → HeldInfo → Type 0
EntryHeld S n v bytes m (Some Unproved) h out h' out' = (r : Hold)
    × (IsBlockHeldBy h S n (v.first + m) (block bytes m) r h' × (out' ≡ with_hold out m r))
EntryHeld S n v bytes m r h out h' out' = (h' ≡ h) × (out' ≡ out)

-- the first m entries of a message, one after the other
abbrev pub EntriesHeld : SessionSeen → ℕ → BlocksSeen → List ℕ → ℕ → HoldingsSeen → HeldInfo
    → HoldingsSeen → HeldInfo → Type 0
EntriesHeld S n v bytes zero h out h' out' = (h' ≡ h) × (out' ≡ out)
EntriesHeld S n v bytes (suc m) h out h' out' = (between : HoldingsSeen) × ((so_far : HeldInfo)
    × (EntriesHeld S n v bytes m h out between so_far × ((r : Option BlockRefusal)
    × ((slice_get v.refusals m ≡ Some r) × EntryHeld S n v bytes m r between so_far h' out'))))

-- the pieces that have one of `count` blocks of tree n, from block `first` on
pub record ArePiecesOfRun (S : SessionSeen) (n first count : ℕ) (p : Pieces) : Type 0 where
  pub tree_is : p.tree ≡ n
  pub tree : TreeRoot
  pub there : slice_get (roots S) n ≡ Some tree
  pub from_is : p.from
      ≡ first - first % 2 ^ piece_span S.torrent.piece_length tree.length
  pub end_is : p.end ≡ first + count

-- the blocks of a message that cannot be proved yet are held, in their order; and the pieces that
-- have a block of the message are looked at next
pub record HeldBlocks (S : SessionSeen) (v : BlocksSeen) (bytes : List ℕ) (h : Held)
    (out : HeldInfo) (h' : Held) : Type 0 where
  pub number : ℕ
  pub of_file : tree_of S v.file ≡ Some number
  pub laid : HeldInfo
  pub unheld : IsUnheld v laid
  pub each : EntriesHeld S number v bytes (length v.refusals) h.holdings laid h'.holdings out
  pub looks : ArePiecesOfRun S number v.first (length v.refusals) h'.cursor.pieces

-- the blocks of a message that the session took are held if they cannot be proved yet; or the
-- message was refused, and nothing has changed
abbrev pub AreHeldOf : Result BlocksSeen BlockRefusal → List ℕ → HeldInfo → Held → ℕ → SessionSeen
    → Held → Type 0
AreHeldOf (Ok v) bytes out h status S' h' = (status ≡ 0) × HeldBlocks S' v bytes h out h'
AreHeldOf (Err r) bytes out h status S' h' =
    (status ≡ 300 + block_refusal_number r) × (h' ≡ h)

-- the session takes the blocks of a message, and what it cannot prove yet is held
abbrev pub HoldsBlocks : ℕ → ℕ → List ℕ → HeldInfo → SessionSeen → Held → ℕ → SessionSeen → Held
    → Type 0
HoldsBlocks index begin bytes out S h status S' h' = (answer : Result BlocksSeen BlockRefusal)
    × (BlocksTaken S index begin bytes answer S' × AreHeldOf answer bytes out h status S' h')

-- ---- settling

-- what can be settled first of the pieces that are looked at is settled, and its blocks are
-- written; or nothing of them can be, and nothing has changed; or memory is refused for one of
-- them, which is passed then
abbrev pub SettledAs : {E : Type 0} → Result (Option Settled) E → RunInfo → SessionSeen → Held → ℕ
    → SessionSeen → Held → Type 0
SettledAs (Ok (Some e)) run S h status S' h' = HasSettled e status run
    × SettlesNext S h.holdings h.cursor.pieces e S' h'.holdings h'.cursor.pieces
SettledAs (Ok None) run S h status S' h' = (status ≡ 6)
    × (AreUnsettled S h.holdings h.cursor.pieces h.cursor.pieces.end × ((S' ≡ S) × (h' ≡ h)))
SettledAs (Err e) run S h status S' h' = (status ≡ 2)
    × (LacksMemoryNext S h.holdings h.cursor.pieces h'.cursor.pieces
    × ((S' ≡ S) × (h'.holdings ≡ h.holdings)))

-- so it is; or the session's torrent has no such tree, and nothing has changed
abbrev pub SettlesHeld : RunInfo → SessionSeen → Held → ℕ → SessionSeen → Held → Type 0
SettlesHeld run S h status S' h' =
    ((answer : Result (Option Settled) (Unit {0})) × SettledAs answer run S h status S' h')
    ⊎ ((status ≡ 5) × ((length S.torrent.trees ≤ h.cursor.pieces.tree)
    × ((S' ≡ S) × (h' ≡ h))))

-- ---- what is held

-- all pieces of tree n are looked at next
abbrev pub LooksAt : ℕ → Kind → ℕ → Kind → Type 0
LooksAt n (kind.Holdings h) status k' = (status ≡ 0) × ((h' : Held)
    × ((k' ≡ kind.Holdings h') × ((h'.holdings ≡ h.holdings)
    × (h'.cursor.pieces ≡ all_pieces n))))
LooksAt n k status k' = IsWrongKind k status k'

-- how many blocks are held
abbrev pub CountsHeld : ℕ → Kind → ℕ → Kind → Type 0
CountsHeld count (kind.Holdings h) status k' =
    (k' ≡ kind.Holdings h) × ((status ≡ 0) × (count ≡ held_count h.holdings))
CountsHeld count k status k' = IsWrongKind k status k'

-- ---- both handles

-- a call on a session and on holdings; things of other kinds stay as they are, and the status is 1
abbrev pub OnBoth : (SessionSeen → Held → ℕ → SessionSeen → Held → Type 0) → Kind → Kind → ℕ
    → Kind → Kind → Type 0
OnBoth P (kind.Session S) (kind.Holdings h) status k' l' = (S' : SessionSeen) × ((h' : Held)
    × ((k' ≡ kind.Session S') × ((l' ≡ kind.Holdings h') × P S h status S' h')))
OnBoth P k l status k' l' = (status ≡ 1) × ((k' ≡ k) × (l' ≡ l))

-- a call on a session, and on what another handle holds: where that one has no holdings, session
-- and handle stay as they are, and the status is 1
abbrev pub WithHoldings : (SessionSeen → Held → ℕ → SessionSeen → Held → Type 0) → SessionSeen
    → Option Thing → ℕ → SessionSeen → Option Thing → Type 0
WithHoldings P S None status S' q' = (status ≡ 1) × ((S' ≡ S) × (q' ≡ None))
WithHoldings P S (Some u) status S' q' = (u' : Thing) × ((q' ≡ Some u')
    × OnBoth P (kind.Session S) u.kind status (kind.Session S') u'.kind)
