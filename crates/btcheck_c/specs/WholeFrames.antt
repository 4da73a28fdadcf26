-- What the calls on a whole frame answer (BEP 3, "peer messages"; BEP 52, "new messages").
use Rattle.std.specs.Prelude.{◌≡◌, ◌≢◌, ◌⊎◌, ℕ, Bool, true, false, List}
use Rattle.holdings.specs.Holdings.{all_pieces}
use Rattle.opening.specs.Trees.{IsTreeWithRoot}
use Rattle.session.specs.Noted.{IsSafeNotedStep}
use Rattle.session.specs.SafeStep.{IsSafeStep}
use Rattle.session.specs.Session.{SessionSeen}
use Rattle.session.specs.declared.verdict.Verdict.{Verdict}
use Rattle.wire.specs.declared.form.Direction.TheVariants.{In}
use Rattle.wire.specs.declared.message.Message.{Message}
use Rattle.wire.specs.declared.message.Message.TheVariants as message
use Rattle.c_layouts.specs.TakenFrames.{HasTakenStatus, with_held}
use Rattle.c_layouts.specs.WholeFrames.{IsFrameOf, IsNoMessage}
use Rattle.c_layouts.specs.declared.held_info.HeldInfo.{HeldInfo}
use Rattle.c_layouts.specs.declared.taken_info.TakenInfo.{TakenInfo}
use Rattle.btcheck_c.specs.Held.{HoldsBlocks}
use Rattle.btcheck_c.specs.Holds.{IsWrongKind}
use Rattle.btcheck_c.specs.declared.held.Held.{Held}
use Rattle.btcheck_c.specs.declared.thing.Kind.{Kind}
use Rattle.btcheck_c.specs.declared.thing.Kind.TheVariants as kind

-- the step of a session on a message that came in; hashes may have to answer an open ask
abbrev pub StepsAsAsked : Bool → SessionSeen → Message → Verdict → SessionSeen → Type 0
StepsAsAsked false S m v S' = IsSafeStep S m v S'
StepsAsAsked true S m v S' = IsSafeNotedStep S (In, m) v S'

-- the session makes this of a message
pub record MessageTaken (asked : Bool) (old out : TakenInfo) (m : Message) (S : SessionSeen)
    (status : ℕ) (S' : SessionSeen) : Type 0 where
  pub verdict : Verdict
  pub is : HasTakenStatus m verdict status old out
  pub step : StepsAsAsked asked S m verdict S'

-- the bytes are one whole frame, and P says what is made of its message; or they are none, or the
-- message has a wrong size, and nothing has changed
abbrev pub OfFrame : {X : Type 0} → (Message → X → ℕ → X → Type 0) → List ℕ → X → ℕ → X → Type 0
OfFrame P bytes x status x' = ((m : Message) × (IsFrameOf bytes m × P m x status x'))
    ⊎ (IsNoMessage bytes status × (x' ≡ x))

-- the session of a handle takes a whole frame
abbrev pub TakesWhole : Bool → List ℕ → TakenInfo → TakenInfo → Kind → ℕ → Kind → Type 0
TakesWhole asked bytes old out (kind.Session S) status k' = (S' : SessionSeen)
    × ((k' ≡ kind.Session S') × OfFrame (MessageTaken asked old out) bytes S status S')
TakesWhole asked bytes old out k status k' = IsWrongKind k status k'

-- ---- with holdings

-- the blocks of a piece message are taken, and held if they cannot be proved yet
abbrev pub BlocksHeld : TakenInfo → TakenInfo → ℕ → ℕ → List ℕ → SessionSeen → Held → ℕ
    → SessionSeen → Held → Type 0
BlocksHeld old out index begin bytes S h status S' h' = (info : HeldInfo)
    × (HoldsBlocks index begin bytes info S h status S' h'
    × (status ≡ 0 → out ≡ with_held old info))

-- all pieces of this tree are looked at next
pub record LooksAtTree (n : ℕ) (h h' : Held) : Type 0 where
  pub holdings : h'.holdings ≡ h.holdings
  pub looks : h'.cursor.pieces ≡ all_pieces n

-- all pieces of the tree with this root are looked at next; or there is none, and nothing has
-- changed
abbrev pub LooksAtRoot : SessionSeen → List ℕ → Held → Held → Type 0
LooksAtRoot S root h h' =
    ((n : ℕ) × (IsTreeWithRoot S.torrent.trees root n × LooksAtTree n h h'))
    ⊎ (((n : ℕ) → ¬ IsTreeWithRoot S.torrent.trees root n) × (h' ≡ h))

-- at 0 all pieces of the tree with this root are looked at next, else nothing has changed
pub record LooksIfTaken (S : SessionSeen) (root : List ℕ) (status : ℕ) (h h' : Held) : Type 0
  where
    pub taken : status ≡ 0 → LooksAtRoot S root h h'
    pub refused : status ≢ 0 → h' ≡ h

-- session and holdings make this of a message: blocks that cannot be proved yet are held, and after
-- hashes that were taken the pieces of their tree are looked at. No other message changes what is
-- held
abbrev pub MessageHeld : Bool → TakenInfo → TakenInfo → Message → SessionSeen → Held → ℕ
    → SessionSeen → Held → Type 0
MessageHeld asked old out (message.Piece index begin bytes) S h status S' h' =
    BlocksHeld old out index begin bytes.now S h status S' h'
MessageHeld asked old out (message.Hashes ask hashes) S h status S' h' =
    MessageTaken asked old out (message.Hashes ask hashes) S status S'
    × LooksIfTaken S' ask.root status h h'
MessageHeld asked old out m S h status S' h' =
    MessageTaken asked old out m S status S' × (h' ≡ h)

-- the session takes a whole frame, and what it cannot prove yet is held
abbrev pub HoldsWhole : Bool → List ℕ → TakenInfo → TakenInfo → SessionSeen → Held → ℕ → SessionSeen
    → Held → Type 0
HoldsWhole asked bytes old out S h status S' h' =
    OfFrame {X = SessionSeen × Held}
    (λ m x status x'. MessageHeld asked old out m x.0 x.1 status x'.0 x'.1)
    bytes (S, h) status (S', h')
