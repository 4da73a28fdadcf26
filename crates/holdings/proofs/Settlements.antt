-- How the steps of one settling make it up.
use Rattle.std.proofs.Common.{◌≡◌, ◌≢◌, ◌⊎◌, ℕ, zero, suc, ◌+◌, ◌-◌, ◌/◌, ◌^◌, ◌<◌, ◌≤◌, List, length, replicate, Option, Some, None, IsSome, inl, inr, refl}
use Rattle.std.proofs.Common.{sym, ap, ◌∙◌, subst, arith, add-one}
use Rattle.std.specs.Prelude.{slice_get}
use Rattle.std.specs.Option.{option_or}
use Rattle.std.proofs.lemmas.Bool.{false≢true}
use Rattle.std.proofs.lemmas.Option.{none-some, same_Some}
use Rattle.partial_tree.specs.TreeRoot.{TreeRoot}
use Rattle.session.specs.Pieces.{piece_span}
use Rattle.node_maps.specs.Digest.{Hash}
use Rattle.node_maps.specs.Known.{look}
use Rattle.partial_tree.specs.declared.refusal.PieceRefusal.{PieceRefusal}
use Rattle.partial_tree.specs.declared.refusal.PieceRefusal.TheVariants.{BadPlace, BadSize, Unproved, BadPiece, NoMemory}
use Rattle.session.specs.Layouts.{roots}
use Rattle.session.specs.Session.{SessionSeen, TreeState, IsTree}
use Rattle.session.specs.Pieces.{AreLeavesRefused, IsLeafMarked, IsNoLeaf, with_leaf_marked}
use Rattle.session.proofs.OneTree.{tree-after}
use Rattle.session.proofs.States.{set-write}
use Rattle.holdings.specs.declared.run.Run.{Run}
use Rattle.holdings.specs.declared.run.Settled.{Settled}
use Rattle.holdings.specs.declared.run.Settled.TheVariants.{Proved, False}
use Rattle.holdings.specs.Cells.{Cells, digest_in, known_in, known_at, tried_leaf, AreUnknown, IsComplete, IsUnsettled, IsNodeKnown}
use Rattle.holdings.specs.Settling.{AreTried, IsJoined, IsRefuted, IsTaken, IsBlockMarked, AreBlocksMarked, CannotMark, IsMarkedRun, IsGivenUp, IsBlockJudged}
use Rattle.holdings.specs.Settling.{IsFirstKnownBlock}
use Rattle.holdings.specs.Settling.{Settles, run_of}

pub some_of : {X : Type 0} (o : Option X) → IsSome o → (x : X) × (o ≡ Some x)
some_of None h = absurd (false≢true h)
some_of (Some x) h = (x, refl)

pub known-here : (S : SessionSeen) (n : ℕ) (s : TreeState) (l i : ℕ) → slice_get S.trees n ≡ Some s → known_at S n l i ≡ look s.known l i
known-here S n s l i at = ap (λ o. known_in o l i) at

-- what is not known there as a leaf cannot be marked
pub no-leaf : (S : SessionSeen) (n first : ℕ) (cells : Cells) (j : ℕ) (d : Hash) → digest_in cells j ≡ Some d → IsNoLeaf S n (first + j) d
    → CannotMark S n first cells j
no-leaf S n first cells j d held unlike = λ e other known.
    let same : d ≡ e = same_Some d e (sym held ∙ other) in
    unlike.2 (sym (known-here S n unlike.0 0 (first + j) unlike.1) ∙ known ∙ ap Some (sym same))

-- nothing is held there
pub none-held : (S : SessionSeen) (n first : ℕ) (cells : Cells) (j : ℕ) → digest_in cells j ≡ None → CannotMark S n first cells j
none-held S n first cells j none = λ e other known. none-some e (sym none ∙ other)

-- a refusal that is not of memory, of a complete piece, is of its leaves
pub refuted : (S : SessionSeen) (n first size : ℕ) (cells : Cells) (leaves : List Hash) (r : PieceRefusal) → IsComplete S n first size cells
    → AreTried S n first size cells leaves → AreLeavesRefused S n first leaves r → r ≢ NoMemory → IsRefuted S n first size cells
refuted S n first size cells leaves BadPlace complete tried h other = absurd h.refuses
refuted S n first size cells leaves BadSize complete tried h other = absurd h.refuses
refuted S n first size cells leaves NoMemory complete tried h other = absurd (other refl)
refuted S n first size cells leaves BadPiece complete tried h other =
    record { complete = complete; leaves = leaves; tried = tried; refused = h }
refuted S n first size cells leaves Unproved complete tried h other =
    let (t, there, node) = complete.node in
    let one : h.tree ≡ t = same_Some h.tree t (sym h.is_tree.tree_is ∙ there) in
    let k : ℕ = piece_span S.torrent.piece_length t.length in
    let (v, known) = some_of (known_at S n k (first / 2 ^ k)) node in
    let here : known_at S n k (first / 2 ^ k) ≡ look h.before.known k (first / 2 ^ k) = known-here S n h.before k (first / 2 ^ k) h.is_tree.state_is in
    let none : look h.before.known k (first / 2 ^ k) ≡ None = subst (λ (u : TreeRoot). look h.before.known (piece_span S.torrent.piece_length u.length)
    (first / 2 ^ piece_span S.torrent.piece_length u.length) ≡ None) one h.refuses in
    absurd (none-some v (sym none ∙ (sym here ∙ known)))

module _ (S : SessionSeen) (n first size : ℕ) (cells : Cells) where
  -- the held block with a known leaf that comes first is judged
  pub settles-known : (from : ℕ) (e : Settled) (S' : SessionSeen) (cells' : Cells) → from < size → IsSome (digest_in cells from)
      → IsSome (known_at S n 0 (first + from)) → AreUnknown S n first from cells → IsBlockJudged S n first size cells from e S' cells'
      → Settles S n first size cells e S' cells'
  settles-known from e S' cells' inside held known earlier judged =
      let (d, is_held) = some_of (digest_in cells from) held in
      let (v, is_known) = some_of (known_at S n 0 (first + from)) known in
      inl (record {
        from = from;
        is_first = record { inside = inside; digest = d; held = is_held; leaf = v; known = is_known; earlier = earlier };
        judged = judged;
      })

  -- after the join of a complete piece its first held block is known, and marked
  pub settles-joined : (M : SessionSeen) (from : ℕ) (e : Settled) (S' : SessionSeen) (cells' : Cells) → AreUnknown S n first size cells
      → IsJoined S n first size cells M → from < size → IsSome (digest_in cells from) → ((i : ℕ) → i < from → digest_in cells i ≡ None)
      → IsBlockJudged M n first size cells from e S' cells' → Settles S n first size cells e S' cells'
  settles-joined M from e S' cells' unknown joined inside held earlier judged = by e judged
    where
      d : Hash
      d = (some_of (digest_in cells from) held).0

      is_held : digest_in cells from ≡ Some d
      is_held = (some_of (digest_in cells from) held).1

      known : known_at M n 0 (first + from) ≡ Some d
      known =
          let taken = joined.taken in
          let at : IsTree M n taken.tree taken.after = tree-after S n taken.tree taken.before taken.after M taken.is_tree taken.state_after in
          let low : from < length joined.leaves = omega (arith, inside, joined.tried.count) in
          known-here M n taken.after 0 (first + from) at.state_is ∙ joined.known taken.tree taken.after at from low ∙ sym (joined.tried.each from inside)
          ∙ ap (λ o. option_or o (known_at S n 0 (first + from))) is_held

      is_first : IsFirstKnownBlock M n first size cells from
      is_first = record {
        inside = inside;
        digest = d;
        held = is_held;
        leaf = d;
        known = known;
        earlier = λ j low some. absurd (false≢true (subst IsSome (earlier j low) some));
      }

      by : (e : Settled) → IsBlockJudged M n first size cells from e S' cells' → Settles S n first size cells e S' cells'
      by (Proved run) marked = inr (record { unknown = unknown; joined = M; join = joined; from = from; is_first = is_first; marked = marked })
      by (False run) given = absurd (given.other d is_held known)

  -- a refuted piece is given up
  pub settles-refuted : (run : Run) (S' : SessionSeen) (cells' : Cells) → AreUnknown S n first size cells → IsRefuted S n first size cells
      → run ≡ run_of n first 0 (size - 1) → S' ≡ S → cells' ≡ replicate (length cells) None → Settles S n first size cells (False run) S' cells'
  settles-refuted run S' cells' unknown refuted run_is same gone =
      inr (record { unknown = unknown; refuted = refuted; run_is = run_is; session = same; rest = gone })

-- one more block is marked
pub marked-more : (S : SessionSeen) (n first : ℕ) (cells : Cells) (from k : ℕ) (M : SessionSeen) (between : Cells) (S' : SessionSeen) (cells' : Cells)
    → AreBlocksMarked S n first cells from k M between → IsBlockMarked M n first between (from + k) S' cells'
    → AreBlocksMarked S n first cells from (k + 1) S' cells'
marked-more S n first cells from k M between S' cells' rest last =
    subst (λ i. AreBlocksMarked S n first cells from i S' cells') (sym (add-one k)) (M, between, rest, last)
