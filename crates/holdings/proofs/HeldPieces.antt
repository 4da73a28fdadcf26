-- What a settling of one piece is of all that is held.
use Rattle.std.proofs.Common.{◌≡◌, ℕ, ◌+◌, ◌^◌, ◌<◌, length, Option, Some, None, Result, Ok, Err, IfOk, IfSome, IfNone, OnErr, refl, sym, ap, ◌∙◌, subst}
use Rattle.std.proofs.Common.{arith}
use Rattle.std.specs.FinMap.{get}
use Rattle.std.proofs.lemmas.Option.{same_Some}
use Rattle.session.specs.Pieces.{HasPiece}
use Rattle.session.specs.Session.{SessionSeen}
use Rattle.holdings.specs.declared.run.Settled.{Settled}
use Rattle.holdings.specs.Cells.{IsComplete, IsUnsettled}
use Rattle.holdings.specs.Holdings.{PieceSeen, HoldingsSeen, KeptPieces, KeptAges, IsKept, seen_at, seen_holdings}
use Rattle.holdings.specs.Next.{IsPieceUnsettled, IsPieceComplete, SettlesPiece, SettlesIn, Forgets}
use Rattle.holdings.specs.Rows.{SettlesRow}
use Rattle.holdings.proofs.KeptPieces.{kept-written, leaves-cells}
use Rattle.holdings.proofs.Lengths.{settled-length}

-- q is a held piece of what is held, h
pub record IsHeldPiece (S : SessionSeen) (m : KeptPieces) (a : KeptAges) (most clock : ℕ) (h : HoldingsSeen) (q : ℕ × ℕ) (size : ℕ) : Type 0 where
  pub kept : IsKept m a most clock
  pub view : seen_holdings m most clock ≡ h
  pub seen : PieceSeen
  pub held : get h.pieces q ≡ Some seen
  pub long : length seen.cells ≡ size
  pub piece : HasPiece S q.0 q.1 size

module _ {S : SessionSeen} {m : KeptPieces} {a : KeptAges} {most clock : ℕ} {h : HoldingsSeen} {q : ℕ × ℕ} {size : ℕ}
    (x : IsHeldPiece S m a most clock h q size) where
  pub held-kept : seen_at m q ≡ Some x.seen
  held-kept = subst (λ (v : HoldingsSeen). get v.pieces q ≡ Some x.seen) (sym x.view) x.held

  pub low-kept : q.1 + size < 2 ^ 64
  low-kept = let low = (x.kept.aged.low q x.seen held-kept).0 in let long = x.long in omega (arith, low, long)

  is-held : (y : PieceSeen) → seen_at m q ≡ Some y → x.seen ≡ y
  is-held y at = same_Some x.seen y (sym held-kept ∙ at)

  same-row : (m' : KeptPieces) → m' ≡ m → seen_holdings m' most clock ≡ h
  same-row m' same = ap (λ (t : KeptPieces). seen_holdings t most clock) same ∙ x.view

-- and it is settled in its row
pub record IsSettledInRow (E : Type 0) (S S' : SessionSeen) (m m' : KeptPieces) (a : KeptAges) (most clock : ℕ) (h : HoldingsSeen) (q : ℕ × ℕ) (size : ℕ)
    (r : Result (Option Settled) E) : Type 0 where
  pub held : IsHeldPiece S m a most clock h q size
  pub seen : PieceSeen
  pub there : seen_at m q ≡ Some seen
  pub settles : SettlesRow S q.0 q.1 seen r S' m m'

module _ {E : Type 0} {S S' : SessionSeen} {m m' : KeptPieces} {a : KeptAges} {most clock : ℕ} {h : HoldingsSeen} {q : ℕ × ℕ} {size : ℕ} where
  pub kept-after : {r : Result (Option Settled) E} → IsSettledInRow E S S' m m' a most clock h q size r → IsKept m' a most clock
  kept-after {r = Err e} x = subst (λ t. IsKept t a most clock) (sym x.settles.2) x.held.kept
  kept-after {r = Ok None} x = subst (λ t. IsKept t a most clock) (sym x.settles.2) x.held.kept
  kept-after {r = Ok (Some e)} x = kept-written m m' a most clock x.held.kept q x.seen (record { cells = x.settles.0; newest = x.seen.newest }) x.there refl
      (settled-length S q.0 q.1 (length x.seen.cells) x.seen.cells e S' x.settles.0 x.settles.1) x.settles.2

  pub settled-in : {r : Result (Option Settled) E} → IsSettledInRow E S S' m m' a most clock h q size r
      → IfOk r (λ o. IfSome o (λ e. SettlesIn S h q e S' (seen_holdings m' most clock)))
  settled-in {r = Err e} x = tt
  settled-in {r = Ok None} x = tt
  settled-in {r = Ok (Some e)} x = subst (λ (v : HoldingsSeen). SettlesIn S v q e S' (seen_holdings m' most clock)) x.held.view (record {
    seen = x.seen;
    there = x.there;
    piece = subst (HasPiece S q.0 q.1) (sym x.held.long ∙ ap (λ (z : PieceSeen). length z.cells) (is-held x.held x.seen x.there)) x.held.piece;
    cells = x.settles.0;
    settles = x.settles.1;
    after = ap (λ (t : KeptPieces). seen_holdings t most clock) x.settles.2;
  })

  pub unsettled-in : {r : Result (Option Settled) E} → IsSettledInRow E S S' m m' a most clock h q size r
      → IfOk r (λ o. IfNone o (IsPieceUnsettled S h q.0 q.1))
  unsettled-in {r = Err e} x = tt
  unsettled-in {r = Ok (Some e)} x = tt
  unsettled-in {r = Ok None} x = λ z at fits.
      let same : x.seen ≡ z = sym (is-held x.held x.seen x.there) ∙ same_Some x.held.seen z (sym x.held.held ∙ at) in
      subst (λ (z : PieceSeen). IsUnsettled S q.0 q.1 (length z.cells) z.cells) same x.settles.0

  pub same-in : {r : Result (Option Settled) E} → IsSettledInRow E S S' m m' a most clock h q size r
      → IfOk r (λ o. IfNone o (seen_holdings m' most clock ≡ h))
  same-in {r = Err e} x = tt
  same-in {r = Ok (Some e)} x = tt
  same-in {r = Ok None} x = same-row x.held m' x.settles.2

  pub same-session : {r : Result (Option Settled) E} → IsSettledInRow E S S' m m' a most clock h q size r → IfOk r (λ o. IfNone o (S' ≡ S))
  same-session {r = Err e} x = tt
  same-session {r = Ok (Some e)} x = tt
  same-session {r = Ok None} x = x.settles.1

  pub stays-in : {r : Result (Option Settled) E} → IsSettledInRow E S S' m m' a most clock h q size r → OnErr r (seen_holdings m' most clock ≡ h)
  stays-in {r = Ok o} x = tt
  stays-in {r = Err e} x = same-row x.held m' x.settles.2

  pub stays-session : {r : Result (Option Settled) E} → IsSettledInRow E S S' m m' a most clock h q size r → OnErr r (S' ≡ S)
  stays-session {r = Ok o} x = tt
  stays-session {r = Err e} x = x.settles.1

  pub complete-in : {r : Result (Option Settled) E} → IsSettledInRow E S S' m m' a most clock h q size r → OnErr r (IsPieceComplete S h q.0 q.1)
  complete-in {r = Ok o} x = tt
  complete-in {r = Err e} x = record {
    seen = x.held.seen;
    there = x.held.held;
    piece = subst (HasPiece S q.0 q.1) (sym x.held.long) x.held.piece;
    complete = subst (λ (z : PieceSeen). IsComplete S q.0 q.1 (length z.cells) z.cells) (sym (is-held x.held x.seen x.there)) x.settles.0;
  }

-- a piece that is settled, and forgotten if it is bare
pub settles-piece : (S : SessionSeen) (h : HoldingsSeen) (q : ℕ × ℕ) (S' : SessionSeen) (h1 h2 : HoldingsSeen) (o : Option Settled)
    → IfSome o (λ e. SettlesIn S h q e S' h1) → Forgets h1 q h2 → IfSome o (λ e. SettlesPiece S h q.0 q.1 e S' h2)
settles-piece S h q S' h1 h2 None k forgets = tt
settles-piece S h q S' h1 h2 (Some e) k forgets = record {
  seen = k.seen;
  there = k.there;
  piece = k.piece;
  cells = k.cells;
  settles = k.settles;
  leaves = leaves-cells h q k.seen k.cells h2 (subst (λ (v : HoldingsSeen). Forgets v q h2) k.after forgets);
}
