-- Pieces that are passed, since nothing of them can be settled.
use Rattle.std.proofs.Common.{◌≡◌, ◌⊎◌, ℕ, ◌+◌, ◌<◌, ◌≤◌, length, Some, None, inl, inr, sym, ap, ◌∙◌, subst, arith}
use Rattle.std.specs.FinMap.{get}
use Rattle.std.proofs.lemmas.Bool.{cases_lt}
use Rattle.std.proofs.lemmas.Option.{none-some}
use Rattle.session.specs.Pieces.{HasPiece}
use Rattle.session.specs.Session.{SessionSeen}
use Rattle.holdings.specs.Cells.{IsUnsettled}
use Rattle.holdings.specs.declared.piece_range.Pieces.{Pieces}
use Rattle.holdings.specs.Holdings.{HoldingsSeen, KeptPieces, seen_at, seen_holdings}
use Rattle.holdings.specs.Next.{AreUnsettled, IsPieceUnsettled}

module _ (S : SessionSeen) (h : HoldingsSeen) (p : Pieces) (m : KeptPieces) (most clock : ℕ) (view : seen_holdings m most clock ≡ h)
    (from first : ℕ) (passed : AreUnsettled S h p from) (none : (q : ℕ) → from ≤ q → q < first → seen_at m (p.tree, q) ≡ None) where
  -- up to the first piece that is there
  pub passed-to : AreUnsettled S h p first
  passed-to q low high x at = by (cases_lt q from)
    where
      there : seen_at m (p.tree, q) ≡ Some x
      there = subst (λ (v : HoldingsSeen). get v.pieces (p.tree, q) ≡ Some x) (sym view) at

      by : (q < from) ⊎ (from ≤ q) → HasPiece S p.tree q (length x.cells) → IsUnsettled S p.tree q (length x.cells) x.cells
      by (inl less) fits = passed q low less x at fits
      by (inr more) fits = absurd (none-some x (sym (none q more high) ∙ there))

  -- and past it, if nothing of it can be settled
  pub passed-more : IsPieceUnsettled S h p.tree first → AreUnsettled S h p (first + 1)
  passed-more unsettled q low high = by (cases_lt q first)
    where
      by : (q < first) ⊎ (first ≤ q) → IsPieceUnsettled S h p.tree q
      by (inl less) = passed-to q low less
      by (inr more) = let same : first ≡ q = omega (arith, more, high) in subst (IsPieceUnsettled S h p.tree) same unsettled
