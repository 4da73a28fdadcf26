-- What is held beside a session, and how it is settled.
use Rattle.std.proofs.Common.{◌≡◌, ℕ, Option, Some, None, Result, Ok, Err, IfOk, IfSome, IfNone, OnErr, refl, sym, inl, subst, ap}
use Rattle.session.specs.Session.{SessionSeen}
use Rattle.holdings.specs.declared.piece_range.Pieces.{Pieces}
use Rattle.holdings.specs.declared.run.Settled.{Settled}
use Rattle.holdings.specs.Holdings.{HoldingsSeen}
use Rattle.holdings.specs.Next.{AreUnsettled, LacksMemoryNext, SettlesNext}
use Rattle.c_layouts.specs.Held.{HasSettled}
use Rattle.c_layouts.specs.declared.held_info.RunInfo.{RunInfo}
use Rattle.btcheck_c.specs.Held.{SettlesHeld}
use Rattle.btcheck_c.specs.declared.held.Cursor.{Cursor}
use Rattle.btcheck_c.specs.declared.held.Held.{Held}

-- what can be settled first of some pieces is settled; or nothing of them can be; or memory is refused for one of them
abbrev pub SettledNext : {E : Type 0} → SessionSeen → HoldingsSeen → Pieces → Result (Option Settled) E → SessionSeen → HoldingsSeen → Pieces → Type 0
SettledNext S h p (Ok (Some e)) S' h' p' = SettlesNext S h p e S' h' p'
SettledNext S h p (Ok None) S' h' p' = AreUnsettled S h p p.end × ((S' ≡ S) × (h' ≡ h))
SettledNext S h p (Err e) S' h' p' = LacksMemoryNext S h p p' × ((S' ≡ S) × (h' ≡ h))

-- the clauses of a settling as one statement
pub settled_next : {E : Type 0} (S : SessionSeen) (h : HoldingsSeen) (p : Pieces) (answer : Result (Option Settled) E)
    (S' : SessionSeen) (h' : HoldingsSeen) (p' : Pieces)
    → IfOk answer (λ o. IfSome o (λ e. SettlesNext S h p e S' h' p')) → IfOk answer (λ o. IfNone o (AreUnsettled S h p p.end))
    → IfOk answer (λ o. IfNone o (S' ≡ S)) → IfOk answer (λ o. IfNone o (h' ≡ h))
    → OnErr answer (LacksMemoryNext S h p p') → OnErr answer (S' ≡ S) → OnErr answer (h' ≡ h)
    → SettledNext S h p answer S' h' p'
settled_next S h p (Ok (Some e)) S' h' p' settled unsettled session holdings lacks no_session no_holdings = settled
settled_next S h p (Ok None) S' h' p' settled unsettled session holdings lacks no_session no_holdings = (unsettled, (session, holdings))
settled_next S h p (Err e) S' h' p' settled unsettled session holdings lacks no_session no_holdings = (lacks, (no_session, no_holdings))

abbrev with_holdings : Held → HoldingsSeen → Held
with_holdings h x = record { holdings = x; cursor = h.cursor }

module _ {E : Type 0} (S S' : SessionSeen) (h : Held) (h' : HoldingsSeen) (p' : Pieces) (answer : Result (Option Settled) E)
    (next : SettledNext S h.holdings h.cursor.pieces answer S' h' p') where
  pub settled_none : (run : RunInfo) → answer ≡ Ok None → SettlesHeld run S h 6 S' (record { holdings = h'; cursor = h.cursor })
  settled_none run is =
      let n = subst (λ a. SettledNext S h.holdings h.cursor.pieces a S' h' p') is next in
      inl (Ok None, (refl, (n.0, (n.1.0, ap (with_holdings h) n.1.1))))

  pub settled_some : (q : Cursor) (e : Settled) (status : ℕ) (run : RunInfo) → answer ≡ Ok (Some e) → q.pieces ≡ p' → HasSettled e status run
      → SettlesHeld run S h status S' (record { holdings = h'; cursor = q })
  settled_some q e status run is at has =
      let n = subst (λ a. SettledNext S h.holdings h.cursor.pieces a S' h' p') is next in
      inl (Ok (Some e), (has, subst (λ x. SettlesNext S h.holdings h.cursor.pieces e S' h' x) (sym at) n))

  pub settled_refused : (q : Cursor) (e : E) (run : RunInfo) → answer ≡ Err e → q.pieces ≡ p'
      → SettlesHeld run S h 2 S' (record { holdings = h'; cursor = q })
  settled_refused q e run is at =
      let n = subst (λ a. SettledNext S h.holdings h.cursor.pieces a S' h' p') is next in
      inl (Err tt, (refl, (subst (λ x. LacksMemoryNext S h.holdings h.cursor.pieces x) (sym at) n.0, n.1)))
