-- What is held is of blocks that came.
use Rattle.std.proofs.Common.{◌≡◌, ◌≢◌, ◌⊎◌, ℕ, List, [], ◌∷◌, length, map, Option, Some, inl, inr, refl, sym, ap, ◌∙◌, subst}
use Rattle.std.specs.Prelude.{slice_get}
use Rattle.std.specs.FinMap.{empty, get, get-empty}
use Rattle.std.proofs.lemmas.Bool.{cases_eq, cond-true, cond-false, and_from, and_left, and_right, eq-eqb, ne_eqb}
use Rattle.std.proofs.lemmas.Option.{none-some, same_Some}
use Rattle.node_maps.specs.Known.{place_cmp}
use Rattle.opening.specs.Description.{Description}
use Rattle.partial_tree.specs.LeafRows.{IsLeafRow}
use Rattle.session.specs.Layouts.{root_of_entry}
use Rattle.session.specs.Pieces.{piece_span}
use Rattle.session.specs.Session.{SessionSeen}
use Rattle.holdings.specs.declared.holding.Hold.TheVariants.{Held}
use Rattle.holdings.specs.declared.piece_range.Pieces.{Pieces}
use Rattle.holdings.specs.declared.run.Run.{Run}
use Rattle.holdings.specs.declared.run.Settled.{Settled}
use Rattle.holdings.specs.Holding.{IsHeldNow}
use Rattle.holdings.specs.Holdings.{HoldingsSeen}
use Rattle.holdings.specs.Next.{SettlesNext}
use Rattle.holdings.specs.Runs.{Act, Elsewhere, Holds, newest}
use Rattle.holding_laws.proofs.Fewer.{fewer-from, settled-shrinks}
use Rattle.holding_laws.proofs.HeldFrom.{IsHeldFrom, IsPieceOf, held-from, pair}

-- each digest that is held is of the newest bytes that came for its block
pub record AreOfCame (d : Description) (Came : ℕ → ℕ → List ℕ → Type 0) (k : HoldingsSeen) : Type 0 where
  pub past : List Act
  pub held : IsHeldFrom d past k
  pub came : (n b : ℕ) (bytes : List ℕ) → newest past n b ≡ Some bytes → Came n b bytes

pub none-held : (d : Description) (Came : ℕ → ℕ → List ℕ → Type 0) (k : HoldingsSeen) → k.pieces ≡ empty → AreOfCame d Came k
none-held d Came k none = record {
  past = [];
  held = record {
    piece = λ q x at. absurd (none-some x (sym (ap (λ m. get m q) none ∙ get-empty place_cmp q) ∙ at));
    from = λ q x at. absurd (none-some x (sym (ap (λ m. get m q) none ∙ get-empty place_cmp q) ∙ at));
  };
  came = λ n b bytes e. absurd (none-some bytes e);
}

pub came-weaker : (d : Description) (P Q : ℕ → ℕ → List ℕ → Type 0) (k : HoldingsSeen) → ((n b : ℕ) (bytes : List ℕ) → P n b bytes → Q n b bytes)
    → AreOfCame d P k → AreOfCame d Q k
came-weaker d P Q k weaker good = record {
  past = good.past;
  held = good.held;
  came = λ n b bytes e. weaker n b bytes (good.came n b bytes e);
}

module _ (d : Description) (Came : ℕ → ℕ → List ℕ → Type 0) (k : HoldingsSeen) (good : AreOfCame d Came k) (S : SessionSeen) (k' : HoldingsSeen) where
  -- one more block is held
  module _ (same : S.torrent ≡ d) (n b : ℕ) (bytes : List ℕ) (dropped : Option Run) (h : IsHeldNow k S n b bytes dropped k')
      (Next : ℕ → ℕ → List ℕ → Type 0) (new : Next n b bytes)
      (others : (m c : ℕ) (bs : List ℕ) → (n ≡ m → b ≡ c → ⊥) → Came m c bs → Next m c bs) where
    here : IsPieceOf d (pair n h.first) h.size
    here = record {
      tree = h.tree;
      there = ap (λ (e : Description). slice_get (map root_of_entry e.trees) n) (sym same) ∙ h.is_tree;
      row = subst (λ (e : Description). IsLeafRow h.tree.length h.first (piece_span e.piece_length h.tree.length) h.size) same h.piece;
    }

    abbrev more : List Act
    more = Holds n b bytes (Held dropped) ∷ good.past

    came-then : (m c : ℕ) (bs : List ℕ) → newest more m c ≡ Some bs → Next m c bs
    came-then m c bs e = by (cases_eq n m) (cases_eq b c)
      where
        by : (n ≡ m) ⊎ (n ≢ m) → (b ≡ c) ⊎ (b ≢ c) → Next m c bs
        by (inl i) (inl j) =
            let is : bytes ≡ bs = same_Some bytes bs (sym (cond-true _ _ _ (and_from _ _ (eq-eqb n m i) (eq-eqb b c j))) ∙ e) in
            subst (λ t. Next t c bs) i (subst (λ t. Next n t bs) j (subst (Next n b) is new))
        by (inl i) (inr j) = others m c bs (λ p q. j q) (good.came m c bs (sym (cond-false _ _ _ (and_right _ _ (ne_eqb b c j))) ∙ e))
        by (inr i) j = others m c bs (λ p q. i p) (good.came m c bs (sym (cond-false _ _ _ (and_left _ _ (ne_eqb n m i))) ∙ e))

    pub one-held : AreOfCame d Next k'
    one-held = record {
      past = more;
      held = subst (λ c. IsHeldFrom d (Holds n c bytes (Held dropped) ∷ good.past) k') (sym h.block_is)
          (held-from d good.past k good.held n h.first h.size h.at bytes dropped k' here h.inside h.keeps);
      came = came-then;
    }

  -- something is settled
  pub one-settled : (p : Pieces) (e : Settled) (S' : SessionSeen) (p' : Pieces) → SettlesNext S k p e S' k' p' → AreOfCame d Came k'
  one-settled p e S' p' next =
      let piece = next.settles in
      let (long, fewer) = settled-shrinks S p.tree next.first (length piece.seen.cells) piece.seen.cells S' piece.cells e piece.settles in
      record {
        past = Elsewhere ∷ good.past;
        held = fewer-from d good.past k good.held Elsewhere (λ n b. refl) (pair p.tree next.first) piece.seen piece.there piece.cells long fewer k'
            piece.leaves;
        came = good.came;
      }
