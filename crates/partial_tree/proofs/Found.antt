-- What is noted where all claims are compared, one after the other.
use Rattle.std.proofs.Common.{◌≡◌, ◌⊎◌, ℕ, List, [], ◌∷◌, Some, None, inl, inr, refl, sym, ap, ap₂, ◌∙◌, subst}
use Rattle.std.specs.Prelude.{⊤}
use Rattle.std.proofs.lemmas.List.Elements.{All-head, All-nil, All-tail}
use Rattle.std.proofs.lemmas.Option.{same_Some}
use Rattle.node_maps.specs.Digest.{Hash}
use Rattle.node_maps.specs.Known.{Known, look}
use Rattle.node_maps.specs.Places.{PartialTree}
use Rattle.partial_tree.specs.declared.message.found.Claim.{Claim}
use Rattle.partial_tree.specs.declared.message.found.NewClaims.{NewClaims}
use Rattle.partial_tree.specs.Evidence.{AreClaims, FindsClaims, Grows, HasClaim, IsEmpty, IsNoted, Notes, NotesNew}
use Rattle.partial_tree.specs.Visits.{Visits, VisitsInTurn}

module _ {V : Type 0} (known : V → Known) (found : V → NewClaims) (Visit : V → Claim → V → Type 0)
    (notes : (v : V) (c : Claim) (w : V) → Visit v c w → (known w ≡ known v) × Notes (known v) (found v) c (found w)) (C : PartialTree) where
  -- of a list of claims each is known, or noted
  record Noted (cs : List Claim) (v w : V) : Type 0 where
    grows : Grows (found v) (found w)
    handled : (l i : ℕ) (h : Hash) → HasClaim cs l i h → (look (known v) l i ≡ Some h) ⊎ ((look (known v) l i ≡ None) × IsNoted (found w) l i h)
    sound : AreClaims C (found v).claims.items → AreClaims C (found w).claims.items
    notes_new : NotesNew (look (known v)) C (found v) → NotesNew (look (known v)) C (found w)

  noted : (v : V) (cs : List Claim) (w : V) → VisitsInTurn Visit v cs w → AreClaims C cs → Noted cs v w
  noted v [] w e claims = record {
    grows = record { keeps = λ l i h has. subst (λ x. IsNoted (found x) l i h) (sym e) has };
    handled = λ l i h has. absurd has;
    sound = subst (λ x. AreClaims C (found x).claims.items) (sym e);
    notes_new = subst (λ x. NotesNew (look (known v)) C (found x)) (sym e);
  }
  noted v (c ∷ cs) w (mid, step, run) claims =
      let (same, first) = notes v c mid step in
      let rest : Noted cs mid w = noted mid cs w run (All-tail (λ (c : Claim). C c.layer c.index ≡ Some c.hash) c cs claims) in
      let claim : C c.layer c.index ≡ Some c.hash = All-head (λ (c : Claim). C c.layer c.index ≡ Some c.hash) c cs claims in
      record {
        grows = record { keeps = λ l i h has. rest.grows.keeps l i h (first.grows.keeps l i h has) };
        handled = λ l i h has. each same first rest l i h has;
        sound = λ is. rest.sound (first.sound C claim is);
        notes_new = λ is. subst (λ k. NotesNew (look k) C (found w)) same
            (rest.notes_new (subst (λ k. NotesNew (look k) C (found mid)) (sym same) (first.notes_new C claim is)));
      }
    where
      each : known mid ≡ known v → Notes (known v) (found v) c (found mid) → Noted cs mid w → (l i : ℕ) (h : Hash) → HasClaim (c ∷ cs) l i h
          → (look (known v) l i ≡ Some h) ⊎ ((look (known v) l i ≡ None) × IsNoted (found w) l i h)
      each same first rest l i h (inr has) =
          subst (λ k. (look k l i ≡ Some h) ⊎ ((look k l i ≡ None) × IsNoted (found w) l i h)) same (rest.handled l i h has)
      each same first rest l i h (inl (layer, index, hash)) = elim first.handled [
        | inl is ↦ inl (ap₂ (look (known v)) (sym layer) (sym index) ∙ is ∙ ap Some hash)
        | inr (none, listed) ↦
            inr (
              ap₂ (look (known v)) (sym layer) (sym index) ∙ none,
              rest.grows.keeps l i h (subst (λ x. IsNoted (found mid) l i x) hash (subst (λ k. IsNoted (found mid) l k c.hash) index
                  (subst (λ k. IsNoted (found mid) k c.index c.hash) layer listed))),
            )
      ]

  -- where all claims are compared, all is found
  pub all-found : (most : ℕ) (v w : V) → Visits Visit C (λ l i. ⊤) most v w → IsEmpty (found v) → FindsClaims (look (known v)) C (found w)
  all-found most v w all empty =
      let is : Noted all.claims v w = noted v all.claims w all.run all.sound in
      record {
        handled = λ l i h claim. is.handled l i h (all.complete l i h tt claim);
        sound = is.sound (subst (AreClaims C) (sym empty.none) (All-nil (λ (c : Claim). C c.layer c.index ≡ Some c.hash)));
        notes_new = is.notes_new (inl empty);
      }
