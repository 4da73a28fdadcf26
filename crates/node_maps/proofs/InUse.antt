-- Indexes that have entries stay so when one is written or put among them.
use Rattle.std.proofs.Common.{◌≡◌, ℕ, zero, suc, ◌<◌, Result, Ok, Err, OnOk, OnErr, List, [], ◌∷◌, length, get_or, set, sym, subst, arith}
use Rattle.std.specs.List.{All, insert}
use Rattle.std.proofs.lemmas.List.Elements.{All-set}
use Rattle.node_maps.specs.Pages.{AreInUse}

all-insert : {A : Type 0} (P : A → Type 0) (xs : List A) (at : ℕ) (x : A) → P x → All P xs → All P (insert xs at x)
all-insert P xs zero x here all zero d lt = here
all-insert P xs zero x here all (suc k) d lt = all k d (omega arith)
all-insert P [] (suc at) x here all zero d lt = here
all-insert P [] (suc at) x here all (suc k) d lt = absurd (omega arith)
all-insert P (y ∷ xs) (suc at) x here all zero d lt = all zero d (omega arith)
all-insert P (y ∷ xs) (suc at) x here all (suc k) d lt = all-insert P xs at x here (λ j e low. all (suc j) e (omega arith)) k d (omega arith)

module _ {D : Type 0} (entries : D → ℕ) (in_use : D → Type 0) (ds : List D) (at : ℕ) (w : D) where
  pub in_use-insert : 0 < entries w → in_use w → AreInUse entries in_use ds → AreInUse entries in_use (insert ds at w)
  in_use-insert some used = all-insert (λ d. (0 < entries d) × in_use d) ds at w (some, used)

  pub in_use-set : {E : Type 0} (d : D) → at < length ds → d ≡ get_or ds at d → (r : Result (Unit {0}) E) → OnOk r (0 < entries w)
      → OnErr r (entries w ≡ entries d) → (in_use d → in_use w) → AreInUse entries in_use ds → AreInUse entries in_use (set ds at w)
  in_use-set d low here r some kept keeps used =
      let was : (0 < entries d) × in_use d = subst (λ x. (0 < entries x) × in_use x) (sym here) (used at d low) in
      All-set (λ x. (0 < entries x) × in_use x) ds at w (entered r some kept was.0, keeps was.1) used
    where
      entered : {E : Type 0} (r : Result (Unit {0}) E) → OnOk r (0 < entries w) → OnErr r (entries w ≡ entries d) → 0 < entries d → 0 < entries w
      entered (Ok u) some kept was = some
      entered (Err e) some kept was = omega arith
