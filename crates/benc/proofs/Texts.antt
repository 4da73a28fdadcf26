-- A canonical value has one spelling, and what has one is canonical.
use Rattle.std.proofs.Common.{◌≡◌, ℕ, ◌-◌, List, [], ◌∷◌, ◌++◌, Option, Some, None, refl, ap, ap₂, ◌∙◌}
use Rattle.benc.specs.Value.{Bencode, int, text, list, dict, Items, no_items, item, Pairs, no_pairs, pair}
use Rattle.benc.specs.Spelling.{string, Spelled, SpelledItems, SpelledPairs}
use Rattle.benc.specs.Text.{spelling, items_spelling, pairs_spelling, Fits, ItemsFit, PairsFit}

mutual
  pub spelled_is : (room : ℕ) (v : Bencode) (b : List ℕ) → Spelled room v b → b ≡ spelling v
  spelled_is room (int z) b s = s.1
  spelled_is room (text t) b s = s.1
  spelled_is room (list vs) b s = s.2 ∙ ap (λ t. 108 ∷ (t ++ 101 ∷ [])) (spelled_items_are (room - 1) vs s.1 s.3)
  spelled_is room (dict ps) b s = s.2 ∙ ap (λ t. 100 ∷ (t ++ 101 ∷ [])) (spelled_pairs_are (room - 1) None ps s.1 s.3)

  spelled_items_are : (room : ℕ) (vs : Items) (b : List ℕ) → SpelledItems room vs b → b ≡ items_spelling vs
  spelled_items_are room no_items b s = s
  spelled_items_are room (item v vs) b s = s.2 ∙ ap₂ (λ t u. t ++ u) (spelled_is room v s.0 s.3) (spelled_items_are room vs s.1 s.4)

  spelled_pairs_are : (room : ℕ) (before : Option (List ℕ)) (ps : Pairs) (b : List ℕ) → SpelledPairs room before ps b → b ≡ pairs_spelling ps
  spelled_pairs_are room before no_pairs b s = s
  spelled_pairs_are room before (pair k v ps) b s = s.2
      ∙ ap₂ (λ t u. string k ++ (t ++ u)) (spelled_is room v s.0 s.5) (spelled_pairs_are room (Some k) ps s.1 s.6)

mutual
  pub spelled_fits : (room : ℕ) (v : Bencode) (b : List ℕ) → Spelled room v b → Fits room v
  spelled_fits room (int z) b s = s.0
  spelled_fits room (text t) b s = s.0
  spelled_fits room (list vs) b s = (s.0, spelled_items_fit (room - 1) vs s.1 s.3)
  spelled_fits room (dict ps) b s = (s.0, spelled_pairs_fit (room - 1) None ps s.1 s.3)

  spelled_items_fit : (room : ℕ) (vs : Items) (b : List ℕ) → SpelledItems room vs b → ItemsFit room vs
  spelled_items_fit room no_items b s = tt
  spelled_items_fit room (item v vs) b s = (spelled_fits room v s.0 s.3, spelled_items_fit room vs s.1 s.4)

  spelled_pairs_fit : (room : ℕ) (before : Option (List ℕ)) (ps : Pairs) (b : List ℕ) → SpelledPairs room before ps b → PairsFit room before ps
  spelled_pairs_fit room before no_pairs b s = tt
  spelled_pairs_fit room before (pair k v ps) b s = (s.3, s.4, spelled_fits room v s.0 s.5, spelled_pairs_fit room (Some k) ps s.1 s.6)

mutual
  pub fits_spelled : (room : ℕ) (v : Bencode) → Fits room v → Spelled room v (spelling v)
  fits_spelled room (int z) f = (f, refl)
  fits_spelled room (text t) f = (f, refl)
  fits_spelled room (list vs) f = (f.0, items_spelling vs, refl, items_fit_spelled (room - 1) vs f.1)
  fits_spelled room (dict ps) f = (f.0, pairs_spelling ps, refl, pairs_fit_spelled (room - 1) None ps f.1)

  items_fit_spelled : (room : ℕ) (vs : Items) → ItemsFit room vs → SpelledItems room vs (items_spelling vs)
  items_fit_spelled room no_items f = refl
  items_fit_spelled room (item v vs) f = (spelling v, items_spelling vs, refl, fits_spelled room v f.0, items_fit_spelled room vs f.1)

  pairs_fit_spelled : (room : ℕ) (before : Option (List ℕ)) (ps : Pairs) → PairsFit room before ps → SpelledPairs room before ps (pairs_spelling ps)
  pairs_fit_spelled room before no_pairs f = refl
  pairs_fit_spelled room before (pair k v ps) f = (
    spelling v,
    pairs_spelling ps,
    refl,
    f.0,
    f.1,
    fits_spelled room v f.2,
    pairs_fit_spelled room (Some k) ps f.3,
  )
