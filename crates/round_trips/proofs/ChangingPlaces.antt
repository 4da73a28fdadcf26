-- Two files that are added to a draft one after the other.
use Rattle.std.proofs.Common.{◌≡◌, ◌<◌, ℕ, zero, suc, Bool, true, false, List, [], ◌∷◌, ◌++◌, map, take, drop, if◌then◌else◌, refl, sym, ◌∙◌, ap, subst}
use Rattle.std.specs.Prelude.{nat_lt}
use Rattle.std.specs.List.{AllByRecursion}
use Rattle.std.specs.List.Sorted.{IsStrictlySortedBy}
use Rattle.std.specs.Cmp.{IsTotalOrder}
use Rattle.std.specs.Cmp.Lexicographic.{nat_list_cmp_total, slice_cmp}
use Rattle.std.specs.Ordering.{match_ordering, nat_cmp, ordering_reverse}
use Rattle.std.specs.declared.cmp.Ordering.{Ordering}
use Rattle.std.specs.declared.cmp.Ordering.TheVariants.{Less, Equal, Greater}
use Rattle.std.proofs.lemmas.Map.Lookups.{exact_bytes}
use borrow.Author.Tests.{ltb-true}
use Rattle.drafts.specs.Adding.{IsWith, with_layer}
use Rattle.drafts.specs.Outline.{Outline, OutlineFile, OutlineLayer}
use Rattle.filetree.specs.Paths.{AreInOrder, path_cmp}
use Rattle.round_trips.specs.ChangingPlaces.{HaveOneLayer}

-- ---- places in a list

abbrev put : {A : Type 0} → ℕ → A → List A → List A
put i x [] = x ∷ []
put zero x (y ∷ ys) = x ∷ y ∷ ys
put (suc i) x (y ∷ ys) = y ∷ put i x ys

put_is : {A : Type 0} (i : ℕ) (x : A) (ys : List A) → put i x ys ≡ take i ys ++ x ∷ drop i ys
put_is zero x [] = refl
put_is (suc i) x [] = refl
put_is zero x (y ∷ ys) = refl
put_is (suc i) x (y ∷ ys) = ap (λ l. y ∷ l) (put_is i x ys)

put_first : {A : Type 0} (x : A) (ys : List A) → put 0 x ys ≡ x ∷ ys
put_first x [] = refl
put_first x (y ∷ ys) = refl

record Swapped {A : Type 0} (f g : A) (xs ys : List A) : Type 0 where
  first : ℕ
  second : ℕ
  is : ys ≡ put second f (put first g xs)

swapped : {A : Type 0} (f g : A) (xs : List A) (i j : ℕ) → Swapped f g xs (put j g (put i f xs))
swapped f g [] i zero = record { first = 0; second = 1; is = refl }
swapped f g [] i (suc j) = record { first = 0; second = 0; is = refl }
swapped f g (x ∷ xs) zero zero = record { first = 0; second = 1; is = refl }
swapped f g (x ∷ xs) zero (suc j) = record { first = j; second = 0; is = sym (put_first f (put j g (x ∷ xs))) }
swapped f g (x ∷ xs) (suc i) zero = record { first = 0; second = suc (suc i); is = refl }
swapped f g (x ∷ xs) (suc i) (suc j) =
    let s = swapped f g xs i j in
    record { first = suc s.first; second = suc s.second; is = ap (λ l. x ∷ l) s.is }

map_put : {A B : Type 0} (h : A → B) (i : ℕ) (x : A) (ys : List A) → map h (put i x ys) ≡ put i (h x) (map h ys)
map_put h i x [] = refl
map_put h zero x (y ∷ ys) = refl
map_put h (suc i) x (y ∷ ys) = ap (λ l. h y ∷ l) (map_put h i x ys)

all_but : {A : Type 0} (P : A → Type 0) (i : ℕ) (x : A) (ys : List A) → AllByRecursion P (put i x ys) → AllByRecursion P ys
all_but P i x [] all = tt
all_but P zero x (y ∷ ys) all = all.1
all_but P (suc i) x (y ∷ ys) all = (all.0, all_but P i x ys all.1)

sorted_but : {A : Type 0} (cmp : A → A → Ordering) (i : ℕ) (x : A) (ys : List A) → IsStrictlySortedBy cmp (put i x ys) → IsStrictlySortedBy cmp ys
unfolding IsStrictlySortedBy
sorted_but cmp i x [] sorted = tt
sorted_but cmp zero x (y ∷ ys) sorted = sorted.1
sorted_but cmp (suc i) x (y ∷ ys) sorted = (all_but (λ z. cmp y z ≡ Less) i x ys sorted.0, sorted_but cmp i x ys sorted.1)

-- ---- layers

total : IsTotalOrder (slice_cmp nat_cmp)
total = nat_list_cmp_total

turned : (r s : List ℕ) (o : Ordering) → slice_cmp nat_cmp r s ≡ o → slice_cmp nat_cmp s r ≡ ordering_reverse o
turned r s o is = total.antisymm s r ∙ ap ordering_reverse is

abbrev layer_of : List ℕ → List (List ℕ) → OutlineLayer
layer_of root hashes = record { root = root; hashes = hashes }

-- where a layer comes, by the order of the roots
comes : (r : List ℕ) (a : List (List ℕ)) (e : OutlineLayer) (es : List OutlineLayer) (o : Ordering) → slice_cmp nat_cmp r e.root ≡ o
    → with_layer r a (e ∷ es) ≡ match_ordering o (layer_of r a ∷ e ∷ es) (e ∷ es) (e ∷ with_layer r a es)
comes r a e es o is = ap (λ x. match_ordering x (layer_of r a ∷ e ∷ es) (e ∷ es) (e ∷ with_layer r a es)) is

module _ (r s : List ℕ) (a b : List (List ℕ)) (less : slice_cmp nat_cmp r s ≡ Less) where
  abbrev low : OutlineLayer
  low = layer_of r a

  abbrev high : OutlineLayer
  high = layer_of s b

  more : slice_cmp nat_cmp s r ≡ Greater
  more = turned r s Less less

  -- above what the lower root is not below
  above : (e : List ℕ) (o : Ordering) → slice_cmp nat_cmp r e ≡ o → (o ≡ Less → ⊥) → slice_cmp nat_cmp s e ≡ Greater
  above e Less is off = absurd (off refl)
  above e Equal is off = turned e s Less (sym (total.congr r e s is) ∙ less)
  above e Greater is off = turned e s Less (total.trans e r s (turned r e Greater is) less)

  both_behind : (e : OutlineLayer) (es : List OutlineLayer) (o : Ordering) → slice_cmp nat_cmp s e.root ≡ o → slice_cmp nat_cmp r e.root ≡ Less
      → low ∷ with_layer s b (e ∷ es) ≡ with_layer r a (with_layer s b (e ∷ es))
  both_behind e es Less is first =
      ap (λ l. low ∷ l) (comes s b e es Less is) ∙ sym (ap (with_layer r a) (comes s b e es Less is) ∙ comes r a high (e ∷ es) Less less)
  both_behind e es Equal is first =
      ap (λ l. low ∷ l) (comes s b e es Equal is) ∙ sym (ap (with_layer r a) (comes s b e es Equal is) ∙ comes r a e es Less first)
  both_behind e es Greater is first =
      ap (λ l. low ∷ l) (comes s b e es Greater is)
      ∙ sym (ap (with_layer r a) (comes s b e es Greater is) ∙ comes r a e (with_layer s b es) Less first)

  mutual_step : (e : OutlineLayer) (es : List OutlineLayer) (o : Ordering) → slice_cmp nat_cmp r e.root ≡ o
      → with_layer s b (with_layer r a es) ≡ with_layer r a (with_layer s b es)
      → with_layer s b (with_layer r a (e ∷ es)) ≡ with_layer r a (with_layer s b (e ∷ es))
  mutual_step e es Less is so_far =
      ap (with_layer s b) (comes r a e es Less is) ∙ comes s b low (e ∷ es) Greater more ∙ both_behind e es (slice_cmp nat_cmp s e.root) refl is
  mutual_step e es Equal is so_far =
      let over = above e.root Equal is (λ x. let no : ⊥ = cc in no) in
      ap (with_layer s b) (comes r a e es Equal is) ∙ comes s b e es Greater over
      ∙ sym (ap (with_layer r a) (comes s b e es Greater over) ∙ comes r a e (with_layer s b es) Equal is)
  mutual_step e es Greater is so_far =
      let over = above e.root Greater is (λ x. let no : ⊥ = cc in no) in
      ap (with_layer s b) (comes r a e es Greater is) ∙ comes s b e (with_layer r a es) Greater over ∙ ap (λ l. e ∷ l) so_far
      ∙ sym (ap (with_layer r a) (comes s b e es Greater over) ∙ comes r a e (with_layer s b es) Greater is)

  in_turn : (es : List OutlineLayer) → with_layer s b (with_layer r a es) ≡ with_layer r a (with_layer s b es)
  in_turn [] = comes s b low [] Greater more ∙ sym (comes r a high [] Less less)
  in_turn (e ∷ es) = mutual_step e es (slice_cmp nat_cmp r e.root) refl (in_turn es)

layers_change : (r s : List ℕ) (a b : List (List ℕ)) (es : List OutlineLayer) (o : Ordering) → slice_cmp nat_cmp r s ≡ o → (r ≡ s → a ≡ b)
    → with_layer s b (with_layer r a es) ≡ with_layer r a (with_layer s b es)
layers_change r s a b es Less is one = in_turn r s a b is es
layers_change r s a b es Equal is one =
    let same = exact_bytes r s is in
    let layer = one same in
    ap (λ x. with_layer x b (with_layer r a es)) (sym same) ∙ ap (λ x. with_layer r x (with_layer r a es)) (sym layer)
    ∙ ap (λ x. with_layer r a (with_layer r x es)) layer ∙ ap (λ x. with_layer r a (with_layer x b es)) same
layers_change r s a b es Greater is one = sym (in_turn s r b a (turned r s Greater is) es)

-- ---- drafts

abbrev layers_with : Bool → List ℕ → List (List ℕ) → List OutlineLayer → List OutlineLayer
layers_with long root layer es = if long then with_layer root layer es else es

all_layers_change : (long_f long_g : Bool) (r s : List ℕ) (a b : List (List ℕ)) (es : List OutlineLayer)
    → (long_f ≡ true → long_g ≡ true → r ≡ s → a ≡ b)
    → layers_with long_g s b (layers_with long_f r a es) ≡ layers_with long_f r a (layers_with long_g s b es)
all_layers_change true true r s a b es one = layers_change r s a b es (slice_cmp nat_cmp r s) refl (one refl refl)
all_layers_change true false r s a b es one = refl
all_layers_change false true r s a b es one = refl
all_layers_change false false r s a b es one = refl

abbrev path_of : OutlineFile → List (List ℕ)
path_of x = x.path

-- the draft with this file at this place
abbrev with_file : Outline → OutlineFile → List (List ℕ) → ℕ → Outline
with_file d g layer place = record {
  name = d.name;
  piece_length = d.piece_length;
  hybrid = d.hybrid;
  files = put place g d.files;
  layers = layers_with (nat_lt d.piece_length g.length) g.root layer d.layers;
}

module _ (d m e : Outline) (f g : OutlineFile) (of_f of_g : List (List ℕ)) (with_f : IsWith d m f of_f) (with_g : IsWith m e g of_g)
    (s : Swapped f g d.files (put with_g.place g (put with_f.place f d.files))) where
  files : e.files ≡ put s.second f (put s.first g d.files)
  files =
      with_g.files ∙ sym (put_is with_g.place g m.files)
      ∙ ap (put with_g.place g) (with_f.files ∙ sym (put_is with_f.place f d.files)) ∙ s.is

  paths : map path_of e.files ≡ put s.second f.path (map path_of (put s.first g d.files))
  paths = ap (map path_of) files ∙ map_put path_of s.second f (put s.first g d.files)

  first_added : IsWith d (with_file d g of_g s.first) g of_g
  first_added = record {
    name = refl;
    piece_length = refl;
    hybrid = refl;
    place = s.first;
    files = put_is s.first g d.files;
    in_order = sorted_but path_cmp s.second f.path (map path_of (put s.first g d.files)) (subst AreInOrder paths with_g.in_order);
    layers = refl;
  }

  layers : HaveOneLayer d f g of_f of_g
      → e.layers ≡ layers_with (nat_lt d.piece_length f.length) f.root of_f (layers_with (nat_lt d.piece_length g.length) g.root of_g d.layers)
  layers one =
      with_g.layers ∙ ap (λ p. layers_with (nat_lt p g.length) g.root of_g m.layers) with_f.piece_length
      ∙ ap (layers_with (nat_lt d.piece_length g.length) g.root of_g) with_f.layers
      ∙ all_layers_change (nat_lt d.piece_length f.length) (nat_lt d.piece_length g.length) f.root g.root of_f of_g d.layers
      (λ long_f long_g. one (ltb-true d.piece_length f.length long_f) (ltb-true d.piece_length g.length long_g))

  second_added : HaveOneLayer d f g of_f of_g → IsWith (with_file d g of_g s.first) e f of_f
  second_added one = record {
    name = with_g.name ∙ with_f.name;
    piece_length = with_g.piece_length ∙ with_f.piece_length;
    hybrid = with_g.hybrid ∙ with_f.hybrid;
    place = s.second;
    files = files ∙ put_is s.second f (put s.first g d.files);
    in_order = with_g.in_order;
    layers = layers one;
  }

pub adds_change_places : (d m e : Outline) (f g : OutlineFile) (of_f of_g : List (List ℕ)) → HaveOneLayer d f g of_f of_g → IsWith d m f of_f
    → IsWith m e g of_g → (n : Outline) × IsWith d n g of_g × IsWith n e f of_f
adds_change_places d m e f g of_f of_g one with_f with_g =
    let s = swapped f g d.files with_f.place with_g.place in (
      with_file d g of_g s.first,
      first_added d m e f g of_f of_g with_f with_g s,
      second_added d m e f g of_f of_g with_f with_g s one,
    )
