-- Paths of a shelf in memory, and what its listing holds.
use Rattle.std.proofs.Common.{◌≡◌, ℕ, ◌+◌, ◌<◌, List, [], ◌∷◌, ◌++◌, length, map, take, get_or, Bool, true, false, cond, ◌&&◌, ◌||◌, Option, Some, None}
use Rattle.std.proofs.Common.{is_some, option_map, unwrap_or, slice_get, refl, ap, sym, ◌∙◌, subst, true≢false, arith}
use Rattle.std.specs.List.{count_by, find, list_any}
use Rattle.std.specs.Cmp.Lexicographic.{pointwise}
use Rattle.std.proofs.lemmas.List.{map_more}
use Rattle.std.proofs.lemmas.List.Folds.{list_any-append}
use Rattle.std.proofs.lemmas.List.Sums.{sum_by_push}
use Rattle.std.proofs.lemmas.Slice.Eq.{bytes_eq-Decides, slice_eq-Decides}
use Rattle.folders.specs.Shelf.{IsEachOnce, is_path}

-- comparing what stands behind references is comparing lists of it
pub pointwise_map : {A B : Type 0} (E : List ℕ → List ℕ → Bool) (f : A → List ℕ) (g : B → List ℕ) (xs : List A) (ys : List B)
    → pointwise (λ x y. E (f x) (g y)) xs ys ≡ pointwise E (map f xs) (map g ys)
pointwise_map E f g [] [] = refl
pointwise_map E f g [] (y ∷ ys) = refl
pointwise_map E f g (x ∷ xs) [] = refl
pointwise_map E f g (x ∷ xs) (y ∷ ys) = ap (λ b. E (f x) (g y) && b) (pointwise_map E f g xs ys)

-- paths that compare equal are one
pub is_path-eq : (p q : List (List ℕ)) → is_path p q ≡ true → p ≡ q
is_path-eq p q is = (slice_eq-Decides bytes_eq-Decides p q (is_path p q) refl).0 is

-- a file with this path is found exactly where one of the paths is this one
pub find_any : {A : Type 0} (path_of : A → List (List ℕ)) (p : List (List ℕ)) (files : List A)
    → is_some (find (λ f. is_path p (path_of f)) files) ≡ list_any (is_path p) (map path_of files)
find_any path_of p [] = refl
find_any path_of p (f ∷ files) =
    let here = is_path p (path_of f) in
    elim here as (λ b. is_some (cond b (Some f) (find (λ x. is_path p (path_of x)) files)) ≡ (b || list_any (is_path p) (map path_of files))) [
      | true ↦ refl
      | false ↦ find_any path_of p files
    ]

-- how often a path stands in the answer, after one more
count_push : (p q : List (List ℕ)) (paths : List (List (List ℕ))) → count_by (is_path p) (paths ++ q ∷ []) ≡ count_by (is_path p) paths + cond (is_path p q) 1 0
count_push p q paths = sum_by_push (λ x. cond (is_path p x) 1 0) paths q

any_push : (p q : List (List ℕ)) (listed : List (List (List ℕ)))
    → list_any (is_path p) (listed ++ q ∷ []) ≡ (list_any (is_path p) listed || (is_path p q || false))
any_push p q listed = list_any-append (is_path p) listed (q ∷ [])

one_more_false : (n : ℕ) (any : Bool) → any ≡ false → n ≡ cond any 1 0 → n + 1 ≡ cond (any || (true || false)) 1 0
one_more_false n any none is = subst (λ b. n + 1 ≡ cond (b || (true || false)) 1 0) (sym none) (let e : n ≡ 0 = is
    ∙ ap (λ b. cond b 1 0) none in omega (arith, e))

same_any : (n : ℕ) (any : Bool) → n ≡ cond any 1 0 → n ≡ cond (any || (false || false)) 1 0
same_any n true is = is
same_any n false is = is

-- a path that was not there is listed, and stands in the answer
pub each_once_push : (listed paths : List (List (List ℕ))) (q : List (List ℕ)) → list_any (is_path q) listed ≡ false → IsEachOnce listed paths
    → IsEachOnce (listed ++ q ∷ []) (paths ++ q ∷ [])
each_once_push listed paths q none before p =
    count_push p q paths ∙
    (elim (is_path p q) as (λ b. is_path p q ≡ b → count_by (is_path p) paths + cond b 1 0 ≡ cond (list_any (is_path p) listed || (b || false)) 1 0) [
      | true ↦ λ is. one_more_false (count_by (is_path p) paths) (list_any (is_path p) listed)
          (subst (λ r. list_any (is_path r) listed ≡ false) (sym (is_path-eq p q is)) none) (before p)
      | false ↦ λ _. (let e : count_by (is_path p) paths + 0 ≡ count_by (is_path p) paths = omega arith in e)
          ∙ same_any (count_by (is_path p) paths) (list_any (is_path p) listed) (before p)
    ]) refl
    ∙ sym (ap (λ b. cond b 1 0) (any_push p q listed))

there_already : (n : ℕ) (any : Bool) → any ≡ true → n ≡ cond any 1 0 → n ≡ cond (any || (true || false)) 1 0
there_already n true is one = one
there_already n false is one = absurd (true≢false (sym is))

-- a path that was there is listed again, and the answer stays
pub each_once_again : (listed paths : List (List (List ℕ))) (q : List (List ℕ)) → list_any (is_path q) listed ≡ true → IsEachOnce listed paths
    → IsEachOnce (listed ++ q ∷ []) paths
each_once_again listed paths q there before p =
    (elim (is_path p q) as (λ b. is_path p q ≡ b → count_by (is_path p) paths ≡ cond (list_any (is_path p) listed || (b || false)) 1 0) [
      | true ↦ λ is. there_already (count_by (is_path p) paths) (list_any (is_path p) listed)
          (subst (λ r. list_any (is_path r) listed ≡ true) (sym (is_path-eq p q is)) there) (before p)
      | false ↦ λ _. same_any (count_by (is_path p) paths) (list_any (is_path p) listed) (before p)
    ]) refl
    ∙ sym (ap (λ b. cond b 1 0) (any_push p q listed))

is_some_map : {A B : Type 0} (g : B → A) (o : Option B) → is_some (option_map g o) ≡ is_some o
is_some_map g None = refl
is_some_map g (Some b) = refl

-- whether a path stands before the i-th, by what was found there
is_before : {A B : Type 0} (path_of : A → List (List ℕ)) (g : B → A) (files : List A) (i : ℕ) (d : A) (found : Option B) (there : Bool)
    → option_map g found ≡ find (λ f. is_path (path_of (get_or files i d)) (path_of f)) (take i files) → is_some found ≡ there
    → list_any (is_path (path_of (get_or files i d))) (map path_of (take i files)) ≡ there
is_before path_of g files i d found there is any =
    sym (find_any path_of (path_of (get_or files i d)) (take i files)) ∙ ap is_some (sym is) ∙ is_some_map g found ∙ any

-- the i-th file's path is listed, where it does not stand before
pub listed_push : {A B : Type 0} (path_of : A → List (List ℕ)) (g : B → A) (files : List A) (i : ℕ) (d : A) (found : Option B)
    (paths new : List (List (List ℕ)))
    → i < length files → option_map g found ≡ find (λ f. is_path (path_of (get_or files i d)) (path_of f)) (take i files) → is_some found ≡ false
    → IsEachOnce (map path_of (take i files)) paths → new ≡ paths ++ path_of (get_or files i d) ∷ [] → IsEachOnce (map path_of (take (i + 1) files)) new
listed_push path_of g files i d found paths new lt is none before more =
    let step = each_once_push (map path_of (take i files)) paths (path_of (get_or files i d)) (is_before path_of g files i d found false is none) before in
    subst (λ l. IsEachOnce l new) (sym (map_more path_of files i d lt)) (subst (IsEachOnce (map path_of (take i files) ++ path_of (get_or files i d) ∷ []))
    (sym more) step)

-- the i-th file's path is not listed again
pub listed_again : {A B : Type 0} (path_of : A → List (List ℕ)) (g : B → A) (files : List A) (i : ℕ) (d : A) (found : Option B)
    (paths new : List (List (List ℕ)))
    → i < length files → option_map g found ≡ find (λ f. is_path (path_of (get_or files i d)) (path_of f)) (take i files) → is_some found ≡ true
    → IsEachOnce (map path_of (take i files)) paths → new ≡ paths → IsEachOnce (map path_of (take (i + 1) files)) new
listed_again path_of g files i d found paths new lt is there before same =
    let step = each_once_again (map path_of (take i files)) paths (path_of (get_or files i d)) (is_before path_of g files i d found true is there) before in
    subst (λ l. IsEachOnce l new) (sym (map_more path_of files i d lt)) (subst (IsEachOnce (map path_of (take i files) ++ path_of (get_or files i d) ∷ []))
    (sym same) step)

-- the first of these paths is one of them
pub first_is_there : {A : Type 0} (path_of : A → List (List ℕ)) (all : List A) (first : A) (p : List (List ℕ)) → Some first ≡ slice_get all 0
    → p ≡ path_of first
    → list_any (is_path p) (map path_of all) ≡ true
first_is_there path_of [] first p is same = absurd (true≢false (ap is_some is))
first_is_there path_of (x ∷ all) first p is same =
    let one : first ≡ x = ap (λ o. unwrap_or o first) is in
    let here : is_path p (path_of x) ≡ true = (slice_eq-Decides bytes_eq-Decides p (path_of x) (is_path p (path_of x)) refl).1 (same ∙ ap path_of one) in
    ap (λ b. b || list_any (is_path p) (map path_of all)) here

-- without a first there is none
pub none_without_first : {A B : Type 0} (f : A → B) (all : List A) → None ≡ slice_get all 0 → map f all ≡ []
none_without_first f [] is = refl
none_without_first f (x ∷ all) is = absurd (true≢false (ap is_some (sym is)))
