-- A listing without the files that are left out.
use Rattle.std.proofs.Common.{◌≡◌, ℕ, ◌+◌, List, [], ◌∷◌, ◌++◌, map, Bool, true, false, cond, not, ◌&&◌, ◌||◌}
use Rattle.std.proofs.Common.{Option, Some, None, option_map, Result, Ok, Err, refl, ap, sym, ◌∙◌, subst}
use Rattle.std.proofs.Common.{append-nil, true≢false, arith, ◌<◌, drop, get_or, drop-drop, get_or-drop, length, take}
use Rattle.std.specs.Prelude.{String}
use Rattle.std.specs.Global.{Global, Vec}
use Rattle.std.specs.List.{count_by, filter, list_any}
use Rattle.std.proofs.lemmas.List.{get_or-map, length-map, take-map}
use Rattle.std.proofs.lemmas.List.Elements.{filter_more}
use Rattle.std.proofs.lemmas.List.Sums.{sum_by-cons}
use Rattle.globs.specs.Globs.{Whole}
use Rattle.folders.specs.Shelf.{IsEachOnce, IsListed, Listing, is_path, path_bytes}
use Rattle.folders.proofs.Shelves.{is_path-eq}
use Rattle.excluding.specs.Excluding.{is_kept, listing_without, paths_without}

-- ---- listings

-- a path stands among those that are kept if it stood there and is kept: with one path more, of
-- which it is known whether it is kept and whether it is that path
any_step : (kept keeps is some any : Bool) → (is ≡ true → kept ≡ keeps) → some ≡ (keeps && any) → cond kept (is || some) some ≡ (keeps && (is || any))
any_step true true is some any same e = ap (λ b. is || b) e
any_step true false true some any same e = absurd (true≢false (same refl))
any_step true false false some any same e = e
any_step false true true some any same e = absurd (true≢false (sym (same refl)))
any_step false true false some any same e = e
any_step false false is some any same e = e

any_cond : (test : List (List ℕ) → Bool) (kept : Bool) (q : List (List ℕ)) (paths : List (List (List ℕ)))
    → list_any test (cond kept (q ∷ paths) paths) ≡ cond kept (test q || list_any test paths) (list_any test paths)
any_cond test true q paths = refl
any_cond test false q paths = refl

none_and : (b : Bool) → false ≡ (b && false)
none_and true = refl
none_and false = refl

any_kept : (keep : List (List ℕ) → Bool) (p : List (List ℕ)) (paths : List (List (List ℕ)))
    → list_any (is_path p) (filter keep paths) ≡ (keep p && list_any (is_path p) paths)
any_kept keep p [] = none_and (keep p)
any_kept keep p (q ∷ paths) =
    any_cond (is_path p) (keep q) q (filter keep paths)
    ∙ any_step (keep q) (keep p) (is_path p q) _ (list_any (is_path p) paths) (λ is. ap keep (sym (is_path-eq p q is))) (any_kept keep p paths)

-- and it stands there as often
abbrev pick : Bool → ℕ → ℕ → ℕ
pick b m n = cond b m n

count_step : (kept keeps is : Bool) (some all : ℕ) → (is ≡ true → kept ≡ keeps) → some ≡ pick keeps all 0
    → pick kept (pick is 1 0 + some) some ≡ pick keeps (pick is 1 0 + all) 0
count_step true true is some all same e = ap (λ n. pick is 1 0 + n) e
count_step true false true some all same e = absurd (true≢false (same refl))
count_step true false false some all same e =
    let none : some ≡ 0 = e in
    let goal : 0 + some ≡ 0 = omega (arith, none) in
    goal
count_step false true true some all same e = absurd (true≢false (sym (same refl)))
count_step false true false some all same e =
    let one : some ≡ all = e in
    let goal : some ≡ 0 + all = omega (arith, one) in
    goal
count_step false false is some all same e = e

count_cond : (test : List (List ℕ) → Bool) (kept : Bool) (q : List (List ℕ)) (paths : List (List (List ℕ)))
    → count_by test (cond kept (q ∷ paths) paths) ≡ pick kept (pick (test q) 1 0 + count_by test paths) (count_by test paths)
count_cond test true q paths = sum_by-cons (λ x. pick (test x) 1 0) q paths
count_cond test false q paths = refl

none_of : (b : Bool) → pick b 0 0 ≡ 0
none_of true = refl
none_of false = refl

count_kept : (keep : List (List ℕ) → Bool) (p : List (List ℕ)) (paths : List (List (List ℕ)))
    → count_by (is_path p) (filter keep paths) ≡ pick (keep p) (count_by (is_path p) paths) 0
count_kept keep p [] = sym (none_of (keep p))
count_kept keep p (q ∷ paths) =
    count_cond (is_path p) (keep q) q (filter keep paths)
    ∙ count_step (keep q) (keep p) (is_path p q) _ (count_by (is_path p) paths) (λ is. ap keep (sym (is_path-eq p q is))) (count_kept keep p paths)
    ∙ ap (λ n. pick (keep p) n 0) (sym (sum_by-cons (λ x. pick (is_path p x) 1 0) q paths))

once_and : (a b : Bool) → pick a (pick b 1 0) 0 ≡ pick (a && b) 1 0
once_and true b = refl
once_and false b = refl

-- each kept path stands once among those that are kept
kept_once : (keep : List (List ℕ) → Bool) (listed paths : List (List (List ℕ))) → IsEachOnce listed paths → IsEachOnce (filter keep listed) (filter keep paths)
kept_once keep listed paths once p =
    count_kept keep p paths ∙ ap (λ n. pick (keep p) n 0) (once p)
    ∙ once_and (keep p) (list_any (is_path p) listed)
    ∙ ap (λ b. pick b 1 0) (sym (any_kept keep p listed))

-- what was listed inside, without what is left out, is listed of what stands there without it
pub kept_listing : (globs : List Whole) (said : Option Listing) (found paths : Vec (Vec (String Global))) → IsListed said (Ok found)
    → map path_bytes paths.items ≡ paths_without globs (map path_bytes found.items)
    → IsListed (option_map (listing_without globs) said) (Ok paths)
kept_listing globs None found paths listed same = tt
kept_listing globs (Some there) found paths listed same = (
  listed.0,
  listed.1,
  subst (IsEachOnce (paths_without globs there.files)) (sym same) (kept_once (is_kept globs) there.files (map path_bytes found.items) listed.2),
)

-- ---- paths that are kept one after the other

abbrev Path : Type 0
Path = Vec (String Global)

at_place : (all now : List Path) (i : ℕ) (path : Path) → path ≡ get_or now i path → drop i now ≡ drop i all → path ≡ get_or all i path
at_place all now i path there rest =
    let at : i + 0 ≡ i = omega arith in
    there ∙ ap (λ k. get_or now k path) (sym at) ∙ sym (get_or-drop i now 0 path) ∙ ap (λ xs. get_or xs 0 path) rest ∙ get_or-drop i all 0 path
    ∙ ap (λ k. get_or all k path) at

one_more : (keep : List (List ℕ) → Bool) (all now : List Path) (i : ℕ) (path : Path) → i < length all → path ≡ get_or now i path → drop i now ≡ drop i all
    → filter keep (map path_bytes (take (i + 1) all))
    ≡ filter keep (map path_bytes (take i all)) ++ cond (keep (path_bytes path)) (path_bytes path ∷ []) []
one_more keep all now i path lt there rest =
    let mapped = map path_bytes all in
    let inside : i < length mapped = omega (arith, lt, length-map all path_bytes) in
    let is : get_or mapped i (path_bytes path) ≡ path_bytes path =
    get_or-map path_bytes all i path (path_bytes path) lt ∙ ap path_bytes (sym (at_place all now i path there rest)) in
    ap (filter keep) (sym (take-map path_bytes (i + 1) all)) ∙ filter_more keep mapped i (path_bytes path) inside
    ∙ ap (λ ps. filter keep ps ++ cond (keep (get_or mapped i (path_bytes path))) (get_or mapped i (path_bytes path) ∷ []) []) (take-map path_bytes i all)
    ∙ ap (λ p. filter keep (map path_bytes (take i all)) ++ cond (keep p) (p ∷ []) []) is

pub next_kept : (keep : List (List ℕ) → Bool) (all now : List Path) (i : ℕ) (path : Path) (kept : List (List (List ℕ))) → i < length all
    → path ≡ get_or now i path → drop i now ≡ drop i all → kept ≡ filter keep (map path_bytes (take i all)) → keep (path_bytes path) ≡ true
    → kept ++ path_bytes path ∷ [] ≡ filter keep (map path_bytes (take (i + 1) all))
next_kept keep all now i path kept lt there rest is keeps =
    ap (λ ps. ps ++ path_bytes path ∷ []) is ∙ ap (λ b. filter keep (map path_bytes (take i all)) ++ cond b (path_bytes path ∷ []) []) (sym keeps)
    ∙ sym (one_more keep all now i path lt there rest)

pub next_left_out : (keep : List (List ℕ) → Bool) (all now : List Path) (i : ℕ) (path : Path) (kept : List (List (List ℕ))) → i < length all
    → path ≡ get_or now i path → drop i now ≡ drop i all → kept ≡ filter keep (map path_bytes (take i all)) → keep (path_bytes path) ≡ false
    → kept ≡ filter keep (map path_bytes (take (i + 1) all))
next_left_out keep all now i path kept lt there rest is drops =
    is ∙ sym (append-nil (filter keep (map path_bytes (take i all))))
    ∙ ap (λ b. filter keep (map path_bytes (take i all)) ++ cond b (path_bytes path ∷ []) []) (sym drops)
    ∙ sym (one_more keep all now i path lt there rest)

-- what stands at a place is one path
pub same_bytes : (paths : List Path) (i : ℕ) (p q : Path) → i < length paths → p ≡ get_or paths i p → q ≡ get_or paths i q → path_bytes p ≡ path_bytes q
same_bytes paths i p q lt here there =
    ap path_bytes here ∙ sym (get_or-map path_bytes paths i p [] lt) ∙ get_or-map path_bytes paths i q [] lt ∙ ap path_bytes (sym there)

-- lists that go on alike from a place go on alike behind it
pub rest_next : (xs ys : List Path) (i : ℕ) → drop i xs ≡ drop i ys → drop (i + 1) xs ≡ drop (i + 1) ys
rest_next xs ys i same = sym (drop-drop 1 i xs) ∙ ap (drop 1) same ∙ drop-drop 1 i ys
