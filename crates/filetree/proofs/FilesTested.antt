-- A test of the files below a directory, one pair after the other.
use Rattle.std.proofs.Common.{◌≡◌, ◌||◌, ◌+◌, ◌<◌, Bool, false, ℕ, List, [], ◌∷◌, map, length, drop, get_or, refl, sym, ap, ◌∙◌}
use Rattle.std.proofs.lemmas.List.Folds.{list_any-append}
use Rattle.benc.specs.View.{Seen, pair_view, pairs_view}
use Rattle.benc.specs.declared.value.Pair.{Pair}
use Rattle.filetree.specs.FileTree.{Walk, below, is_nil, walks, walks_in}
use Rattle.filetree.specs.FileTests.{any_fails, fails}
use Rattle.filetree.specs.Walked.{walks_at}
use Rattle.filetree.specs.declared.file_tests.FileTest.{FileTest}
use Rattle.filetree.proofs.Views.{pairs_next}

-- the files of the first pair, and then the others
pub any_at : (test : FileTest) (xs : List Pair) (i : ℕ) (x : Pair) (here : Bool) → i < length xs → x ≡ get_or xs i x
    → any_fails test (walks_at (pair_view x)) ≡ here
    → any_fails test (walks (pairs_view (drop i xs))) ≡ (here || any_fails test (walks (pairs_view (drop (i + 1) xs))))
any_at test xs i x here lt is first =
    ap (λ ps. any_fails test (walks ps)) (pairs_next xs i x lt is)
    ∙ list_any-append (λ w. fails test w.file) (walks_at (pair_view x)) (walks (pairs_view (drop (i + 1) xs)))
    ∙ ap (λ b. b || any_fails test (walks (pairs_view (drop (i + 1) xs)))) first

-- a component before a walk leaves the file the same
any_below : (test : FileTest) (k : List ℕ) (ws : List Walk) → any_fails test (map (below k) ws) ≡ any_fails test ws
any_below test k [] = refl
any_below test k (w ∷ ws) = ap (λ b. fails test w.file || b) (any_below test k ws)

-- the files below a component
pub at_component : (test : FileTest) (p : Seen) → is_nil p.0 ≡ false → any_fails test (walks_in p.1) ≡ any_fails test (walks_at p)
at_component test p some = rw some (sym (any_below test p.0 (walks_in p.1)))
