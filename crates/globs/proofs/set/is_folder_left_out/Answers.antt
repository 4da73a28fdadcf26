use Rattle.std.proofs.Common.{◌≡◌, Bool, Err, IfOk, IsTrue, List, Ok, Result, map, string_bytes, subst, sym, ℕ, ◌∙◌}
use Rattle.globs.specs.Globs.{LeavesOutBelow, Whole, path_chars, some_leaves_out_folder, whole_of}
use Rattle.globs.proofs.Meaning.{all_below}
use Rattle.globs.proofs.set.is_folder_left_out.Goals as goal

below_of : {E : Type 0} (r : Result Bool E) (globs : List Whole) (path : List ℕ) → IfOk r (λ is. is ≡ some_leaves_out_folder globs path)
    → IfOk r (λ is. IsTrue is → LeavesOutBelow globs path)
below_of (Ok is) globs path found = λ left. all_below globs path (sym found ∙ left)
below_of (Err e) globs path found = found

pub returns-clause-found : goal.returns-clause-found
returns-clause-found c =
    let globs = map whole_of c.args.globs.now in
    let P : List ℕ → Type 0 = λ path. IfOk c.some_leaves_out.result (λ is. is ≡ some_leaves_out_folder globs path) in
    subst P (c.deref.ensures.value ∙ c.in_ok-letters.ensures) c.some_leaves_out.ensures

pub returns-clause-below : goal.returns-clause-below
returns-clause-below c =
    let globs = map whole_of c.args.globs.now in
    let path = path_chars (map string_bytes c.args.path.now) in
    let P : List ℕ → Type 0 = λ p. IfOk c.some_leaves_out.result (λ is. is ≡ some_leaves_out_folder globs p) in
    below_of c.some_leaves_out.result globs path (subst P (c.deref.ensures.value ∙ c.in_ok-letters.ensures) c.some_leaves_out.ensures)
