use Rattle.std.proofs.Common.{◌∙◌, [], ◌∷◌, ◌++◌, map, not, take_all, ap, subst}
use Rattle.std.proofs.lemmas.List.{map-append}
use Rattle.folders.specs.MemShelf.{path_of}
use Rattle.folders.specs.Shelf.{IsEachOnce, path_bytes}
use Rattle.folders.proofs.Shelves.{listed_again, listed_push}
use Rattle.folders.proofs.memory.shelf.paths_of.Goals as goal
use Rattle.folders.proofs.memory.shelf.paths_of.Goals.{then-is_none+in_ok-owned+in_ok-push, else-is_none}

pub files-preserved : goal.files-preserved
files-preserved c =
    elim c.if-is_none.branch [
      | then-is_none+in_ok-owned+in_ok-push w ↦
          listed_push path_of (λ f. f.now) c.args.files.now c.files.i _ c.find.result (map path_bytes c.files.paths.items) _ c.files-test.true c.find.ensures
          (c.is_none.ensures ∙ ap not w.if-is_none.true) c.files.invariant
          (ap (λ v. map path_bytes v.items) w.paths-is ∙ ap (map path_bytes) w.in_ok-push.ensures.items
          ∙ map-append path_bytes c.files.paths.items (w.in_ok-owned.field-0 ∷ [])
          ∙ ap (λ p. map path_bytes c.files.paths.items ++ p ∷ []) w.in_ok-owned.ensures)
      | else-is_none w ↦
          listed_again path_of (λ f. f.now) c.args.files.now c.files.i _ c.find.result (map path_bytes c.files.paths.items) _ c.files-test.true c.find.ensures
          w.if-is_none.ensures c.files.invariant (ap (λ v. map path_bytes v.items) w.paths-is)
    ]

pub returns : goal.returns
returns c =
    subst (λ files. IsEachOnce (map path_of files) (map path_bytes c.files.paths.items)) (take_all c.files.i c.args.files.now c.files-test.false)
    c.files.invariant
