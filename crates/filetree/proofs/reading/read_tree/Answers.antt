use Rattle.std.proofs.Common.{◌≡◌, ◌+◌, ◌≤◌, length, arith, refl, [], ◌++◌, List, ℕ, map, sym, ap, ◌∙◌, subst, true, false, Bool}
use Rattle.benc.specs.View.{pairs_view}
use Rattle.filetree.specs.FileTree.{Walk, walks, file_of_walk}
use Rattle.filetree.specs.Walked.{walk_of, walk_behind}
use Rattle.filetree.specs.declared.walk.Found.{Found}
use Rattle.filetree.proofs.Walking.{behind_none}
use Rattle.filetree.proofs.reading.read_tree.Goals as goal

-- what was found on the whole walk
all_found : (ws : List Walk) (path : List (List ℕ)) (old new : List Found) → path ≡ [] → old ≡ []
    → map walk_of new ≡ map walk_of old ++ map (walk_behind path) ws
    → map walk_of new ≡ ws
all_found ws path old new root none adds =
    adds ∙ ap (λ fs. map walk_of fs ++ map (walk_behind path) ws) none ∙ ap (λ p. map (walk_behind p) ws) root ∙ behind_none ws

-- a test that is not false
is_so : (b : Bool) → (b ≡ false → ⊥) → b ≡ true
is_so true h = refl
is_so false h = absurd (h refl)

pub walk-requires : goal.walk-requires
walk-requires c = record {
  room = 126;
  deep = subst (λ (p : List (List ℕ)). length p + 126 ≤ 128) (sym c.root-root.ensures) (omega arith);
  fits = c.requires;
  shape = is_so _ c.in_ok-test_tree.ensures.0.0;
  good = record { good = c.in_ok-test_tree.ensures.0.1.0 };
}

pub returns : goal.returns
returns c = record {
  passes = (
    c.in_ok-test_tree.ensures.0,
    c.in_ok-list.ensures.files ∙ ap (map file_of_walk) (all_found (walks (pairs_view c.args.tree.now)) c.root-root.result c.new-found.result.items
        c.walk.new.files.items c.root-root.ensures c.new-found.ensures.items c.in_ok-walk.ensures),
  );
  memory = tt;
  room = c.in_ok-list.ensures.room;
}
