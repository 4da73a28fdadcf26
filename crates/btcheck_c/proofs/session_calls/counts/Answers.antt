use Rattle.std.proofs.Common.{◌≡◌, ◌≤◌, length, refl, sym, ap, ◌∙◌, inl, inr, arith}
use Rattle.std.proofs.lemmas.List.{length-map}
use Rattle.opening.specs.Description.{Description}
use Rattle.opening.specs.Seen.{tree_entry}
use Rattle.btcheck_c.proofs.session_calls.counts.Goals as goal
use Rattle.btcheck_c.proofs.session_calls.counts.Goals.{After-trees}

count : (c : After-trees) → length c.trees.result.now ≡ length c.args.session.now.torrent.trees
count c = sym (length-map c.trees.result.now tree_entry) ∙ ap length c.trees.ensures ∙ ap (λ (d : Description). length d.trees) c.torrent.ensures

pub returns-then-tree-trees-clause-done : goal.returns-then-tree-trees-clause-done
returns-then-tree-trees-clause-done c =
    let same = count (goal.at.returns-then-tree-trees-clause-done c).After-trees in
    let none : length c.args.session.now.torrent.trees ≤ c.args.tree = omega (arith, c.if-tree-trees.true, same) in
    (refl, inr (refl, none))

pub known-requires : goal.known-requires
known-requires c = let same = count (goal.at.known-requires c).After-trees in omega (arith, c.if-tree-trees.false, same)

pub marked-requires : goal.marked-requires
marked-requires c = let same = count (goal.at.marked-requires c).After-trees in omega (arith, c.if-tree-trees.false, same)

pub returns-clause-done : goal.returns-clause-done
returns-clause-done c = (refl, inl (refl, (c.known.ensures, c.marked.ensures)))
