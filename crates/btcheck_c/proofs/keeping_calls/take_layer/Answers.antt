use Rattle.std.proofs.Common.{◌≡◌, ◌≤◌, length, refl, sym, ap, ◌∙◌, inl, inr, arith}
use Rattle.std.proofs.lemmas.List.{length-map}
use Rattle.opening.specs.Description.{Description}
use Rattle.opening.specs.Seen.{tree_entry}
use Rattle.btcheck_c.proofs.keeping_calls.take_layer.Goals as goal

pub returns-then-tree-trees-clause-done : goal.returns-then-tree-trees-clause-done
returns-then-tree-trees-clause-done c =
    let count : length c.trees.result.now ≡ length c.args.session.now.torrent.trees = sym (length-map c.trees.result.now tree_entry)
    ∙ ap length c.trees.ensures ∙ ap (λ (d : Description). length d.trees) c.torrent.ensures in
    let none : length c.args.session.now.torrent.trees ≤ c.args.tree = omega (arith, c.if-tree-trees.true, count) in
    inr (refl, (none, refl))

pub fill-requires : goal.fill-requires
fill-requires c =
    let count : length c.trees.result.now ≡ length c.args.session.now.torrent.trees = sym (length-map c.trees.result.now tree_entry)
    ∙ ap length c.trees.ensures ∙ ap (λ (d : Description). length d.trees) c.torrent.ensures in
    omega (arith, c.if-tree-trees.false, count)

pub returns-clause-done : goal.returns-clause-done
returns-clause-done c = inl (
  c.fill.result,
  c.status_of_hashes.ensures.done,
  (
    c.fill.new.self,
    refl,
    record {
      filled = c.fill.ensures.filled;
      refused = c.fill.ensures.refused;
      keeps_known = c.fill.ensures.keeps_known;
    },
  ),
)
