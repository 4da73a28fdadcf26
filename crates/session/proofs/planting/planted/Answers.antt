use Rattle.std.proofs.Common.{◌≡◌, false, IfSome, sym, ap, ◌∙◌, subst, arith}
use Rattle.std.proofs.lemmas.Bool.{false≢true}
use Rattle.opening.specs.Seen.{tree_entry}
use Rattle.partial_tree.specs.Kept.{root_only}
use Rattle.session.specs.Fresh.{IsPlanted}
use Rattle.session.proofs.FirstTrees.{planted_root, planted_as_root}
use Rattle.session.proofs.planting.planted.Goals as goal
use Rattle.session.proofs.planting.planted.Goals.{then-with_layers+then-info-bytes+in_ok-add_layers, else-with_layers}
use Rattle.session.proofs.planting.planted.Goals.{else-with_layers-via-then-with_layers+else-info-bytes, else-with_layers-via-else-with_layers}

pub unwrap-requires : goal.unwrap-requires
unwrap-requires g c = c.of.ensures.some.1 (c.requires.some, c.requires.bound)

pub add_layers-requires-clause-longer : goal.add_layers-requires-clause-longer
add_layers-requires-clause-longer g c = omega (arith, c.if-info-bytes.true, c.bytes.ensures.value)

pub add_layers-requires-clause-planted : goal.add_layers-requires-clause-planted
add_layers-requires-clause-planted g c =
    let shape : c.unwrap.result ≡ c.args.info.now.length = subst (λ o. IfSome o (λ s. s ≡ c.args.info.now.length)) c.unwrap.ensures c.of.ensures.value in
    planted_root c.args.piece_length (tree_entry c.args.info.now) c.in_ok-tree.tree c.requires c.recall_hash.ensures
    (c.in_ok-tree.ensures ∙ ap (root_only c.args.info.now.root) shape)

pub returns : goal.returns
returns g c =
    let shape : c.unwrap.result ≡ c.args.info.now.length = subst (λ o. IfSome o (λ s. s ≡ c.args.info.now.length)) c.unwrap.ensures c.of.ensures.value in
    let root : IsPlanted c.args.piece_length false (tree_entry c.args.info.now) c.in_ok-tree.tree =
    planted_root c.args.piece_length (tree_entry c.args.info.now) c.in_ok-tree.tree c.requires c.recall_hash.ensures
    (c.in_ok-tree.ensures ∙ ap (root_only c.args.info.now.root) shape) in
    elim c.if-with_layers.branch [
      | then-with_layers+then-info-bytes+in_ok-add_layers w ↦
          subst (IsPlanted c.args.piece_length c.args.with_layers (tree_entry c.args.info.now)) (sym w.tree-is)
          (subst (λ b. IsPlanted c.args.piece_length b (tree_entry c.args.info.now) w.add_layers.new.tree) (sym w.if-with_layers.true)
          w.in_ok-add_layers.ensures)
      | else-with_layers w ↦
          subst (IsPlanted c.args.piece_length c.args.with_layers (tree_entry c.args.info.now)) (sym w.tree-is)
          (elim w.else-with_layers.branch [
            | else-with_layers-via-then-with_layers+else-info-bytes u ↦
                planted_as_root c.args.piece_length c.args.with_layers (tree_entry c.args.info.now) c.in_ok-tree.tree (λ on longer. let short =
                u.if-info-bytes.false in let value = u.bytes.ensures.value in omega arith) root
            | else-with_layers-via-else-with_layers u ↦
                planted_as_root c.args.piece_length c.args.with_layers (tree_entry c.args.info.now) c.in_ok-tree.tree
                (λ on longer. false≢true (sym u.if-with_layers.false ∙ on)) root
          ])
    ]
