use Rattle.std.proofs.Common.{◌≡◌, ℕ, Result, Ok, IfOk, IfErr, [], ◌/◌, ◌^◌, not, sym, ap, ◌∙◌, subst}
use Rattle.partial_tree.specs.TreeRoot.{TreeRoot}
use Rattle.node_maps.specs.Places.{tree_height, IsTreePlace, IsKnown}
use Rattle.node_maps.specs.Known.{Known, look}
use Rattle.node_maps.specs.Nodes.{Nodes}
use Rattle.node_maps.proofs.Nodes.{length-of}
use Rattle.partial_tree.specs.Claims.{IsAgreed}
use Rattle.partial_tree.specs.EndPads.{end_pads}
use Rattle.partial_tree.specs.Evidence.{LeadsTo}
use Rattle.partial_tree.specs.LeafRows.{RowRefuses, TakesRow, piece_refusal}
use Rattle.chains.proofs.Cases.{some_of}
use Rattle.partial_tree.proofs.LeafRows.{row-leads}
use Rattle.partial_tree.proofs.TakenRows.{row-taken, row-refused, evidence_with}
use Rattle.partial_tree.specs.declared.refusal.PieceRefusal.{PieceRefusal}
use Rattle.partial_tree.proofs.nodes.TreeNodes.take_leaves.Given.{Over}
use Rattle.partial_tree.proofs.nodes.TreeNodes.take_leaves.Goals as goal
use Rattle.partial_tree.proofs.nodes.TreeNodes.take_leaves.Goals.{After-zero, in-Ok, in-Err}

-- the node over the leaves is known
module _ (g : Over) (c : After-zero g) where
  known : IsKnown (look (g.N.NodeMap.seen c.self.inside.map).known) c.args.span (c.args.first / 2 ^ c.args.span)
  known = (let v = some_of c.get.result (c.is_none.ensures ∙ ap not c.if-is_none.false) in (v.0, sym c.get.ensures ∙ v.1))

  shape : c.self.inside.shape ≡ c.args.self.now.length
  shape = sym c.self.invariant.0 ∙ length-of c.self.view_is

pub store_row-requires-clause-place : goal.store_row-requires-clause-place
store_row-requires-clause-place g c =
    let index = c.args.first / 2 ^ c.args.span in
    subst (λ (n : Nodes). IsTreePlace (tree_height n.length) c.args.span index) (sym c.self.view_is)
    (c.requires.in_tree c.args.span index (subst (λ (n : Nodes). IsKnown (look n.known) c.args.span index) c.self.view_is
    (known g (goal.at.store_row-requires-clause-place g c).After-zero)))

pub store_row-requires-clause-leads : goal.store_row-requires-clause-leads
store_row-requires-clause-leads g c =
    let t : TreeRoot = record { root = []; length = c.args.self.now.length } in
    subst (λ p. LeadsTo (evidence_with c.args.first c.args.span c.args.hashes p) c.args.span (c.args.first / 2 ^ c.args.span))
    (sym c.zero.ensures) (row-leads t c.args.first c.args.span c.args.hashes c.requires.row)

pub store_row-requires-clause-agreed : goal.store_row-requires-clause-agreed
store_row-requires-clause-agreed g c =
    subst (λ len. IsAgreed (look (g.N.NodeMap.seen c.self.inside.map).known) (end_pads len))
    (sym (shape g (goal.at.store_row-requires-clause-agreed g c).After-zero))
    (subst (λ (n : Nodes). IsAgreed (look n.known) (end_pads c.args.self.now.length)) (sym c.self.view_is) c.requires.pads)

pub returns-clause-taken : goal.returns-clause-taken
returns-clause-taken g c =
    let k = c.args.span in
    let r = (goal.at.returns-clause-taken g c).After-zero in
    let after : Known = (g.N.NodeMap.seen c.store_row.new.map).known in
    let told : Result ℕ PieceRefusal → Type 0 = λ r. IfOk r (λ n. TakesRow c.args.self.now.length c.args.first k c.args.hashes.now
    c.args.self.now.known n after) in
    elim c.match-store_row.branch [
      | in-Err w ↦ subst told (sym w.result-is) tt
      | in-Ok w ↦
          let there : TakesRow c.self.inside.shape c.args.first k c.args.hashes.now (g.N.NodeMap.seen c.self.inside.map).known w.in-Ok.gained after =
          row-taken c.self.inside.shape c.args.first k c.args.hashes c.zero.result c.zero.ensures (g.N.NodeMap.seen c.self.inside.map).known (known g r) after
          (Ok w.in-Ok.gained) w.in-Ok.ensures.stored in
          subst told (sym w.result-is) (subst (λ (n : Nodes). TakesRow c.args.self.now.length c.args.first k c.args.hashes.now n.known w.in-Ok.gained after)
          c.self.view_is (subst (λ len. TakesRow len c.args.first k c.args.hashes.now (g.N.NodeMap.seen c.self.inside.map).known w.in-Ok.gained after)
          (shape g r) there))
    ]

pub returns-clause-refused : goal.returns-clause-refused
returns-clause-refused g c =
    let k = c.args.span in
    let r = (goal.at.returns-clause-refused g c).After-zero in
    let now = g.N.NodeMap.seen c.store_row.new.map in
    let told : Result ℕ PieceRefusal → Type 0 = λ r. IfErr r (λ x. RowRefuses c.args.self.now.length (look c.args.self.now.known) c.args.first k
    c.args.hashes.now x × (now ≡ c.args.self.now)) in
    elim c.match-store_row.branch [
      | in-Ok w ↦ subst told (sym w.result-is) tt
      | in-Err w ↦
          let (fault, same) = w.in-Err.ensures.refused in
          let there : RowRefuses c.self.inside.shape (look (g.N.NodeMap.seen c.self.inside.map).known) c.args.first k c.args.hashes.now
          (piece_refusal w.in-Err.refusal) =
          row-refused c.self.inside.shape c.args.first k c.args.hashes c.zero.result c.zero.ensures (g.N.NodeMap.seen c.self.inside.map).known (known g r)
          w.in-Err.refusal fault in
          let row : RowRefuses c.args.self.now.length (look (g.N.NodeMap.seen c.self.inside.map).known) c.args.first k c.args.hashes.now
          (piece_refusal w.in-Err.refusal) =
          subst (λ len. RowRefuses len (look (g.N.NodeMap.seen c.self.inside.map).known) c.args.first k c.args.hashes.now (piece_refusal w.in-Err.refusal))
          (shape g r) there in
          subst told (sym w.result-is) (subst (λ (n : Nodes). RowRefuses c.args.self.now.length (look n.known) c.args.first k c.args.hashes.now
          w.of_piece.result × (now ≡ n))
          c.self.view_is (
            subst (RowRefuses c.args.self.now.length (look (g.N.NodeMap.seen c.self.inside.map).known) c.args.first k c.args.hashes.now)
                (sym w.of_piece.ensures) row,
            same,
          ))
    ]
