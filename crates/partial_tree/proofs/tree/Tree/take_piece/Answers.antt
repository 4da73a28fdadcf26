use Rattle.std.proofs.Common.{not, refl, ◌^◌, ◌+◌, ◌<◌, ◌*◌, ◌/◌, ◌%◌, ◌≡◌, ◌≤◌, List, length, sym, ap, ◌∙◌, subst, arith}
use Rattle.hashtree.specs.Tree.{block_count}
use Rattle.node_maps.specs.Digest.{Hash}
use Rattle.node_maps.specs.Places.{tree_height}
use Rattle.partial_tree.specs.Kept.{KeptTree, info_of}
use Rattle.partial_tree.specs.LeafRows.{IsLeafRow, row_claims, row_pads, row_joins, TreeTakesRow, TreeMarksRun}
use Rattle.partial_tree.specs.Claims.{HasNew}
use Rattle.partial_tree.proofs.PadRows.{new-second}
use Rattle.partial_tree.specs.LeafPieces.{leaves_in}
use Rattle.partial_tree.proofs.TakenRows.{row-knows, row-small}
use Rattle.std.proofs.lemmas.Nat.{one_shl}
use Rattle.std.proofs.lemmas.Bool.{false≢true}
use Rattle.chains.proofs.Cases.{some_of}
use Rattle.node_maps.specs.Known.{look}
use Rattle.node_maps.specs.Places.{IsKnown}
use Rattle.node_maps.specs.Runs.{AreKnown}
use Rattle.partial_tree.proofs.Ranges.{pow_more}
use Rattle.partial_tree.proofs.LeafPieces.{piece-small, piece-new, piece-row, length-leaves}
use Rattle.partial_tree.proofs.tree.Tree.take_piece.Given.{Over}
use Rattle.partial_tree.proofs.tree.Tree.take_piece.Goals as goal
use Rattle.partial_tree.proofs.tree.Tree.take_piece.Goals.{After-self, After-deref, After-len, else-knows_leaves-via-else-knows_leaves}
use Rattle.partial_tree.proofs.tree.Tree.take_piece.Goals.{else-knows_leaves-via-then-knows_leaves+else-has_row_pads}

low : (g : Over) (c : After-self g) → tree_height c.args.self.now.length ≤ 32
low g c = subst (λ (v : KeptTree). tree_height v.length ≤ 32) c.self.view_is c.self.invariant.low

-- how many leaves the node is over, as it is computed
width : (g : Over) (c : After-self g) → 1 * 2 ^ c.args.span % 2 ^ 64 ≡ 2 ^ c.args.span
width g c = let few = low g c in one_shl c.args.span 64 (omega (arith, few, c.requires.row.span_inside))

-- and they end within the leaves that there can be
ends : (g : Over) (c : After-self g) → c.args.first + 2 ^ c.args.span ≤ 2 ^ 33
ends g c =
    let small = piece-small c.args.self.now.length c.args.first c.args.span c.args.bytes.now c.requires.row (low g c) in
    let few = low g c in
    let most : 2 ^ c.args.span ≤ 2 ^ 32 = pow_more c.args.span 32 (omega (arith, few, c.requires.row.span_inside)) in
    omega (arith, small, most)

row : (g : Over) (c : After-deref g) → IsLeafRow c.args.self.now.length c.args.first c.args.span (length c.deref.result.now)
row g c =
    subst (λ (hs : List Hash). IsLeafRow c.args.self.now.length c.args.first c.args.span (length hs)) (sym (c.deref.ensures.value ∙ c.in-Ok.ensures.leaves))
    (piece-row c.args.self.now.length c.args.first c.args.span c.args.bytes.now c.requires.row)

items : (g : Over) (c : After-len g) → c.len.result ≡ length c.in-Ok.leaves.items
items g c = omega (arith, c.len.ensures, c.in-Ok.leaves.ok)

pub take_leaves-requires-clause-row : goal.take_leaves-requires-clause-row
take_leaves-requires-clause-row g c = row g (goal.at.take_leaves-requires-clause-row g c).After-deref

pub mark_leaves-requires-clause-range : goal.mark_leaves-requires-clause-range
mark_leaves-requires-clause-range g c =
    let small = row-small c.args.self.now.length c.args.first c.args.span (leaves_in c.args.bytes.now)
    (piece-row c.args.self.now.length c.args.first c.args.span c.args.bytes.now c.requires.row)
    (low g (goal.at.mark_leaves-requires-clause-range g c).After-self) in
    omega (arith, small, c.len.ensures, ap length c.in-Ok.ensures.leaves)

pub mark_leaves-requires-clause-known : goal.mark_leaves-requires-clause-known
mark_leaves-requires-clause-known g c = λ j low.
    let leaves = row g (goal.at.mark_leaves-requires-clause-known g c).After-deref in
    let same : c.len.result ≡ length c.deref.result.now =
    items g (goal.at.mark_leaves-requires-clause-known g c).After-len ∙ ap length (sym c.deref.ensures.value) in
    row-knows (info_of c.args.self.now) c.args.first c.args.span c.deref.result leaves c.args.self.now.state.known c.take_leaves.new.self.state.known
    c.in-Ok-take_leaves.field-0 c.in-Ok-take_leaves.ensures.taken.0 j (omega (arith, low, same, leaves.count_is))

pub returns-in-Ok-take_leaves-clause-taken : goal.returns-in-Ok-take_leaves-clause-taken
returns-in-Ok-take_leaves-clause-taken g c =
    let count : c.len.result ≡ block_count (length c.args.bytes.now) =
    items g (goal.at.returns-in-Ok-take_leaves-clause-taken g c).After-len ∙ ap length c.in-Ok.ensures.leaves ∙ length-leaves c.args.bytes.now in
    record {
      count = c.in-Ok-take_leaves.field-0;
      between = c.take_leaves.new.self;
      joins = subst (λ (hs : List Hash). TreeTakesRow c.args.self.now c.args.first c.args.span hs c.in-Ok-take_leaves.field-0 c.take_leaves.new.self)
          (c.deref.ensures.value ∙ c.in-Ok.ensures.leaves) c.in-Ok-take_leaves.ensures.taken;
      marks = subst (λ n. TreeMarksRun c.take_leaves.new.self c.args.first n c.mark_leaves.new.self) count c.mark_leaves.ensures.marked;
    }

pub returns-in-Ok-take_leaves-clause-good : goal.returns-in-Ok-take_leaves-clause-good
returns-in-Ok-take_leaves-clause-good g c = c.mark_leaves.ensures.good

pub knows_leaves-requires : goal.knows_leaves-requires
knows_leaves-requires g c =
    let r = (goal.at.knows_leaves-requires g c).After-self in
    let end = ends g r in
    subst (λ w. c.args.first + w < 2 ^ 64) (sym (width g r)) (omega (arith, end))

pub has_row_pads-requires-clause-range : goal.has_row_pads-requires-clause-range
has_row_pads-requires-clause-range g c = let end = ends g (goal.at.has_row_pads-requires-clause-range g c).After-self in omega (arith, end)

pub returns-in_default-clause-refused : goal.returns-in_default-clause-refused
returns-in_default-clause-refused g c =
    let m = c.args.self.now.state.known in
    let len = c.args.self.now.length in
    let wide = width g (goal.at.returns-in_default-clause-refused g c).After-self in
    let v = some_of c.hash.result (c.is_none.ensures ∙ ap not c.if-is_none.false) in
    let top : IsKnown (look m) c.args.span (c.args.first / 2 ^ c.args.span) = (v.0, sym c.hash.ensures ∙ v.1) in
    let new : HasNew (look m) (row_joins len c.args.first c.args.span (leaves_in c.args.bytes.now)) = elim c.else-knows_leaves.branch [
      | else-knows_leaves-via-then-knows_leaves+else-has_row_pads w ↦
          new-second (look m) (row_claims c.args.first c.args.span (leaves_in c.args.bytes.now)) (row_pads len c.args.first c.args.span)
          w.if-has_row_pads.ensures.new
      | else-knows_leaves-via-else-knows_leaves w ↦
          piece-new (info_of c.args.self.now) (look m) c.args.first c.args.span c.args.bytes.now c.requires.row (λ known.
          false≢true (sym w.if-knows_leaves.false ∙ c.knows_leaves.ensures.1 (subst (AreKnown (look m 0) c.args.first) (sym wide) known)))
    ] in
    ((top, new), refl)
