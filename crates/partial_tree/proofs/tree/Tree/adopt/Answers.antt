use Rattle.std.proofs.Common.{◌≡◌, ◌+◌, ◌-◌, ◌*◌, ◌%◌, ◌^◌, ℕ, suc, refl, sym, ap, ◌∙◌, subst, arith}
use Rattle.std.specs.FinMap.{len}
use Rattle.node_maps.specs.Known.{Known, look}
use Rattle.node_maps.specs.Nodes.{Nodes}
use Rattle.node_maps.specs.Places.{tree_height}
use Rattle.node_maps.proofs.Nodes.{known-of, length-of, marked-of}
use Rattle.partial_tree.specs.Grown.{AgreeInTree}
use Rattle.partial_tree.specs.Kept.{kept, TreeTakesLayer}
use Rattle.partial_tree.specs.Claims.{IsMismatch}
use Rattle.partial_tree.proofs.Adopted.{AreOfOneLength, same-length, first-known, fewer, adopted, good-adopted, not-adopted, places_of}
use Rattle.partial_tree.proofs.GrownLeaves.{shifted}
use Rattle.partial_tree.proofs.tree.Tree.adopt.Given.{Over}
use Rattle.partial_tree.proofs.tree.Tree.adopt.Goals as goal
use Rattle.partial_tree.proofs.tree.Tree.adopt.Goals.{After-agree}

-- what both trees know, and how many places there are
module _ (g : Over) (c : After-agree g) where
  abbrev K : Known
  K = c.self.inside.nodes.known

  abbrev K' : Known
  K' = (g.N.NodeMap.seen c.grown.inside.nodes).known

  abbrev n : ℕ
  n = c.self.inside.nodes.length

  both : AreOfOneLength n c.grown.inside.shape c.self.inside.root K K' c.self.inside.nodes.marked c.args.self.now c.args.grown
  both = record {
    old_is = c.self.view_is;
    grown_is = c.grown.view_is;
    lengths = c.requires.length;
    grows = c.grown.invariant.4;
    good = c.requires.good;
  }

  places : 2 * 2 ^ c.height-height.result % 18446744073709551616 ≡ 2 ^ suc (tree_height n)
  places = places_of c.height-height.result c.height-height.ensures.low ∙ ap (λ h. 2 ^ suc h) c.height-height.ensures.value

pub returns-then-not-agree-clause-refused : goal.returns-then-not-agree-clause-refused
returns-then-not-agree-clause-refused g c =
    let r = (goal.at.returns-then-not-agree-clause-refused g c).After-agree in (
      not-adopted (both g r) (subst (λ (m : Nodes). IsMismatch (look m.known) (look (K' g r))) c.map.ensures c.if-not-agree.ensures.differs),
      refl,
    )

pub carry_marks-requires-clause-known : goal.carry_marks-requires-clause-known
carry_marks-requires-clause-known g c =
    let wide = shifted c.height-height.result c.height-height.ensures.low ∙ ap (λ k. 2 ^ k) c.height-height.ensures.value in
    λ j low. first-known (both g (goal.at.carry_marks-requires-clause-known g c).After-agree) j (omega (arith, low, wide))

pub overflow_sub-gained : goal.overflow_sub-gained
overflow_sub-gained g c =
    let r = (goal.at.overflow_sub-gained g c).After-agree in
    omega (arith, fewer (both g r), places g r, c.self.invariant.known_is)

pub returns-clause-adopted : goal.returns-clause-adopted
returns-clause-adopted g c =
    let r = (goal.at.returns-clause-adopted g c).After-agree in
    let x = both g r in
    let agreed = subst (AgreeInTree (look (K g r)) (look (K' g r))) c.height-height.ensures.value
    (subst (λ (m : Nodes). AgreeInTree (look m.known) (look (K' g r)) c.height-height.result) c.map.ensures c.if-not-agree.ensures.same) in
    let all = subst (λ m. len (K' g r) + 1 ≡ 2 ^ suc (tree_height m)) (same-length x) c.grown.invariant.3 in
    let length_is = length-of c.replace.ensures ∙ length-of c.carry_marks.ensures.carried ∙ c.grown.invariant.0 ∙ same-length x in
    let gained = 2 * 2 ^ c.height-height.result % 18446744073709551616 - 1 - c.self.inside.known in
    subst (λ m. TreeTakesLayer c.args.self.now 0 c.args.grown.leaves gained
    (kept c.self.inside.root m c.replace.new.self.known c.replace.new.self.marked)) (sym length_is)
    (adopted x gained _ _ agreed (known-of c.replace.ensures ∙ known-of c.carry_marks.ensures.carried)
    (marked-of c.replace.ensures ∙ marked-of c.carry_marks.ensures.carried ∙ marked-of c.map-2.ensures)
    (omega (arith, fewer x, places g r, all, c.self.invariant.known_is)))

pub returns-clause-good : goal.returns-clause-good
returns-clause-good g c =
    good-adopted (both g (goal.at.returns-clause-good g c).After-agree)
    (2 * 2 ^ c.height-height.result % 18446744073709551616 - 1 - c.self.inside.known) _ (returns-clause-adopted g c)
