use Rattle.std.proofs.Common.{◌≡◌, ◌+◌, ◌-◌, ◌*◌, ◌^◌, ◌<◌, ◌≤◌, [], slice_index_or, ap, arith, pow_mono, subst}
use Rattle.partial_tree.specs.Evidence.{claimed_by}
use Rattle.partial_tree.specs.FoldedRows.{place_in_row}
use Rattle.partial_tree.specs.Visits.{Visits, places_below}
use Rattle.partial_tree.proofs.Tracing.{given_claimed}
use Rattle.partial_tree.proofs.FoldedRows.{base-row, children-claimed, first-low, joined-row, joined-rows}
use Rattle.partial_tree.proofs.FoldedRows.{left-claimed_row, place-claimed, right-claimed_row, row-above, row-low}
use Rattle.partial_tree.proofs.VisitedRows.{IsBegun, base-visited, children-visited, halves-visited, place-visited, row-begun, row-visited}
use Rattle.partial_tree.proofs.Visits.{all-admitted, stopped-before, where-none}
use Rattle.partial_tree.proofs.message.folding.+fold.Goals as goal

-- ---- below a row

pub fold_below-base_row-requires-clause-given : goal.fold_below-base_row-requires-clause-given
fold_below-base_row-requires-clause-given g t c = base-row c.args.evidence.now c.args.row c.requires.at c.if-row-evidence.true

pub fold_below-base_row-requires-clause-node : goal.fold_below-base_row-requires-clause-node
fold_below-base_row-requires-clause-node g t c = omega (arith, row-low c.args.evidence.now c.args.row c.requires.at)

pub fold_below-returns-then-row-evidence-clause-value : goal.fold_below-returns-then-row-evidence-clause-value
fold_below-returns-then-row-evidence-clause-value g t c = λ j lt.
    given_claimed c.args.evidence.now c.args.row.layer (place_in_row c.args.row j) _ (c.base_row.ensures j lt)

pub fold_below-returns-then-row-evidence-clause-visited : goal.fold_below-returns-then-row-evidence-clause-visited
fold_below-returns-then-row-evidence-clause-visited g t c =
    base-visited g.V.Visitor.visits c.args.evidence.now c.args.row c.args.visitor.now c.if-row-evidence.true

pub fold_below-fold_row-requires : goal.fold_below-fold_row-requires
fold_below-fold_row-requires g t c κs within =
    let above = row-above c.args.evidence.now c.args.row c.requires.at c.if-row-evidence.false in
    let few : c.args.row.depth < 3 = omega (arith, c.if-row-lt-EIGHT_DEPTH.true) in
    (omega (arith, above), (within, (children-claimed c.args.evidence.now c.args.row c.requires.at above few, c.requires.admits)))

pub fold_below-parents_of_row-requires : goal.fold_below-parents_of_row-requires
fold_below-parents_of_row-requires g t c =
    let few : c.args.row.depth ≤ 2 = omega (arith, c.if-row-lt-EIGHT_DEPTH.true) in
    let most : 2 ^ c.args.row.depth ≤ 2 ^ 2 = pow_mono {i = c.args.row.depth} {j = 2} few in
    omega (arith, most, c.count.ensures.count)

pub fold_below-returns-then-row-lt-EIGHT_DEPTH-clause-value : goal.fold_below-returns-then-row-lt-EIGHT_DEPTH-clause-value
fold_below-returns-then-row-lt-EIGHT_DEPTH-clause-value g t c =
    joined-row c.args.evidence.now c.args.row c.in_ok-below.below c.parents_of_row.result c.requires.at
    (row-above c.args.evidence.now c.args.row c.requires.at c.if-row-evidence.false) c.in_ok-below.ensures.value
    (λ j lt. c.parents_of_row.ensures j (omega (arith, lt, c.count.ensures.count)))

pub fold_below-returns-then-row-lt-EIGHT_DEPTH-clause-visited : goal.fold_below-returns-then-row-lt-EIGHT_DEPTH-clause-visited
fold_below-returns-then-row-lt-EIGHT_DEPTH-clause-visited g t c =
    children-visited g.V.Visitor.visits c.args.evidence.now c.args.row c.args.visitor.now c.fold_row.new.visitor
    (omega (arith, c.requires.at.from_base, c.if-row-evidence.false)) c.in_ok-below.ensures.visited

pub fold_below-fold_row-requires-2 : goal.fold_below-fold_row-requires-2
fold_below-fold_row-requires-2 g t c κs within =
    let left = left-claimed_row c.args.evidence.now c.args.row c.requires.at (row-above c.args.evidence.now c.args.row c.requires.at c.if-row-evidence.false)
    (omega (arith, c.if-row-lt-EIGHT_DEPTH.false)) in
    (omega (arith, c.requires.at.from_base, c.if-row-evidence.false), (within, (left, c.requires.admits)))

pub fold_below-fold_row-requires-3 : goal.fold_below-fold_row-requires-3
fold_below-fold_row-requires-3 g t c κs within =
    let right = right-claimed_row c.args.evidence.now c.args.row c.requires.at (row-above c.args.evidence.now c.args.row c.requires.at c.if-row-evidence.false)
    (let deep : 1 ≤ c.args.row.depth = omega (arith, c.if-row-lt-EIGHT_DEPTH.false) in deep) in (
      omega (arith, c.requires.at.from_base, c.if-row-evidence.false),
      (
        within,
        (
          right,
          all-admitted g.V.Visitor.visits (claimed_by c.args.evidence.now) _ _ _ _ c.in_ok-left.ensures.visited g.V.Visitor.admits
              g.met.V.Visitor.admits_after c.requires.admits,
        ),
      ),
    )

pub fold_below-returns-clause-value : goal.fold_below-returns-clause-value
fold_below-returns-clause-value g t c =
    let three : c.args.row.depth ≡ 3 = omega (arith, c.requires.at.few, c.if-row-lt-EIGHT_DEPTH.false) in
    joined-rows c.args.evidence.now c.args.row c.in_ok-left.left c.in_ok-right.right c.parents_of_rows.result c.requires.at
    (row-above c.args.evidence.now c.args.row c.requires.at c.if-row-evidence.false) three
    c.in_ok-left.ensures.value c.in_ok-right.ensures.value c.parents_of_rows.ensures.left c.parents_of_rows.ensures.right

pub fold_below-returns-clause-visited : goal.fold_below-returns-clause-visited
fold_below-returns-clause-visited g t c =
    halves-visited g.V.Visitor.visits c.args.evidence.now c.args.row c.args.visitor.now c.fold_row-2.new.visitor c.fold_row-3.new.visitor
    (omega (arith, c.requires.at.from_base, c.if-row-evidence.false)) c.in_ok-left.ensures.visited c.in_ok-right.ensures.visited

pub fold_below-returns-in_err-right-clause-stopped : goal.fold_below-returns-in_err-right-clause-stopped
fold_below-returns-in_err-right-clause-stopped g t c =
    where-none c.from_residual-in_err-right.result _ (stopped-before g.V.Visitor.visits (claimed_by c.args.evidence.now) _ _ _ _ c.in_ok-left.ensures.visited
    g.V.Visitor.stops g.met.V.Visitor.stops_before c.in_err-right.ensures.stopped)

pub fold_below-overflow_mul-node : goal.fold_below-overflow_mul-node
fold_below-overflow_mul-node g t c = omega (arith, row-low c.args.evidence.now c.args.row c.requires.at)

pub fold_below-overflow_mul-node-2 : goal.fold_below-overflow_mul-node-2
fold_below-overflow_mul-node-2 g t c = omega (arith, row-low c.args.evidence.now c.args.row c.requires.at)

pub fold_below-overflow_add-node : goal.fold_below-overflow_add-node
fold_below-overflow_add-node g t c = omega (arith, row-low c.args.evidence.now c.args.row c.requires.at)

-- ---- the places of a row

pub fold_row-fold_below-requires : goal.fold_row-fold_below-requires
fold_row-fold_below-requires g t c κs within = (omega arith, (within, (c.requires.at, c.requires.admits)))

pub fold_row-places-init : goal.fold_row-places-init
fold_row-places-init g t c =
    row-begun g.V.Visitor.visits c.args.evidence.now c.args.row c.args.visitor.now c.fold_below.new.visitor c.in_ok-hashes.ensures.visited

pub fold_row-places-preserved : goal.fold_row-places-preserved
fold_row-places-preserved g t c =
    let row = c.args.row in
    let low : c.places.j < 2 ^ row.depth = omega (arith, c.places-test.true, c.count-j-end.ensures.count) in
    let at : row.node * c.count.result + c.places.j ≡ place_in_row row c.places.j = ap (λ k. row.node * k + c.places.j) c.count.ensures.count in
    place-visited g.V.Visitor.visits c.args.evidence.now row c.places.j c.args.visitor.now c.places.visitor c.visit.new.self _
    (c.in_ok-hashes.ensures.value c.places.j low) c.places.invariant
    (subst (λ i. g.V.Visitor.visits c.places.visitor (record { layer = row.layer; index = i; hash = slice_index_or c.in_ok-hashes.hashes c.places.j [] })
    c.visit.new.self) at c.in_ok-visit.ensures.visits)

pub fold_row-visit-requires : goal.fold_row-visit-requires
fold_row-visit-requires g t c =
    all-admitted g.V.Visitor.visits (claimed_by c.args.evidence.now) _ _ _ _ c.places.invariant g.V.Visitor.admits g.met.V.Visitor.admits_after
    c.requires.admits _ (place-claimed c.args.evidence.now c.args.row c.in_ok-hashes.hashes c.count.result c.places.j c.count.ensures.count
    (omega (arith, c.places-test.true, c.count-j-end.ensures.count, c.count.ensures.count)) c.in_ok-hashes.ensures.value)

pub fold_row-returns-in_err-visit-clause-stopped : goal.fold_row-returns-in_err-visit-clause-stopped
fold_row-returns-in_err-visit-clause-stopped g t c =
    let low : c.places.j < c.count.result = omega (arith, c.places-test.true, c.count-j-end.ensures.count, c.count.ensures.count) in
    let is = place-claimed c.args.evidence.now c.args.row c.in_ok-hashes.hashes c.count.result c.places.j c.count.ensures.count low
    c.in_ok-hashes.ensures.value in
    where-none c.from_residual-in_err-visit.result _ (stopped-before g.V.Visitor.visits (claimed_by c.args.evidence.now) _ _ _ _ c.places.invariant
    g.V.Visitor.stops g.met.V.Visitor.stops_before (_, is, c.in_err-visit.ensures.stops))

pub fold_row-returns-clause-visited : goal.fold_row-returns-clause-visited
fold_row-returns-clause-visited g t c =
    let all : c.places.j ≡ 2 ^ c.args.row.depth = omega (arith, c.places-test.false, c.places.auto.j-end, c.count-j-end.ensures.count) in
    row-visited g.V.Visitor.visits c.args.evidence.now c.args.row c.args.visitor.now c.places.visitor
    (subst (λ n. Visits g.V.Visitor.visits (claimed_by c.args.evidence.now) (IsBegun c.args.row n) (places_below c.args.row + n) c.args.visitor.now
    c.places.visitor) all c.places.invariant)

pub fold_row-overflow_mul-first : goal.fold_row-overflow_mul-first
fold_row-overflow_mul-first g t c = omega (arith, first-low c.args.evidence.now c.args.row c.count.result c.requires.at c.count.ensures.few)

pub fold_row-overflow_add-index : goal.fold_row-overflow_add-index
fold_row-overflow_add-index g t c =
    let most = first-low c.args.evidence.now c.args.row c.count.result c.requires.at c.count.ensures.few in
    omega (arith, most, c.places-test.true, c.count-j-end.ensures.few)

pub fold_row-bounds-hashes-j : goal.fold_row-bounds-hashes-j
fold_row-bounds-hashes-j g t c = omega (arith, c.places-test.true, c.count-j-end.ensures.few)
