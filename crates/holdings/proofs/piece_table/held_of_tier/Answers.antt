use Rattle.std.proofs.Common.{◌≡◌, ℕ, ◌+◌, ◌-◌, ◌*◌, ◌<◌, ◌≤◌, length, take, drop, sum_by, Some, sym, ap, ap₂, ◌∙◌, arith}
use Rattle.std.specs.Prelude.{slice_get}
use Rattle.std.proofs.lemmas.List.{take_all}
use Rattle.fixed_maps.specs.Tiers.{items_at}
use Rattle.holdings.specs.Holdings.{held_in}
use Rattle.holdings.specs.Tables.{RowOf, weigh}
use Rattle.holdings.proofs.Rows.{row-before, part-size}
use Rattle.holdings.proofs.Counted.{one-more, read-at, past-end}
use Rattle.holdings.proofs.piece_table.held_of_tier.Goals as goal
use Rattle.holdings.proofs.piece_table.held_of_tier.Goals.{In-Some, After-held_of-held}

-- the entry that was read, and its row
module _ (c : In-Some) where
  abbrev e : (ℕ × ℕ) × RowOf
  e = (c.in-Some.field-0-0, (c.in-Some.row, c.in-Some.size))

  read : slice_get (items_at c.args.order.now.tiers c.args.tier) c.places.place ≡ Some e
  read = sym c.in-Some.ensures.at

  low : c.in-Some.size ≤ c.args.width
  low = c.requires.low e.0 e.1 c.in-Some.ensures.there

  within : c.in-Some.row * c.args.width + c.in-Some.size ≤ length c.args.cells.now
  within = omega (arith, c.requires.inside e.0 e.1 c.in-Some.ensures.there, low)

  place : c.places.place < length (items_at c.args.order.now.tiers c.args.tier)
  place = (read-at (items_at c.args.order.now.tiers c.args.tier) c.places.place e read).0

-- as many are held of it as it has blocks, at most
few : (c : After-held_of-held) → c.held_of-held.result ≤ c.args.width
few c =
    let r = (goal.at.After-held_of-held c).In-Some in
    let start = c.in-Some.row * c.args.width in
    let size = part-size c.args.cells.now start c.in-Some.size (start + c.in-Some.size - start) (omega arith) (within r) in
    omega (arith, c.held_of-held.ensures.few, size, low r)

pub overflow_mul-start : goal.overflow_mul-start
overflow_mul-start c = let fits = within (goal.at.overflow_mul-start c).In-Some in omega (arith, fits, c.requires.bytes)

pub overflow_add-start : goal.overflow_add-start
overflow_add-start c = let fits = within (goal.at.overflow_add-start c).In-Some in omega (arith, fits, c.requires.bytes)

pub offset_bounds-cells-start : goal.offset_bounds-cells-start
offset_bounds-cells-start c = let fits = within (goal.at.offset_bounds-cells-start c).In-Some in omega (arith, fits, c.requires.bytes)

pub slice_bounds-held_of-end : goal.slice_bounds-held_of-end
slice_bounds-held_of-end c = let fits = within (goal.at.slice_bounds-held_of-end c).In-Some in omega (arith, fits)

pub overflow_add-held : goal.overflow_add-held
overflow_add-held c =
    let before = place (goal.at.overflow_add-held c).In-Some in
    let one = few (goal.at.overflow_add-held c).After-held_of-held in
    let more = row-before c.places.place (length (items_at c.args.order.now.tiers c.args.tier)) c.args.width before in
    omega (arith, one, c.places.invariant.few, more, c.requires.few)

pub overflow_add-place : goal.overflow_add-place
overflow_add-place c = let before = place (goal.at.overflow_add-place c).In-Some in omega (arith, before, c.requires.many)

pub places-smaller : goal.places-smaller
places-smaller c = let before = place (goal.at.places-smaller c).In-Some in omega (arith, before)

pub places-preserved : goal.places-preserved
places-preserved c =
    let r = (goal.at.places-preserved c).In-Some in
    let one = few (goal.at.places-preserved c).After-held_of-held in
    let before = place r in
    let here : c.in-Some.row * c.args.width + c.in-Some.size - c.in-Some.row * c.args.width ≡ c.in-Some.size = omega arith in
    let held : c.held_of-held.result ≡ weigh c.args.cells.now c.args.width (e r) =
    c.held_of-held.ensures.count ∙ ap (λ n. held_in (take n (drop (c.in-Some.row * c.args.width) c.args.cells.now))) here in
    record {
      inside = omega (arith, before);
      held = ap₂ (λ m n. m + n) c.places.invariant.held held
          ∙ sym (one-more (weigh c.args.cells.now c.args.width) (items_at c.args.order.now.tiers c.args.tier) c.places.place (e r) (read r));
      few = omega (arith, one, c.places.invariant.few);
    }

pub returns-clause-held : goal.returns-clause-held
returns-clause-held c =
    let items = items_at c.args.order.now.tiers c.args.tier in
    c.places.invariant.held ∙ ap (sum_by (weigh c.args.cells.now c.args.width)) (take_all c.places.place items
    (past-end items c.places.place (sym c.entry.ensures.at ∙ c.in_default.is)))
