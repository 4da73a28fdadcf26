use Rattle.std.proofs.Common.{◌≡◌, ◌+◌, ◌*◌, ◌<◌, ◌≤◌, length, sum_by, sym, ap, ap₂, ◌∙◌, subst, arith}
use Rattle.std.specs.FinMap.{values}
use Rattle.std.proofs.lemmas.List.{take_all}
use Rattle.fixed_maps.specs.Tiers.{flat, items_at}
use Rattle.holdings.specs.Holdings.{KeptPieces, held_in}
use Rattle.holdings.specs.Tables.{weigh}
use Rattle.holdings.proofs.Counted.{IsTierWithin, tier-within, tier-more, tier-longer, counted}
use Rattle.holdings.proofs.piece_table.PieceTable.held.Goals as goal
use Rattle.holdings.proofs.piece_table.PieceTable.held.Goals.{After-deref}

-- the tier is one of the table's
tier : (c : After-deref) → IsTierWithin c.self.inside.order.tiers c.tiers.tier c.self.inside.width c.self.inside.rows.capacity
tier c =
    let lt : c.tiers.tier < length c.self.inside.order.tiers =
    let end = c.tiers-tier-end.ensures.tiers in let low = c.tiers-test.true in omega (arith, end, low) in
    tier-within _ _ _ _ _ _ _ _ c.self.invariant c.tiers-tier-end.ensures.rising c.tiers.tier lt

pub held_of_tier-held-requires-clause-few : goal.held_of_tier-held-requires-clause-few
held_of_tier-held-requires-clause-few c =
    let t = tier (goal.at.held_of_tier-held-requires-clause-few c).After-deref in
    let cells = t.cells in let wide = c.self.invariant.wide in let small = c.self.inside.cells.small in omega (arith, cells, wide, small)

pub held_of_tier-held-requires-clause-many : goal.held_of_tier-held-requires-clause-many
held_of_tier-held-requires-clause-many c =
    let t = tier (goal.at.held_of_tier-held-requires-clause-many c).After-deref in
    let few = t.few in let long = c.self.invariant.long in let tiny = c.self.inside.newest.small in omega (arith, few, long, tiny)

pub overflow_add-held : goal.overflow_add-held
overflow_add-held c =
    let t = tier (goal.at.overflow_add-held c).After-deref in
    let both = t.so_far in let one = c.held_of_tier-held.ensures.few in let others = c.tiers.invariant.few in
    let most = c.self.invariant.wide in let bound = c.self.inside.cells.small in omega (arith, one, others, both, most, bound)

pub tiers-preserved : goal.tiers-preserved
tiers-preserved c =
    let ts = c.self.inside.order.tiers in
    let i = c.tiers.tier in
    let w = c.self.inside.width in
    let lt = (tier (goal.at.tiers-preserved c).After-deref).there in
    let one = c.held_of_tier-held.ensures.few in
    let so-far = c.tiers.invariant.few in
    let own = c.held_of_tier-held.ensures.held ∙ ap (λ xs. sum_by (weigh xs w) (items_at ts i)) c.deref.ensures.value in
    let each = weigh c.self.inside.cells.items w in
    record {
      held = ap₂ (λ m n. m + n) c.tiers.invariant.held own ∙ sym (tier-more each ts i lt);
      few = subst (λ n. c.tiers.held + c.held_of_tier-held.result ≤ n * w) (sym (tier-longer each ts i lt)) (omega (arith, one, so-far));
    }

pub returns : goal.returns
returns c =
    let ts = c.self.inside.order.tiers in
    let cells = c.self.inside.cells.items in
    let w = c.self.inside.width in
    let end : length ts ≤ c.tiers.tier = let is = c.tiers-tier-end.ensures.tiers in let low = c.tiers-test.false in omega (arith, is, low) in
    subst (λ (k : KeptPieces). c.tiers.held ≡ sum_by (λ x. held_in x.cells) (values k.pieces)) c.self.view_is
    (c.tiers.invariant.held ∙ ap (λ us. sum_by (weigh cells w) (flat us)) (take_all c.tiers.tier ts end)
    ∙ counted cells c.self.inside.newest.items w (flat ts) c.tiers-tier-end.ensures.rising)
