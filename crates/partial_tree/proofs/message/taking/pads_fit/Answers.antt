use Rattle.std.proofs.Common.{◌+◌, ◌*◌, ◌/◌, ◌^◌, ◌<◌, ◌≤◌, length, take, drop, sym, ap, subst, arith}
use Rattle.std.proofs.lemmas.Bool.{OnTrue_from, OnFalse_from}
use Rattle.hashtree.specs.Tree.{block_count}
use Rattle.node_maps.specs.Places.{tree_height}
use Rattle.partial_tree.proofs.Ranges.{top_at}
use Rattle.partial_tree.proofs.Messages.{PadsFrom, PadsAbove, from_moved, above_moved, not_of, fit-right, unfit-base, unfit-uncles, range-wide, cover-wide}
use Rattle.partial_tree.proofs.message.taking.pads_fit.Goals as goal

pub base_pads_fit-requires-clause-inside : goal.base_pads_fit-requires-clause-inside
base_pads_fit-requires-clause-inside c =
    let ask = c.args.ask.now in
    let n = length c.split_at.result.0.now in
    let most : n ≤ ask.length = omega (arith, c.split_at.ensures.front_len, c.from.ensures) in
    let wide = range-wide (tree_height c.args.shape) ask n c.requires.low c.requires.range most in
    subst (λ a. (a + n) * 2 ^ ask.base ≤ 2 ^ 32) (sym c.from.ensures) wide

pub returns-then-not-base_pads_fit-clause-not : goal.returns-then-not-base_pads_fit-clause-not
returns-then-not-base_pads_fit-clause-not c =
    let ask = c.args.ask.now in
    let hashes = c.args.hashes.now in
    unfit-base c.args.shape ask hashes c.args.span c.requires.span c.requires.count.enough
    (λ fits. not_of c.base_pads_fit.result (PadsFrom c.blocks-blocks.result ask.base c.from.result c.split_at.result.0.now) c.base_pads_fit.ensures.fit.1
    c.if-not-base_pads_fit.true
    (from_moved (block_count c.args.shape) c.blocks-blocks.result ask.base ask.index c.from.result (take ask.length hashes) c.split_at.result.0.now
    (sym c.blocks-blocks.ensures.value) (sym c.from.ensures) (sym c.split_at.ensures.front) fits))

pub overflow_add-ask : goal.overflow_add-ask
overflow_add-ask c = omega (arith, c.requires.range.base_inside)

pub uncle_pads_fit-requires-clause-layers : goal.uncle_pads_fit-requires-clause-layers
uncle_pads_fit-requires-clause-layers c =
    let top = top_at c.args.ask.now c.args.hashes.now c.args.span c.requires.span in
    omega (arith, top, c.requires.count.top_inside, c.split_at.ensures.back_len)

pub uncle_pads_fit-requires-clause-node : goal.uncle_pads_fit-requires-clause-node
uncle_pads_fit-requires-clause-node c =
    let ask = c.args.ask.now in
    subst (λ a. a / 2 ^ c.args.span * 2 ^ (ask.base + c.args.span) < 2 ^ 32) (sym c.from-2.ensures)
    (cover-wide (tree_height c.args.shape) ask c.args.span c.requires.low c.requires.range c.requires.span)

pub returns-clause-fit : goal.returns-clause-fit
returns-clause-fit c =
    let ask = c.args.ask.now in
    let hashes = c.args.hashes.now in
    OnTrue_from c.uncle_pads_fit.result _ (λ e. fit-right c.args.shape ask hashes c.args.span c.requires.span c.requires.count.enough
    (from_moved c.blocks-blocks.result (block_count c.args.shape) ask.base c.from.result ask.index c.split_at.result.0.now (take ask.length hashes)
    c.blocks-blocks.ensures.value c.from.ensures c.split_at.ensures.front (c.base_pads_fit.ensures.fit.0 c.if-not-base_pads_fit.false))
    (above_moved c.blocks-blocks.result (block_count c.args.shape) (ask.base + c.args.span) (c.from-2.result / 2 ^ c.args.span) (ask.index / 2 ^ c.args.span)
    c.split_at.result.1.now (drop ask.length hashes)
    c.blocks-blocks.ensures.value (ap (λ a. a / 2 ^ c.args.span) c.from-2.ensures) c.split_at.ensures.back (c.uncle_pads_fit.ensures.0 e)))

pub returns-clause-not : goal.returns-clause-not
returns-clause-not c =
    let ask = c.args.ask.now in
    let hashes = c.args.hashes.now in
    OnFalse_from c.uncle_pads_fit.result _ (λ e. unfit-uncles c.args.shape ask hashes c.args.span c.requires.span c.requires.count.enough c.requires.some
    (λ fits. not_of c.uncle_pads_fit.result (PadsAbove c.blocks-blocks.result (ask.base + c.args.span) (c.from-2.result / 2 ^ c.args.span)
    c.split_at.result.1.now) c.uncle_pads_fit.ensures.1 e
    (above_moved (block_count c.args.shape) c.blocks-blocks.result (ask.base + c.args.span) (ask.index / 2 ^ c.args.span) (c.from-2.result / 2 ^ c.args.span)
    (drop ask.length hashes) c.split_at.result.1.now
    (sym c.blocks-blocks.ensures.value) (ap (λ a. a / 2 ^ c.args.span) (sym c.from-2.ensures)) (sym c.split_at.ensures.back) fits)))
