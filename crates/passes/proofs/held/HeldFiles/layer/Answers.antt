use Rattle.std.proofs.Common.{◌∙◌, ◌≤◌, slice_get, ap, sym, subst, arith}
use Rattle.std.proofs.lemmas.Option.{slice_get_within}
use Rattle.std.proofs.lemmas.Result.{IfOk-weaker, on_err_weaker}
use Rattle.hashtree.specs.Tree.{block_count, height, layer_of}
use Rattle.passes.specs.Held.{HeldSeen, content}
use Rattle.passes.specs.Rows.{held_answers}
use Rattle.passes.proofs.held.HeldFiles.layer.Goals as goal

pub place-at-requires-clause-there : goal.place-at-requires-clause-there
place-at-requires-clause-there c = slice_get_within (held_answers c.self.inside.rows) c.args.place (content c.requires.whole.0)
    (ap (λ (h : HeldSeen). slice_get h.answers c.args.place) c.self.view_is ∙ c.requires.whole.1)

pub layer-requires-clause-some : goal.layer-requires-clause-some
layer-requires-clause-some c =
    let is = c.place-at.ensures.file c.requires.whole.0 (ap (λ (h : HeldSeen). slice_get h.answers c.args.place) c.self.view_is ∙ c.requires.whole.1) in
    omega (arith, is.size, c.requires.whole.2)

pub layer-requires-clause-within : goal.layer-requires-clause-within
layer-requires-clause-within c =
    let is = c.place-at.ensures.file c.requires.whole.0 (ap (λ (h : HeldSeen). slice_get h.answers c.args.place) c.self.view_is ∙ c.requires.whole.1) in
    omega (arith, is.placed.blocks.within, c.self.inside.rows.blocks.within)

pub returns-clause-layer : goal.returns-clause-layer
returns-clause-layer c =
    let hashed = c.self.invariant.hashed (ap (λ (h : HeldSeen). h.is_hashed) c.self.view_is ∙ c.requires.hashed) in
    IfOk-weaker c.layer.result _ _ (λ hashes given bytes there.
    let is = c.place-at.ensures.file bytes (ap (λ (h : HeldSeen). slice_get h.answers c.args.place) c.self.view_is ∙ there) in
    given c.self.inside.rows.room.items c.place-at.result.start is.placed.blocks hashed.blocks is.inside ∙ ap (λ b. layer_of b c.args.layer) is.are)
    c.layer.ensures.layer

pub returns-clause-memory : goal.returns-clause-memory
returns-clause-memory c = on_err_weaker c.layer.result (λ le bytes there.
    let is = c.place-at.ensures.file bytes (ap (λ (h : HeldSeen). slice_get h.answers c.args.place) c.self.view_is ∙ there) in
    subst (λ n. c.args.layer ≤ height (block_count n)) (sym is.size) le) c.layer.ensures.memory
