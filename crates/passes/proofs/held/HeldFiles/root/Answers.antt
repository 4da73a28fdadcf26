use Rattle.std.proofs.Common.{◌∙◌, slice_get, ap, arith}
use Rattle.std.proofs.lemmas.Option.{slice_get_within}
use Rattle.hashtree.specs.Tree.{root_of}
use Rattle.passes.specs.Held.{HeldSeen, content}
use Rattle.passes.specs.Rows.{held_answers}
use Rattle.passes.proofs.held.HeldFiles.root.Goals as goal

pub place-at-requires-clause-there : goal.place-at-requires-clause-there
place-at-requires-clause-there c = slice_get_within (held_answers c.self.inside.rows) c.args.place (content c.requires.whole.0)
    (ap (λ (h : HeldSeen). slice_get h.answers c.args.place) c.self.view_is ∙ c.requires.whole.1)

pub root-requires-clause-some : goal.root-requires-clause-some
root-requires-clause-some c =
    let is = c.place-at.ensures.file c.requires.whole.0 (ap (λ (h : HeldSeen). slice_get h.answers c.args.place) c.self.view_is ∙ c.requires.whole.1) in
    omega (arith, is.size, c.requires.whole.2)

pub root-requires-clause-within : goal.root-requires-clause-within
root-requires-clause-within c =
    let is = c.place-at.ensures.file c.requires.whole.0 (ap (λ (h : HeldSeen). slice_get h.answers c.args.place) c.self.view_is ∙ c.requires.whole.1) in
    omega (arith, is.placed.blocks.within, c.self.inside.rows.blocks.within)

pub returns : goal.returns
returns c bytes there =
    let is = c.place-at.ensures.file bytes (ap (λ (h : HeldSeen). slice_get h.answers c.args.place) c.self.view_is ∙ there) in
    let hashed = c.self.invariant.hashed (ap (λ (h : HeldSeen). h.is_hashed) c.self.view_is ∙ c.requires.hashed) in
    c.root.ensures c.self.inside.rows.room.items c.place-at.result.start is.placed.blocks hashed.blocks is.inside ∙ ap root_of is.are
