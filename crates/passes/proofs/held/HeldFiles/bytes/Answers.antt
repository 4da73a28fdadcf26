use Rattle.std.proofs.Common.{◌≡◌, ◌∙◌, ◌+◌, ◌-◌, ◌≤◌, slice_get, take, drop, ap, ap₂, sym, arith, Some}
use Rattle.std.proofs.lemmas.Option.{slice_get_within}
use Rattle.std.proofs.lemmas.List.{length-take}
use Rattle.hashtree.specs.Tree.{block_count}
use Rattle.passes.specs.Held.{HeldSeen, content}
use Rattle.passes.specs.Rows.{held_answers}
use Rattle.passes.proofs.held.HeldFiles.bytes.Goals as goal

pub place-at-requires-clause-there : goal.place-at-requires-clause-there
place-at-requires-clause-there c = slice_get_within (held_answers c.self.inside.rows) c.args.place (content c.requires.0)
    (ap (λ (h : HeldSeen). slice_get h.answers c.args.place) c.self.view_is ∙ c.requires.1)

pub overflow_add-result : goal.overflow_add-result
overflow_add-result c =
    let is = c.place-at.ensures.file c.requires.0 (ap (λ (h : HeldSeen). slice_get h.answers c.args.place) c.self.view_is ∙ c.requires.1) in
    omega (arith, is.inside, c.deref.ensures.len, c.self.inside.rows.room.small, c.self.inside.rows.room.ok.0)

pub slice_bounds-result-end : goal.slice_bounds-result-end
slice_bounds-result-end c =
    let is = c.place-at.ensures.file c.requires.0 (ap (λ (h : HeldSeen). slice_get h.answers c.args.place) c.self.view_is ∙ c.requires.1) in
    omega (arith, is.inside)

pub returns-clause-bytes : goal.returns-clause-bytes
returns-clause-bytes c =
    let is = c.place-at.ensures.file c.requires.0 (ap (λ (h : HeldSeen). slice_get h.answers c.args.place) c.self.view_is ∙ c.requires.1) in
    let at = c.place-at.result in
    let width : at.start + at.size - at.start ≡ at.size = omega arith in
    c.requires.1 ∙ ap (λ b. Some (content b)) (sym (ap₂ (λ n room. take n (drop at.start room)) width c.deref.ensures.value ∙ is.are))

pub returns-clause-few : goal.returns-clause-few
returns-clause-few c =
    let is = c.place-at.ensures.file c.requires.0 (ap (λ (h : HeldSeen). slice_get h.answers c.args.place) c.self.view_is ∙ c.requires.1) in
    let at = c.place-at.result in
    let blocks : block_count at.size ≤ 64 = omega (arith, is.placed.blocks.within, c.self.inside.rows.blocks.within) in
    omega (arith, blocks, length-take (at.start + at.size - at.start) (drop at.start c.deref.result.now))
