use Rattle.std.proofs.Common.{◌∙◌, ◌<◌, slice_get, ap, sym, subst, arith}
use Rattle.std.proofs.lemmas.Option.{slice_get_within}
use Rattle.std.proofs.lemmas.Result.{IfOk-weaker, on_err_weaker}
use Rattle.file_windows.specs.Windows.{length_of_cuts}
use Rattle.pieces.specs.FileCuts.{IsV1File}
use Rattle.passes.specs.Rows.{HashesCuts}
use Rattle.passes.specs.Held.{HeldSeen, content}
use Rattle.passes.specs.Rows.{held_answers}
use Rattle.passes.proofs.held.HeldFiles.digests.Goals as goal

pub place-at-requires-clause-there : goal.place-at-requires-clause-there
place-at-requires-clause-there c = slice_get_within (held_answers c.self.inside.rows) c.args.place (content c.requires.whole.0)
    (ap (λ (h : HeldSeen). slice_get h.answers c.args.place) c.self.view_is ∙ c.requires.whole.1)

pub file-requires : goal.file-requires
file-requires c =
    let is = c.place-at.ensures.file c.requires.whole.0 (ap (λ (h : HeldSeen). slice_get h.answers c.args.place) c.self.view_is ∙ c.requires.whole.1) in
    omega (arith, is.placed.cuts.within, c.self.inside.rows.cuts.within)

pub returns-clause-file : goal.returns-clause-file
returns-clause-file c =
    let rows = c.self.inside.rows in
    let hashed = c.self.invariant.hashed (ap (λ (h : HeldSeen). h.is_hashed) c.self.view_is ∙ c.requires.hashed) in
    let both = subst (λ w. HashesCuts w rows) (ap (λ (h : HeldSeen). h.cutting.wanted) c.self.view_is ∙ c.requires.wanted) hashed.cuts in
    IfOk-weaker c.file.result _ _ (λ file given bytes there.
    let is = c.place-at.ensures.file bytes (ap (λ (h : HeldSeen). slice_get h.answers c.args.place) c.self.view_is ∙ there) in
    subst (λ p. IsV1File p bytes file) (ap (λ (h : HeldSeen). h.cutting.piece_length) c.self.view_is)
    (subst (λ b. IsV1File (length_of_cuts rows.cuts) b file) is.are (given rows.room.items c.place-at.result.start is.placed.cuts both.0 both.1 is.inside)))
    c.file.ensures.file

pub returns-clause-memory : goal.returns-clause-memory
returns-clause-memory c = on_err_weaker c.file.result (λ some bytes there.
    let is = c.place-at.ensures.file bytes (ap (λ (h : HeldSeen). slice_get h.answers c.args.place) c.self.view_is ∙ there) in
    subst (λ n. 0 < n) (sym is.size) some) c.file.ensures.memory
