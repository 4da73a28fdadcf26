use Rattle.std.proofs.Common.{◌∙◌, slice_get, ap, ap₂, sym, subst, arith}
use Rattle.std.proofs.lemmas.Option.{slice_get_within}
use Rattle.file_windows.specs.Windows.{AreFileCutsListed, length_of_cuts}
use Rattle.pieces.specs.Pieces.{pieces_of}
use Rattle.passes.specs.Held.{HeldSeen, content}
use Rattle.passes.specs.Rows.{held_answers}
use Rattle.passes.proofs.HeldPlaces.{filled_hashed}
use Rattle.passes.proofs.held.HeldFiles.are_listed.Goals as goal

pub place-at-requires-clause-there : goal.place-at-requires-clause-there
place-at-requires-clause-there c = slice_get_within (held_answers c.self.inside.rows) c.args.place (content c.requires.whole.0)
    (ap (λ (h : HeldSeen). slice_get h.answers c.args.place) c.self.view_is ∙ c.requires.whole.1)

pub are_listed-requires : goal.are_listed-requires
are_listed-requires c =
    let is = c.place-at.ensures.file c.requires.whole.0 (ap (λ (h : HeldSeen). slice_get h.answers c.args.place) c.self.view_is ∙ c.requires.whole.1) in
    omega (
      arith,
      is.placed.cuts.within,
      c.self.inside.rows.cuts.within,
      c.requires.whole.2,
      ap₂ pieces_of (ap (λ (h : HeldSeen). h.cutting.piece_length) c.self.view_is) (sym is.size),
    )

pub returns : goal.returns
returns c bytes there =
    let is = c.place-at.ensures.file bytes (ap (λ (h : HeldSeen). slice_get h.answers c.args.place) c.self.view_is ∙ there) in
    let own = c.place-at.ensures.file c.requires.whole.0 (ap (λ (h : HeldSeen). slice_get h.answers c.args.place) c.self.view_is ∙ c.requires.whole.1) in
    let rows = c.self.inside.rows in
    let start = c.place-at.result.start in
    let size = c.place-at.result.size in
    let listed = c.args.listed.now in
    let length_is = ap (λ (h : HeldSeen). h.cutting.piece_length) c.self.view_is in
    let hashed = c.self.invariant.hashed (ap (λ (h : HeldSeen). h.is_hashed) c.self.view_is ∙ c.requires.hashed) in
    let filled = filled_hashed rows hashed (λ none. c.requires.wanted (sym (ap (λ (h : HeldSeen). h.cutting.wanted) c.self.view_is) ∙ none)) in (
      λ on. subst (λ p. AreFileCutsListed p listed bytes) length_is
          (subst (AreFileCutsListed (length_of_cuts rows.cuts) listed) is.are
          (c.are_listed.ensures.listed on rows.room.items start size is.placed.cuts filled is.inside)),
      λ are. c.are_listed.ensures.always rows.room.items start size is.placed.cuts filled is.inside
          (omega (arith, c.requires.whole.2, ap₂ pieces_of length_is (sym own.size)))
          (subst (AreFileCutsListed (length_of_cuts rows.cuts) listed) (sym is.are) (subst (λ p. AreFileCutsListed p listed bytes) (sym length_is) are)),
    )
