use Rattle.std.proofs.Common.{List, map, ap, subst, ◌∙◌, ◌*◌}
use Rattle.std.specs.Fmt.{decimal}
use Rattle.std.specs.List.{concat}
use Rattle.std.specs.String.{string_bytes}
use Rattle.benc.specs.Text.{pairs_spelling}
use Rattle.drafts.specs.DraftSeen.{outline, outline_file}
use Rattle.drafts.specs.Outline.{Outline}
use Rattle.drafts.specs.Pen.{Put}
use Rattle.drafts.specs.Written.{digests_of, pieces_pair}
use Rattle.drafts.specs.declared.draft.DraftFile.{DraftFile}
use Rattle.drafts.proofs.DraftText.{pieces_text}
use Rattle.drafts.proofs.Penned.{put_as, put_both}
use Rattle.drafts.proofs.draft.Draft.put_pieces.Goals as goal

pub returns : goal.returns
returns g c =
    let i = c.self.inside in
    let d = outline (string_bytes i.name) i.piece_length i.hybrid i.files.items i.roots.entries in
    let count = put_as (decimal (20 * i.pieces)) c.put-2.ensures (c.as_bytes.ensures.value ∙ c.format.ensures.text) in
    let digests = put_as (concat (digests_of d.files)) c.put_digests.ensures (ap (λ (fs : List DraftFile). concat (digests_of (map outline_file fs)))
    c.deref.ensures.value) in
    subst (λ (o : Outline). Put c.args.pen.now (g.W.Sink.seen c.args.w.now) c.put_digests.new.pen (g.W.Sink.seen c.put_digests.new.w)
    (pairs_spelling (pieces_pair o))) c.self.view_is
    (put_as (pairs_spelling (pieces_pair d)) (put_both c.put.ensures (put_both count (put_both c.put-3.ensures digests)))
    (pieces_text d i.pieces c.self.invariant.0.outline_is c.if-not-self.false c.self.invariant.0.pieces_are))
