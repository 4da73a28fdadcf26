use Rattle.std.proofs.Common.{◌∙◌, ap, inl, map, refl, subst, sym}
use Rattle.std.specs.String.{string_bytes}
use Rattle.part_texts.specs.Listings.{listed}
use Rattle.gathering.specs.PartSteps.{FindsShare}
use Rattle.gathering.proofs.PartHashed.{share}
use Rattle.gathering.proofs.PartVisited.{share_found_as}
use Rattle.gathering.proofs.part_hashing.visit_row.Goals as goal

pub returns-in_default-clause-found : goal.returns-in_default-clause-found
returns-in_default-clause-found g c = record { touched = c.requires.touched; why = inl refl }

pub returns-clause-found : goal.returns-clause-found
returns-clause-found g c =
    let p = c.args.kind.now.piece_length in
    let x = share (listed c.args.share.file.now) c.args.share.span in
    let path = ap (map (λ s. s.now)) c.deref-2.ensures.value ∙ c.put_parts.ensures.parts ∙ ap (map string_bytes) c.deref.ensures.value in
    subst (FindsShare g.S.Shelf g.S.SeekShelf.opens_at g.S.File.Source.seen p c.args.kind.now.hybrid c.args.share.place c.args.shelf.now x
    c.visit_at.new.shelf) (sym c.found_of.ensures)
    (share_found_as g.S.Shelf g.S.SeekShelf.opens_at g.S.File.Source.seen p c.args.kind.now.hybrid c.args.shelf.now x c.visit_at.new.shelf c.args.share.place
    c.visit_at.result _ c.offset-offset.result c.bytes.result c.requires.touched path c.offset-offset.ensures c.bytes.ensures c.visit_at.ensures.visits)
