use Rattle.std.proofs.Common.{◌≡◌, ◌∙◌, ◌++◌, [], ap, append-nil, arith, inr, sym}
use Rattle.std.proofs.lemmas.List.{nil_from_length}
use Rattle.gathering.specs.PartRows.{row_text}
use Rattle.part_texts.specs.Listings.{listed}
use Rattle.gathering.proofs.PartHashed.{share}
use Rattle.gathering.proofs.PartVisited.{row_put, test_fails, test_holds, untouched}
use Rattle.gathering.proofs.part_hashing.put_row.Goals as goal

pub visit_row-requires-clause-touched : goal.visit_row-requires-clause-touched
visit_row-requires-clause-touched g c = test_holds _ c.if-not-touched.false c.is_touched-touched.ensures

pub returns-then-not-touched-clause-row : goal.returns-then-not-touched-clause-row
returns-then-not-touched-clause-row g c =
    untouched g.S.Shelf g.S.SeekShelf.opens_at g.S.File.Source.seen c.args.kind.now.piece_length c.args.kind.now.hybrid c.args.shelf.now
    (share (listed c.args.share.file.now) c.args.share.span) c.args.text.now.items (test_fails _ c.if-not-touched.true c.is_touched-touched.ensures)

pub returns-then-found-eq0-clause-row : goal.returns-then-found-eq0-clause-row
returns-then-found-eq0-clause-row g c =
    let f = c.in-Ok.ensures.found in
    let p = c.args.kind.now.piece_length in
    let none : f.row ≡ [] = nil_from_length f.row (omega (arith, f.hashes.length_is, c.if-found-eq0.true)) in
    row_put g.S.Shelf g.S.SeekShelf.opens_at g.S.File.Source.seen p c.args.kind.now.hybrid c.args.shelf.now
    (share (listed c.args.share.file.now) c.args.share.span) c.visit_row.new.shelf f.row c.args.text.now.items c.args.text.now.items f.visits f.is
    (sym (append-nil c.args.text.now.items)
    ∙ ap (λ row. c.args.text.now.items ++ row_text p c.args.kind.now.hybrid c.args.share.file.now.length row) (sym none))

pub returns-in-Ok-put_digests-clause-row : goal.returns-in-Ok-put_digests-clause-row
returns-in-Ok-put_digests-clause-row g c =
    let f = c.in-Ok.ensures.found in
    row_put g.S.Shelf g.S.SeekShelf.opens_at g.S.File.Source.seen c.args.kind.now.piece_length c.args.kind.now.hybrid c.args.shelf.now
    (share (listed c.args.share.file.now) c.args.share.span) c.visit_row.new.shelf f.row c.args.text.now.items c.put_digests.new.text.items f.visits f.is
    (c.in-Ok-put_digests.ensures f.row f.hashes)

pub returns-clause-row : goal.returns-clause-row
returns-clause-row g c = record {
  touched = test_holds _ c.if-not-touched.false c.is_touched-touched.ensures;
  why = inr (c.in-Ok.ensures.found.row, c.in-Ok.ensures.found.visits);
}
