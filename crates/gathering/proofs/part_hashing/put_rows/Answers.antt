use Rattle.std.proofs.Common.{◌≡◌, ◌∙◌, ap, arith, map, sym}
use Rattle.std.specs.Prelude.{Some, slice_get}
use Rattle.std.proofs.lemmas.List.{length-map}
use Rattle.part_texts.specs.Divisions.{capped, span_of, total_of}
use Rattle.part_texts.specs.Listings.{listed}
use Rattle.gathering.proofs.PartHashed.{all_so_far, more_so_far, so_far_begun, stopped_at}
use Rattle.gathering.proofs.Steps.{item_of}
use Rattle.gathering.proofs.part_hashing.put_rows.Given.{Over}
use Rattle.gathering.proofs.part_hashing.put_rows.Goals as goal
use Rattle.gathering.proofs.part_hashing.put_rows.Goals.{After-span-span}

-- the next file
there : (g : Over) (c : After-span-span g) → slice_get (map listed c.args.files.now) c.files.place ≡ Some (listed c.index-files-place.result)
there g c =
    item_of listed c.args.files.now c.files.place c.index-files-place.result c.files-test.true ∙ ap (λ f. Some (listed f)) (sym c.index-files-place.is)

-- what the part has of it
span-is : (g : Over) (c : After-span-span g)
    → c.span-span.result ≡ span_of c.args.kind.now.piece_length (total_of (map listed c.args.files.now)) c.args.which.parts c.files.before
    c.index-files-place.result.length c.args.which.part
span-is g c =
    let d = c.of-division.ensures in
    c.span-span.ensures
    ∙ (λ i. span_of (d.piece_length i) (d.total i) (d.parts i) c.files.before c.index-files-place.result.length c.args.which.part)

pub files-init : goal.files-init
files-init g c =
    so_far_begun g.S.Shelf g.S.SeekShelf.opens_at g.S.File.Source.seen c.args.kind.now.piece_length c.args.kind.now.hybrid
    (total_of (map listed c.args.files.now)) c.args.which.parts c.args.which.part c.args.shelf.now c.args.text.now.items (map listed c.args.files.now)

pub files-preserved : goal.files-preserved
files-preserved g c =
    let at = (goal.at.files-preserved g c).After-span-span in
    let files = map listed c.args.files.now in
    more_so_far g.S.Shelf g.S.SeekShelf.opens_at g.S.File.Source.seen c.args.kind.now.piece_length c.args.kind.now.hybrid (total_of files) c.args.which.parts
    c.args.which.part c.args.shelf.now c.args.text.now.items files c.files.place c.files.before c.files.text.items c.files.shelf c.files.invariant
    (listed c.index-files-place.result) c.span-span.result (there g at) (span-is g at) c.saturating_add-before.result c.put_row.new.text.items
    c.put_row.new.shelf (c.saturating_add-before.ensures ∙ ap (capped c.files.before) c.hashed.ensures) c.in-Ok.ensures.row c.in-Ok.ensures.stays

pub returns-in-Err-clause-rows : goal.returns-in-Err-clause-rows
returns-in-Err-clause-rows g c =
    let at = (goal.at.returns-in-Err-clause-rows g c).After-span-span in
    let files = map listed c.args.files.now in
    stopped_at g.S.Shelf g.S.SeekShelf.opens_at g.S.File.Source.seen c.args.kind.now.piece_length c.args.kind.now.hybrid (total_of files) c.args.which.parts
    c.args.which.part c.args.shelf.now c.args.text.now.items files c.files.place c.files.before c.files.text.items c.files.shelf c.files.invariant
    (listed c.index-files-place.result) c.span-span.result (there g at) (span-is g at) c.put_row.new.shelf c.in-Err.fault c.in-Err.ensures.row

pub returns-clause-rows : goal.returns-clause-rows
returns-clause-rows g c =
    let files = map listed c.args.files.now in
    all_so_far g.S.Shelf g.S.SeekShelf.opens_at g.S.File.Source.seen c.args.kind.now.piece_length c.args.kind.now.hybrid (total_of files) c.args.which.parts
    c.args.which.part c.args.shelf.now c.args.text.now.items files c.files.place c.files.before c.files.text.items c.files.shelf c.files.invariant
    (omega (arith, length-map c.args.files.now listed, c.files-test.false, c.files.auto.place-end))
