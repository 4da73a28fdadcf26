use Rattle.std.proofs.Common.{◌≡◌, ap, arith, drop, length, map, []}
use Rattle.std.proofs.lemmas.List.{drop_all}
use Rattle.part_texts.specs.Listings.{listed}
use Rattle.assembling.specs.Sizes.{rows_size}
use Rattle.assembling.proofs.sizes.size_of.Goals as goal

pub returns : goal.returns
returns c =
    let d = c.args.division.now in
    let l = c.args.listing.now in
    let none : drop c.files.file-index l.files.items ≡ [] =
    drop_all c.files.file-index l.files.items (omega (arith, c.files-test.false, ap length c.deref-file-items.ensures.value)) in
    let end : rows_size d.piece_length l.hybrid d.total d.parts c.args.part c.files.before (map listed (drop c.files.file-index l.files.items)) ≡ 0 =
    ap (λ fs. rows_size d.piece_length l.hybrid d.total d.parts c.args.part c.files.before (map listed fs)) none in
    omega (arith, c.files.invariant.counted, c.files.invariant.fits, end)
