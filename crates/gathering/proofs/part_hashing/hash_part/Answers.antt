use Rattle.std.proofs.Common.{ap, inl, map, refl}
use Rattle.part_texts.specs.Listings.{inventory, listed}
use Rattle.gathering.proofs.PartHashed.{part_hashed, part_stopped}
use Rattle.gathering.proofs.part_hashing.hash_part.Goals as goal

pub returns-in_default-clause-hashes : goal.returns-in_default-clause-hashes
returns-in_default-clause-hashes g c = (c.in_default.ensures, refl)

pub returns-in-Err-clause-hashes : goal.returns-in-Err-clause-hashes
returns-in-Err-clause-hashes g c = (c.in-Some.ensures.0, inl refl)

pub returns-in-Ok-put_rows-clause-hashes : goal.returns-in-Ok-put_rows-clause-hashes
returns-in-Ok-put_rows-clause-hashes g c =
    part_hashed g.S.Shelf g.S.SeekShelf.opens_at g.S.File.Source.seen (inventory c.args.listing.now) c.args.part c.args.parts c.args.shelf.now
    c.put_rows.new.shelf c.in-Some.kind _ c.in-Ok.text.items c.put_rows.new.text.items c.in-Some.ensures.0 c.in-Some.ensures.1
    (ap (map listed) c.deref.ensures.value) c.in-Ok.ensures.text c.in-Ok-put_rows.ensures.rows

pub returns-in-Err-put_rows-clause-hashes : goal.returns-in-Err-put_rows-clause-hashes
returns-in-Err-put_rows-clause-hashes g c =
    part_stopped g.S.Shelf g.S.SeekShelf.opens_at g.S.File.Source.seen (inventory c.args.listing.now) c.args.part c.args.parts c.args.shelf.now
    c.put_rows.new.shelf c.in-Some.kind _ c.in-Err-put_rows.fault c.in-Some.ensures.0 c.in-Some.ensures.1 (ap (map listed) c.deref.ensures.value)
    c.in-Err-put_rows.ensures.rows
