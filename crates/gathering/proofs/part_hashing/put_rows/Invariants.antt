use Rattle.std.proofs.Common.{map}
use Rattle.part_texts.specs.Divisions.{total_of}
use Rattle.part_texts.specs.Listings.{listed}
use Rattle.gathering.proofs.PartHashed.{SoFar}
use Rattle.gathering.proofs.part_hashing.put_rows.Given as goal

abbrev pub invariant-files : goal.invariant-files
invariant-files g l =
    SoFar g.S.Shelf g.S.SeekShelf.opens_at g.S.File.Source.seen l.kind.piece_length l.kind.hybrid (total_of (map listed l.files)) l.which.parts l.which.part
    l.fn.shelf l.fn.text.items (map listed l.files) l.place l.before l.text.items l.shelf
