use Rattle.std.proofs.Common.{◌≡◌, ◌-◌, ◌<◌, ℕ, List, ap, arith, inr, length, map, refl, subst}
use Rattle.std.specs.Prelude.{Err, Result}
use Rattle.std.specs.Global.{Vec}
use Rattle.std.proofs.lemmas.List.{length-map}
use Rattle.gathering.specs.PartVisits.{HashesPart}
use Rattle.gathering.specs.declared.part_fault.PartFault.{PartFault}
use Rattle.gathering.specs.declared.part_fault.PartFault.TheVariants as hashing
use Rattle.gathering.proofs.PartHashed.{share_within}
use Rattle.part_texts.specs.Divisions.{total_of}
use Rattle.part_texts.specs.Listings.{inventory, listed}
use Rattle.part_texts.specs.declared.listing.ListedFile.{ListedFile}
use Rattle.commands.specs.Creations.{NamesFile}
use Rattle.commands.proofs.creations.hash_part.Goals as goal

-- the fault is this one
stopped : (Hashes : Result (Vec ℕ) PartFault → Type 0) (x y : PartFault) → x ≡ y → Hashes (Err x) → Hashes (Err y)
stopped Hashes x y is hashes = subst (λ (e : PartFault). Hashes (Err e)) is hashes

-- the file at this place is listed
there : (files : List ListedFile) (place count : ℕ) → place < length (map listed files) → count ≡ length files → place < count
there files place count lt is = omega (arith, lt, is, length-map files listed)

pub unread-requires : goal.unread-requires
unread-requires g c =
    let l = inventory c.args.listing.now in
    let place = c.in-Err-Device.place in
    let part = c.args.part.number - 1 in
    let hashes = stopped (HashesPart g.S.Shelf g.S.SeekShelf.opens_at g.S.File.Source.seen l part c.args.part.count c.args.shelf.now c.hash_part.new.shelf)
    c.in-Err-Device.field-0 (hashing.Device place) c.in-Err-Device.field-0-is c.in-Err-Device.ensures.hashes in
    there c.args.listing.now.files.items place (length c.deref-in-Err-Device.result.now)
    (share_within l.piece_length (total_of l.files) c.args.part.count part l.files place hashes.1.share hashes.1.there)
    (ap length c.deref-in-Err-Device.ensures.value)

pub unread-requires-in-Err-Changed : goal.unread-requires-in-Err-Changed
unread-requires-in-Err-Changed g c =
    let l = inventory c.args.listing.now in
    let place = c.in-Err-Changed.place in
    let part = c.args.part.number - 1 in
    let hashes = stopped (HashesPart g.S.Shelf g.S.SeekShelf.opens_at g.S.File.Source.seen l part c.args.part.count c.args.shelf.now c.hash_part.new.shelf)
    c.in-Err-Changed.field-0 (hashing.Changed place) c.in-Err-Changed.field-0-is c.in-Err-Changed.ensures.hashes in
    there c.args.listing.now.files.items place (length c.deref-in-Err-Changed.result.now)
    (share_within l.piece_length (total_of l.files) c.args.part.count part l.files place hashes.1.share hashes.1.there)
    (ap length c.deref-in-Err-Changed.ensures.value)

pub returns-in-Err-Device-clause-text : goal.returns-in-Err-Device-clause-text
returns-in-Err-Device-clause-text g c =
    let place = c.in-Err-Device.place in
    inr (
      hashing.Device place,
      stopped
          (HashesPart g.S.Shelf g.S.SeekShelf.opens_at g.S.File.Source.seen (inventory c.args.listing.now) (c.args.part.number - 1) c.args.part.count
          c.args.shelf.now c.hash_part.new.shelf) c.in-Err-Device.field-0 (hashing.Device place) c.in-Err-Device.field-0-is c.in-Err-Device.ensures.hashes,
      subst (λ (files : List ListedFile). NamesFile (map listed files) place c.unread.result) c.deref-in-Err-Device.ensures.value c.unread.ensures,
      refl,
    )

pub returns-in-Err-Changed-clause-text : goal.returns-in-Err-Changed-clause-text
returns-in-Err-Changed-clause-text g c =
    let place = c.in-Err-Changed.place in
    inr (
      hashing.Changed place,
      stopped
          (HashesPart g.S.Shelf g.S.SeekShelf.opens_at g.S.File.Source.seen (inventory c.args.listing.now) (c.args.part.number - 1) c.args.part.count
          c.args.shelf.now c.hash_part.new.shelf) c.in-Err-Changed.field-0 (hashing.Changed place) c.in-Err-Changed.field-0-is
          c.in-Err-Changed.ensures.hashes,
      subst (λ (files : List ListedFile). NamesFile (map listed files) place c.unread-in-Err-Changed.result) c.deref-in-Err-Changed.ensures.value
          c.unread-in-Err-Changed.ensures,
      refl,
    )
