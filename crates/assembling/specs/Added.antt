-- What a draft holds to which listed files were added (BEP 52, "pieces root", "piece layers").
use Rattle.std.specs.Prelude.{◌≡◌, List, [], ◌∷◌}
use Rattle.drafts.specs.Adding.{IsWith}
use Rattle.drafts.specs.Outline.{Outline, OutlineFile, empty_outline}
use Rattle.part_texts.specs.Listings.{Inventory, Listed}
use Rattle.assembling.specs.Whole.{IsWhole}
use Rattle.assembling.specs.declared.rows.FileRows.{FileRows}

-- e is the draft d with this file, of this path and length, whose root is that over nodes of all
-- its pieces
pub record IsWithListed (d e : Outline) (f : Listed) : Type 0 where
  pub given : OutlineFile
  pub rows : FileRows
  pub added : IsWith d e given rows.nodes.items
  pub path : given.path ≡ f.path
  pub bytes : given.length ≡ f.bytes
  pub whole : IsWhole d.piece_length d.hybrid f.bytes rows given.root

-- e is the draft d with all these files, one added after the other
abbrev pub HasAdded : Outline → List Listed → Outline → Type 0
HasAdded d [] e = e ≡ d
HasAdded d (f ∷ fs) e = (m : Outline) × IsWithListed d m f × HasAdded m fs e

-- a draft of what was listed, with all its files
abbrev pub IsDraftOf : Inventory → Outline → Type 0
IsDraftOf l e = HasAdded (empty_outline l.name l.piece_length l.hybrid) l.files e
