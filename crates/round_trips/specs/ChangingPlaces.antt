-- Two files that are added to a draft one after the other.
use Rattle.std.specs.Prelude.{◌≡◌, ◌<◌, ℕ, List}
use Rattle.drafts.specs.Adding.{IsWith}
use Rattle.drafts.specs.Outline.{Outline, OutlineFile}

-- two files that are longer than a piece and have one root have one layer: two that differ would be
-- two pairs of nodes with one digest
abbrev pub HaveOneLayer : Outline → (f g : OutlineFile) → (of_f of_g : List (List ℕ)) → Type 0
HaveOneLayer d f g of_f of_g = d.piece_length < f.length → d.piece_length < g.length
    → f.root ≡ g.root → of_f ≡ of_g

-- a draft to which f and then g were added is that to which g and then f are added
abbrev pub AddsChangePlaces : Type 0
AddsChangePlaces = (d m e : Outline) (f g : OutlineFile) (of_f of_g : List (List ℕ))
    → HaveOneLayer d f g of_f of_g → IsWith d m f of_f → IsWith m e g of_g
    → (n : Outline) × IsWith d n g of_g × IsWith n e f of_f
