use Rattle.std.proofs.Common.{◌≡◌, Bool, IsTrue, Option, Some, None, is_some}
use Rattle.opening.specs.Description.{Description, FileEntry}
use Rattle.opening.specs.Seen.{file_entry}
use Rattle.parts.specs.Parts.{Touches}
use Rattle.parts.specs.Spans.{IsSpanned}
use Rattle.parts.specs.declared.places.Places.{Places}
use Rattle.parts.specs.declared.places.Span.{Span}
use Rattle.parts.proofs.places.touches.Goals as goal

-- a file that has pieces among the places touches them
touched : (t : Description) (r : Places) (f : FileEntry) (o : Option Span) (b : Bool) → b ≡ is_some o → IsSpanned t r f o
    → (IsTrue b → Touches t r f) × (Touches t r f → IsTrue b)
touched t r f None b is other = (λ on. let x : ⊥ = cc in absurd x, λ held. absurd (other held))
touched t r f (Some s) b is held = (λ _. held.touches, λ _. is)

pub returns : goal.returns
returns c =
    touched c.args.torrent.now c.args.places (file_entry c.args.file.now) c.span_of.result c.is_some.result c.is_some.ensures c.span_of.ensures
