-- The laws of drafts.
use Rattle.std.specs.Prelude.{◌≢◌, ◌≤◌, [], length}
use Rattle.benc.specs.Text.{spelling}
use Rattle.opening.specs.Describes.{Describes}
use Rattle.opening.specs.Refusals.{max_torrent}
use Rattle.drafts.specs.Outline.{IsOutline, Outline}
use Rattle.drafts.specs.Written.{torrent_of, value_of}

-- the text of a draft of at least one file, within the limit, describes the draft's torrent
abbrev pub DraftDescribes : Type 0
DraftDescribes = (d : Outline) → IsOutline d → d.files ≢ []
    → length (spelling (value_of d)) ≤ max_torrent
    → Describes (spelling (value_of d)) (torrent_of d)
