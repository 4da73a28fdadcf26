-- Writing a draft: the tests in their order.
use Rattle.std.specs.Prelude.{◌≡◌, ◌<◌, List, [], ◌∷◌, length}
use Rattle.benc.specs.Text.{spelling}
use Rattle.drafts.specs.Outline.{Outline}
use Rattle.drafts.specs.Written.{value_of}
use Rattle.filetree.specs.Tests.{TestRow}
use Rattle.filetree.specs.declared.refusal.Refusal.TheVariants as refusals
use Rattle.opening.specs.Refusals.{max_torrent}

-- the tests of a draft that is to be written, in their order
abbrev pub finish_rows : Outline → List TestRow
finish_rows d =
    record { holds = d.files ≡ []; answer = refusals.NoFiles }
    ∷ record {
      holds = max_torrent < length (spelling (value_of d));
      answer = refusals.TooLarge;
    }
    ∷ []
