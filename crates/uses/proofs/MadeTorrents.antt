-- The torrent that is made of the texts of all parts.
use Rattle.std.proofs.Common.{◌≡◌, List, ℕ, Result, Ok, Err, IfOk}
use Rattle.assembling.specs.AllTexts.{AllTextsAssemble}
use Rattle.assembling.specs.Assembly.{Assembles, listed_draft, paths_of}
use Rattle.assembling.specs.Outcome.{IsAssembled}
use Rattle.assembling.specs.declared.fault.AssembleFault.{AssembleFault}
use Rattle.drafts.specs.Outline.{Outline}
use Rattle.drafts.specs.Written.{value_of}
use Rattle.gathering.specs.Gathered.{Gathered}
use Rattle.part_texts.specs.Listings.{Inventory}
use Rattle.round_trips.specs.Alike.{AlikeWriteAlike}
use Rattle.uses.specs.PartsHashed.{MakesTheTorrent}

written_alike : AlikeWriteAlike → (l : Inventory) (contents : List (List ℕ)) (result : Result Outline AssembleFault) → Assembles l contents result
    → IfOk result (λ d. (e : Outline) → Gathered (listed_draft l) (paths_of l.files) contents e → value_of d ≡ value_of e)
written_alike alike l contents (Ok d) made = λ e other. alike l.name l.piece_length l.hybrid (paths_of l.files) contents d e made other
written_alike alike l contents (Err e) made = tt

pub makes : AllTextsAssemble → AlikeWriteAlike → (texts : List (List ℕ)) (result : Result Outline AssembleFault) → IsAssembled texts result
    → MakesTheTorrent texts result
makes all alike texts result is under l contents given =
    let made = all under l contents given.parts given.numbers texts result given.can given.short given.small given.held given.all given.are is in
    (made.1, written_alike alike l contents result made.0)
