use Rattle.std.proofs.Common.{length, sym, subst}
use Rattle.benc.specs.Text.{spelling}
use Rattle.drafts.specs.Written.{torrent_of, value_of}
use Rattle.opening.specs.Describes.{Describes}
use Rattle.opening.specs.Description.{Description}
use Rattle.round_trips.proofs.Gathering.{checks_good, fits_max_torrent}
use Rattle.round_trips.specs.RoundTrip.{ChecksGood}
use Rattle.round_trips.proofs.laws.gathered_checks_good.Goals as goal

pub returns : goal.returns
returns c = λ under from none.
    let d = c.args.draft.now in
    let opened : Describes (spelling (value_of d)) (torrent_of d) = c.draft_describes.ensures d c.draft_is_outline.ensures none.0
    (fits_max_torrent (length (spelling (value_of d))) none.1.0) in (
      opened,
      λ t described.
          let same = c.torrent_is_one.ensures (spelling (value_of d)) t (torrent_of d) described opened in
          (same, subst (λ (u : Description). ChecksGood u under) (sym same) (checks_good under d c.draft_is_outline.ensures from)),
    )
