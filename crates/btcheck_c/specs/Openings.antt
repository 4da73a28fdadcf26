-- How a session is opened, and why there is none.
use Rattle.std.specs.Prelude.{◌≡◌, ◌≢◌, ◌⊎◌, ℕ, ◌+◌, Bool, List, Option, Some, None, Result, Ok, Err}
use Rattle.filetree.specs.Names.{refusal_number}
use Rattle.filetree.specs.declared.refusal.Refusal.{Refusal}
use Rattle.filetree.specs.declared.refusal.Refusal.TheVariants as refusals
use Rattle.opening.specs.Description.{Description}
use Rattle.opening.specs.Describes.{Describes}
use Rattle.opening.specs.Refusals.{RefusesTorrent}
use Rattle.session.specs.Session.{SessionSeen, HasClosedTrees}
use Rattle.session.specs.Fresh.{IsFresh}
use Rattle.c_layouts.specs.Refusals.{nothing_more, refusal_info}
use Rattle.c_layouts.specs.declared.refusal_info.RefusalInfo.{RefusalInfo}
use Rattle.btcheck_c.specs.declared.opening_calls.NoSession.{NoSession}
use Rattle.btcheck_c.specs.declared.thing.Thing.{Thing}
use Rattle.btcheck_c.specs.declared.thing.Kind.TheVariants as kind

-- a session of the torrent that the bytes describe, to which no message came yet; its trees are
-- closed, and calls keep them so (`CallsKeepTreesClosed`)
abbrev pub IsNewSessionOf : List ℕ → Bool → SessionSeen → Type 0
IsNewSessionOf input layers S = (d : Description)
    × (Describes input d × (IsFresh d layers S × HasClosedTrees S))

-- a refusal of a torrent, as a status, with what it has beside its number
abbrev pub refused : Refusal → NoSession
refused r = record { status = 100 + refusal_number r; more = refusal_info r }

-- the torrent is refused for this reason, unless memory was refused for it; or memory was refused
-- for the session, and there is no more to say
abbrev pub IsExplained : List ℕ → NoSession → Type 0
IsExplained input why =
    ((r : Refusal) × ((why ≡ refused r) × (r ≢ refusals.NoMemory → RefusesTorrent input r)))
    ⊎ (why ≡ record { status = 2; more = nothing_more })

abbrev pub OpensAs : List ℕ → Bool → Result SessionSeen NoSession → Type 0
OpensAs input layers (Ok S) = IsNewSessionOf input layers S
OpensAs input layers (Err why) = IsExplained input why

-- a session of the torrent is in the handle
abbrev pub IsSessionOpened : List ℕ → Bool → Option Thing → Type 0
IsSessionOpened input layers o' =
    (S : SessionSeen) × ((o' ≡ Some (record { kind = kind.Session S }))
    × IsNewSessionOf input layers S)

-- a session of the torrent is in the handle; or there is none, nothing is, and the status and what
-- is written beside it say why
abbrev pub SessionExplained : List ℕ → Bool → RefusalInfo → ℕ → Option Thing → Type 0
SessionExplained input layers more status o' =
    ((status ≡ 0) × ((more ≡ nothing_more) × IsSessionOpened input layers o'))
    ⊎ ((o' ≡ None) × IsExplained input (record { status = status; more = more }))

-- the same, where only the status says why
abbrev pub SessionOpened : List ℕ → Bool → ℕ → Option Thing → Type 0
SessionOpened input layers status o' =
    (more : RefusalInfo) × SessionExplained input layers more status o'
