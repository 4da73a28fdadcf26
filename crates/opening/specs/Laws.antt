-- The laws of torrent files: what their bytes describe, and why they are refused.
use Rattle.std.specs.Prelude.{◌≡◌, ◌⊎◌, ◌↔◌, ℕ, List, Some}
use Rattle.opening.specs.Describes.{Describes}
use Rattle.opening.specs.Description.{Description}
use Rattle.opening.specs.FirstUse.{AreTreesOf}
use Rattle.opening.specs.Places.{IsBlockPlace, place_of}
use Rattle.opening.specs.Refusals.{RefusesTorrent, files_of}
use Rattle.opening.specs.Sound.{IsSound}
use Rattle.filetree.specs.declared.refusal.Refusal.{Refusal}

-- bytes that describe a torrent describe no other
abbrev pub TorrentIsOne : Type 0
TorrentIsOne = (b : List ℕ) (t u : Description) → Describes b t → Describes b u → t ≡ u

-- bytes that describe a torrent are not refused
abbrev pub TorrentIsNotRefused : Type 0
TorrentIsNotRefused =
    (b : List ℕ) (t : Description) (r : Refusal) → Describes b t → RefusesTorrent b r → ⊥

-- bytes that are refused are refused with one answer
abbrev pub RefusalIsOne : Type 0
RefusalIsOne = (b : List ℕ) (r s : Refusal) → RefusesTorrent b r → RefusesTorrent b s → r ≡ s

-- bytes describe a torrent, or are refused
abbrev pub TorrentOrRefusal : Type 0
TorrentOrRefusal =
    (b : List ℕ) → ((t : Description) × Describes b t) ⊎ ((r : Refusal) × RefusesTorrent b r)

-- of a torrent, the place that is computed is the file and block that stand there
abbrev pub PlaceIsBlockPlace : Type 0
PlaceIsBlockPlace = (t : Description) (index begin f b : ℕ) → IsSound t
    → (place_of t index begin ≡ Some (f, b)) ↔ IsBlockPlace t index begin f b

-- the trees of a torrent are the distinct roots of its files that are not empty, in the order of
-- first use, each with the length of its files; each such file has the tree of its root, and an
-- empty file has none
abbrev pub TreesAreRoots : Type 0
TreesAreRoots = (b : List ℕ) (t : Description) → (d : Describes b t)
    → AreTreesOf (files_of d.value) t
