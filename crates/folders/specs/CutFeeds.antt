-- The version 1 pieces of a row, as they are fed.
use Rattle.std.specs.Prelude.{◌≡◌, ℕ, ◌+◌, ◌-◌, ◌≤◌, ◌++◌, List, [], length, replicate, Option, Some, None, ⊤}
use Rattle.pieces.specs.Cuts.{IsComparison, cut_digests}
use Rattle.pieces.specs.Feeding.{FeedsStream, IsFeedGiven, bytes_given, total}
use Rattle.pieces.specs.declared.v1_feed.V1Feed.{V1Feed}

-- this many bytes more are not past the end, if there is a feed
abbrev pub HasCutRoom : Option V1Feed → ℕ → Type 0
HasCutRoom None n = ⊤
HasCutRoom (Some f) n = bytes_given f + n ≤ total f

-- the feed, if there is one, stands at this place
abbrev pub CutsStandAt : Option V1Feed → ℕ → Type 0
CutsStandAt None n = ⊤
CutsStandAt (Some f) n = bytes_given f ≡ n

-- and ends at this one
abbrev pub CutsEndAt : Option V1Feed → ℕ → Type 0
CutsEndAt None n = ⊤
CutsEndAt (Some f) n = total f ≡ n

-- the feed, if there is one, compares with these pieces, and was given this content
abbrev pub IsCutGiven : Option V1Feed → List (List ℕ) → ℕ → List ℕ → Type 0
IsCutGiven None pieces piece_length content = ⊤
IsCutGiven (Some f) pieces piece_length content = IsFeedGiven f pieces piece_length content

-- the feed was given these further bytes, if there is one
abbrev pub TakesCuts : Option V1Feed → List ℕ → Option V1Feed → Type 0
TakesCuts None bytes None = ⊤
TakesCuts None bytes (Some g) = ⊥
TakesCuts (Some f) bytes None = ⊥
TakesCuts (Some f) bytes (Some g) = FeedsStream f bytes g

-- what was given, filled up with zeros to the end, was compared with the listed digests
abbrev pub IsFeedVerdict : V1Feed → Option ℕ → Type 0
IsFeedVerdict f found = (pieces : List (List ℕ)) (piece_length : ℕ) (content : List ℕ)
    → IsFeedGiven f pieces piece_length content
    → IsComparison (cut_digests piece_length (content ++ replicate (total f - length content) 0))
    pieces found

abbrev pub IsCutVerdict : Option V1Feed → Option ℕ → Type 0
IsCutVerdict None found = found ≡ None
IsCutVerdict (Some f) found = IsFeedVerdict f found

-- the cuts of these bytes, filled up with zeros, were compared with the listed digests
abbrev pub AreCutsJudged : Option V1Feed → List ℕ → Option ℕ → Type 0
AreCutsJudged None own found = found ≡ None
AreCutsJudged (Some f) own found = (pieces : List (List ℕ)) (piece_length : ℕ)
    → IsFeedGiven f pieces piece_length []
    → IsComparison (cut_digests piece_length (own ++ replicate (total f - length own) 0)) pieces
    found
