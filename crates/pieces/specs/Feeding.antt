-- What a version 1 feed holds. Contracts of users need nothing of how `total`, `bytes_given` and
-- `IsFeedGiven` are defined.
use Rattle.std.specs.Prelude.{◌≡◌, ℕ, ◌+◌, ◌*◌, ◌<◌, ◌≤◌, ◌++◌, List, [], length, drop, Option, Some, None}
use Rattle.pieces.specs.Cuts.{IsComparison, cut_digests}
use Rattle.pieces.specs.CutStreams.{Runs}
use Rattle.pieces.specs.Listed.{IsCutListed, AreListed}
use Rattle.pieces.specs.Staged.{room_in}
use Rattle.pieces.specs.declared.v1_feed.V1Feed.{V1Feed}

-- how many bytes the stream has
abbrev pub total : V1Feed → ℕ
total f = f.total

-- how many bytes of memory the feed takes, for large pieces that wait to be hashed
abbrev pub store_room : V1Feed → ℕ
store_room f = room_in f.stream.stages

-- how many bytes of the stream the feed was given, which is its place in the stream
abbrev pub bytes_given : V1Feed → ℕ
bytes_given f = f.given

-- the first cut among the first n whose digest is not the one that is listed for it, if there is
-- one
pub record IsFirstBad (piece_length : ℕ) (pieces : List (List ℕ)) (content : List ℕ) (n : ℕ)
    (bad : Option ℕ) : Type 0 where
  pub none : bad ≡ None → AreListed piece_length pieces content n
  pub before : (i : ℕ) → bad ≡ Some i → AreListed piece_length pieces content i
  pub within : (i : ℕ) → bad ≡ Some i → i < n
  pub differs : (i : ℕ) → bad ≡ Some i → IsCutListed piece_length pieces content i → ⊥

-- the feed compares with these pieces at this piece length, and was given this content: it knows of
-- all cuts before those that run, unless one was bad
pub record IsFeedGiven (f : V1Feed) (pieces : List (List ℕ)) (piece_length : ℕ) (content : List ℕ)
    : Type 0 where
  pub given_is : length content ≡ f.given
  pub pieces_are : f.pieces.now ≡ pieces
  pub piece_length_is : f.stream.cutter.piece_length ≡ piece_length
  pub whole : piece_length * f.cut ≤ length content
  pub bad_is : IsFirstBad piece_length pieces content f.cut f.bad
  pub runs : f.bad ≡ None → Runs f.stream piece_length (drop (piece_length * f.cut) content)

-- nothing was given yet to a feed of a stream of this length, which compares it with these pieces
pub record BeginsStream (length_of_all : ℕ) (pieces : List (List ℕ)) (piece_length : ℕ) (f : V1Feed)
    : Type 0 where
  pub total_is : total f ≡ length_of_all
  pub given_is : bytes_given f ≡ 0
  pub content : IsFeedGiven f pieces piece_length []

-- the feed was given these further bytes of the stream
pub record FeedsStream (old : V1Feed) (bytes : List ℕ) (new : V1Feed) : Type 0 where
  pub same_total : total new ≡ total old
  pub given_is : bytes_given new ≡ bytes_given old + length bytes
  pub content : (pieces : List (List ℕ)) (piece_length : ℕ) (content : List ℕ)
      → IsFeedGiven old pieces piece_length content
      → IsFeedGiven new pieces piece_length (content ++ bytes)

-- this many bytes are those of the content that the feed was given
abbrev pub CountsContent : V1Feed → ℕ → Type 0
CountsContent f n = (pieces : List (List ℕ)) (piece_length : ℕ) (content : List ℕ)
    → IsFeedGiven f pieces piece_length content → n ≡ length content

-- the digests of the cuts of what the feed was given, compared with the pieces
abbrev pub EndsStream : V1Feed → Option ℕ → Type 0
EndsStream f found = (pieces : List (List ℕ)) (piece_length : ℕ) (content : List ℕ)
    → IsFeedGiven f pieces piece_length content
    → IsComparison (cut_digests piece_length content) pieces found
