-- Pieces whose stretches pass through the lanes of a relay as they come. Public clauses do not name
-- these.
use Rattle.std.specs.Prelude.{◌≡◌, ℕ, ◌+◌, ◌-◌, ◌*◌, ◌/◌, ◌<◌, ◌≤◌, min, List, [], ◌++◌, length, take, drop, Option, Some, None}
use Rattle.std.specs.Vec.{vec_capacity}
use Rattle.sha1.specs.Sha1.{sha1}
use Rattle.sha1_lanes.specs.Relays.{HasPassed}
use Rattle.sha1_lanes.specs.declared.relay.Relay.{Relay}
use Rattle.lanes.specs.declared.words.TheConstants.{LANES}
use Rattle.pieces.specs.Cuts.{cut}
use Rattle.pieces.specs.Slot.{slot_of}
use Rattle.pieces.specs.Stored.{slot_bytes}
use Rattle.pieces.specs.declared.stages.Stages.{Stages}

-- stages are worth their memory: a stream of this length has at least four whole pieces, and a
-- piece for each lane has more than 32 MiB
abbrev pub IsLargeStream : ℕ → ℕ → Type 0
IsLargeStream total piece_length =
    (4 ≤ total / piece_length) × (2048 < LANES * (piece_length / 16384))

-- how many bytes of memory stages take, if there are some
abbrev pub room_in : Option Stages → ℕ
room_in None = 0
room_in (Some s) = vec_capacity s.store.bytes

-- ---- the lanes and the slots

-- of the first `whole` stretches of the content, the lanes have taken those of the steps before
-- this one, and those of this step and later ones stand in their slots
pub record IsPassing (relay : Relay) (slots : ℕ → List ℕ) (size step whole : ℕ) (content : List ℕ)
    : Type 0 where
  pub within : size * whole ≤ length content
  pub begins : HasPassed relay 0 []
  pub taken : (piece j : ℕ) → j < LANES → piece + j ≡ step → LANES * piece + j ≤ whole
      → HasPassed relay j (take (size * j) (drop (size * (LANES * piece)) content))
  pub waiting : (piece i : ℕ) → i < LANES → step ≤ piece + i → LANES * piece + i < whole
      → slots (slot_of piece i) ≡ cut size content (LANES * piece + i)

-- the content ends with this many bytes of this stretch, and all that came of its piece stands in
-- its slots
pub record StandsInSlots (slots : ℕ → List ℕ) (size piece stretch filled : ℕ) (content : List ℕ)
    : Type 0 where
  pub length_is : length content ≡ size * (LANES * piece + stretch) + filled
  pub before : (i : ℕ) → i < stretch
      → slots (slot_of piece i) ≡ cut size content (LANES * piece + i)
  pub running : take filled (slots (slot_of piece stretch))
      ≡ drop (size * (LANES * piece + stretch)) content

-- ---- the stages

-- how many bytes came
abbrev pub bytes_staged : Stages → ℕ
bytes_staged s = s.store.size * (LANES * s.piece + s.stretch) + s.filled

-- how many steps were made while bytes came: one for each piece of which stretch 0 is whole
abbrev pub steps_made : Stages → ℕ
steps_made s = s.piece + min s.stretch 1

-- how many digests are told before this step
abbrev pub told_before : ℕ → ℕ
told_before step = step - (LANES - 1)

-- this content came, in pieces of this length, and this many bytes of the running stretch
pub record IsStagedTo (filled : ℕ) (s : Stages) (piece_length : ℕ) (content : List ℕ)
    : Type 0 where
  pub piece_length_is : piece_length ≡ LANES * s.store.size
  pub stands : StandsInSlots (slot_bytes s.store) s.store.size s.piece s.stretch filled content
  pub passing : IsPassing s.relay (slot_bytes s.store) s.store.size (steps_made s)
      (LANES * s.piece + s.stretch) content

-- this content came, in pieces of this length
abbrev pub IsStaged : Stages → ℕ → List ℕ → Type 0
IsStaged s piece_length content = IsStagedTo s.filled s piece_length content

-- the stages, if there are some, are for pieces of this length, and nothing came yet
abbrev pub AreBegun : Option Stages → ℕ → Type 0
AreBegun stages piece_length = (s : Stages) → stages ≡ Some s
    → (bytes_staged s ≡ 0) × IsStaged s piece_length []

-- this content came, and its whole pieces pass on to their end: this is the next step
pub record IsDraining (s : Stages) (step piece_length : ℕ) (content : List ℕ) : Type 0 where
  pub piece_length_is : piece_length ≡ LANES * s.store.size
  pub stands : StandsInSlots (slot_bytes s.store) s.store.size s.piece s.stretch s.filled content
  pub passing : IsPassing s.relay (slot_bytes s.store) s.store.size step (LANES * s.piece) content

-- ---- digests

-- a digest is told or none, and these are the numbers of those told before and after
pub record CountsTold (digest : Option (List ℕ)) (told next : ℕ) : Type 0 where
  pub none : digest ≡ None → next ≡ told
  pub one : (d : List ℕ) → digest ≡ Some d → next ≡ told + 1

-- the digest, if one is told, is that of this piece of the content
abbrev pub IsDigestOf : Option (List ℕ) → ℕ → List ℕ → ℕ → Type 0
IsDigestOf digest piece_length content piece =
    (d : List ℕ) → digest ≡ Some d → d ≡ sha1 (cut piece_length content piece)

-- these further bytes came, and this digest is told
pub record TakesStretch (old : Stages) (bytes : List ℕ) (digest : Option (List ℕ)) (new : Stages)
    : Type 0 where
  pub count : bytes_staged new ≡ bytes_staged old + length bytes
  pub counts : CountsTold digest (told_before (steps_made old)) (told_before (steps_made new))
  pub content : (piece_length : ℕ) (content : List ℕ) → IsStaged old piece_length content
      → IsStaged new piece_length (content ++ bytes)
  pub digest_is : (piece_length : ℕ) (content : List ℕ) → IsStaged old piece_length content
      → IsDigestOf digest piece_length (content ++ bytes) (told_before (steps_made old))

-- the step of the running piece is made, if it is due: this digest is told
pub record DoesStep (old : Stages) (digest : Option (List ℕ)) (new : Stages) : Type 0 where
  pub counts : CountsTold digest (told_before (steps_made old)) (told_before (old.piece + 1))
  pub passing : (whole : ℕ) (content : List ℕ)
      → IsPassing old.relay (slot_bytes old.store) old.store.size (steps_made old) whole content
      → IsPassing new.relay (slot_bytes old.store) old.store.size (old.piece + 1) whole content
  pub digest_is : (whole : ℕ) (content : List ℕ)
      → IsPassing old.relay (slot_bytes old.store) old.store.size (steps_made old) whole content
      → LANES * old.piece < whole
      → IsDigestOf digest (LANES * old.store.size) content (told_before (steps_made old))

-- the running stretch is whole, and the next one begins
pub record ClosesStretch (old : Stages) (digest : Option (List ℕ)) (new : Stages) : Type 0 where
  pub count : bytes_staged new
      ≡ old.store.size * (LANES * old.piece + old.stretch) + old.store.size
  pub counts : CountsTold digest (told_before (steps_made old)) (told_before (steps_made new))
  pub content : (piece_length : ℕ) (content : List ℕ)
      → IsStagedTo old.store.size old piece_length content → IsStaged new piece_length content
  pub digest_is : (piece_length : ℕ) (content : List ℕ)
      → IsStagedTo old.store.size old piece_length content
      → IsDigestOf digest piece_length content (told_before (steps_made old))
