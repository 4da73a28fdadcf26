-- What reading a source gave.
use Rattle.std.proofs.Common.{◌≡◌, ℕ, ◌+◌, ◌^◌, ◌<◌, ◌≤◌, Bool, List, ◌++◌, length, take, Some, None, Ok, Err}
use Rattle.std.proofs.Common.{arith}
use Rattle.std.proofs.lemmas.List.{length-append, length-take}
use Rattle.std.specs.Io.KnownBytes.{IsAtEnd}
use Rattle.benc.specs.Device.{SourceSeen}
use Rattle.folders.specs.TakeAll.{Fills, GaveMore, IsReadWithin, TookAll}
use Rattle.folders.specs.declared.taking.ReadFault.TheVariants as fault
use Rattle.folders.proofs.Pieces.{all_given, longer_content}
use Rattle.wire.specs.Reading.{Gave}
use Rattle.wire.proofs.Giving.{Gave-trans}
use Rattle.gathering.specs.Hashing.{BeginsHashing, EndsWithHashes, Hashes, MayEndWithout}
use Rattle.gathering.specs.HashingLaws.{hashed_both}
use Rattle.gathering.specs.Reading.{HasContent, ReadsFile}
use Rattle.gathering.specs.declared.hashing.FileHashes.{FileHashes}
use Rattle.gathering.specs.declared.hashing.Hashing.{Hashing}
use Rattle.gathering.specs.Collecting.{MayFinish}
use Rattle.gathering.proofs.Digests.{found_whole, kept_digests, may_finish}

-- ---- a source

-- all that a source has was given
given_whole : (old new : SourceSeen) (content : List ℕ) → Gave old new content → IsAtEnd new.left → length content ≤ 2 ^ 46 → HasContent old new content
given_whole old new content gave ended short = record {
  agrees = λ known is. all_given old new content known gave ended is;
  read_to = omega (arith, short, gave.falls);
}

-- it ended within a buffer
pub short_content : (old new : SourceSeen) (buffer : List ℕ) (count : ℕ) → Fills old new buffer count → count < length buffer → length buffer ≤ 2 ^ 46
    → HasContent old new (take count buffer)
short_content old new buffer count fills less most =
    given_whole old new (take count buffer) fills.gave (fills.ended less) (omega (arith, length-take count buffer, less, most))

module _ (piece_length : ℕ) (hybrid : Bool) (before mid new : SourceSeen) (first : List ℕ) (begun half after : Hashing) (bound : ℕ)
    (gave : Gave before mid first) (takes : Hashes begun first half) (whole : length first + bound ≡ 2 ^ 46) where
  -- the first bytes of a source, and the others
  record BothParts (bytes : List ℕ) : Type 0 where
    has : HasContent before new (first ++ bytes)
    short : length (first ++ bytes) ≤ 2 ^ 46
    hashes : Hashes begun (first ++ bytes) after

  both_parts : (count : ℕ) → (took : TookAll Hashes mid new bound half after count) → BothParts took.bytes
  both_parts count took =
      let short : length (first ++ took.bytes) ≤ 2 ^ 46 = omega (arith, length-append first took.bytes, took.count_is, took.within, whole) in
      record {
        has = given_whole before new (first ++ took.bytes) (Gave-trans before mid new first took.bytes gave took.gave) took.ended short;
        short = short;
        hashes = hashed_both begun half after first took.bytes takes took.taken;
      }

  -- it was hashed
  pub long_read : (count : ℕ) (said : FileHashes) → TookAll Hashes mid new bound half after count → BeginsHashing piece_length hybrid begun
      → EndsWithHashes after said
      → ReadsFile piece_length hybrid before new (Ok (Some said))
  long_read count said took begins ends =
      let both : BothParts took.bytes = both_parts count took in
      (first ++ took.bytes, both.has, both.short, found_whole piece_length hybrid begun after (first ++ took.bytes) said begins both.hashes ends)

  -- memory was refused
  pub long_refused : (count : ℕ) → TookAll Hashes mid new bound half after count → 0 < length first → BeginsHashing piece_length hybrid begun
      → MayEndWithout after
      → ReadsFile piece_length hybrid before new (Err fault.NoMemory)
  long_refused count took some begins why =
      let both : BothParts took.bytes = both_parts count took in (
        first ++ took.bytes,
        both.has,
        both.short,
        kept_digests piece_length hybrid begun after (first ++ took.bytes) begins both.hashes (omega (arith, length-append first took.bytes, some)) why,
      )

  -- it has more bytes than the greatest length
  pub too_long : IsReadWithin (bound + 1) mid new → GaveMore mid new bound → ReadsFile piece_length hybrid before new (Ok None)
  too_long within read =
      let all : Gave before new (first ++ read.0) = Gave-trans before mid new first read.0 gave read.1 in
      let longer = longer_content before.left new.left (first ++ read.0) all.given in
      let count : length (first ++ read.0) ≡ length first + length read.0 = length-append first read.0 in (
        longer.0,
        record { agrees = longer.2; read_to = omega (arith, longer.1, count, whole, read.2, read.1.falls, gave.falls, within) },
        omega (arith, longer.1, count, whole, read.2),
      )

-- it may be ended
pub long_may_finish : (begun half after : Hashing) (first : List ℕ) → Hashes begun first half → 0 < length first → (mid new : SourceSeen) (bound count : ℕ)
    → TookAll Hashes mid new bound half after count → MayFinish after.tree
long_may_finish begun half after first takes some mid new bound count took =
    may_finish begun after (first ++ took.bytes) (hashed_both begun half after first took.bytes takes took.taken)
    (omega (arith, length-append first took.bytes, some))
