-- A digest is a hash.
use Rattle.std.proofs.Common.{◌≡◌, ℕ, zero, suc, ◌<◌, List, [], ◌∷◌, ◌++◌, length, refl, subst, take_at}
use Rattle.std.proofs.Common.{drop_at, arith}
use Rattle.std.specs.List.{All, flat_map}
use Rattle.std.specs.Int.{bytes_high_first, byte_at}
use Rattle.std.specs.Prelude.{slice_index}
use Rattle.std.proofs.lemmas.List.Elements.{All-nil, All-cons, All-head, All-tail, All-append, All-take, All-drop}
use Rattle.sha2.specs.Sha256.{sha256, digest_bytes}
use Rattle.sha2.proofs.Facts256.{length-sha256}
use Rattle.node_maps.specs.Digest.{Hash, AreBytes, IsHash}

abbrev pub IsByte : ℕ → Type 0
IsByte b = b < 256

-- the bytes of a number
number-are_bytes : (k n : ℕ) → AreBytes (bytes_high_first k n)
number-are_bytes zero n = All-nil IsByte
number-are_bytes (suc k) n = All-cons IsByte (byte_at k n) (bytes_high_first k n) (byte_at-is_byte k n) (number-are_bytes k n)
  where
    byte_at-is_byte : (i m : ℕ) → byte_at i m < 256
    byte_at-is_byte zero m = omega arith
    byte_at-is_byte (suc i) m = omega arith

words-are_bytes : (h : List ℕ) (n : ℕ) → AreBytes (digest_bytes h n)
unfolding digest_bytes
words-are_bytes h zero = All-nil IsByte
words-are_bytes h (suc n) = All-append IsByte (digest_bytes h n) (bytes_high_first 4 (slice_index h n)) (words-are_bytes h n)
    (number-are_bytes 4 (slice_index h n))

-- a digest is made of bytes, whatever it is of
pub digest-are_bytes : (m : List ℕ) → AreBytes (sha256 m)
unfolding sha256
digest-are_bytes m = words-are_bytes _ 8

-- a digest is a hash
pub is_hash : (m : List ℕ) → IsHash (sha256 m)
is_hash m = record { size = length-sha256 m; bytes = digest-are_bytes m }

-- lists of 32 numbers are hashes if what they make in a row is made of bytes
pub are_hashes : (hs : List Hash) → All (λ (h : Hash). length h ≡ 32) hs → AreBytes (flat_map (λ (h : Hash). h) hs) → All IsHash hs
are_hashes [] sizes bytes = All-nil IsHash
are_hashes (h ∷ hs) sizes bytes =
    let rest : List ℕ = flat_map (λ (x : Hash). x) hs in
    All-cons IsHash h hs
    (record {
      size = All-head (λ (x : Hash). length x ≡ 32) h hs sizes;
      bytes = subst AreBytes (take_at h rest (length h) refl) (All-take IsByte (length h) (h ++ rest) bytes);
    })
    (are_hashes hs (All-tail (λ (x : Hash). length x ≡ 32) h hs sizes)
    (subst AreBytes (drop_at h rest (length h) refl) (All-drop IsByte (length h) (h ++ rest) bytes)))
