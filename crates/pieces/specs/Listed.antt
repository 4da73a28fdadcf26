-- The digests that are listed for the cuts of a content, in their order. Public clauses do not name
-- these.
use Rattle.std.specs.Prelude.{◌≡◌, ℕ, ◌<◌, List, slice_get, Some}
use Rattle.sha1.specs.Sha1.{sha1}
use Rattle.pieces.specs.Cuts.{cut}

-- the digest of this cut of the content is the one that is listed for it
abbrev pub IsCutListed : ℕ → List (List ℕ) → List ℕ → ℕ → Type 0
IsCutListed piece_length pieces content k =
    slice_get pieces k ≡ Some (sha1 (cut piece_length content k))

-- so are the digests of the first n cuts
abbrev pub AreListed : ℕ → List (List ℕ) → List ℕ → ℕ → Type 0
AreListed piece_length pieces content n =
    (k : ℕ) → k < n → IsCutListed piece_length pieces content k
