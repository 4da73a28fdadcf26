-- The contents that were found of the first files.
use Rattle.std.proofs.Common.{◌≡◌, ℕ, List, slice_get, Option, Some, None, ap}
use Rattle.std.specs.Option.{unwrap_or}
use Rattle.folders.specs.Folder.{Contents}

-- these contents are the ones that were found so far
abbrev pub Extends : List (Option (List ℕ)) → Contents → Type 0
Extends seen contents = (k : ℕ) (c : Option (List ℕ)) → slice_get seen k ≡ Some c → contents k ≡ c

-- the contents of all files, by number
abbrev pub contents_of : List (Option (List ℕ)) → Contents
contents_of seen k = unwrap_or (slice_get seen k) None

pub contents_extend : (seen : List (Option (List ℕ))) → Extends seen (contents_of seen)
contents_extend seen k c is = ap (λ o. unwrap_or o None) is
