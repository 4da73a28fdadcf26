-- Files that are listed, of their paths and lengths.
use Rattle.std.proofs.Common.{◌≡◌, ◌∙◌, ℕ, Bor, List, [], ◌∷◌, map, refl, ap, sym}
use Rattle.std.specs.Global.{Global, Vec}
use Rattle.std.specs.Prelude.{String}
use Rattle.std.specs.List.{zip}
use Rattle.part_texts.specs.Listings.{Listed, files_at_paths, texts_of}

-- a path and a length
abbrev pub paired : Vec (String Global) × Bor ℕ → Listed
paired p = record { path = texts_of p.0; bytes = p.1.now }

abbrev pub read_pair : Vec (String Global) × Bor ℕ → Vec (String Global) × ℕ
read_pair p = (p.0, p.1.now)

abbrev pub file_of_pair : Vec (String Global) × ℕ → Listed
file_of_pair p = record { path = texts_of p.0; bytes = p.1 }

pub pairs_read : (ps : List (Vec (String Global) × Bor ℕ)) → map paired ps ≡ map file_of_pair (map read_pair ps)
pairs_read [] = refl
pairs_read (p ∷ ps) = ap (λ fs. paired p ∷ fs) (pairs_read ps)

pub zipped : (paths : List (Vec (String Global))) (lengths : List ℕ) → map file_of_pair (zip paths lengths) ≡ files_at_paths (map texts_of paths) lengths
zipped [] lengths = refl
zipped (p ∷ paths) [] = refl
zipped (p ∷ paths) (n ∷ lengths) = ap (λ fs. record { path = texts_of p; bytes = n } ∷ fs) (zipped paths lengths)

-- all pairs were read
pub all_listed : (fs : List Listed) (pairs : List (Vec (String Global) × Bor ℕ)) (paths : List (Vec (String Global))) (lengths : List ℕ)
    → fs ≡ map paired pairs → map read_pair pairs ≡ zip paths lengths → fs ≡ files_at_paths (map texts_of paths) lengths
all_listed fs pairs paths lengths are all = are ∙ pairs_read pairs ∙ ap (map file_of_pair) all ∙ zipped paths lengths
