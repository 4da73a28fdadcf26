-- What was gathered in a pass over listed paths.
use Rattle.std.proofs.Common.{◌≡◌, true, false, ℕ, zero, suc, ◌+◌, ◌^◌, List, [], ◌∷◌, map, take, slice_get, Some}
use Rattle.std.proofs.Common.{refl, ap, ap₂, subst, arith}
use Rattle.benc.specs.Device.{SourceSeen}
use Rattle.chains.specs.Chain.{Chain}
use Rattle.drafts.specs.Outline.{Outline}
use Rattle.folders.specs.declared.shelf.Shelf.{Ghosts}
use Rattle.folders.proofs.Visiting.{handed_as}
use Rattle.gathering.specs.Gathered.{DraftAdds}
use Rattle.gathering.specs.Gathering.{HasGathered, IsReadTo}
use Rattle.gathering.specs.Passing.{GatherTask, gather_task}
use Rattle.gathering.specs.Steps.{ReadsStill}
use Rattle.gathering.proofs.Rows.{gathered_row, says_row}
use Rattle.gathering.proofs.Steps.{gathered_none}
use Rattle.passes.specs.Held.{Answer, IsReadUpTo, content, failed, missing, unasked}
use Rattle.passes.specs.Passing.{AreSure, LooksFor, PassesAll, ReadsContent, ReadsThere, Takes}

pub same_contents : (xs ys : List (List ℕ)) → map content xs ≡ map content ys → xs ≡ ys
same_contents [] [] is = refl
same_contents [] (y ∷ ys) is = let no : ⊥ = cc in absurd no
same_contents (x ∷ xs) [] is = let no : ⊥ = cc in absurd no
same_contents (x ∷ xs) (y ∷ ys) is =
    let rest : map content xs ≡ map content ys = cc in
    let first : x ≡ y = cc in
    ap₂ (λ z zs. z ∷ zs) first (same_contents xs ys rest)

-- all answers are contents
pub record AreContents (all : List Answer) : Type 0 where
  pub contents : List (List ℕ)
  pub are : all ≡ map content contents

pub not_sure : true ≡ false → ⊥
not_sure is = cc

pub contents_of : (all : List Answer) → ((j : ℕ) → slice_get all j ≡ Some unasked → ⊥) → AreSure all → AreContents all
contents_of [] asked are = record { contents = []; are = refl }
contents_of (unasked ∷ all) asked are = absurd (asked 0 refl)
contents_of (missing ∷ all) asked are = let no : ⊥ = not_sure (are 0 missing refl) in absurd no
contents_of (failed ∷ all) asked are = let no : ⊥ = not_sure (are 0 failed refl) in absurd no
contents_of (content bytes ∷ all) asked are =
    let rest = contents_of all (λ j is. asked (suc j) is) (λ j a is. are (suc j) a is) in
    record { contents = bytes ∷ rest.contents; are = ap (λ xs. content bytes ∷ xs) rest.are }

module _ (t : GatherTask) where
  -- what was taken without a stop are contents
  pub taken_contents : (d : Outline) (paths : List (List (List ℕ))) (all : List Answer) (e : Outline) → Chain (Takes (gather_task t)) d paths all e
      → (cs : List (List ℕ)) × (all ≡ map content cs) × Chain DraftAdds d paths cs e
  taken_contents d [] [] e is = ([], refl, is)
  taken_contents d [] (a ∷ all) e run = absurd run
  taken_contents d (p ∷ ps) [] e run = absurd run
  taken_contents d (p ∷ ps) (unasked ∷ all) e (mid, step, rest) = let no : ⊥ = cc in absurd no
  taken_contents d (p ∷ ps) (missing ∷ all) e (mid, step, rest) = let no : ⊥ = cc in absurd no
  taken_contents d (p ∷ ps) (failed ∷ all) e (mid, step, rest) = let no : ⊥ = cc in absurd no
  taken_contents d (p ∷ ps) (content bytes ∷ all) e (mid, step, rest) =
      let later = taken_contents mid ps all e rest in
      (bytes ∷ later.0, ap (λ xs. content bytes ∷ xs) later.1, (mid, step, later.2))

  module _ {S F : Type 0} (shelf : Ghosts S F) (seen : F → SourceSeen) where
    pub reads_still : (s : S) (path : List (List ℕ)) (bytes : List ℕ) (s' : S) → ReadsThere shelf seen (IsReadUpTo (2 ^ 46)) s path bytes s'
        → ReadsStill shelf seen s path bytes s'
    reads_still s path bytes s' looks = record {
      reads = record {
        file = looks.file;
        handed = handed_as shelf seen (ReadsContent (IsReadUpTo (2 ^ 46)) bytes) (IsReadTo bytes) s path looks.file s' looks.handed
            looks.handed.reading.is_read;
        gave = looks.gave;
        agrees = looks.agrees;
        quiet = looks.quiet;
      };
      stays = looks.stays;
    }

    pub read_all : (s : S) (paths : List (List (List ℕ))) (cs : List (List ℕ)) (s' : S)
        → Chain (LooksFor shelf seen (gather_task t)) s paths (map content cs) s'
        → Chain (ReadsStill shelf seen) s paths cs s'
    read_all s [] [] s' is = is
    read_all s [] (c ∷ cs) s' run = absurd run
    read_all s (p ∷ ps) [] s' run = absurd run
    read_all s (p ∷ ps) (c ∷ cs) s' (mid, step, rest) = (mid, reads_still s p c mid step, read_all mid ps cs s' rest)

    -- each wanted path was asked for
    pub none_unasked : (s : S) (paths : List (List (List ℕ))) (all : List Answer) (s' : S)
        → Chain (LooksFor shelf seen (gather_task t)) s paths all s' → (j : ℕ) → slice_get all j ≡ Some unasked → ⊥
    none_unasked s [] [] s' run j is = cc
    none_unasked s [] (a ∷ all) s' run j is = absurd run
    none_unasked s (p ∷ ps) [] s' run j is = absurd run
    none_unasked s (p ∷ ps) (unasked ∷ all) s' (mid, step, rest) j is = absurd step
    none_unasked s (p ∷ ps) (missing ∷ all) s' (mid, step, rest) zero is = cc
    none_unasked s (p ∷ ps) (failed ∷ all) s' (mid, step, rest) zero is = cc
    none_unasked s (p ∷ ps) (content bytes ∷ all) s' (mid, step, rest) zero is = cc
    none_unasked s (p ∷ ps) (missing ∷ all) s' (mid, step, rest) (suc j) is = none_unasked mid ps all s' rest j is
    none_unasked s (p ∷ ps) (failed ∷ all) s' (mid, step, rest) (suc j) is = none_unasked mid ps all s' rest j is
    none_unasked s (p ∷ ps) (content bytes ∷ all) s' (mid, step, rest) (suc j) is = none_unasked mid ps all s' rest j is

    -- the first paths were read and taken
    pub gathered_first : (s s' : S) (n : ℕ) (cs : List (List ℕ)) (d e : Outline) → Chain (ReadsStill shelf seen) s (take n t.paths) cs s'
        → Chain DraftAdds d (take n t.paths) cs e → HasGathered shelf seen d s s (take n t.paths) s' e
    gathered_first s s' n cs d e run adds =
        subst (λ k. HasGathered shelf seen d s s (take k t.paths) s' e) (let same : 0 + n ≡ n = omega arith in same)
        (gathered_row shelf seen d s s s' t.paths 0 n cs d e (gathered_none shelf seen d s) run adds)

    pub all_gathered : (s s' : S) (d e : Outline) → PassesAll shelf seen (gather_task t) s d s' e → HasGathered shelf seen d s s t.paths s' e
    all_gathered s s' d e all =
        let took = taken_contents d t.paths all.answers e all.takes in
        let run = read_all s t.paths took.0 s' (subst (λ xs. Chain (LooksFor shelf seen (gather_task t)) s t.paths xs s') took.1 all.looks) in
        let says = says_row shelf seen s t.paths took.0 s' run in
        record {
          contents = took.0;
          read = says.read;
          are = says.are;
          gathered = took.2;
          quiet = says.quiet;
          stays = says.stays;
        }
