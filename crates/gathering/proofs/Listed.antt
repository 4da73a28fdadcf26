-- The order of listed paths, and what was gathered of a shelf that was listed.
use Rattle.std.proofs.Common.{◌≡◌, inl, inr, ℕ, ◌+◌, ◌<◌, cond, List, [], ◌∷◌, length, map, take, drop, get_or, Option, Some, Ok, Err, refl, sym, ◌∙◌, ap}
use Rattle.std.proofs.Common.{subst, arith}
use Rattle.std.specs.Prelude.{String, slice_get}
use Rattle.std.specs.Global.{Global, Vec}
use Rattle.std.specs.String.{string_bytes}
use Rattle.std.specs.Cmp.Lexicographic.{slice_cmp}
use Rattle.std.specs.List.Sorted.{IsPermutation, IsSorted}
use Rattle.std.specs.Ordering.{is_lt, nat_cmp, ordering_then}
use Rattle.std.proofs.lemmas.List.{get_or-map, length-map}
use Rattle.std.proofs.lemmas.List.Sorted.{IsPermutation-map, sum_by-IsPermutation}
use Rattle.std.proofs.lemmas.Option.{same_Some, slice_get_within}
use Rattle.folders.specs.declared.shelf.Shelf.{Ghosts}
use Rattle.benc.specs.Device.{SourceSeen}
use Rattle.drafts.specs.Outline.{Outline}
use Rattle.folders.specs.Shelf.{IsListed, Listing, ShelfContents, is_path, path_bytes}
use Rattle.gathering.specs.Gathering.{AreContentsUnder, FailsAt, FaultsAtPath, Gathers, GathersAll, HappensBefore, HasGathered, IsListedAs, IsSortedListing}
use Rattle.gathering.specs.Gathering.{LacksMemoryAt, Misses, RefusesAt, StopsAtPath}
use Rattle.gathering.specs.Steps.{AddsAll, DeclinesAt, FaultsWith, StopsAdding, StopsVisiting}
use Rattle.gathering.specs.Stopping.{at_path}
use Rattle.gathering.specs.declared.file_fault.FileFault.{FileFault}
use Rattle.gathering.specs.declared.file_fault.FileFault.TheVariants as why
use Rattle.gathering.specs.declared.gather_fault.GatherFault.{GatherFault}
use Rattle.passes.specs.declared.stopped.Stopped.{Stopped}
use Rattle.gathering.proofs.Steps.{item_of}
use Rattle.pieces.specs.Pieces.{IsPieceLength}

-- ---- the listing

abbrev Paths : Type 0
Paths = List (Vec (String Global))

order_is : (x y : List (String Global)) → slice_cmp (λ a b. slice_cmp nat_cmp (string_bytes a) (string_bytes b)) x y ≡ slice_cmp (slice_cmp nat_cmp)
    (map string_bytes x) (map string_bytes y)
order_is [] [] = refl
order_is [] (b ∷ y) = refl
order_is (a ∷ x) [] = refl
order_is (a ∷ x) (b ∷ y) = ap (ordering_then (slice_cmp nat_cmp (string_bytes a) (string_bytes b))) (order_is x y)

sorted_paths : (vs : Paths) → IsSorted (λ v w. slice_cmp (λ a b. slice_cmp nat_cmp (string_bytes a) (string_bytes b)) v.items w.items) vs
    → IsSorted (slice_cmp (slice_cmp nat_cmp)) (map path_bytes vs)
sorted_paths [] up k d low inside = absurd (omega (arith, inside))
sorted_paths (v ∷ vs) up k d low inside =
    let all : Paths = v ∷ vs in
    let next : k + 1 < length all = omega (arith, inside, length-map all path_bytes) in
    let here : k < length all = omega (arith, next) in
    let cmp = slice_cmp (slice_cmp nat_cmp) in
    ap is_lt (ap (λ p. cmp p (get_or (map path_bytes all) k d)) (get_or-map path_bytes all (k + 1) v d next)
    ∙ ap (cmp (path_bytes (get_or all (k + 1) v))) (get_or-map path_bytes all k v d here)
    ∙ sym (order_is (get_or all (k + 1) v).items (get_or all k v).items))
    ∙ up k v low next

sorted_listing : (said : Option Listing) (paths : Vec (Vec (String Global))) (sorted : Paths) → IsListed said (Ok paths) → IsPermutation paths.items sorted
    → IsSorted (λ v w. slice_cmp (λ a b. slice_cmp nat_cmp (string_bytes a) (string_bytes b)) v.items w.items) sorted
    → IsSortedListing said (map path_bytes sorted)
sorted_listing said paths sorted listed moved up = record {
  in_order = sorted_paths sorted up;
  listed = λ there is.
      let these = subst (λ t. IsListed t (Ok paths)) is listed in
      record {
        named = these.0;
        regular = these.1;
        each_once = λ p. sum_by-IsPermutation (λ x. cond (is_path p x) 1 0) (map path_bytes paths.items) (map path_bytes sorted)
            (IsPermutation-map path_bytes paths.items sorted moved) ∙ these.2 p;
      };
}

-- the shelf was listed, and its answer sorted
pub listed_as : {S F : Type 0} (shelf : Ghosts S F) (old base : S) (paths : Vec (Vec (String Global))) (sorted : Paths) → shelf.lists old (Ok paths) base
    → IsListed (shelf.contents old).listing (Ok paths) → IsPermutation paths.items sorted
    → IsSorted (λ v w. slice_cmp (λ a b. slice_cmp nat_cmp (string_bytes a) (string_bytes b)) v.items w.items) sorted
    → IsListedAs shelf old (map path_bytes sorted) base
listed_as shelf old base paths sorted answered listed moved up = record {
  answer = paths;
  answered = answered;
  these = IsPermutation-map path_bytes paths.items sorted moved;
  sorted = sorted_listing (shelf.contents old).listing paths sorted listed moved up;
}

-- ---- what was gathered

module _ {S F : Type 0} (shelf : Ghosts S F) (seen : F → SourceSeen) (empty : Outline) where
  -- the listing left the shelf as it was
  gathered_before : (old base s : S) (paths : List (List (List ℕ))) (d : Outline) → shelf.faults base ≡ shelf.faults old
      → shelf.contents base ≡ shelf.contents old
      → HasGathered shelf seen empty base base paths s d → HasGathered shelf seen empty old base paths s d
  gathered_before old base s paths d quiet stays so_far = record {
    contents = so_far.contents;
    read = so_far.read;
    are = subst (λ (on : ShelfContents). AreContentsUnder on.under paths so_far.contents) stays so_far.are;
    gathered = so_far.gathered;
    quiet = so_far.quiet ∙ quiet;
    stays = so_far.stays ∙ stays;
  }

  pub gathers_all : (old base new : S) (sorted : Paths) (d : Outline) → IsPieceLength empty.piece_length
      → IsListedAs shelf old (map path_bytes sorted) base
      → shelf.faults base ≡ shelf.faults old → shelf.contents base ≡ shelf.contents old
      → HasGathered shelf seen empty base base (map path_bytes sorted) new d
      → GathersAll shelf seen empty old new d
  gathers_all old base new sorted d legal listed quiet stays all =
      record {
        legal = legal;
        paths = map path_bytes sorted;
        listed = base;
        listing_is = listed;
        all = gathered_before old base new (map path_bytes sorted) d
            quiet stays all;
      }

  taken : (sorted : Paths) (n : ℕ) (path : List (List ℕ)) (v : Vec (String Global)) → slice_get (map path_bytes sorted) n ≡ Some path → v ≡ get_or sorted n v
      → path ≡ path_bytes v
  taken sorted n path v there is =
      let inside : n < length sorted = omega (arith, slice_get_within (map path_bytes sorted) n path there, length-map sorted path_bytes) in
      same_Some path (path_bytes v) (sym there ∙ item_of path_bytes sorted n v inside ∙ ap (λ w. Some (path_bytes w)) (sym is))

  -- a path was not added
  added_at : (old base new : S) (sorted : Paths) (stop : Stopped FileFault) (v : Vec (String Global)) → IsPieceLength empty.piece_length
      → IsListedAs shelf old (map path_bytes sorted) base → shelf.faults base ≡ shelf.faults old → shelf.contents base ≡ shelf.contents old
      → (stops : StopsAdding shelf seen empty base (map path_bytes sorted) new stop) → stops.path ≡ path_bytes v
      → (Why : Outline → S → List (List (List ℕ)) → Type 0) → Why stops.draft stops.mid (drop (stop.number + 1) (map path_bytes sorted))
      → StopsAtPath shelf seen empty old (path_bytes v) Why
  added_at old base new sorted stop v legal listed quiet stays stops path Why holds = record {
    legal = legal;
    paths = map path_bytes sorted;
    listed = base;
    listing_is = listed;
    number = stop.number;
    there = stops.there ∙ ap Some path;
    draft = stops.draft;
    mid = stops.mid;
    before = gathered_before old base stops.mid (take stop.number (map path_bytes sorted)) stops.draft quiet stays stops.before;
    why = holds;
  }

  not_added : (old base new : S) (sorted : Paths) (stop : Stopped FileFault) (v : Vec (String Global)) → IsPieceLength empty.piece_length
      → IsListedAs shelf old (map path_bytes sorted) base → shelf.faults base ≡ shelf.faults old → shelf.contents base ≡ shelf.contents old
      → (stops : StopsAdding shelf seen empty base (map path_bytes sorted) new stop) → stops.path ≡ path_bytes v → (f : FileFault)
      → HappensBefore shelf seen (DeclinesAt shelf seen f stops.draft (path_bytes v) stops.mid) (drop (stop.number + 1) (map path_bytes sorted)) new
      → Gathers shelf seen empty old new (Err (at_path f v))
  not_added old base new sorted stop v legal listed quiet stays stops path (why.Refused r) holds =
      inr (added_at old base new sorted stop v legal listed quiet stays stops path
      (λ d mid rest. HappensBefore shelf seen (RefusesAt shelf seen d (path_bytes v) r mid) rest new) holds)
  not_added old base new sorted stop v legal listed quiet stays stops path why.Device holds = absurd holds.why
  not_added old base new sorted stop v legal listed quiet stays stops path why.NoMemory holds =
      inr (inr (
        path_bytes v,
        added_at old base new sorted stop v legal listed quiet stays stops path
            (λ d mid rest. HappensBefore shelf seen (LacksMemoryAt shelf seen d (path_bytes v) mid) rest new) holds,
      ))
  not_added old base new sorted stop v legal listed quiet stays stops path why.Changed holds = absurd holds.why

  -- no file was read under a path
  visited_at : (old base new : S) (sorted : Paths) (stop : Stopped FileFault) (v : Vec (String Global)) → IsPieceLength empty.piece_length
      → IsListedAs shelf old (map path_bytes sorted) base → shelf.faults base ≡ shelf.faults old → shelf.contents base ≡ shelf.contents old
      → (stops : StopsVisiting shelf seen empty base (map path_bytes sorted) new stop) → stops.path ≡ path_bytes v
      → (Why : S → Type 0) → Why stops.mid → FaultsAtPath shelf seen empty old (path_bytes v) Why
  visited_at old base new sorted stop v legal listed quiet stays stops path Why holds = record {
    legal = legal;
    paths = map path_bytes sorted;
    listed = base;
    listing_is = listed;
    number = stop.number;
    there = stops.there ∙ ap Some path;
    gathered = stops.gathered;
    draft = stops.draft;
    between = stops.between;
    before = gathered_before old base stops.between (take stops.gathered (map path_bytes sorted)) stops.draft quiet stays stops.before;
    mid = stops.mid;
    ahead = stops.ahead;
    number_is = stops.number_is;
    why = holds;
  }

  not_read : (old base new : S) (sorted : Paths) (stop : Stopped FileFault) (v : Vec (String Global)) → IsPieceLength empty.piece_length
      → IsListedAs shelf old (map path_bytes sorted) base → shelf.faults base ≡ shelf.faults old → shelf.contents base ≡ shelf.contents old
      → (stops : StopsVisiting shelf seen empty base (map path_bytes sorted) new stop) → stops.path ≡ path_bytes v → (f : FileFault)
      → FaultsWith shelf seen f stops.mid (path_bytes v) new → Gathers shelf seen empty old new (Err (at_path f v))
  not_read old base new sorted stop v legal listed quiet stays stops path (why.Refused r) holds = absurd holds
  not_read old base new sorted stop v legal listed quiet stays stops path why.Device holds =
      visited_at old base new sorted stop v legal listed quiet stays stops path (λ mid. FailsAt shelf seen mid (path_bytes v) new) holds
  not_read old base new sorted stop v legal listed quiet stays stops path why.NoMemory holds = absurd holds
  not_read old base new sorted stop v legal listed quiet stays stops path why.Changed holds =
      visited_at old base new sorted stop v legal listed quiet stays stops path (λ mid. Misses shelf seen mid (path_bytes v) new) holds

  pub stopped_at : (old base new : S) (sorted : Paths) (stop : Stopped FileFault) (v : Vec (String Global)) (d : Outline) (said : GatherFault)
      → IsPieceLength empty.piece_length → IsListedAs shelf old (map path_bytes sorted) base → shelf.faults base ≡ shelf.faults old
      → shelf.contents base ≡ shelf.contents old → AddsAll shelf seen empty base (map path_bytes sorted) d new (Err stop) → v ≡ get_or sorted stop.number v
      → said ≡ at_path stop.stop v → Gathers shelf seen empty old new (Err said)
  stopped_at old base new sorted stop v d said legal listed quiet stays how is answer =
      subst (λ f. Gathers shelf seen empty old new (Err f)) (sym answer) (elim how [
        | inl stops ↦
            let path : stops.path ≡ path_bytes v = taken sorted stop.number stops.path v stops.there is in
            not_added old base new sorted stop v legal listed quiet stays stops path stop.stop
            (subst (λ p. HappensBefore shelf seen (DeclinesAt shelf seen stop.stop stops.draft p stops.mid)
            (drop (stop.number + 1) (map path_bytes sorted)) new) path stops.why)
        | inr stops ↦
            let path : stops.path ≡ path_bytes v = taken sorted stop.number stops.path v stops.there is in
            not_read old base new sorted stop v legal listed quiet stays stops path stop.stop
            (subst (λ p. FaultsWith shelf seen stop.stop stops.mid p new) path stops.why)
      ])

  -- it stopped at a listed path
  pub stop_inside : (base new : S) (paths : List (List (List ℕ))) (d : Outline) (stop : Stopped FileFault)
      → AddsAll shelf seen empty base paths d new (Err stop)
      → stop.number < length paths
  stop_inside base new paths d stop how = elim how [
    | inl stops ↦ slice_get_within paths stop.number stops.path stops.there
    | inr stops ↦ slice_get_within paths stop.number stops.path stops.there
  ]
