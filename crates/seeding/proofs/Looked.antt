-- What looking at the path of a file gave.
use Rattle.std.proofs.Common.{◌≡◌, ◌∙◌, ℕ, Bool, true, false, inl, inr, List, length, Option, Some, None, is_some, option_map, Ok, Err, refl, sym, ap}
use Rattle.std.proofs.Common.{subst, arith}
use Rattle.std.proofs.lemmas.Bool.{cases_eq}
use Rattle.std.proofs.lemmas.Option.{same_Some}
use Rattle.std.specs.declared.alloc.AllocError.{AllocError}
use Rattle.benc.specs.Device.{SourceSeen}
use Rattle.folders.specs.Shelf.{more}
use Rattle.folders.specs.TakeAll.{IsReadWithin}
use Rattle.folders.specs.declared.shelf.Shelf.{Ghosts}
use Rattle.folders.proofs.Visiting.{handed_as}
use Rattle.hashtree.specs.Tree.{Fits}
use Rattle.opening.specs.Description.{FileEntry, TreeEntry}
use Rattle.partial_tree.specs.Grown.{GrownTree}
use Rattle.passes.specs.Held.{Answer, IsReadUpTo, content, failed, missing, unasked}
use Rattle.passes.specs.Passing.{FailsReading, Looks, ReadsContent}
use Rattle.seeding.specs.Leaves.{IsReadToSeed}
use Rattle.seeding.specs.Passing.{FillsByTree, FindsAnswer, FindsByTree, wanted_of}
use Rattle.seeding.specs.Seeding.{FindsContent, FindsLeaves, IsSmallFile, LooksAhead, LooksByTree, LooksInto, OpensToSeed, SeedsFile, StopsAtFile}
use Rattle.seeding.specs.Seeding.{shelf_and_session}
use Rattle.session.specs.Session.{SessionSeen}

-- how many faults looking had
abbrev faults_of : Answer → ℕ
faults_of unasked = 0
faults_of missing = 0
faults_of failed = 1
faults_of (content bytes) = 0

-- a content of this length is there
abbrev IsOfLength : ℕ → Answer → Type 0
IsOfLength len unasked = ⊥
IsOfLength len missing = ⊥
IsOfLength len failed = ⊥
IsOfLength len (content bytes) = length bytes ≡ len

module _ {S F : Type 0} (shelf : Ghosts S F) (seen : F → SourceSeen) (f : FileEntry) (s s' : S) where
  -- its path was looked at, if it is not empty
  abbrev pub LooksFor : Option ℕ → Answer → Type 0
  LooksFor tree a = Looks shelf seen (IsReadUpTo f.length) (wanted_of f tree) s a s'

  abbrev LooksThere : Answer → Type 0
  LooksThere a = Looks shelf seen (IsReadUpTo f.length) (Some (record { path = f.path; most = f.length })) s a s'

  -- what is known of its path
  abbrev Known : Option (Option (List ℕ))
  Known = (shelf.contents s).under f.path

  read_so : (bytes : List ℕ) (fits : Bool) (old new : SourceSeen) → IsReadUpTo f.length bytes old new → (fits ≡ true → length bytes ≡ f.length)
      → IsReadToSeed f.length fits old new
  read_so bytes true old new read long = let is = long refl in omega (arith, read, is)
  read_so bytes false old new read long = omega (arith, read)

  failed_so : (fits : Bool) (old new : SourceSeen) → IsReadWithin f.length old new → (fits ≡ true → ⊥) → IsReadToSeed f.length fits old new
  failed_so true old new early long = absurd (long refl)
  failed_so false old new early long = omega (arith, early)

  -- it was opened once, and read so far
  opens : (a : Answer) (fits : Bool) → LooksThere a → (fits ≡ true → IsOfLength f.length a) → OpensToSeed shelf seen s f.path f.length fits s'
  opens unasked fits looks long = absurd looks
  opens missing fits looks long = record { answer = Ok None; opened = looks.opened }
  opens failed fits looks long = elim looks.failed [
    | inl opening ↦ record { answer = Err opening.0; opened = opening.1 }
    | inr reading ↦ record {
      answer = Ok (Some reading.0);
      opened = handed_as shelf seen (FailsReading f.length) (IsReadToSeed f.length fits) s f.path reading.0 s' reading.1
          (failed_so fits (seen reading.0) (seen reading.1.read) reading.1.reading.early long);
    }
  ]
  opens (content bytes) fits looks long = record {
    answer = Ok (Some looks.file);
    opened = handed_as shelf seen (ReadsContent (IsReadUpTo f.length) bytes) (IsReadToSeed f.length fits) s f.path looks.file s' looks.handed
        (read_so bytes fits (seen looks.file) (seen looks.handed.read) looks.handed.reading.is_read long);
  }

  -- the same where it does not fit
  opens_other : (a : Answer) → LooksThere a → OpensToSeed shelf seen s f.path f.length false s'
  opens_other a looks = opens a false looks (λ is. let no : ⊥ = cc in absurd no)

  counted : (a : Answer) → LooksThere a → shelf.faults s' ≡ more (shelf.faults s) (faults_of a)
  counted unasked looks = absurd looks
  counted missing looks = looks.quiet
  counted failed looks = looks.counted
  counted (content bytes) looks = looks.quiet

  stays : (a : Answer) → LooksThere a → shelf.contents s' ≡ shelf.contents s
  stays unasked looks = absurd looks
  stays missing looks = looks.stays
  stays failed looks = looks.stays
  stays (content bytes) looks = looks.stays

  -- ---- what is found of it

  -- it was opened for these leaves, and they are those that are there
  record Finds (e : TreeEntry) (a : Answer) (leaves : Option (List (List ℕ))) : Type 0 where
    visited : OpensToSeed shelf seen s f.path f.length (is_some leaves) s'
    finds : FindsLeaves Known e leaves (faults_of a)

  finds_leaves : (e : TreeEntry) (a : Answer) (grown : Option GrownTree) → e.length ≡ f.length → LooksThere a → FindsAnswer e a (Ok grown)
      → Finds e a (option_map (λ t. t.leaves) grown)
  finds_leaves e unasked grown same looks found = absurd looks
  finds_leaves e missing (Some t) same looks found = let no : ⊥ = cc in absurd no
  finds_leaves e failed (Some t) same looks found = let no : ⊥ = cc in absurd no
  finds_leaves e missing None same looks found = record {
    visited = opens_other missing looks;
    finds = inr (refl, None, looks.agrees, λ bytes is. let no : ⊥ = cc in absurd no);
  }
  finds_leaves e failed None same looks found = record { visited = opens_other failed looks; finds = inl refl }
  finds_leaves e (content bytes) (Some t) same looks found = record {
    visited = opens (content bytes) true looks (λ is. found.0.same_length ∙ same);
    finds = (refl, bytes, looks.agrees, found.0, found.2);
  }
  finds_leaves e (content bytes) None same looks found = record {
    visited = opens_other (content bytes) looks;
    finds = inr (refl, Some bytes, looks.agrees, λ b is fits. found (subst (λ c. Fits c e.length e.root) (sym (same_Some bytes b is)) fits));
  }

  pub seeds_file : (K K' : SessionSeen) (tree : Option ℕ) (a : Answer) (grown : Option GrownTree) (seeded : Bool) → LooksFor tree a
      → FindsByTree K.torrent f tree a (Ok grown) → FillsByTree K tree grown seeded K'
      → SeedsFile shelf seen (shelf_and_session s K) f tree seeded (shelf_and_session s' K')
  seeds_file K K' None a grown seeded looks found fills = (fills.0, looks.1, fills.1)
  seeds_file K K' (Some n) a grown seeded looks found fills =
      let leaves = finds_leaves found.tree a grown found.own.same looks found.finds in
      record {
        tree = found.tree;
        tree_is = found.own.there;
        found = option_map (λ t. t.leaves) grown;
        visited = leaves.visited;
        faults_in_it = faults_of a;
        counted = counted a looks;
        finds = leaves.finds;
        stays = stays a looks;
        fills = fills;
      }

  -- memory was refused for its leaves
  pub stops_file : (K K' : SessionSeen) (tree : Option ℕ) (a : Answer) (refused : AllocError) → K' ≡ K → LooksFor tree a
      → FindsByTree K.torrent f tree a (Err refused) → StopsAtFile shelf seen (shelf_and_session s K) f (shelf_and_session s' K')
  stops_file K K' None a refused kept looks found = let no : ⊥ = cc in absurd no
  stops_file K K' (Some n) unasked refused kept looks found = absurd looks
  stops_file K K' (Some n) missing refused kept looks found = let is = found.finds in let no : ⊥ = cc in absurd no
  stops_file K K' (Some n) failed refused kept looks found = let is = found.finds in let no : ⊥ = cc in absurd no
  stops_file K K' (Some n) (content bytes) refused kept looks found = record {
    number = n;
    number_is = found.own.number_is;
    tree = found.tree;
    tree_is = found.own.there;
    visited = opens (content bytes) true looks (λ is. found.finds.same_length ∙ found.own.same);
    counted = looks.quiet;
    fits = (bytes, looks.agrees, found.finds);
    stays = kept;
  }

  -- ---- what is there

  looks_into : (a : Answer) (c : Option (List ℕ)) → LooksThere a → OpensToSeed shelf seen s f.path f.length (is_some c) s'
      → FindsContent Known f.length c (faults_of a) → (there : Option (List ℕ)) × LooksInto shelf seen s f there s'
  looks_into a c looks visited finds =
      (c, record { visited = visited; faults_in_it = faults_of a; counted = counted a looks; finds = finds; stays = stays a looks })

  -- a content of the stated length, or none
  content_there : (a : Answer) → LooksThere a → (c : Option (List ℕ)) × LooksInto shelf seen s f c s'
  content_there unasked looks = absurd looks
  content_there missing looks = looks_into missing None looks (opens_other missing looks)
      (inr (refl, None, looks.agrees, λ bytes is. let no : ⊥ = cc in absurd no))
  content_there failed looks = looks_into failed None looks (opens_other failed looks) (inl refl)
  content_there (content bytes) looks = elim (cases_eq (length bytes) f.length) [
    | inl long ↦ looks_into (content bytes) (Some bytes) looks (opens (content bytes) true looks (λ is. long)) (refl, looks.agrees, long)
    | inr other ↦ looks_into (content bytes) None looks (opens_other (content bytes) looks)
        (inr (refl, Some bytes, looks.agrees, λ b is long. other (ap length (same_Some bytes b is) ∙ long)))
  ]

  pub looks_ahead : IsSmallFile f → (tree : Option ℕ) (a : Answer) → tree ≡ f.tree → LooksFor tree a → (c : Option (List ℕ)) × LooksAhead shelf seen s f c s'
  looks_ahead small None a is looks =
      (None, record { small = small; looks = subst (λ t. LooksByTree shelf seen s f t None s') is (refl, looks.1) })
  looks_ahead small (Some n) a is looks =
      let there = content_there a looks in
      (there.0, record { small = small; looks = subst (λ t. LooksByTree shelf seen s f t there.0 s') is there.1 })
