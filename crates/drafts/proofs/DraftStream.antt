-- No test of the version 1 part holds for a hybrid draft's value, and that part is the draft's.
use Rattle.std.proofs.Common.{◌≡◌, ℕ, ◌<◌, ◌≤◌, ◌^◌, Bool, true, false, if◌then◌else◌, List, [], ◌∷◌}
use Rattle.std.proofs.Common.{length, map, Option, Some, None, pos, slice_get, inl, inr, refl, sym, ap, subst, ◌∙◌, arith, ◌⊎◌}
use Rattle.std.specs.List.{concat}
use Rattle.std.specs.Prelude.{codes, nat_lt, nat_le, is_some, option_and_then, unwrap_or, IsTrue}
use Rattle.std.specs.Str.{bytes_eq}
use Rattle.benc.specs.Value.{Bencode, int, text, list, Pairs, no_pairs, pair}
use Rattle.drafts.proofs.Accepted.{pieces_there}
use Rattle.drafts.proofs.DraftLayers.{digests_again}
use Rattle.drafts.proofs.Tidy.{legal_some}
use Rattle.drafts.specs.Outline.{IsOutline, Outline, OutlineFile, listed_file}
use Rattle.drafts.specs.Written.{digests_of, entries_value, first_length, gap, info_value, is_single}
use Rattle.drafts.specs.Written.{last_pairs, list_pair, needs_pad, stream_of}
use Rattle.filetree.proofs.Bytes.{true_or_false, same_bytes}
use Rattle.filetree.specs.Dictionary.{get, under, as_list}
use Rattle.filetree.specs.FileTree.{as_length}
use Rattle.filetree.specs.Tests.{NoneHolds}
use Rattle.opening.specs.PieceLayers.{as_digests}
use Rattle.opening.specs.Refusals.{hybrid_rows}
use Rattle.opening.specs.Stream.{DiffersFromFiles, IsMisplaced, IsTooLong, Part, cuts_in, is_hybrid}
use Rattle.opening.specs.Stream.{parts_in, parts_of, stream_length, the_parts, version1_of}
use Rattle.pieces.specs.Pieces.{pieces_of}
use Rattle.drafts.proofs.DraftParts.{draft_parts, parts_are, unbroken, files_are, aligned_at, no_right, stream_is, stream_within}
use Rattle.drafts.proofs.DraftDigests.{digests_length, digests_count}

either_none : (key : List ℕ) (b : Bool) (ps qs : Pairs) → under key ps ≡ None → under key qs ≡ None → under key (if b then ps else qs) ≡ None
either_none key true ps qs e f = e
either_none key false ps qs e f = f

hybrid_list : (d : Outline) → d.hybrid ≡ true → (key : List ℕ) → bytes_eq (codes "file tree") key ≡ false
    → get key (info_value d) ≡ under key (list_pair d (last_pairs d))
hybrid_list d hybrid key other = rw other (ap (λ b. under key (if b then list_pair d (last_pairs d) else last_pairs d)) hybrid)

single_file : (d : Outline) → is_single d.name d.files ≡ true → (f : OutlineFile) × (d.files ≡ f ∷ []) × (f.path ≡ d.name ∷ [])
single_file d e = go d.name d.files e
  where
    named_so : (name : List ℕ) (f : OutlineFile) (path : List (List ℕ)) → f.path ≡ path → is_single name (f ∷ []) ≡ true → path ≡ name ∷ []
    named_so name f [] is e = let bad : false ≡ true = rw is at e in cc
    named_so name f (k ∷ []) is e = let same : bytes_eq k name ≡ true = rw is at e in ap (λ x. x ∷ []) (same_bytes k name same)
    named_so name f (k ∷ (l ∷ ls)) is e = let bad : false ≡ true = rw is at e in cc

    go : (name : List ℕ) (fs : List OutlineFile) → is_single name fs ≡ true → (f : OutlineFile) × (fs ≡ f ∷ []) × (f.path ≡ name ∷ [])
    go name [] e = let bad : false ≡ true = e in cc
    go name (f ∷ []) e = (f, refl, named_so name f f.path refl e)
    go name (f ∷ (g ∷ fs)) e = let bad : false ≡ true = e in cc

no_length_behind : (d : Outline) → under (codes "length") (last_pairs d) ≡ None
no_length_behind d = either_none (codes "length") d.hybrid (pair (codes "pieces") (text (concat (digests_of d.files))) no_pairs) no_pairs refl refl

no_files_behind : (d : Outline) → under (codes "files") (last_pairs d) ≡ None
no_files_behind d = either_none (codes "files") d.hybrid (pair (codes "pieces") (text (concat (digests_of d.files))) no_pairs) no_pairs refl refl

-- the list by what stands under `length` and `files`
abbrev parts_by : List ℕ → Option Bencode → Option Bencode → Option (List Part)
parts_by name length files =
    if is_some length then (if is_some files then None else Some (record { is_pad = false; length = option_and_then as_length length; path = Some (name ∷ []) }
    ∷ []))
    else option_and_then parts_of (option_and_then as_list files)

list_either : (d : Outline) (key : List ℕ) (b : Bool) → is_single d.name d.files ≡ b
    → under key (list_pair d (last_pairs d)) ≡ under key (if b then pair (codes "length") (int (pos (first_length d.files))) (last_pairs d) else pair
    (codes "files") (list (entries_value d.piece_length d.files)) (last_pairs d))
list_either d key b e = ap (λ x. under key (if x then pair (codes "length") (int (pos (first_length d.files))) (last_pairs d) else pair (codes "files")
    (list (entries_value d.piece_length d.files)) (last_pairs d))) e

single_parts : (p : ℕ) (name : List ℕ) (f : OutlineFile) → f.length ≤ 2 ^ 46 → f.path ≡ name ∷ []
    → parts_by name (Some (int (pos f.length))) None ≡ Some (draft_parts p (f ∷ []))
single_parts p name f bound path =
    let e : nat_le f.length (2 ^ 46) ≡ true = grind arith in
    let size : option_and_then as_length (Some (int (pos f.length))) ≡ Some f.length = rw e refl in
    let none : needs_pad p f [] ≡ false = no_right (nat_lt 0 (gap p f.length)) false refl in
    rw none (ap (λ (s : Option ℕ). Some (record { is_pad = false; length = s; path = Some (name ∷ []) } ∷ [])) size
    ∙ ap (λ (x : List (List ℕ)). Some (record { is_pad = false; length = Some f.length; path = Some x } ∷ [])) (sym path))

pub parts_in_info : (d : Outline) → IsOutline d → d.hybrid ≡ true → parts_in (info_value d) d.name ≡ Some (draft_parts d.piece_length d.files)
parts_in_info d o hybrid =
    elim (true_or_false (is_single d.name d.files)) [
      | inl single ↦
          let file = single_file d single in
          let there : get (codes "length") (info_value d) ≡ Some (int (pos file.0.length)) =
          hybrid_list d hybrid (codes "length") refl ∙ list_either d (codes "length") true single ∙ ap (λ fs. Some (int (pos (first_length fs)))) file.1 in
          let none : get (codes "files") (info_value d) ≡ None = hybrid_list d hybrid (codes "files") refl ∙ list_either d (codes "files") true single
          ∙ no_files_behind d in
          let first : slice_get d.files 0 ≡ Some file.0 = ap (λ fs. slice_get fs 0) file.1 in
          let bound : file.0.length ≤ 2 ^ 46 = (o.files 0 file.0 first).bound in
          ap (λ x. parts_by d.name x (get (codes "files") (info_value d))) there ∙ ap (λ x. parts_by d.name (Some (int (pos file.0.length))) x) none
          ∙ single_parts d.piece_length d.name file.0 bound file.2 ∙ ap (λ fs. Some (draft_parts d.piece_length fs)) (sym file.1)
      | inr many ↦
          let none : get (codes "length") (info_value d) ≡ None = hybrid_list d hybrid (codes "length") refl ∙ list_either d (codes "length") false many
          ∙ no_length_behind d in
          let there : get (codes "files") (info_value d) ≡ Some (list (entries_value d.piece_length d.files)) = hybrid_list d hybrid (codes "files") refl
          ∙ list_either d (codes "files") false many in
          ap (λ x. parts_by d.name x (get (codes "files") (info_value d))) none ∙ ap (λ x. parts_by d.name None x) there
          ∙ parts_are d.piece_length d.files o.legal o.files
    ]

-- ---- the tests, and the version 1 part

pieces_if : (d : Outline) (b : Bool) → d.hybrid ≡ b → get (codes "pieces") (info_value d) ≡ (if b then Some (text (concat (digests_of d.files))) else None)
pieces_if d b e = pieces_there d ∙ ap (λ x. under (codes "pieces") (if x then pair (codes "pieces") (text (concat (digests_of d.files))) no_pairs else
    no_pairs)) e ∙ known b
  where
    known : (b : Bool) → under (codes "pieces") (if b then pair (codes "pieces") (text (concat (digests_of d.files))) no_pairs else no_pairs)
        ≡ (if b then Some (text (concat (digests_of d.files))) else None)
    known true = refl
    known false = refl

pub hybrid_is : (d : Outline) (b : Bool) → d.hybrid ≡ b → is_hybrid (info_value d) ≡ b
hybrid_is d true e = ap is_some (pieces_if d true e)
hybrid_is d false e = ap is_some (pieces_if d false e)

pub cuts_are : (d : Outline) → IsOutline d → d.hybrid ≡ true → cuts_in d.piece_length (draft_parts d.piece_length d.files) (info_value d) ≡ Some
    (digests_of d.files)
cuts_are d o hybrid =
    let legal = (legal_some d.piece_length o.legal).0 in
    let count : length (digests_of d.files) ≡ pieces_of d.piece_length (stream_length (draft_parts d.piece_length d.files)) =
    digests_count d.piece_length d.files legal (λ n f at some. o.cuts n f at hybrid some)
    ∙ ap (pieces_of d.piece_length) (sym (stream_is d.piece_length d.files legal)) in
    ap (option_and_then (as_digests 20 (pieces_of d.piece_length (stream_length (draft_parts d.piece_length d.files))))) (pieces_if d true hybrid)
    ∙ digests_again 20 (pieces_of d.piece_length (stream_length (draft_parts d.piece_length d.files))) (digests_of d.files)
    (digests_length d.piece_length d.files o.files) count

same_files : (p : ℕ) (fs : List OutlineFile) → DiffersFromFiles (map listed_file fs) (Some (draft_parts p fs)) → ⊥
same_files p fs differs = elim differs [ inl broken ↦ (let bad : false ≡ true = sym (unbroken p fs) ∙ broken in cc) | inr other ↦ other (files_are p fs) ]

well_placed : (p : ℕ) (fs : List OutlineFile) → 0 < p → IsMisplaced p (draft_parts p fs) → ⊥
well_placed p fs legal m = m.elsewhere (aligned_at p fs m.number m.part legal m.there m.no_pad m.some)

not_too_long : (p : ℕ) (fs : List OutlineFile) → 0 < p → IsTooLong p (draft_parts p fs) → ⊥
not_too_long p fs legal long = let total = stream_is p fs legal in let within = stream_within p fs legal in omega (arith, long, total, within)

hybrid_rows_none : (d : Outline) → IsOutline d → d.hybrid ≡ true → NoneHolds (hybrid_rows d.piece_length (info_value d) d.name (map listed_file d.files))
hybrid_rows_none d o hybrid =
    let parts = parts_in_info d o hybrid in
    let legal = (legal_some d.piece_length o.legal).0 in (
      (λ h. same_files d.piece_length d.files (subst (λ x. DiffersFromFiles (map listed_file d.files) x) parts h.1)),
      (
        (λ h. elim (subst (λ x. IsMisplaced d.piece_length (the_parts x) ⊎ IsTooLong d.piece_length (the_parts x)) parts h.1) [
          | inl misplaced ↦ well_placed d.piece_length d.files legal misplaced
          | inr long ↦ not_too_long d.piece_length d.files legal long
        ]),
        (
          (λ h. let none : cuts_in d.piece_length (draft_parts d.piece_length d.files) (info_value d) ≡ None =
              subst (λ x. cuts_in d.piece_length (the_parts x) (info_value d) ≡ None) parts h.1 in
              let some = cuts_are d o hybrid in let bad : Some (digests_of d.files) ≡ None = sym some ∙ none in cc),
          tt,
        ),
      ),
    )

plain_rows_none : (d : Outline) → d.hybrid ≡ false → NoneHolds (hybrid_rows d.piece_length (info_value d) d.name (map listed_file d.files))
plain_rows_none d plain =
    let never : IsTrue (is_hybrid (info_value d)) → ⊥ = λ h. let bad : true ≡ false = sym h ∙ hybrid_is d false plain in cc in
    ((λ h. never h.0), ((λ h. never h.0), ((λ h. never h.0), tt)))

pub hybrid_none : (d : Outline) → IsOutline d → NoneHolds (hybrid_rows d.piece_length (info_value d) d.name (map listed_file d.files))
hybrid_none d o = elim (true_or_false d.hybrid) [ inl hybrid ↦ hybrid_rows_none d o hybrid | inr plain ↦ plain_rows_none d plain ]

pub version1_is : (d : Outline) → IsOutline d → d.hybrid ≡ true
    → version1_of d.piece_length (the_parts (parts_in (info_value d) d.name)) (info_value d) ≡ record {
      pieces = digests_of d.files;
      total =
          stream_of d.piece_length d.files;
    }
version1_is d o hybrid =
    let legal = (legal_some d.piece_length o.legal).0 in
    ap (λ x. version1_of d.piece_length (the_parts x) (info_value d)) (parts_in_info d o hybrid)
    ∙ ap (λ (x : Option (List (List ℕ))). record { pieces = unwrap_or x []; total = stream_length (draft_parts d.piece_length d.files) }) (cuts_are d o hybrid)
    ∙ ap (λ (n : ℕ). record { pieces = digests_of d.files; total = n }) (stream_is d.piece_length d.files legal)

same_if : {A : Type 0} (a b : Bool) (x y : A) → a ≡ b → (b ≡ true → x ≡ y) → (if a then Some x else None) ≡ (if b then Some y else None)
same_if a true x y e same = ap (λ c. if c then Some x else None) e ∙ ap Some (same refl)
same_if a false x y e same = ap (λ c. if c then Some x else None) e

pub v1_is : (d : Outline) → IsOutline d → (if d.hybrid then Some (record { pieces = digests_of d.files; total = stream_of d.piece_length d.files }) else None)
    ≡ (if is_hybrid (info_value d) then Some (version1_of d.piece_length (the_parts (parts_in (info_value d) d.name)) (info_value d)) else None)
v1_is d o =
    let same : is_hybrid (info_value d) ≡ d.hybrid = hybrid_is d d.hybrid refl in
    same_if d.hybrid (is_hybrid (info_value d)) (record { pieces = digests_of d.files; total = stream_of d.piece_length d.files })
    (version1_of d.piece_length (the_parts (parts_in (info_value d) d.name)) (info_value d)) (sym same) (λ h. sym (version1_is d o (sym same ∙ h)))
