-- The text of a draft, by its parts.
use Rattle.std.proofs.Common.{◌≡◌, ℕ, ◌*◌, Bool, true, false, List, [], ◌∷◌, ◌++◌, get_or, length, map, pos, if◌then◌else◌, inl, inr, refl, sym, ap, ◌∙◌}
use Rattle.std.proofs.Common.{append_assoc, arith}
use Rattle.std.proofs.lemmas.List.{append-nil}
use Rattle.std.specs.Fmt.{decimal}
use Rattle.std.specs.List.{concat}
use Rattle.std.specs.Prelude.{codes, nat_lt}
use Rattle.benc.specs.Spelling.{integer, string}
use Rattle.benc.specs.Text.{items_spelling, pairs_spelling, spelling}
use Rattle.benc.specs.Value.{Bencode, int, list, Pairs, no_pairs, pair}
use Rattle.drafts.proofs.DraftLayers.{joined_length}
use Rattle.drafts.proofs.DraftDigests.{digests_in_all, digests_length}
use Rattle.drafts.proofs.Keys.{files_key, length_key, pieces_key}
use Rattle.drafts.proofs.Tidy.{legal_some}
use Rattle.drafts.specs.DraftSeen.{Entries, outline_file, outline_layers}
use Rattle.drafts.specs.Outline.{IsOutline, Outline, listed_file}
use Rattle.drafts.specs.declared.draft.DraftFile.{DraftFile}
use Rattle.drafts.specs.declared.draft.KeptRoot.{KeptRoot}
use Rattle.drafts.specs.Written.{digests_of, entries_value, first_length, is_single, last_pairs, pairs_of_layers, list_pair, pieces_pair}
use Rattle.filetree.proofs.Bytes.{true_or_false}
use Rattle.opening.specs.Trees.{pieces_in}

before : (a b rest : List ℕ) → a ++ (b ++ rest) ≡ (a ++ (b ++ [])) ++ rest
before a b rest = simp (append_assoc, append-nil)

-- ---- layers

pub layers_step : (p : ℕ) (e : List ℕ × KeptRoot) (es : Entries)
    → pairs_spelling (pairs_of_layers (outline_layers p (e ∷ es))) ≡ pairs_spelling (pairs_of_layers (outline_layers p (e ∷ [])))
    ++ pairs_spelling (pairs_of_layers (outline_layers p es))
layers_step p e es =
    elim (true_or_false (nat_lt p e.1.length)) [
      | inl long ↦ rw long (before (string e.0) (string (concat e.1.layer.items)) (pairs_spelling (pairs_of_layers (outline_layers p es))))
      | inr short ↦ rw short refl
    ]

-- ---- the version 1 part

pub pieces_text : (d : Outline) (n : ℕ) → IsOutline d → d.hybrid ≡ true → n ≡ pieces_in d.piece_length (map listed_file d.files)
    → codes "6:pieces" ++ (decimal (20 * n) ++ (codes ":" ++ concat (digests_of d.files))) ≡ pairs_spelling (pieces_pair d)
pieces_text d n o hybrid count =
    let some = legal_some d.piece_length o.legal in
    let long = joined_length 20 (digests_of d.files) (digests_length d.piece_length d.files o.files) in
    let all = digests_in_all d.piece_length d.files some.0 (λ k f at. o.cuts k f at hybrid) in
    let same : 20 * n ≡ length (concat (digests_of d.files)) = omega (arith, long, all, count) in
    rw (hybrid, pieces_key) (ap (λ m. codes "6:pieces" ++ (decimal m ++ (codes ":" ++ concat (digests_of d.files)))) same
    ∙ ap (λ t. codes "6:pieces" ++ t) (sym (append-nil (string (concat (digests_of d.files))))))

pub single_text : (d : Outline) (n : ℕ) → d.hybrid ≡ true → is_single d.name d.files ≡ true → n ≡ first_length d.files
    → codes "6:length" ++ integer (pos n) ≡ pairs_spelling (if d.hybrid then list_pair d no_pairs else no_pairs)
single_text d n hybrid single same =
    rw (hybrid, single, length_key) (ap (λ m. codes "6:length" ++ integer (pos m)) same
    ∙ ap (λ t. codes "6:length" ++ t) (sym (append-nil (integer (pos (first_length d.files))))))

pub file_list_text : (d : Outline) → d.hybrid ≡ true → is_single d.name d.files ≡ false
    → codes "5:filesl" ++ (items_spelling (entries_value d.piece_length d.files) ++ codes "e") ≡ pairs_spelling
    (if d.hybrid then list_pair d no_pairs else no_pairs)
file_list_text d hybrid many =
    rw (hybrid, many, files_key) (ap (λ t. codes "5:files" ++ t) (sym (append-nil (108 ∷ (items_spelling (entries_value d.piece_length d.files) ++ 101 ∷ [])))))

-- the list of a hybrid stands before what follows
pub list_text : (d : Outline) → pairs_spelling (if d.hybrid then list_pair d (last_pairs d) else last_pairs d)
    ≡ pairs_spelling (if d.hybrid then list_pair d no_pairs else no_pairs) ++ pairs_spelling (last_pairs d)
list_text d =
    split d.hybrid (is_single d.name d.files) (codes "length") (codes "files") (int (pos (first_length d.files))) (list (entries_value d.piece_length d.files))
    (last_pairs d)
  where
    split : (b c : Bool) (k l : List ℕ) (v w : Bencode) (rest : Pairs)
        → pairs_spelling (if b then (if c then pair k v rest else pair l w rest) else rest)
        ≡ pairs_spelling (if b then (if c then pair k v no_pairs else pair l w no_pairs) else no_pairs) ++ pairs_spelling rest
    split true true k l v w rest = before (string k) (spelling v) (pairs_spelling rest)
    split true false k l v w rest = before (string l) (spelling w) (pairs_spelling rest)
    split false c k l v w rest = refl

-- the length of the one file
pub first_is : (name : List ℕ) (fs : List DraftFile) (x : DraftFile) → is_single name (map outline_file fs) ≡ true → x ≡ get_or fs 0 x
    → x.length ≡ first_length (map outline_file fs)
first_is name [] x single e = cc
first_is name (y ∷ fs) x single e = ap (λ (f : DraftFile). f.length) e
