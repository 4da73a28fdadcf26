-- The version 1 list of a hybrid, entry by entry.
use Rattle.std.proofs.Common.{inl, inr, ◌≡◌, ℕ, ◌+◌, ◌<◌, ◌≤◌, Bool, true, false, ◌&&◌, if◌then◌else◌, nat_eq, List, [], ◌∷◌, length, drop, get_or, map, refl}
use Rattle.std.proofs.Common.{sym, ap, ◌∙◌, arith, Bor}
use Rattle.std.proofs.lemmas.List.{drop_more, drop_all, get_or-map, length-drop, length-map}
use Rattle.std.proofs.lemmas.Bool.Decides.{eqb_tells}
use Rattle.benc.specs.Value.{no_items, item}
use Rattle.benc.specs.View.{view, items_view}
use Rattle.benc.specs.declared.value.Value.{Value}
use Rattle.opening.specs.Description.{FileEntry}
use Rattle.opening.specs.Seen.{file_entry}
use Rattle.opening.specs.declared.torrent.File.{File}
use Rattle.filetree.specs.FileTree.{has_attribute}
use Rattle.filetree.proofs.Texts.{texts}
use Rattle.opening.specs.Matching.{is_text, are_texts, is_sized, is_entry_of, begins_with_entry, are_same}

pub items_more : (xs : List Value) (i : ℕ) (x : Value) → i < length xs → x ≡ get_or xs i x
    → items_view (drop i xs) ≡ item (view x) (items_view (drop (i + 1) xs))
items_more xs i x lt is =
    let here : drop i xs ≡ x ∷ drop (i + 1) xs = drop_more xs i x lt ∙ ap (λ y. y ∷ drop (i + 1) xs) (sym is) in
    ap items_view here

pub items_end : (xs : List Value) (i : ℕ) → length xs ≤ i → items_view (drop i xs) ≡ no_items
items_end xs i le = ap items_view (drop_all i xs le)

-- a test that holds of no elements alone
of_none : {X : Type 0} (F : List X → Bool) → F [] ≡ true → ((x : X) (xs : List X) → F (x ∷ xs) ≡ false)
    → (b : Bool) (xs : List X) → (length xs ≡ 0 → b ≡ true) → (0 < length xs → b ≡ false) → b ≡ F xs
of_none F none some b [] empty more = empty refl ∙ sym none
of_none F none some b (x ∷ xs) empty more = more (omega arith) ∙ sym (some x xs)

none_left : {X : Type 0} (F : List X → Bool) → F [] ≡ true → ((x : X) (xs : List X) → F (x ∷ xs) ≡ false)
    → (xs : List X) (j : ℕ) → j ≤ length xs → nat_eq j (length xs) ≡ F (drop j xs)
none_left F none some xs j le = elim (eqb_tells j (length xs)) [
  | inl (e, is) ↦ of_none F none some _ (drop j xs) (λ _. e) (λ more. absurd (omega (arith, length-drop j xs)))
  | inr (e, differs) ↦ of_none F none some _ (drop j xs) (λ empty. absurd (differs (omega (arith, length-drop j xs)))) (λ _. e)
]

-- ---- texts

-- one more value beside one more text
pub texts_more : (xs : List Value) (i : ℕ) (x : Value) (ts : List (Bor (List ℕ))) (j : ℕ) (d : Bor (List ℕ)) (b : Bool) → i < length xs → x ≡ get_or xs i x
    → j < length ts → b ≡ is_text (view x) (get_or ts j d).now
    → are_texts (items_view (drop i xs)) (drop j (texts ts)) ≡ b && are_texts (items_view (drop (i + 1) xs)) (drop (j + 1) (texts ts))
texts_more xs i x ts j d b lt is in_ts is_b =
    let ss = texts ts in
    let at : get_or ss j [] ≡ (get_or ts j d).now = get_or-map (λ (s : Bor (List ℕ)). s.now) ts j d [] in_ts in
    let within : j < length ss = omega (arith, length-map ts (λ (s : Bor (List ℕ)). s.now)) in
    let left : drop j ss ≡ (get_or ts j d).now ∷ drop (j + 1) ss = drop_more ss j [] within ∙ ap (λ t. t ∷ drop (j + 1) ss) at in
    ap (λ v. are_texts v (drop j ss)) (items_more xs i x lt is)
    ∙ ap (are_texts (item (view x) (items_view (drop (i + 1) xs)))) left
    ∙ ap (λ t. t && are_texts (items_view (drop (i + 1) xs)) (drop (j + 1) ss)) (sym is_b)

pub texts_yes : (xs : List Value) (i : ℕ) (x : Value) (ts : List (Bor (List ℕ))) (j : ℕ) (d : Bor (List ℕ)) (b : Bool) → i < length xs → x ≡ get_or xs i x
    → j < length ts → b ≡ is_text (view x) (get_or ts j d).now → b ≡ true
    → are_texts (items_view (drop i xs)) (drop j (texts ts)) ≡ are_texts (items_view (drop (i + 1) xs)) (drop (j + 1) (texts ts))
texts_yes xs i x ts j d b lt is in_ts is_b holds =
    texts_more xs i x ts j d b lt is in_ts is_b ∙ ap (λ t. t && are_texts (items_view (drop (i + 1) xs)) (drop (j + 1) (texts ts))) holds

pub texts_no : (xs : List Value) (i : ℕ) (x : Value) (ts : List (Bor (List ℕ))) (j : ℕ) (d : Bor (List ℕ)) (b : Bool) → i < length xs → x ≡ get_or xs i x
    → j < length ts → b ≡ is_text (view x) (get_or ts j d).now → b ≡ false
    → are_texts (items_view (drop i xs)) (drop j (texts ts)) ≡ false
texts_no xs i x ts j d b lt is in_ts is_b fails =
    texts_more xs i x ts j d b lt is in_ts is_b ∙ ap (λ t. t && are_texts (items_view (drop (i + 1) xs)) (drop (j + 1) (texts ts))) fails

-- one more value and no text
pub texts_short : (xs : List Value) (i : ℕ) (x : Value) (ts : List (Bor (List ℕ))) (j : ℕ) → i < length xs → x ≡ get_or xs i x
    → length ts ≤ j → are_texts (items_view (drop i xs)) (drop j (texts ts)) ≡ false
texts_short xs i x ts j lt is le =
    let past : length (texts ts) ≤ j = omega (arith, length-map ts (λ (s : Bor (List ℕ)). s.now)) in
    ap (λ v. are_texts v (drop j (texts ts))) (items_more xs i x lt is)
    ∙ ap (are_texts (item (view x) (items_view (drop (i + 1) xs)))) (drop_all j (texts ts) past)

pub texts_end : (xs : List Value) (i : ℕ) (ts : List (Bor (List ℕ))) (j : ℕ) → length xs ≤ i → j ≤ length ts
    → nat_eq j (length ts) ≡ are_texts (items_view (drop i xs)) (drop j (texts ts))
texts_end xs i ts j end le =
    let same : length (texts ts) ≡ length ts = length-map ts (λ (s : Bor (List ℕ)). s.now) in
    let all : nat_eq j (length (texts ts)) ≡ are_texts no_items (drop j (texts ts)) = none_left (are_texts no_items) refl (λ x ys. refl) (texts ts) j
    (omega arith) in
    ap (nat_eq j) (sym same) ∙ all ∙ ap (λ v. are_texts v (drop j (texts ts))) (sym (items_end xs i end))

-- ---- files

-- one more entry
same_more : (xs : List Value) (i : ℕ) (x : Value) (fs : List FileEntry) (sized pad : Bool) → i < length xs → x ≡ get_or xs i x
    → sized ≡ is_sized (view x) → pad ≡ has_attribute 112 (view x)
    → are_same (items_view (drop i xs)) fs
    ≡ (if sized then (if pad then are_same (items_view (drop (i + 1) xs)) fs else begins_with_entry (view x) (are_same (items_view (drop (i + 1) xs))) fs)
    else false)
same_more xs i x fs sized pad lt is is_sized is_pad =
    let rest = are_same (items_view (drop (i + 1) xs)) in
    ap (λ t. are_same t fs) (items_more xs i x lt is)
    ∙ ap (λ t. if t then (if has_attribute 112 (view x) then rest fs else begins_with_entry (view x) rest fs) else false) (sym is_sized)
    ∙ ap (λ t. if sized then (if t then rest fs else begins_with_entry (view x) rest fs) else false) (sym is_pad)

pub same_unsized : (xs : List Value) (i : ℕ) (x : Value) (fs : List FileEntry) (sized : Bool) → i < length xs → x ≡ get_or xs i x
    → sized ≡ is_sized (view x) → sized ≡ false → are_same (items_view (drop i xs)) fs ≡ false
same_unsized xs i x fs sized lt is is_sized unsized =
    let rest = are_same (items_view (drop (i + 1) xs)) in
    same_more xs i x fs sized (has_attribute 112 (view x)) lt is is_sized refl
    ∙ ap (λ t. if t then (if has_attribute 112 (view x) then rest fs else begins_with_entry (view x) rest fs) else false) unsized

pub same_pad : (xs : List Value) (i : ℕ) (x : Value) (fs : List FileEntry) (sized pad : Bool) → i < length xs → x ≡ get_or xs i x
    → sized ≡ is_sized (view x) → sized ≡ true → pad ≡ has_attribute 112 (view x) → pad ≡ true
    → are_same (items_view (drop i xs)) fs ≡ are_same (items_view (drop (i + 1) xs)) fs
same_pad xs i x fs sized pad lt is is_sized has_size is_pad padded =
    let rest = are_same (items_view (drop (i + 1) xs)) in
    same_more xs i x fs sized pad lt is is_sized is_pad
    ∙ ap (λ t. if t then (if pad then rest fs else begins_with_entry (view x) rest fs) else false) has_size
    ∙ ap (λ t. if t then rest fs else begins_with_entry (view x) rest fs) padded

-- one more file's entry
same_file : (xs : List Value) (i : ℕ) (x : Value) (fs : List FileEntry) (sized pad : Bool) → i < length xs → x ≡ get_or xs i x
    → sized ≡ is_sized (view x) → sized ≡ true → pad ≡ has_attribute 112 (view x) → pad ≡ false
    → are_same (items_view (drop i xs)) fs ≡ begins_with_entry (view x) (are_same (items_view (drop (i + 1) xs))) fs
same_file xs i x fs sized pad lt is is_sized has_size is_pad unpadded =
    let rest = are_same (items_view (drop (i + 1) xs)) in
    same_more xs i x fs sized pad lt is is_sized is_pad
    ∙ ap (λ t. if t then (if pad then rest fs else begins_with_entry (view x) rest fs) else false) has_size
    ∙ ap (λ t. if t then rest fs else begins_with_entry (view x) rest fs) unpadded

pub same_short : (xs : List Value) (i : ℕ) (x : Value) (fs : List File) (j : ℕ) (sized pad : Bool) → i < length xs → x ≡ get_or xs i x
    → sized ≡ is_sized (view x) → sized ≡ true → pad ≡ has_attribute 112 (view x) → pad ≡ false → length fs ≤ j
    → are_same (items_view (drop i xs)) (drop j (map file_entry fs)) ≡ false
same_short xs i x fs j sized pad lt is is_sized has_size is_pad unpadded le =
    let past : length (map file_entry fs) ≤ j = omega (arith, length-map fs file_entry) in
    same_file xs i x (drop j (map file_entry fs)) sized pad lt is is_sized has_size is_pad unpadded
    ∙ ap (begins_with_entry (view x) (are_same (items_view (drop (i + 1) xs)))) (drop_all j (map file_entry fs) past)

same_next : (xs : List Value) (i : ℕ) (x : Value) (fs : List File) (j : ℕ) (f : File) (sized pad b : Bool) → i < length xs → x ≡ get_or xs i x
    → sized ≡ is_sized (view x) → sized ≡ true → pad ≡ has_attribute 112 (view x) → pad ≡ false → j < length fs → f ≡ get_or fs j f
    → b ≡ is_entry_of (view x) (file_entry f)
    → are_same (items_view (drop i xs)) (drop j (map file_entry fs))
    ≡ b && are_same (items_view (drop (i + 1) xs)) (drop (j + 1) (map file_entry fs))
same_next xs i x fs j f sized pad b lt is is_sized has_size is_pad unpadded in_fs is_f is_b =
    let es = map file_entry fs in
    let rest = are_same (items_view (drop (i + 1) xs)) in
    let at : get_or es j (file_entry f) ≡ file_entry f = get_or-map file_entry fs j f (file_entry f) in_fs ∙ ap file_entry (sym is_f) in
    let within : j < length es = omega (arith, length-map fs file_entry) in
    let left : drop j es ≡ file_entry f ∷ drop (j + 1) es = drop_more es j (file_entry f) within ∙ ap (λ t. t ∷ drop (j + 1) es) at in
    same_file xs i x (drop j es) sized pad lt is is_sized has_size is_pad unpadded
    ∙ ap (begins_with_entry (view x) rest) left
    ∙ ap (λ t. t && rest (drop (j + 1) es)) (sym is_b)

pub same_holds : (xs : List Value) (i : ℕ) (x : Value) (fs : List File) (j : ℕ) (f : File) (sized pad b : Bool) → i < length xs → x ≡ get_or xs i x
    → sized ≡ is_sized (view x) → sized ≡ true → pad ≡ has_attribute 112 (view x) → pad ≡ false → j < length fs → f ≡ get_or fs j f
    → b ≡ is_entry_of (view x) (file_entry f) → b ≡ true
    → are_same (items_view (drop i xs)) (drop j (map file_entry fs)) ≡ are_same (items_view (drop (i + 1) xs)) (drop (j + 1) (map file_entry fs))
same_holds xs i x fs j f sized pad b lt is is_sized has_size is_pad unpadded in_fs is_f is_b holds =
    same_next xs i x fs j f sized pad b lt is is_sized has_size is_pad unpadded in_fs is_f is_b
    ∙ ap (λ t. t && are_same (items_view (drop (i + 1) xs)) (drop (j + 1) (map file_entry fs))) holds

pub same_fails : (xs : List Value) (i : ℕ) (x : Value) (fs : List File) (j : ℕ) (f : File) (sized pad b : Bool) → i < length xs → x ≡ get_or xs i x
    → sized ≡ is_sized (view x) → sized ≡ true → pad ≡ has_attribute 112 (view x) → pad ≡ false → j < length fs → f ≡ get_or fs j f
    → b ≡ is_entry_of (view x) (file_entry f) → b ≡ false
    → are_same (items_view (drop i xs)) (drop j (map file_entry fs)) ≡ false
same_fails xs i x fs j f sized pad b lt is is_sized has_size is_pad unpadded in_fs is_f is_b fails =
    same_next xs i x fs j f sized pad b lt is is_sized has_size is_pad unpadded in_fs is_f is_b
    ∙ ap (λ t. t && are_same (items_view (drop (i + 1) xs)) (drop (j + 1) (map file_entry fs))) fails

pub same_end : (xs : List Value) (i : ℕ) (fs : List File) (j : ℕ) → length xs ≤ i → j ≤ length fs
    → nat_eq j (length fs) ≡ are_same (items_view (drop i xs)) (drop j (map file_entry fs))
same_end xs i fs j end le =
    let same : length (map file_entry fs) ≡ length fs = length-map fs file_entry in
    let all : nat_eq j (length (map file_entry fs)) ≡ are_same no_items (drop j (map file_entry fs)) = none_left (are_same no_items) refl (λ x ys. refl)
    (map file_entry fs) j (omega arith) in
    ap (nat_eq j) (sym same) ∙ all ∙ ap (λ v. are_same v (drop j (map file_entry fs))) (sym (items_end xs i end))
