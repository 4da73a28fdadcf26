-- Reading the version 1 list of a hybrid entry by entry is reading it whole.
use Rattle.std.proofs.Common.{inl, inr, ◌≡◌, ℕ, Bool, true, false, not, cond, ◌&&◌, ◌||◌, if◌then◌else◌, nat_eq, is_some, is_none, List, [], ◌∷◌, map, filter}
use Rattle.std.proofs.Common.{Option, Some, None, option_and_then, unwrap_or, refl, sym, ap, ◌∙◌, arith, codes}
use Rattle.std.specs.List.{list_any}
use Rattle.std.specs.Str.{bytes_eq}
use Rattle.std.proofs.lemmas.Slice.Eq.{bytes_eq-Decides}
use Rattle.std.proofs.lemmas.Bool.{eqb-true, and_from, and_cases, and_parts, or_parts}
use Rattle.benc.specs.Value.{Bencode, int, text, list, dict, Items, no_items, item}
use Rattle.opening.specs.Description.{FileEntry}
use Rattle.filetree.specs.Dictionary.{get, as_text}
use Rattle.filetree.specs.FileTree.{has_attribute, is_dict, length_at}
use Rattle.opening.specs.Matching.{is_text, are_texts, is_path_value, is_length, is_entry_of, is_sized, begins_with_entry, are_same, named_entry}
use Rattle.opening.specs.Stream.{Part, Named, texts_in, some_texts, as_path, entry_part, parts_of, is_broken, named_part, files_in}

-- ---- tests that hold of both

-- ---- paths

text_is : (v : Bencode) (s : List ℕ) → is_text v s ≡ true → as_text v ≡ Some s
text_is (int z) s e = let bad : ⊥ = cc in absurd bad
text_is (text b) s e = ap Some ((bytes_eq-Decides b s).0 e)
text_is (list vs) s e = let bad : ⊥ = cc in absurd bad
text_is (dict ps) s e = let bad : ⊥ = cc in absurd bad

texts_are : (vs : Items) (ss : List (List ℕ)) → are_texts vs ss ≡ true → texts_in vs ≡ Some ss
texts_are no_items [] e = refl
texts_are no_items (s ∷ ss) e = let bad : ⊥ = cc in absurd bad
texts_are (item v vs) [] e = let bad : ⊥ = cc in absurd bad
texts_are (item v vs) (s ∷ ss) e =
    let both = and_parts (is_text v s) (are_texts vs ss) e in
    ap (λ o. option_and_then (λ (t : List ℕ). option_and_then (λ (ts : List (List ℕ)). Some (t ∷ ts)) (texts_in vs)) o) (text_is v s both.0)
    ∙ ap (λ o. option_and_then (λ (ts : List (List ℕ)). Some (s ∷ ts)) o) (texts_are vs ss both.1)

cons_back : (b : List ℕ) (o : Option (List (List ℕ))) (ss : List (List ℕ)) → option_and_then (λ (ts : List (List ℕ)). Some (b ∷ ts)) o ≡ Some ss
    → (ts : List (List ℕ)) × (o ≡ Some ts) × (ss ≡ b ∷ ts)
cons_back b None ss e = let bad : ⊥ = cc in absurd bad
cons_back b (Some ts) ss e = let same : ss ≡ b ∷ ts = cc in (ts, refl, same)

texts_back : (vs : Items) (ss : List (List ℕ)) → texts_in vs ≡ Some ss → are_texts vs ss ≡ true
texts_back no_items [] e = refl
texts_back no_items (s ∷ ss) e = let bad : ⊥ = cc in absurd bad
texts_back (item (int z) vs) ss e = let bad : ⊥ = cc in absurd bad
texts_back (item (text b) vs) ss e =
    let back = cons_back b (texts_in vs) ss e in
    ap (are_texts (item (text b) vs)) back.2 ∙ and_from (bytes_eq b b) (are_texts vs back.0) ((bytes_eq-Decides b b).1 refl) (texts_back vs back.0 back.1)
texts_back (item (list xs) vs) ss e = let bad : ⊥ = cc in absurd bad
texts_back (item (dict ps) vs) ss e = let bad : ⊥ = cc in absurd bad

path_is : (path : List (List ℕ)) (o : Option Bencode) → is_path_value path o ≡ true → option_and_then as_path o ≡ Some path
path_is [] o e = let bad : ⊥ = cc in absurd bad
path_is (s ∷ ss) None e = let bad : ⊥ = cc in absurd bad
path_is (s ∷ ss) (Some (int z)) e = let bad : ⊥ = cc in absurd bad
path_is (s ∷ ss) (Some (text b)) e = let bad : ⊥ = cc in absurd bad
path_is (s ∷ ss) (Some (list vs)) e = ap (option_and_then some_texts) (texts_are vs (s ∷ ss) e)
path_is (s ∷ ss) (Some (dict ps)) e = let bad : ⊥ = cc in absurd bad

some_back : (o : Option (List (List ℕ))) (path : List (List ℕ)) → option_and_then some_texts o ≡ Some path
    → (s : List ℕ) × (ss : List (List ℕ)) × (o ≡ Some (s ∷ ss)) × (path ≡ s ∷ ss)
some_back None path e = let bad : ⊥ = cc in absurd bad
some_back (Some []) path e = let bad : ⊥ = cc in absurd bad
some_back (Some (s ∷ ss)) path e = let same : path ≡ s ∷ ss = cc in (s, ss, refl, same)

path_back : (path : List (List ℕ)) (o : Option Bencode) → option_and_then as_path o ≡ Some path → is_path_value path o ≡ true
path_back path None e = let bad : ⊥ = cc in absurd bad
path_back path (Some (int z)) e = let bad : ⊥ = cc in absurd bad
path_back path (Some (text b)) e = let bad : ⊥ = cc in absurd bad
path_back path (Some (list vs)) e =
    let back = some_back (texts_in vs) path e in
    ap (λ p. is_path_value p (Some (list vs))) back.3 ∙ texts_back vs (back.0 ∷ back.1) back.2
path_back path (Some (dict ps)) e = let bad : ⊥ = cc in absurd bad

pub length_is : (n : ℕ) (o : Option ℕ) → is_length n o ≡ true → o ≡ Some n
length_is n None e = let bad : ⊥ = cc in absurd bad
length_is n (Some m) e = ap Some (eqb-true m n e)

pub length_back : (n : ℕ) (o : Option ℕ) → o ≡ Some n → is_length n o ≡ true
length_back n None e = let bad : ⊥ = cc in absurd bad
length_back n (Some m) e = let same : m ≡ n = cc in ap (λ k. nat_eq k n) same ∙ grind arith

-- ---- entries

entry_is : (v : Bencode) (f : FileEntry) → is_entry_of v f ≡ true → (length_at v ≡ Some f.length) × ((entry_part v).path ≡ Some f.path)
entry_is v f e =
    let both = and_parts (is_length f.length (length_at v)) (is_path_value f.path (get (codes "path") v)) e in
    (length_is f.length (length_at v) both.0, path_is f.path (get (codes "path") v) both.1)

entry_back : (v : Bencode) (f : FileEntry) → length_at v ≡ Some f.length → (entry_part v).path ≡ Some f.path → is_entry_of v f ≡ true
entry_back v f size path =
    and_from (is_length f.length (length_at v)) (is_path_value f.path (get (codes "path") v))
    (length_back f.length (length_at v) size) (path_back f.path (get (codes "path") v) path)

-- the list behind its first entry
parts_more : (v : Bencode) (vs : Items) (ps : List Part) → is_dict v ≡ true → parts_of vs ≡ Some ps → parts_of (item v vs) ≡ Some (entry_part v ∷ ps)
parts_more v vs ps is e =
    ap (λ t. if t then option_and_then (λ (qs : List Part). Some (entry_part v ∷ qs)) (parts_of vs) else None) is
    ∙ ap (option_and_then (λ (qs : List Part). Some (entry_part v ∷ qs))) e

-- a list that begins with an entry
pub record BeginsWithPart (v : Bencode) (vs : Items) (ps : List Part) : Type 0 where
  pub rest : List Part
  pub is_dictionary : is_dict v ≡ true
  pub behind : parts_of vs ≡ Some rest
  pub parts : ps ≡ entry_part v ∷ rest

part_back : (v : Bencode) (vs : Items) (b : Bool) (o : Option (List Part)) (ps : List Part) → is_dict v ≡ b → parts_of vs ≡ o
    → (if b then option_and_then (λ (qs : List Part). Some (entry_part v ∷ qs)) o else None) ≡ Some ps → BeginsWithPart v vs ps
part_back v vs false o ps is at e = let bad : ⊥ = cc in absurd bad
part_back v vs true None ps is at e = let bad : ⊥ = cc in absurd bad
part_back v vs true (Some qs) ps is at e = let same : ps ≡ entry_part v ∷ qs = cc in record { rest = qs; is_dictionary = is; behind = at; parts = same }

pub parts_back : (v : Bencode) (vs : Items) (ps : List Part) → parts_of (item v vs) ≡ Some ps → BeginsWithPart v vs ps
parts_back v vs ps e = part_back v vs (is_dict v) (parts_of vs) ps refl refl e

pub files_pad : (p : Part) (ps : List Part) → p.is_pad ≡ true → files_in (p ∷ ps) ≡ files_in ps
files_pad p ps pad = ap (λ t. map named_part (cond (not t) (p ∷ filter (λ (q : Part). not q.is_pad) ps) (filter (λ (q : Part). not q.is_pad) ps))) pad

pub files_file : (p : Part) (ps : List Part) → p.is_pad ≡ false → files_in (p ∷ ps) ≡ named_part p ∷ files_in ps
files_file p ps file = ap (λ t. map named_part (cond (not t) (p ∷ filter (λ (q : Part). not q.is_pad) ps) (filter (λ (q : Part). not q.is_pad) ps))) file

is_none_at : (o : Option ℕ) → is_some o ≡ true → is_none o ≡ false
is_none_at None e = let bad : ⊥ = cc in absurd bad
is_none_at (Some n) e = refl

-- ---- the list that is the file tree's

-- the entries are the parts of a list that is not broken, and whose files are these
pub record AreParts (vs : Items) (fs : List FileEntry) : Type 0 where
  pub parts : List Part
  pub listed : parts_of vs ≡ Some parts
  pub whole : list_any is_broken parts ≡ false
  pub same : files_in parts ≡ map named_entry fs

pad_whole : (v : Bencode) → is_sized v ≡ true → has_attribute 112 v ≡ true → is_broken (entry_part v) ≡ false
pad_whole v sized pad =
    ap (λ t. t || (not (has_attribute 112 v) && is_none (entry_part v).path)) (is_none_at (length_at v) (and_parts _ _ sized).1)
    ∙ ap (λ t. not t && is_none (entry_part v).path) pad

file_whole : (v : Bencode) (path : List (List ℕ)) → is_sized v ≡ true → has_attribute 112 v ≡ false → (entry_part v).path ≡ Some path
    → is_broken (entry_part v) ≡ false
file_whole v path sized file at =
    ap (λ t. t || (not (has_attribute 112 v) && is_none (entry_part v).path)) (is_none_at (length_at v) (and_parts _ _ sized).1)
    ∙ ap (λ t. not t && is_none (entry_part v).path) file
    ∙ ap is_none at

pad_added : (v : Bencode) (vs : Items) (fs : List FileEntry) → is_sized v ≡ true → has_attribute 112 v ≡ true → AreParts vs fs → AreParts (item v vs) fs
pad_added v vs fs sized pad h = record {
  parts = entry_part v ∷ h.parts;
  listed = parts_more v vs h.parts (and_parts _ _ sized).0 h.listed;
  whole = ap (λ t. t || list_any is_broken h.parts) (pad_whole v sized pad) ∙ h.whole;
  same = files_pad (entry_part v) h.parts pad ∙ h.same;
}

file_added : (v : Bencode) (vs : Items) (f : FileEntry) (fs : List FileEntry) → is_sized v ≡ true → has_attribute 112 v ≡ false → is_entry_of v f ≡ true
    → AreParts vs fs → AreParts (item v vs) (f ∷ fs)
file_added v vs f fs sized file is h =
    let at = entry_is v f is in
    let named : named_part (entry_part v) ≡ named_entry f =
    ap (λ (o : Option (List (List ℕ))). let r : Named = record { path = unwrap_or o []; length = unwrap_or (length_at v) 0 } in r) at.1
    ∙ ap (λ (o : Option ℕ). let r : Named = record { path = f.path; length = unwrap_or o 0 } in r) at.0 in
    record {
      parts = entry_part v ∷ h.parts;
      listed = parts_more v vs h.parts (and_parts _ _ sized).0 h.listed;
      whole = ap (λ t. t || list_any is_broken h.parts) (file_whole v f.path sized file at.1) ∙ h.whole;
      same = files_file (entry_part v) h.parts file ∙ ap (λ t. t ∷ files_in h.parts) named ∙ ap (λ t. named_entry f ∷ t) h.same;
    }

same_step : (v : Bencode) (vs : Items) (fs : List FileEntry) (sized pad : Bool) → is_sized v ≡ sized → has_attribute 112 v ≡ pad
    → (if sized then (if pad then are_same vs fs else begins_with_entry v (are_same vs) fs) else false) ≡ true
    → ((gs : List FileEntry) → are_same vs gs ≡ true → AreParts vs gs) → AreParts (item v vs) fs
same_step v vs fs false pad s p e rest = let bad : ⊥ = cc in absurd bad
same_step v vs fs true true s p e rest = pad_added v vs fs s p (rest fs e)
same_step v vs [] true false s p e rest = let bad : ⊥ = cc in absurd bad
same_step v vs (f ∷ fs) true false s p e rest =
    let both = and_parts (is_entry_of v f) (are_same vs fs) e in file_added v vs f fs s p both.0 (rest fs both.1)

pub same_parts : (vs : Items) (fs : List FileEntry) → are_same vs fs ≡ true → AreParts vs fs
same_parts no_items [] e = record { parts = []; listed = refl; whole = refl; same = refl }
same_parts no_items (f ∷ fs) e = let bad : ⊥ = cc in absurd bad
same_parts (item v vs) fs e = same_step v vs fs (is_sized v) (has_attribute 112 v) refl refl e (same_parts vs)

-- ---- the list that is another

abbrev pub AreOther : Items → List FileEntry → Type 0
AreOther vs fs = (ps : List Part) → parts_of vs ≡ Some ps → list_any is_broken ps ≡ false → files_in ps ≡ map named_entry fs → ⊥

some_length : (o : Option ℕ) → is_none o ≡ false → is_some o ≡ true
some_length None e = let bad : ⊥ = cc in absurd bad
some_length (Some n) e = refl

some_path : (o : Option (List (List ℕ))) → is_none o ≡ false → o ≡ Some (unwrap_or o [])
some_path None e = let bad : ⊥ = cc in absurd bad
some_path (Some p) e = refl

some_number : (o : Option ℕ) → is_some o ≡ true → o ≡ Some (unwrap_or o 0)
some_number None e = let bad : ⊥ = cc in absurd bad
some_number (Some p) e = refl

-- the list's first entry is that file's
head_is : (v : Bencode) (f : FileEntry) → is_sized v ≡ true → has_attribute 112 v ≡ false → is_broken (entry_part v) ≡ false
    → named_part (entry_part v) ≡ named_entry f → is_entry_of v f ≡ true
head_is v f sized file whole named =
    let parts = or_parts (is_none (length_at v)) (not (has_attribute 112 v) && is_none (entry_part v).path) whole in
    let has_path : is_none (entry_part v).path ≡ false = ap (λ t. not t && is_none (entry_part v).path) (sym file) ∙ parts.1 in
    let path : unwrap_or (entry_part v).path [] ≡ f.path = ap (λ (n : Named). n.path) named in
    let size : unwrap_or (length_at v) 0 ≡ f.length = ap (λ (n : Named). n.length) named in
    entry_back v f (some_number (length_at v) (and_parts _ _ sized).1 ∙ ap Some size) (some_path (entry_part v).path has_path ∙ ap Some path)

other_step : (v : Bencode) (vs : Items) (fs : List FileEntry) (sized pad : Bool) → is_sized v ≡ sized → has_attribute 112 v ≡ pad
    → (if sized then (if pad then are_same vs fs else begins_with_entry v (are_same vs) fs) else false) ≡ false
    → ((gs : List FileEntry) → are_same vs gs ≡ false → AreOther vs gs) → AreOther (item v vs) fs
other_step v vs fs false pad s p e rest ps listed whole same =
    let b = parts_back v vs ps listed in
    let broken : list_any is_broken (entry_part v ∷ b.rest) ≡ false = ap (list_any is_broken) (sym b.parts) ∙ whole in
    let sized : is_none (length_at v) ≡ false = (or_parts _ _ (or_parts (is_broken (entry_part v)) _ broken).0).0 in
    let bad : true ≡ false = sym (and_from _ _ b.is_dictionary (some_length (length_at v) sized)) ∙ s in
    let no_way : ⊥ = cc in no_way
other_step v vs fs true true s p e rest ps listed whole same =
    let b = parts_back v vs ps listed in
    let unbroken : list_any is_broken (entry_part v ∷ b.rest) ≡ false = ap (list_any is_broken) (sym b.parts) ∙ whole in
    rest fs e b.rest b.behind (or_parts (is_broken (entry_part v)) _ unbroken).1 (sym (files_pad (entry_part v) b.rest p) ∙ ap files_in (sym b.parts) ∙ same)
other_step v vs [] true false s p e rest ps listed whole same =
    let b = parts_back v vs ps listed in
    let none : named_part (entry_part v) ∷ files_in b.rest ≡ [] = sym (files_file (entry_part v) b.rest p) ∙ ap files_in (sym b.parts) ∙ same in
    let bad : ⊥ = cc in bad
other_step v vs (f ∷ fs) true false s p e rest ps listed whole same =
    let b = parts_back v vs ps listed in
    let unbroken : list_any is_broken (entry_part v ∷ b.rest) ≡ false = ap (list_any is_broken) (sym b.parts) ∙ whole in
    let both : named_part (entry_part v) ∷ files_in b.rest ≡ named_entry f ∷ map named_entry fs = sym (files_file (entry_part v) b.rest p)
    ∙ ap files_in (sym b.parts) ∙ same in
    let head : named_part (entry_part v) ≡ named_entry f = cc in
    let tail : files_in b.rest ≡ map named_entry fs = cc in
    elim (and_cases (is_entry_of v f) (are_same vs fs) e) [
      | inl other ↦ (let bad : true ≡ false = sym (head_is v f s p (or_parts (is_broken (entry_part v)) _ unbroken).0 head)
          ∙ other in let no_way : ⊥ = cc in no_way)
      | inr other ↦ rest fs other b.rest b.behind (or_parts (is_broken (entry_part v)) _ unbroken).1 tail
    ]

pub other_parts : (vs : Items) (fs : List FileEntry) → are_same vs fs ≡ false → AreOther vs fs
other_parts no_items [] e ps listed whole same = let bad : ⊥ = cc in bad
other_parts no_items (f ∷ fs) e ps listed whole same =
    let none : ps ≡ [] = cc in
    let bad_files : [] ≡ named_entry f ∷ map named_entry fs = ap files_in (sym none) ∙ same in
    let bad : ⊥ = cc in bad
other_parts (item v vs) fs e ps listed whole same = other_step v vs fs (is_sized v) (has_attribute 112 v) refl refl e (other_parts vs) ps listed whole same
