-- The contents that the parts' machines make together, and what is assembled of them.
use Rattle.std.proofs.Common.{◌≡◌, ◌⊎◌, inl, inr, ℕ, zero, suc, ◌+◌, ◌^◌, ◌<◌, ◌≤◌, Bool, true, false, ◌&&◌, List, [], ◌∷◌, length, slice_get}
use Rattle.std.proofs.Common.{Option, Some, None, Result, IfErr, refl, sym, ap, ◌∙◌, subst, if◌then◌else◌, arith}
use Rattle.std.specs.Prelude.{bytes_eq}
use Rattle.std.proofs.lemmas.Bool.{and_parts, cases_lt}
use Rattle.std.proofs.lemmas.Option.{none-some, same_Some}
use Rattle.std.proofs.lemmas.Slice.Eq.{bytes_eq-Decides}
use Rattle.drafts.specs.Outline.{Outline}
use Rattle.gathering.specs.Parts.{AreRows, IsPartText, IsRow, KnownPaths}
use Rattle.part_texts.specs.Divisions.{capped, hashed, span_of, total_of}
use Rattle.part_texts.specs.Listings.{Inventory, Listed}
use Rattle.part_texts.specs.Readings.{CanBeListed}
use Rattle.part_texts.specs.Texts.{listing_text}
use Rattle.pieces.specs.Pieces.{IsPieceLength}
use Rattle.assembling.specs.AllTexts.{AreAllNumbers, AreTextsOf}
use Rattle.assembling.specs.Apart.{AllTextsAssembleApart, AreSpliced, AreTextsApart, HavePathsApart}
use Rattle.assembling.specs.Assembly.{AreHeld, Assembles}
use Rattle.assembling.specs.Outcome.{BlamesNoText, IsAssembled}
use Rattle.assembling.specs.declared.fault.AssembleFault.{AssembleFault}
use Rattle.assembling.proofs.AllTexts.{all_assembled}
use Rattle.assembling.proofs.Joining.{legal_some}
use Rattle.assembling.proofs.Splicing.{is_row, is_spliced, joined_to}

-- ---- what is under a path

path_eq : List (List ℕ) → List (List ℕ) → Bool
path_eq [] [] = true
path_eq [] (y ∷ ys) = false
path_eq (x ∷ xs) [] = false
path_eq (x ∷ xs) (y ∷ ys) = bytes_eq x y && path_eq xs ys

path_is : (xs ys : List (List ℕ)) → path_eq xs ys ≡ true → xs ≡ ys
unfolding path_eq
path_is [] [] is = refl
path_is [] (y ∷ ys) is = let no : ⊥ = cc in absurd no
path_is (x ∷ xs) [] is = let no : ⊥ = cc in absurd no
path_is (x ∷ xs) (y ∷ ys) is =
    let two = and_parts (bytes_eq x y) (path_eq xs ys) is in
    ap (λ z. z ∷ xs) ((bytes_eq-Decides x y).0 two.0) ∙ ap (λ zs. y ∷ zs) (path_is xs ys two.1)

path_same : (xs : List (List ℕ)) → path_eq xs xs ≡ true
unfolding path_eq
path_same [] = refl
path_same (x ∷ xs) = ap (λ b. b && path_eq xs xs) ((bytes_eq-Decides x x).1 refl) ∙ path_same xs

look : List Listed → List (List ℕ) → KnownPaths
look [] cs path = None
look (f ∷ fs) [] path = None
look (f ∷ fs) (c ∷ cs) path = if path_eq f.path path then Some (Some c) else look fs cs path

looked : (fs : List Listed) (cs : List (List ℕ)) → HavePathsApart fs → (i : ℕ) (f : Listed) (c : List ℕ) → slice_get fs i ≡ Some f → slice_get cs i ≡ Some c
    → look fs cs f.path ≡ Some (Some c)
unfolding look
looked [] cs apart i f c at there = absurd (none-some f at)
looked (g ∷ fs) [] apart i f c at there = absurd (none-some c there)
looked (g ∷ fs) (d ∷ cs) apart zero f c at there =
    let same : path_eq g.path f.path ≡ true = ap (λ (x : Listed). path_eq g.path x.path) (sym (same_Some g f at)) ∙ path_same g.path in
    ap (λ b. (if b then Some (Some d) else look fs cs f.path)) same ∙ ap (λ x. Some (Some x)) (same_Some d c there)
looked (g ∷ fs) (d ∷ cs) apart (suc i) f c at there =
    by_test (path_eq g.path f.path) refl (looked fs cs behind i f c at there)
  where
    behind : HavePathsApart fs
    behind j k x y x_at y_at same = let e = apart (suc j) (suc k) x y x_at y_at same in omega (arith, e)

    by_test : (b : Bool) → path_eq g.path f.path ≡ b → look fs cs f.path ≡ Some (Some c) → (if b then Some (Some d) else look fs cs f.path) ≡ Some (Some c)
    by_test true is later = let e = apart 0 (suc i) g f refl at (path_is g.path f.path is) in absurd (omega (arith, e))
    by_test false is later = later

held_from : (under : KnownPaths) (fs : List Listed) (cs : List (List ℕ)) → length fs ≡ length cs
    → ((i : ℕ) (f : Listed) (c : List ℕ) → slice_get fs i ≡ Some f → slice_get cs i ≡ Some c → under f.path ≡ Some (Some c)) → AreHeld under fs cs
held_from under [] [] same each = tt
held_from under [] (c ∷ cs) same each = absurd (omega (arith, same))
held_from under (f ∷ fs) [] same each = absurd (omega (arith, same))
held_from under (f ∷ fs) (c ∷ cs) same each =
    (each 0 f c refl refl, held_from under fs cs (omega (arith, same)) (λ i g d at there. each (suc i) g d at there))

-- ---- the contents

first : List (List ℕ) → List ℕ
first [] = []
first (x ∷ xs) = x

behind_first : List (List ℕ) → List (List ℕ)
behind_first [] = []
behind_first (x ∷ xs) = xs

contents : ℕ → List Listed → (ℕ → List (List ℕ)) → List (List ℕ)
contents parts [] rows = []
contents parts (f ∷ fs) rows = joined_to parts (λ n. first (rows n)) ∷ contents parts fs (λ n. behind_first (rows n))

content_count : (parts : ℕ) (fs : List Listed) (rows : ℕ → List (List ℕ)) → length fs ≡ length (contents parts fs rows)
unfolding contents
content_count parts [] rows = refl
content_count parts (f ∷ fs) rows = ap suc (content_count parts fs (λ n. behind_first (rows n)))

module _ (own : ℕ → KnownPaths) (p total parts : ℕ) (legal : 0 < p) (any : 0 < parts) where
  -- each part read such rows of the files from one on
  abbrev AreRead : ℕ → List Listed → (ℕ → List (List ℕ)) → Type 0
  AreRead before fs rows = (n : ℕ) → n < parts → AreRows (own n) p total parts n before fs (rows n)

  parted : (before : ℕ) (f : Listed) (fs : List Listed) (n : ℕ) (xs : List (List ℕ)) → AreRows (own n) p total parts n before (f ∷ fs) xs
      → IsRow (own n) p f (span_of p total parts before f.bytes n) (first xs)
      × AreRows (own n) p total parts n (capped before (hashed f.bytes)) fs (behind_first xs)
  unfolding first behind_first
  parted before f fs n [] are = absurd are
  parted before f fs n (x ∷ xs) are = (are.0, are.1)

  splice : (fs : List Listed) (before : ℕ) (rows : ℕ → List (List ℕ)) → AreRead before fs rows
      → AreSpliced own p total parts before fs (contents parts fs rows)
  unfolding contents
  splice [] before rows are = tt
  splice (f ∷ fs) before rows are = (
    is_spliced own p total parts before f (λ n. first (rows n)) legal any (λ n lt. (parted before f fs n (rows n) (are n lt)).0),
    splice fs (capped before (hashed f.bytes)) (λ n. behind_first (rows n)) (λ n lt. (parted before f fs n (rows n) (are n lt)).1),
  )

  no_rows : (under : KnownPaths) (before n : ℕ) (xs : List (List ℕ)) → AreRows (own n) p total parts n before [] xs
      → AreRows under p total parts n before [] xs
  no_rows under before n [] are = tt
  no_rows under before n (x ∷ xs) are = absurd are

  joined_rows : (under : KnownPaths) (before : ℕ) (f : Listed) (fs : List Listed) (n : ℕ) (xs : List (List ℕ))
      → AreRows (own n) p total parts n before (f ∷ fs) xs → IsRow under p f (span_of p total parts before f.bytes n) (first xs)
      → AreRows under p total parts n (capped before (hashed f.bytes)) fs (behind_first xs) → AreRows under p total parts n before (f ∷ fs) xs
  unfolding first behind_first
  joined_rows under before f fs n [] are one more = absurd are
  joined_rows under before f fs n (x ∷ xs) are one more = (one, more)

  true_rows : (under : KnownPaths) (fs : List Listed) (before : ℕ) (rows : ℕ → List (List ℕ)) → AreRead before fs rows
      → ((i : ℕ) (f : Listed) (c : List ℕ) → slice_get fs i ≡ Some f → slice_get (contents parts fs rows) i ≡ Some c → under f.path ≡ Some (Some c))
      → (n : ℕ) → n < parts → AreRows under p total parts n before fs (rows n)
  unfolding contents
  true_rows under [] before rows are held n lt = no_rows under before n (rows n) (are n lt)
  true_rows under (f ∷ fs) before rows are held n lt =
      joined_rows under before f fs n (rows n) (are n lt)
      (is_row own p total parts before f (λ m. first (rows m)) legal any (λ m low. (parted before f fs m (rows m) (are m low)).0) under
      (held 0 f (joined_to parts (λ m. first (rows m))) refl refl) n lt)
      (true_rows under fs (capped before (hashed f.bytes)) (λ m. behind_first (rows m)) (λ m low. (parted before f fs m (rows m) (are m low)).1)
      (λ i g c at there. held (suc i) g c at there) n lt)

-- ---- the texts

module _ (own : ℕ → KnownPaths) (l : Inventory) (parts : ℕ) where
  found : (ns : List ℕ) (ts : List (List ℕ)) → AreTextsApart own l parts ns ts → (i n : ℕ) → slice_get ns i ≡ Some n
      → (t : List ℕ) × (slice_get ts i ≡ Some t) × IsPartText (own n) l n parts t
  found [] [] are i n at = absurd (none-some n at)
  found [] (t ∷ ts) are i n at = absurd are
  found (m ∷ ns) [] are i n at = absurd are
  found (m ∷ ns) (t ∷ ts) are zero n at = (t, refl, subst (λ k. IsPartText (own k) l k parts t) (same_Some m n at) are.1)
  found (m ∷ ns) (t ∷ ts) are (suc i) n at = found ns ts are.2 i n at

  build : (under : KnownPaths) (ns : List ℕ) (ts : List (List ℕ)) → AreTextsApart own l parts ns ts
      → ((i n : ℕ) (t : List ℕ) → slice_get ns i ≡ Some n → slice_get ts i ≡ Some t → n < parts → IsPartText under l n parts t)
      → AreTextsOf under l parts ns ts
  build under [] [] are each = tt
  build under [] (t ∷ ts) are each = absurd are
  build under (n ∷ ns) [] are each = absurd are
  build under (n ∷ ns) (t ∷ ts) are each =
      (are.0, each 0 n t refl refl are.0, build under ns ts are.2 (λ i m u at there. each (suc i) m u at there))

  module _ (numbers : List ℕ) (texts : List (List ℕ)) (all : AreAllNumbers parts numbers) (are : AreTextsApart own l parts numbers texts) where
    -- what each part read
    abbrev text_of : (n : ℕ) (lt : n < parts) → (t : List ℕ) × (slice_get texts (all.all n lt).0 ≡ Some t) × IsPartText (own n) l n parts t
    text_of n lt = let at = all.all n lt in found numbers texts are at.0 n at.1

    chosen : (n : ℕ) → (n < parts) ⊎ (parts ≤ n) → List (List ℕ)
    chosen n (inl lt) = (text_of n lt).2.rows
    chosen n (inr le) = []

    chosen_are : (n : ℕ) (which : (n < parts) ⊎ (parts ≤ n)) → n < parts
        → AreRows (own n) l.piece_length (total_of l.files) parts n 0 l.files (chosen n which)
    unfolding chosen
    chosen_are n (inl lt) low = (text_of n lt).2.are
    chosen_are n (inr le) low = absurd (omega (arith, le, low))

    rows : ℕ → List (List ℕ)
    rows n = chosen n (cases_lt n parts)

    rows_are : (n : ℕ) → n < parts → AreRows (own n) l.piece_length (total_of l.files) parts n 0 l.files (rows n)
    unfolding rows
    rows_are n lt = chosen_are n (cases_lt n parts) lt

    text_by : (under : KnownPaths) (i n : ℕ) (t : List ℕ) → slice_get numbers i ≡ Some n → slice_get texts i ≡ Some t → n < parts
        → (which : (n < parts) ⊎ (parts ≤ n)) → AreRows under l.piece_length (total_of l.files) parts n 0 l.files (chosen n which)
        → IsPartText under l n parts t
    unfolding chosen
    text_by under i n t at there low (inl lt) is =
        let own_at = all.all n lt in
        let one = text_of n lt in
        let place : i ≡ own_at.0 = all.apart i own_at.0 n at own_at.1 in
        let same : one.0 ≡ t = same_Some one.0 t (sym one.1 ∙ ap (slice_get texts) (sym place) ∙ there) in
        subst (IsPartText under l n parts) same (record { rows = one.2.rows; are = is; text_is = one.2.text_is })
    text_by under i n t at there low (inr le) is = absurd (omega (arith, le, low))

    assembled : (result : Result Outline AssembleFault) → CanBeListed l → length (listing_text l) < 2 ^ 64 → parts < 2 ^ 64 → IsPieceLength l.piece_length
        → HavePathsApart l.files → IsAssembled texts result
        → (cs : List (List ℕ)) × AreSpliced own l.piece_length (total_of l.files) parts 0 l.files cs × Assembles l cs result × IfErr result BlamesNoText
    unfolding rows
    assembled result can short few legal apart done =
        let some = legal_some l.piece_length legal in
        let cs = contents parts l.files rows in
        let under = look l.files cs in
        let looks = looked l.files cs apart in
        let read = true_rows own l.piece_length (total_of l.files) parts some all.some under l.files 0 rows rows_are looks in
        let made = all_assembled under l cs parts numbers texts result can short few (held_from under l.files cs (content_count parts l.files rows) looks) all
        (build under numbers texts are (λ i n t at there low. text_by under i n t at there low (cases_lt n parts) (read n low))) done in
        (cs, splice own l.piece_length (total_of l.files) parts some all.some l.files 0 rows rows_are, made.0, made.1)

pub all_apart : AllTextsAssembleApart
all_apart own l parts numbers texts result can short few legal apart all are done =
    assembled own l parts numbers texts all are result can short few legal apart done
