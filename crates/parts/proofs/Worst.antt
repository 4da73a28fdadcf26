-- Verdicts that parts join, and lists of them.
use Rattle.std.proofs.Common.{◌≡◌, ◌⊎◌, inl, inr, ℕ, zero, suc, ◌*◌, ◌<◌, ◌≤◌, ◌&&◌, Bool, true, false, List, [], ◌∷◌, length}
use Rattle.std.proofs.Common.{slice_get, Option, Some, refl, ap, sym, ◌∙◌, subst, arith}
use Rattle.std.specs.List.{list_all}
use Rattle.std.proofs.lemmas.Bool.{cases_lt}
use Rattle.std.proofs.lemmas.List.{same_lists}
use Rattle.std.proofs.lemmas.Option.{get_or_from_slice_get}
use Rattle.chains.proofs.Cases.{item_at}
use Rattle.opening.specs.Description.{Description, FileEntry}
use Rattle.pieces.specs.Pieces.{pieces_of}
use Rattle.opening.specs.Sound.{IsSound}
use Rattle.folders.specs.Verdicts.{IsVerdict, is_checked, is_whole}
use Rattle.folders.specs.declared.report.FileVerdict.{FileVerdict}
use Rattle.folders.specs.declared.report.FileVerdict.TheVariants as file
use Rattle.folders.specs.declared.report.V1Verdict.{V1Verdict}
use Rattle.folders.specs.declared.report.V1Verdict.TheVariants as version1
use Rattle.folders.proofs.Reports.{has_tree}
use Rattle.parts.specs.Joins.{NoWorse, NoWorseV1}
use Rattle.parts.proofs.Streams.{in_pieces}

-- ---- of all files, or of one

pub below_or : (P : ℕ → Type 0) (C : Type 0) → ((k : ℕ) → P k ⊎ C) → (n : ℕ) → ((k : ℕ) → k < n → P k) ⊎ C
below_or P C each zero = inl (λ k lt. absurd (omega (arith, lt)))
below_or P C each (suc n) = elim (below_or P C each n) [
  | inr other ↦ inr other
  | inl before ↦ elim (each n) [
    | inr other ↦ inr other
    | inl last ↦ inl (λ k lt. elim (cases_lt k n) [
      | inl less ↦ before k less
      | inr ge ↦ subst P (same k n lt ge) last
    ])
  ]
]
  where
    same : (k n : ℕ) → k < suc n → n ≤ k → n ≡ k
    same k n lt ge = omega (arith, lt, ge)

-- ---- lists of verdicts

pub one_not : {A : Type 0} (p : A → Bool) (xs : List A) → list_all p xs ≡ false → (n : ℕ) × (x : A) × (slice_get xs n ≡ Some x) × (p x ≡ false)
one_not p [] h = let no : ⊥ = cc in absurd no
one_not p (x ∷ xs) h = by_first (p x) refl (one_not p xs)
  where
    by_first : (b : Bool) → p x ≡ b → (list_all p xs ≡ false → (n : ℕ) × (y : _) × (slice_get xs n ≡ Some y) × (p y ≡ false))
        → (n : ℕ) × (y : _) × (slice_get (x ∷ xs) n ≡ Some y) × (p y ≡ false)
    by_first false is rest = (0, x, refl, is)
    by_first true is rest =
        let found = rest (sym (ap (λ b. b && list_all p xs) is) ∙ h) in
        (suc found.0, found.1, found.2, found.3)

pub whole_up : (v w : FileVerdict) → NoWorse v w → is_whole w ≡ true → is_whole v ≡ true
whole_up file.Good w h whole = refl
whole_up (file.Bad q) w h whole = refl
whole_up file.WrongLength file.Good h whole = absurd h
whole_up file.WrongLength (file.Bad p) h whole = absurd h
whole_up file.WrongLength file.WrongLength h whole = whole
whole_up file.WrongLength file.Unreadable h whole = whole
whole_up file.WrongLength file.Missing h whole = whole
whole_up file.Unreadable file.Good h whole = absurd h
whole_up file.Unreadable (file.Bad p) h whole = absurd h
whole_up file.Unreadable file.WrongLength h whole = whole
whole_up file.Unreadable file.Unreadable h whole = whole
whole_up file.Unreadable file.Missing h whole = whole
whole_up file.Missing file.Good h whole = absurd h
whole_up file.Missing (file.Bad p) h whole = absurd h
whole_up file.Missing file.WrongLength h whole = whole
whole_up file.Missing file.Unreadable h whole = whole
whole_up file.Missing file.Missing h whole = whole

pub checked_up : (v w : V1Verdict) → NoWorseV1 v w → is_checked w ≡ true → is_checked v ≡ true
checked_up version1.Good w h checked = refl
checked_up (version1.Bad q) w h checked = refl
checked_up version1.NotChecked version1.Good h checked = absurd h
checked_up version1.NotChecked (version1.Bad p) h checked = absurd h
checked_up version1.NotChecked version1.NotChecked h checked = checked

pub good_v1 : (v : V1Verdict) → NoWorseV1 v version1.Good → v ≡ version1.Good
good_v1 version1.Good h = refl
good_v1 (version1.Bad q) h = absurd h
good_v1 version1.NotChecked h = absurd h

pub bad_v1 : (v : V1Verdict) (p : ℕ) → NoWorseV1 v (version1.Bad p) → (v ≡ version1.Good) ⊎ ((q : ℕ) × (v ≡ version1.Bad q) × (p ≤ q))
bad_v1 version1.Good p h = inl refl
bad_v1 (version1.Bad q) p h = inr (q, refl, h)
bad_v1 version1.NotChecked p h = absurd h

-- a whole file is as long as stated
pub whole_length : (t : Description) (n : ℕ) (f : FileEntry) (content : Option (List ℕ)) (v : FileVerdict) → IsSound t → slice_get t.files n ≡ Some f
    → is_whole v ≡ true → IsVerdict t f content v
    → (bytes : List ℕ) × (content ≡ Some bytes) × (length bytes ≡ f.length)
whole_length t n f content file.Good sound there whole is = (is.0, is.1, by_length f.length refl)
  where
    by_length : (len : ℕ) → f.length ≡ len → length is.0 ≡ f.length
    by_length zero e = ap length (is.2.empty e) ∙ sym e
    by_length (suc len) e =
        let fits = is.2.fits (omega (arith, e)) in
        fits.2.same_length ∙ (has_tree t n f fits.0 sound there fits.1).0
whole_length t n f content (file.Bad p) sound there whole is = (is.0, is.1, is.2.length_is)
whole_length t n f content file.Missing sound there whole is = let no : ⊥ = cc in absurd no
whole_length t n f content file.Unreadable sound there whole is = let no : ⊥ = cc in absurd no
whole_length t n f content file.WrongLength sound there whole is = let no : ⊥ = cc in absurd no

pub by_places : (xs ys : List (List ℕ)) → length xs ≡ length ys → ((p : ℕ) → p < length xs → slice_get xs p ≡ slice_get ys p) → xs ≡ ys
by_places xs ys len each = same_lists xs ys len (λ p d lt.
    let y = item_at ys p (omega (arith, lt, len)) in
    get_or_from_slice_get xs p y.0 d (each p lt ∙ y.1) ∙ sym (get_or_from_slice_get ys p y.0 d y.1))

pub few_pieces : (pl len count : ℕ) → 0 < pl → len ≤ count * pl → pieces_of pl len ≤ count
few_pieces pl len count some le = elim (cases_lt count (pieces_of pl len)) [
  | inr ge ↦ ge
  | inl more ↦ absurd (omega (arith, in_pieces pl count len some more, le))
]
