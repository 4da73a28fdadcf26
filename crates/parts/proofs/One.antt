-- Contents have one report, if no file was unreadable.
use Rattle.std.proofs.Common.{◌≡◌, inl, inr, ℕ, ◌<◌, true, false, List, length}
use Rattle.std.proofs.Common.{slice_get, Option, Some, None, refl, ap, sym, ◌∙◌, subst, arith}
use Rattle.std.specs.List.{list_all}
use Rattle.std.proofs.lemmas.Bool.{cases_lt}
use Rattle.std.proofs.lemmas.List.{same_lists}
use Rattle.std.proofs.lemmas.Option.{same_Some, none-some, get_or_from_slice_get}
use Rattle.chains.proofs.Cases.{some_of, item_at}
use Rattle.pieces.specs.Cuts.{cut_digests, IsFirstDifference}
use Rattle.opening.specs.Description.{Description, FileEntry, TreeEntry, Version1}
use Rattle.opening.specs.Sound.{IsSound}
use Rattle.folders.specs.Folder.{Contents, V1Good}
use Rattle.folders.specs.Verdicts.{IsBad, IsFirstBadPiece, IsFirstBadV1Piece, IsV1Verdict, IsVerdict, is_checked}
use Rattle.folders.specs.Verdicts.{is_unreadable, is_whole, unreadable_count}
use Rattle.folders.specs.declared.report.FileVerdict.{FileVerdict}
use Rattle.folders.specs.declared.report.FileVerdict.TheVariants as file
use Rattle.folders.specs.declared.report.V1Verdict.{V1Verdict}
use Rattle.folders.specs.declared.report.V1Verdict.TheVariants as version1
use Rattle.folders.proofs.Reports.{good_length, not_bad, none_unreadable}
use Rattle.folders.proofs.Streaming.{one_stream}
use Rattle.parts.specs.Laws.{IsReportOfContents}

-- ---- a file

-- of two first bad pieces none comes before the other
not_before : (pl : ℕ) (e : TreeEntry) (bytes : List ℕ) (j k : ℕ) → IsFirstBadPiece pl e bytes j → IsFirstBadPiece pl e bytes k → j < k → ⊥
not_before pl e bytes j k one other lt = elim (cases_lt pl e.length) [
  | inr short ↦ omega (arith, other.only short, lt)
  | inl long ↦ one.differs long (other.same_before long j lt)
]

one_bad : (t : Description) (f : FileEntry) (bytes : List ℕ) (p q : ℕ) → IsBad t f bytes p → IsBad t f bytes q → p ≡ q
one_bad t f bytes p q one other =
    let same : one.tree ≡ other.tree = same_Some one.tree other.tree (sym one.tree_is ∙ other.tree_is) in
    let first : IsFirstBadPiece t.piece_length other.tree bytes one.place = subst (λ e. IsFirstBadPiece t.piece_length e bytes one.place) same one.first in
    elim (cases_lt one.place other.place) [
      | inl less ↦ absurd (not_before t.piece_length other.tree bytes one.place other.place first other.first less)
      | inr ge ↦ elim (cases_lt other.place one.place) [
        | inl less ↦ absurd (not_before t.piece_length other.tree bytes other.place one.place other.first first less)
        | inr le ↦ omega (arith, ge, le, one.place_is, other.place_is)
      ]
    ]

one_verdict : (t : Description) (n : ℕ) (f : FileEntry) (content : Option (List ℕ)) (v w : FileVerdict) → IsSound t → slice_get t.files n ≡ Some f
    → is_unreadable v ≡ false → is_unreadable w ≡ false → IsVerdict t f content v → IsVerdict t f content w → v ≡ w
one_verdict t n f content file.Unreadable w sound there rv rw_ v_is w_is = let no : ⊥ = cc in absurd no
one_verdict t n f content v file.Unreadable sound there rv rw_ v_is w_is = let no : ⊥ = cc in absurd no
one_verdict t n f content file.Missing file.Missing sound there rv rw_ v_is w_is = refl
one_verdict t n f content file.Missing file.Good sound there rv rw_ v_is w_is = absurd (none-some w_is.0 (sym v_is ∙ w_is.1))
one_verdict t n f content file.Missing file.WrongLength sound there rv rw_ v_is w_is = absurd (none-some w_is.0 (sym v_is ∙ w_is.1))
one_verdict t n f content file.Missing (file.Bad q) sound there rv rw_ v_is w_is = absurd (none-some w_is.0 (sym v_is ∙ w_is.1))
one_verdict t n f content file.Good file.Missing sound there rv rw_ v_is w_is = absurd (none-some v_is.0 (sym w_is ∙ v_is.1))
one_verdict t n f content file.Good file.Good sound there rv rw_ v_is w_is = refl
one_verdict t n f content file.Good file.WrongLength sound there rv rw_ v_is w_is =
    absurd (w_is.2 (ap length (same_Some w_is.0 v_is.0 (sym w_is.1 ∙ v_is.1)) ∙ good_length t n f v_is.0 sound there v_is.2))
one_verdict t n f content file.Good (file.Bad q) sound there rv rw_ v_is w_is =
    absurd (not_bad t n f v_is.0 q sound there v_is.2 (subst (λ b. IsBad t f b q) (same_Some w_is.0 v_is.0 (sym w_is.1 ∙ v_is.1)) w_is.2))
one_verdict t n f content file.WrongLength file.Missing sound there rv rw_ v_is w_is = absurd (none-some v_is.0 (sym w_is ∙ v_is.1))
one_verdict t n f content file.WrongLength file.Good sound there rv rw_ v_is w_is =
    absurd (v_is.2 (ap length (same_Some v_is.0 w_is.0 (sym v_is.1 ∙ w_is.1)) ∙ good_length t n f w_is.0 sound there w_is.2))
one_verdict t n f content file.WrongLength file.WrongLength sound there rv rw_ v_is w_is = refl
one_verdict t n f content file.WrongLength (file.Bad q) sound there rv rw_ v_is w_is =
    absurd (v_is.2 (ap length (same_Some v_is.0 w_is.0 (sym v_is.1 ∙ w_is.1)) ∙ w_is.2.length_is))
one_verdict t n f content (file.Bad p) file.Missing sound there rv rw_ v_is w_is = absurd (none-some v_is.0 (sym w_is ∙ v_is.1))
one_verdict t n f content (file.Bad p) file.Good sound there rv rw_ v_is w_is =
    absurd (not_bad t n f w_is.0 p sound there w_is.2 (subst (λ b. IsBad t f b p) (same_Some v_is.0 w_is.0 (sym v_is.1 ∙ w_is.1)) v_is.2))
one_verdict t n f content (file.Bad p) file.WrongLength sound there rv rw_ v_is w_is =
    absurd (w_is.2 (ap length (same_Some w_is.0 v_is.0 (sym w_is.1 ∙ v_is.1)) ∙ v_is.2.length_is))
one_verdict t n f content (file.Bad p) (file.Bad q) sound there rv rw_ v_is w_is =
    ap file.Bad (one_bad t f v_is.0 p q v_is.2 (subst (λ b. IsBad t f b q) (same_Some w_is.0 v_is.0 (sym w_is.1 ∙ v_is.1)) w_is.2))

-- ---- the version 1 pieces

first_once : (xs ys : List (List ℕ)) (i j : ℕ) → IsFirstDifference xs ys i → IsFirstDifference xs ys j → i ≡ j
first_once xs ys i j one other = elim (cases_lt i j) [
  | inl less ↦ absurd (one.differs (other.same_before i less))
  | inr ge ↦ elim (cases_lt j i) [
    | inl less ↦ absurd (other.differs (one.same_before j less))
    | inr le ↦ omega (arith, ge, le)
  ]
]

good_or_bad : (t : Description) (v : Version1) (contents : Contents) (i : ℕ) → V1Good t v contents → IsFirstBadV1Piece t v contents i → ⊥
good_or_bad t v contents i good bad =
    let same : bad.0 ≡ good.0 = one_stream t contents v.total bad.0 good.0 bad.1 good.1 in
    bad.2.differs (ap (λ s. slice_get (cut_digests t.piece_length s) i) same ∙ ap (λ xs. slice_get xs i) good.2)

one_v1 : (t : Description) (v : Version1) (contents : Contents) (a b : V1Verdict) → is_checked a ≡ is_checked b → IsV1Verdict t v contents a
    → IsV1Verdict t v contents b → a ≡ b
one_v1 t v contents version1.Good version1.Good checked a_is b_is = refl
one_v1 t v contents version1.Good (version1.Bad j) checked a_is b_is = absurd (good_or_bad t v contents j a_is b_is)
one_v1 t v contents version1.Good version1.NotChecked checked a_is b_is = let no : ⊥ = cc in absurd no
one_v1 t v contents (version1.Bad i) version1.Good checked a_is b_is = absurd (good_or_bad t v contents i b_is a_is)
one_v1 t v contents (version1.Bad i) (version1.Bad j) checked a_is b_is =
    let same : b_is.0 ≡ a_is.0 = one_stream t contents v.total b_is.0 a_is.0 b_is.1 a_is.1 in
    ap version1.Bad (first_once (cut_digests t.piece_length a_is.0) v.pieces i j a_is.2
    (subst (λ s. IsFirstDifference (cut_digests t.piece_length s) v.pieces j) same b_is.2))
one_v1 t v contents (version1.Bad i) version1.NotChecked checked a_is b_is = let no : ⊥ = cc in absurd no
one_v1 t v contents version1.NotChecked version1.Good checked a_is b_is = let no : ⊥ = cc in absurd no
one_v1 t v contents version1.NotChecked (version1.Bad j) checked a_is b_is = let no : ⊥ = cc in absurd no
one_v1 t v contents version1.NotChecked version1.NotChecked checked a_is b_is = refl

-- ---- reports

same_files : (t : Description) (contents : Contents) (files others : List FileVerdict) (v1 other_v1 : Option V1Verdict) → IsSound t
    → IsReportOfContents t contents files v1 → IsReportOfContents t contents others other_v1 → unreadable_count files ≡ 0 → unreadable_count others ≡ 0
    → files ≡ others
same_files t contents files others v1 other_v1 sound one other none none_of = same_lists files others (one.has.count ∙ sym other.has.count) (λ n d lt.
    let f = item_at t.files n (omega (arith, lt, one.has.count)) in
    let v = item_at files n lt in
    let w = item_at others n (omega (arith, lt, one.has.count, other.has.count)) in
    get_or_from_slice_get files n v.0 d v.1
    ∙ one_verdict t n f.0 (contents n) v.0 w.0 sound f.1 (none_unreadable files n v.0 none v.1) (none_unreadable others n w.0 none_of w.1)
    (one.are_true.each n f.0 v.0 f.1 v.1) (other.are_true.each n f.0 w.0 f.1 w.1)
    ∙ sym (get_or_from_slice_get others n w.0 d w.1))

same_v1 : (t : Description) (contents : Contents) (files others : List FileVerdict) (v1 other_v1 : Option V1Verdict)
    → IsReportOfContents t contents files v1 → IsReportOfContents t contents others other_v1 → files ≡ others → v1 ≡ other_v1
same_v1 t contents files others None None one other same = refl
same_v1 t contents files others None (Some b) one other same = let no : false ≡ true = one.has.hybrid ∙ sym other.has.hybrid in absurd (differ no)
  where
    differ : false ≡ true → ⊥
    differ e = cc
same_v1 t contents files others (Some a) None one other same = let no : true ≡ false = one.has.hybrid ∙ sym other.has.hybrid in absurd (differ no)
  where
    differ : true ≡ false → ⊥
    differ e = cc
same_v1 t contents files others (Some a) (Some b) one other same =
    let v = some_of t.v1 (sym one.has.hybrid) in
    ap Some (one_v1 t v.0 contents a b (one.has.checked a refl ∙ ap (list_all is_whole) same ∙ sym (other.has.checked b refl))
    (one.are_true.version1 v.0 a v.1 refl) (other.are_true.version1 v.0 b v.1 refl))

pub report_is_one : (t : Description) (contents : Contents) (files others : List FileVerdict) (v1 other_v1 : Option V1Verdict) → IsSound t
    → IsReportOfContents t contents files v1 → IsReportOfContents t contents others other_v1 → unreadable_count files ≡ 0 → unreadable_count others ≡ 0
    → (files ≡ others)
    × (v1 ≡ other_v1)
report_is_one t contents files others v1 other_v1 sound one other none none_of =
    let same = same_files t contents files others v1 other_v1 sound one other none none_of in
    (same, same_v1 t contents files others v1 other_v1 one other same)
