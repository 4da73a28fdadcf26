-- What a report's yes means.
use Rattle.std.proofs.Common.{◌≡◌, ℕ, zero, suc, ◌<◌, ◌&&◌, Bool, true, false, is_some, List, [], ◌∷◌, length, slice_get, cond}
use Rattle.std.proofs.Common.{Option, Some, None, option_and_then, refl, ap, sym, ◌∙◌, subst, arith}
use Rattle.std.specs.List.{list_all}
use Rattle.std.proofs.lemmas.List.Sums.{sum_by-cons}
use Rattle.std.proofs.lemmas.Option.{same_Some, slice_get_within, none-some}
use Rattle.std.proofs.lemmas.Bool.{and_parts}
use Rattle.opening.specs.Description.{Description, FileEntry, TreeEntry, Version1}
use Rattle.opening.specs.Sound.{IsSound, IsSoundTree}
use Rattle.pieces.specs.Cuts.{cut_digests}
use Rattle.folders.specs.declared.report.FileVerdict.{FileVerdict}
use Rattle.folders.specs.declared.report.FileVerdict.TheVariants as file
use Rattle.folders.specs.declared.report.V1Verdict.{V1Verdict}
use Rattle.folders.specs.declared.report.V1Verdict.TheVariants as version1
use Rattle.folders.specs.Folder.{Contents, GoodFolder, IsGoodFile, V1Good, tree_entry_of}
use Rattle.folders.specs.Verdicts.{HasVerdicts, IsBad, IsV1Verdict, IsVerdict, AreTrueVerdicts, fault_count}
use Rattle.folders.specs.Verdicts.{is_checked, is_good, is_unreadable, is_whole, is_yes}
use Rattle.folders.specs.Verdicts.{stream_is_good, unreadable_count}
use Rattle.folders.proofs.Streaming.{one_stream}
use Rattle.chains.proofs.Cases.{item_at, some_of}

pub all_at : {A : Type 0} (p : A → Bool) (xs : List A) (n : ℕ) (x : A) → list_all p xs ≡ true → slice_get xs n ≡ Some x → p x ≡ true
all_at p [] n x h is = absurd (none-some x is)
all_at p (y ∷ ys) zero x h is = subst (λ z. p z ≡ true) (same_Some y x is) (and_parts (p y) (list_all p ys) h).0
all_at p (y ∷ ys) (suc n) x h is = all_at p ys n x (and_parts (p y) (list_all p ys) h).1 is

-- ---- yes means that the folder is good

good_verdict : (t : Description) (f : FileEntry) (content : Option (List ℕ)) (v : FileVerdict) → is_good v ≡ true → IsVerdict t f content v
    → (bytes : List ℕ) × (content ≡ Some bytes) × IsGoodFile t f bytes
good_verdict t f content file.Good said is = is
good_verdict t f content file.Missing said is = let no : ⊥ = cc in absurd no
good_verdict t f content file.Unreadable said is = let no : ⊥ = cc in absurd no
good_verdict t f content file.WrongLength said is = let no : ⊥ = cc in absurd no
good_verdict t f content (file.Bad p) said is = let no : ⊥ = cc in absurd no

good_stream : (t : Description) (v : Version1) (contents : Contents) (verdict : V1Verdict) → stream_is_good (Some verdict) ≡ true
    → IsV1Verdict t v contents verdict
    → V1Good t v contents
good_stream t v contents version1.Good said is = is
good_stream t v contents (version1.Bad i) said is = let no : ⊥ = cc in absurd no
good_stream t v contents version1.NotChecked said is = let no : ⊥ = cc in absurd no

pub yes_is_sure : (t : Description) (contents : Contents) (files : List FileVerdict) (v1 : Option V1Verdict) → HasVerdicts t files v1
    → AreTrueVerdicts t contents files v1
    → is_yes files v1 ≡ true → GoodFolder t contents
yes_is_sure t contents files v1 has are_true said =
    let parts = and_parts (list_all is_good files) (stream_is_good v1) said in
    record {
      files = λ n f there.
          let found = item_at files n (omega (arith, slice_get_within t.files n f there, has.count)) in
          good_verdict t f (contents n) found.0 (all_at is_good files n found.0 parts.0 found.1) (are_true.each n f found.0 there found.1);
      version1 = λ v hybrid.
          let verdict = some_of v1 (has.hybrid ∙ ap is_some hybrid) in
          good_stream t v contents verdict.0 (subst (λ o. stream_is_good o ≡ true) verdict.1 parts.1) (are_true.version1 v verdict.0 hybrid verdict.1);
    }

-- ---- a good folder gets a yes

-- the tree of a file has the file's length
pub has_tree : (t : Description) (n : ℕ) (f : FileEntry) (e : TreeEntry) → IsSound t → slice_get t.files n ≡ Some f → tree_entry_of t f ≡ Some e
    → (e.length ≡ f.length) × (0 < f.length)
has_tree t n f e sound there found = by_tree f.tree refl
  where
    by_tree : (o : Option ℕ) → f.tree ≡ o → (e.length ≡ f.length) × (0 < f.length)
    by_tree None is = absurd (none-some e (sym (ap (option_and_then (slice_get t.trees)) is) ∙ found))
    by_tree (Some k) is =
        let at : slice_get t.trees k ≡ Some e = sym (ap (option_and_then (slice_get t.trees)) is) ∙ found in
        let tree = (sound.files n f there).tree_there k is in
        let same : tree.0 ≡ e = same_Some tree.0 e (sym tree.1 ∙ at) in
        let len : e.length ≡ f.length = ap (λ x. x.length) (sym same) ∙ tree.2 in
        (len, omega (arith, (sound.trees k e at).some))

-- and it is sound
pub sound_tree : (t : Description) (f : FileEntry) (e : TreeEntry) → IsSound t → tree_entry_of t f ≡ Some e → IsSoundTree t.piece_length e
sound_tree t f e sound found = by_tree f.tree refl
  where
    by_tree : (o : Option ℕ) → f.tree ≡ o → IsSoundTree t.piece_length e
    by_tree None is = absurd (none-some e (sym (ap (option_and_then (slice_get t.trees)) is) ∙ found))
    by_tree (Some k) is = sound.trees k e (sym (ap (option_and_then (slice_get t.trees)) is) ∙ found)

-- a good file has its stated length
pub good_length : (t : Description) (n : ℕ) (f : FileEntry) (bytes : List ℕ) → IsSound t → slice_get t.files n ≡ Some f → IsGoodFile t f bytes
    → length bytes ≡ f.length
good_length t n f bytes sound there good = by_length f.length refl
  where
    by_length : (len : ℕ) → f.length ≡ len → length bytes ≡ f.length
    by_length zero is = ap length (good.empty is) ∙ sym is
    by_length (suc len) is =
        let fits = good.fits (omega arith) in
        fits.2.same_length ∙ (has_tree t n f fits.0 sound there fits.1).0

-- its root is not another
pub not_bad : (t : Description) (n : ℕ) (f : FileEntry) (bytes : List ℕ) (p : ℕ) → IsSound t → slice_get t.files n ≡ Some f → IsGoodFile t f bytes
    → IsBad t f bytes p → ⊥
not_bad t n f bytes p sound there good bad =
    let fits = good.fits (has_tree t n f bad.tree sound there bad.tree_is).1 in
    let same : fits.0 ≡ bad.tree = same_Some fits.0 bad.tree (sym fits.1 ∙ bad.tree_is) in
    bad.root_differs (fits.2.same_root ∙ ap (λ e. e.root) same)

no_other : (t : Description) (n : ℕ) (f : FileEntry) (content : Option (List ℕ)) (bytes : List ℕ) (v : FileVerdict) → IsSound t → slice_get t.files n ≡ Some f
    → content ≡ Some bytes → IsGoodFile t f bytes → is_unreadable v ≡ false → IsVerdict t f content v → is_good v ≡ true
no_other t n f content bytes file.Good sound there is good readable verdict = refl
no_other t n f content bytes file.Missing sound there is good readable verdict = absurd (none-some bytes (sym verdict ∙ is))
no_other t n f content bytes file.Unreadable sound there is good readable verdict = let no : ⊥ = cc in absurd no
no_other t n f content bytes file.WrongLength sound there is good readable verdict =
    let same : verdict.0 ≡ bytes = same_Some verdict.0 bytes (sym verdict.1 ∙ is) in
    absurd (verdict.2 (ap length same ∙ good_length t n f bytes sound there good))
no_other t n f content bytes (file.Bad p) sound there is good readable verdict =
    let same : verdict.0 ≡ bytes = same_Some verdict.0 bytes (sym verdict.1 ∙ is) in
    absurd (not_bad t n f bytes p sound there good (subst (λ b. IsBad t f b p) same verdict.2))

pub no_fault : (v : FileVerdict) → fault_count v ≡ 0 → is_unreadable v ≡ false
no_fault file.Good h = refl
no_fault file.Missing h = refl
no_fault file.Unreadable h = absurd (omega arith)
no_fault file.WrongLength h = refl
no_fault (file.Bad p) h = refl

pub none_unreadable : (files : List FileVerdict) (n : ℕ) (v : FileVerdict) → unreadable_count files ≡ 0 → slice_get files n ≡ Some v → is_unreadable v ≡ false
none_unreadable [] n v none is = absurd (none-some v is)
none_unreadable (w ∷ ws) zero v none is =
    subst (λ x. is_unreadable x ≡ false) (same_Some w v is) (no_fault w (omega (arith, none, sum_by-cons (λ x. cond (is_unreadable x) 1 0) w ws)))
none_unreadable (w ∷ ws) (suc n) v none is =
    none_unreadable ws n v (omega (arith, none, sum_by-cons (λ x. cond (is_unreadable x) 1 0) w ws)) is

pub all_from : {A : Type 0} (p : A → Bool) (xs : List A) → ((n : ℕ) (x : A) → slice_get xs n ≡ Some x → p x ≡ true) → list_all p xs ≡ true
all_from p [] each = refl
all_from p (x ∷ xs) each = ap (λ b. b && list_all p xs) (each 0 x refl) ∙ all_from p xs (λ n y is. each (suc n) y is)

good_is_whole : (v : FileVerdict) → is_good v ≡ true → is_whole v ≡ true
good_is_whole file.Good h = refl
good_is_whole file.Missing h = h
good_is_whole file.Unreadable h = h
good_is_whole file.WrongLength h = h
good_is_whole (file.Bad p) h = refl

stream_good : (t : Description) (v : Version1) (contents : Contents) (verdict : V1Verdict) → V1Good t v contents → is_checked verdict ≡ true
    → IsV1Verdict t v contents verdict → stream_is_good (Some verdict) ≡ true
stream_good t v contents version1.Good good checked is = refl
stream_good t v contents (version1.Bad i) good checked is =
    let same : is.0 ≡ good.0 = one_stream t contents v.total is.0 good.0 is.1 good.1 in
    absurd (is.2.differs (ap (λ s. slice_get (cut_digests t.piece_length s) i) same ∙ ap (λ xs. slice_get xs i) good.2))
stream_good t v contents version1.NotChecked good checked is = let no : ⊥ = cc in absurd no

pub good_is_enough : (t : Description) (contents : Contents) (files : List FileVerdict) (v1 : Option V1Verdict) → IsSound t → HasVerdicts t files v1
    → AreTrueVerdicts t contents files v1 → GoodFolder t contents → unreadable_count files ≡ 0 → is_yes files v1 ≡ true
good_is_enough t contents files v1 sound has are_true good none =
    let all : list_all is_good files ≡ true = all_from is_good files (λ n v is.
    let file = item_at t.files n (omega (arith, slice_get_within files n v is, has.count)) in
    let there = good.files n file.0 file.1 in
    no_other t n file.0 (contents n) there.0 v sound file.1 there.1 there.2 (none_unreadable files n v none is) (are_true.each n file.0 v file.1 is)) in
    let whole : list_all is_whole files ≡ true = all_from is_whole files (λ n v is. good_is_whole v (all_at is_good files n v all is)) in
    ap (λ b. b && stream_is_good v1) all ∙ by_stream v1 refl whole
  where
    by_stream : (o : Option V1Verdict) → v1 ≡ o → list_all is_whole files ≡ true → (true && stream_is_good v1) ≡ true
    by_stream None is whole = ap stream_is_good is
    by_stream (Some verdict) is whole =
        let v = some_of t.v1 (sym has.hybrid ∙ ap is_some is) in
        ap stream_is_good is
        ∙ stream_good t v.0 contents verdict (good.version1 v.0 v.1) (has.checked verdict is ∙ whole) (are_true.version1 v.0 verdict v.1 is)
