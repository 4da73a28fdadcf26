-- The report that the parts make together.
use Rattle.std.proofs.Common.{◌≡◌, ◌⊎◌, inl, inr, ℕ, ◌-◌, ◌<◌, true, false, is_some, List, length}
use Rattle.std.proofs.Common.{slice_get, Option, Some, refl, ap, sym, ◌∙◌, subst, arith}
use Rattle.std.specs.List.{list_all}
use Rattle.std.specs.Option.{unwrap_or}
use Rattle.std.proofs.lemmas.Bool.{cases_lt, and_parts, false_from_ne_true}
use Rattle.std.proofs.lemmas.Option.{same_Some, slice_get_within}
use Rattle.chains.proofs.Cases.{some_of, item_at}
use Rattle.opening.specs.Description.{Description, FileEntry, Version1}
use Rattle.opening.specs.Sound.{IsSound}
use Rattle.folders.specs.Folder.{Contents, GoodFolder}
use Rattle.folders.specs.Verdicts.{IsV1Verdict, IsVerdict, is_checked, is_good, is_whole, is_yes, stream_is_good}
use Rattle.folders.specs.declared.report.FileVerdict.{FileVerdict}
use Rattle.folders.specs.declared.report.FileVerdict.TheVariants as file
use Rattle.folders.specs.declared.report.V1Verdict.{V1Verdict}
use Rattle.folders.specs.declared.report.V1Verdict.TheVariants as version1
use Rattle.folders.proofs.Reports.{yes_is_sure, all_at, all_from}
use Rattle.parts.specs.Collisions.{FileCollides}
use Rattle.parts.specs.Joins.{IsJoin, NoWorse, NoWorseV1, says_of, says_of_v1}
use Rattle.parts.specs.Laws.{IsReportOfContents}
use Rattle.parts.specs.Parts.{AreAllPlaces, Holds, IsPartV1, IsPieceAt, IsVersion1Good, PartReport, IsTruePart}
use Rattle.parts.specs.Parts.{place_count}
use Rattle.parts.proofs.Joined.{ContentCollides, good_joined, joined}
use Rattle.parts.proofs.StreamVerdict.{IsBefore, place_inside, said_of_stream}
use Rattle.parts.proofs.Streams.{AreWhole, place_of_piece}
use Rattle.parts.proofs.Worst.{below_or, one_not, whole_up, checked_up, good_v1, bad_v1, whole_length}

module _ (t : Description) (contents : Contents) (parts : List PartReport) (files : List FileVerdict) (v1 : Option V1Verdict) (sound : IsSound t)
    (all : AreAllPlaces t parts) (are_true : (i : ℕ) (p : PartReport) → slice_get parts i ≡ Some p → IsTruePart t contents p)
    (join : IsJoin t parts files v1) where
  -- ---- what a part says

  says_file : (i : ℕ) (p : PartReport) → slice_get parts i ≡ Some p → (n : ℕ) → n < length t.files → slice_get p.files n ≡ Some (says_of n p)
  says_file i p at n lt =
      let found = item_at p.files n (omega (arith, lt, (are_true i p at).count)) in
      found.1 ∙ ap Some (sym (ap (λ o. unwrap_or o file.Good) found.1))

  says_v1 : (i : ℕ) (p : PartReport) → slice_get parts i ≡ Some p → is_some t.v1 ≡ true → p.v1 ≡ Some (says_of_v1 p)
  says_v1 i p at hybrid =
      let found = some_of p.v1 ((are_true i p at).hybrid ∙ hybrid) in
      found.1 ∙ ap Some (sym (ap (λ o. unwrap_or o version1.Good) found.1))

  -- ---- files

  file_or : (n : ℕ) → ((f : FileEntry) (v : FileVerdict) → slice_get t.files n ≡ Some f → slice_get files n ≡ Some v → IsVerdict t f (contents n) v)
      ⊎ FileCollides t contents
  file_or n = elim (cases_lt n (length t.files)) [
    | inr past ↦ inl (λ f v there is. absurd (omega (arith, slice_get_within t.files n f there, past)))
    | inl lt ↦
        let f = item_at t.files n lt in
        let v = item_at files n (omega (arith, lt, join.count)) in
        elim (one f.0 v.0 f.1 v.1) [
          | inl is ↦ inl (λ g w there said. subst (λ (h : FileEntry). IsVerdict t h (contents n) w) (same_Some f.0 g (sym f.1 ∙ there))
              (subst (IsVerdict t f.0 (contents n)) (same_Some v.0 w (sym v.1 ∙ said)) is))
          | inr other ↦ inr (record {
            number = n;
            file = f.0;
            bytes = other.bytes;
            tree = other.tree;
            there = f.1;
            content = other.content_is;
            tree_is = other.tree_is;
            fits = other.fits;
            rows = other.rows;
          })
        ]
  ]
    where
      one : (f : FileEntry) (v : FileVerdict) → slice_get t.files n ≡ Some f → slice_get files n ≡ Some v → IsVerdict t f (contents n) v
          ⊎ ContentCollides t f (contents n)
      one f v there said =
          joined (λ (p : PartReport). p.places) (says_of n) parts t n f (contents n) sound there
          (λ i p at. (are_true i p at).each n f (says_of n p) there (says_file i p at n (slice_get_within t.files n f there)))
          (λ x from to. all x (place_of_piece t n f x sound there to))
          v (join.each n v said)

  -- ---- the version 1 pieces

  whole_files : (v : V1Verdict) → v1 ≡ Some v → is_checked v ≡ true → list_all is_whole files ≡ true
  whole_files v is checked = all_from is_whole files (λ n w said. elim ((join.each n w said).one) [
    | inl best ↦ ap is_whole best
    | inr one ↦
        let hybrid : is_some t.v1 ≡ true = sym join.hybrid ∙ ap is_some is in
        let own : is_checked (says_of_v1 one.1) ≡ true = checked_up (says_of_v1 one.1) v ((join.version1 v is).no_worse one.0 one.1 one.2) checked in
        let each : list_all is_whole one.1.files ≡ true =
        sym ((are_true one.0 one.1 one.2).checked (says_of_v1 one.1) (says_v1 one.0 one.1 one.2 hybrid)) ∙ own in
        ap is_whole (sym one.3)
        ∙ all_at is_whole one.1.files n (says_of n one.1) each
        (says_file one.0 one.1 one.2 n (omega (arith, slice_get_within files n w said, join.count)))
  ])

  broken_files : (v : V1Verdict) → v1 ≡ Some v → v ≡ version1.NotChecked → list_all is_whole files ≡ true → ⊥
  broken_files v is not each = elim ((join.version1 v is).one) [
    | inl best ↦ let no : version1.NotChecked ≡ version1.Good = sym not ∙ best in cc
    | inr one ↦
        let hybrid : is_some t.v1 ≡ true = sym join.hybrid ∙ ap is_some is in
        let off : list_all is_whole one.1.files ≡ false =
        sym ((are_true one.0 one.1 one.2).checked (says_of_v1 one.1) (says_v1 one.0 one.1 one.2 hybrid)) ∙ ap is_checked (one.3 ∙ not) in
        let broken = one_not is_whole one.1.files off in
        let inside : broken.0 < length files = omega (
          arith,
          slice_get_within one.1.files broken.0 broken.1 broken.2,
          (are_true one.0 one.1 one.2).count,
          join.count,
        ) in
        let w = item_at files broken.0 inside in
        let same : says_of broken.0 one.1 ≡ broken.1 = ap (λ o. unwrap_or o file.Good) broken.2 in
        let up : is_whole (says_of broken.0 one.1) ≡ true =
        whole_up (says_of broken.0 one.1) w.0 ((join.each broken.0 w.0 w.1).no_worse one.0 one.1 one.2) (all_at is_whole files broken.0 w.0 each w.1) in
        let no : true ≡ false = sym up ∙ ap is_whole same ∙ broken.3 in
        cc
  ]

  checked_is : (v : V1Verdict) → v1 ≡ Some v → is_checked v ≡ list_all is_whole files
  checked_is version1.Good is = sym (whole_files version1.Good is refl)
  checked_is (version1.Bad q) is = sym (whole_files (version1.Bad q) is refl)
  checked_is version1.NotChecked is = sym (false_from_ne_true (list_all is_whole files) (broken_files version1.NotChecked is refl))

  module _ (each : (n : ℕ) (f : FileEntry) (v : FileVerdict) → slice_get t.files n ≡ Some f → slice_get files n ≡ Some v → IsVerdict t f (contents n) v)
      (v : Version1) (hybrid : t.v1 ≡ Some v) where
    are_whole : list_all is_whole files ≡ true → AreWhole t contents
    are_whole whole n f there =
        let w = item_at files n (omega (arith, slice_get_within t.files n f there, join.count)) in
        whole_length t n f (contents n) w.0 sound there (all_at is_whole files n w.0 whole w.1) (each n f w.0 there w.1)

    -- a piece that all parts call good, or that comes before the first that one of them calls bad
    piece_listed : (said : V1Verdict) → v1 ≡ Some said → AreWhole t contents → (p : ℕ) → p < place_count t - 1
        → IsBefore said p
        → (n k : ℕ) (f : FileEntry) (bytes : List ℕ) → IsPieceAt t contents p n k f bytes → IsVersion1Good t v f bytes k
    piece_listed said is whole p lt which n k f bytes at =
        let held = all p (omega (arith, lt)) in
        let stated = (are_true held.0 held.1 held.2).version1 v (says_of_v1 held.1) hybrid (says_v1 held.0 held.1 held.2 (ap is_some hybrid)) in
        by_said (says_of_v1 held.1) held.1 held.3 stated (own (says_of_v1 held.1) ((join.version1 said is).no_worse held.0 held.1 held.2) which)
      where
        own : (u : V1Verdict) → NoWorseV1 u said → ((said ≡ version1.Good) ⊎ ((q : ℕ) × (said ≡ version1.Bad q) × (p < q)))
            → (u ≡ version1.Good) ⊎ ((r : ℕ) × (u ≡ version1.Bad r) × (p < r))
        own u h (inl good) = inl (good_v1 u (subst (NoWorseV1 u) good h))
        own u h (inr bad) = elim (bad_v1 u bad.0 (subst (NoWorseV1 u) bad.1 h))
            [ inl good ↦ inl good | inr other ↦ inr (other.0, other.1, omega (arith, other.2, bad.2)) ]

        by_said : (u : V1Verdict) (part : PartReport) → Holds part.places p → IsPartV1 t v part.places contents u → (u ≡ version1.Good)
            ⊎ ((r : ℕ) × (u ≡ version1.Bad r) × (p < r))
            → IsVersion1Good t v f bytes k
        by_said u part held stated (inl good) = (subst (IsPartV1 t v part.places contents) good stated) p n k f bytes at held
        by_said u part held stated (inr bad) = (subst (IsPartV1 t v part.places contents) bad.1 stated).3 p n k f bytes at held bad.2

    stream_verdict : (said : V1Verdict) → v1 ≡ Some said → IsV1Verdict t v contents said
    stream_verdict said is = said_of_stream t contents v sound hybrid said
        (λ checked. are_whole (whole_files said is checked))
        (λ whole p n k f bytes at before. piece_listed said is whole p (place_inside t contents p n k f bytes sound at) before n k f bytes at)
        (λ q bad. elim ((join.version1 said is).one) [
          | inl best ↦ let no : ⊥ = bad_is_not_good q (sym bad ∙ best) in absurd no
          | inr one ↦
              let stated = subst (IsPartV1 t v one.1.places contents) (one.3 ∙ bad)
              ((are_true one.0 one.1 one.2).version1 v (says_of_v1 one.1) hybrid (says_v1 one.0 one.1 one.2 (ap is_some hybrid))) in
              (stated.1, stated.2)
        ])
      where
        bad_is_not_good : (q : ℕ) → version1.Bad q ≡ version1.Good → ⊥
        bad_is_not_good q is = cc

  -- ---- a yes

  good_verdict : (w : FileVerdict) → is_good w ≡ true → w ≡ file.Good
  good_verdict file.Good good = refl
  good_verdict file.Missing good = let no : ⊥ = cc in absurd no
  good_verdict file.Unreadable good = let no : ⊥ = cc in absurd no
  good_verdict file.WrongLength good = let no : ⊥ = cc in absurd no
  good_verdict (file.Bad q) good = let no : ⊥ = cc in absurd no

  -- a file that all parts call good is
  good_file : (n : ℕ) (f : FileEntry) (w : FileVerdict) → slice_get t.files n ≡ Some f → slice_get files n ≡ Some w → is_good w ≡ true
      → IsVerdict t f (contents n) w
  good_file n f w there said good =
      let is : w ≡ file.Good = good_verdict w good in
      subst (IsVerdict t f (contents n)) (sym is)
      (good_joined (λ (p : PartReport). p.places) (says_of n) parts t n f (contents n) sound there
      (λ i p at. (are_true i p at).each n f (says_of n p) there (says_file i p at n (slice_get_within t.files n f there)))
      (λ x from to. all x (place_of_piece t n f x sound there to))
      (subst (λ v. (i : ℕ) (p : PartReport) → slice_get parts i ≡ Some p → NoWorse (says_of n p) v) is (join.each n w said).no_worse))

  pub yes : is_yes files v1 ≡ true → GoodFolder t contents
  yes said =
      let goods = and_parts (list_all is_good files) (stream_is_good v1) said in
      let each : (n : ℕ) (f : FileEntry) (v : FileVerdict) → slice_get t.files n ≡ Some f → slice_get files n ≡ Some v → IsVerdict t f (contents n) v =
      λ n f v there stated. good_file n f v there stated (all_at is_good files n v goods.0 stated) in
      yes_is_sure t contents files v1 (record { count = join.count; hybrid = join.hybrid; checked = checked_is })
      (record { each = each; version1 = λ v stated hybrid is. stream_verdict each v hybrid stated is }) said

  -- ---- all together

  pub together : IsReportOfContents t contents files v1 ⊎ FileCollides t contents
  together = elim (below_or (λ n. (f : FileEntry) (v : FileVerdict) → slice_get t.files n ≡ Some f → slice_get files n ≡ Some v
      → IsVerdict t f (contents n) v) (FileCollides t contents) file_or (length t.files)) [
        | inr other ↦ inr other
        | inl each ↦
            let every : (n : ℕ) (f : FileEntry) (v : FileVerdict) → slice_get t.files n ≡ Some f → slice_get files n ≡ Some v → IsVerdict t f (contents n) v =
            λ n f v there said. each n (slice_get_within t.files n f there) f v there said in
            inl (record {
              has = record { count = join.count; hybrid = join.hybrid; checked = checked_is };
              are_true = record { each = every; version1 = λ v said hybrid is. stream_verdict every v hybrid said is };
            })
      ]
