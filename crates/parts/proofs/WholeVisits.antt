-- The visits of whole files, as a check says them.
use Rattle.std.proofs.Common.{◌≡◌, ◌∙◌, inl, inr, ℕ, ◌-◌, ◌<◌, List, [], ◌∷◌, ◌++◌, arith}
use Rattle.std.proofs.Common.{length, slice_get, Option, Some, ap, refl, subst, sym, true}
use Rattle.std.specs.List.{list_all}
use Rattle.std.proofs.lemmas.List.{length_push}
use Rattle.std.proofs.lemmas.Option.{same_Some, slice_get_within}
use Rattle.benc.specs.Device.{SinkSeen, SourceSeen}
use Rattle.chains.proofs.Cases.{item_at, pushed_at}
use Rattle.opening.specs.Description.{Description, Version1}
use Rattle.opening.specs.Sound.{IsSound}
use Rattle.folders.specs.Folder.{Contents}
use Rattle.folders.specs.Stopping.{AreTrueOfFirst}
use Rattle.folders.specs.Verdicts.{AreTrueVerdicts, AreVerdicts, HasVerdicts, IsV1Verdict, IsVerdict, is_checked, is_whole}
use Rattle.folders.specs.declared.report.FileVerdict.{FileVerdict}
use Rattle.folders.specs.declared.report.V1Verdict.{V1Verdict}
use Rattle.folders.specs.declared.shelf.Shelf.{Ghosts}
use Rattle.folders.proofs.Reports.{all_at, good_is_enough, yes_is_sure}
use Rattle.parts.specs.Checking.{ChecksAll}
use Rattle.parts.specs.Finding.{all_places}
use Rattle.parts.specs.Parts.{Holds, IsPartV1, piece_count, place_count}
use Rattle.parts.specs.Telling.{TellsWhole}
use Rattle.parts.specs.Visiting.{StopsAtFile, TellsOwn, VisitsAll, verdicts_in, whole_visiting}
use Rattle.lines.specs.Rows.{Spelling}
use Rattle.parts.specs.declared.places.Span.{Span}
use Rattle.parts.specs.declared.telling.Telling.{Telling}
use Rattle.parts.specs.declared.telling.Telling.TheVariants as telling
use Rattle.parts.proofs.StreamVerdict.{place_inside, said_of_stream}
use Rattle.parts.proofs.Tellings.{span_marks}
use Rattle.parts.proofs.ToldFirst.{length-told, verdict_at, verdicts_say}
use Rattle.parts.proofs.WholeFiles.{whole_span}
use Rattle.parts.proofs.Worst.{whole_length}

module _ {S F : Type 0} (shelf : Ghosts S F) (seen : F → SourceSeen) (t : Description) where
  -- what is told of whole files is told by the bits of all pieces
  pub whole_tells : (telling : Telling) → IsSound t → TellsWhole telling → TellsOwn (whole_visiting shelf seen t) t telling
  whole_tells telling.Nothing sound whole = λ n f c v bits there marks. tt
  whole_tells (telling.Line lines) sound whole = λ n f c v bits there marks. tt
  whole_tells (telling.LineAndRuns lines) sound whole = λ n f c v bits there marks.
      let all : Span = record { from = 0; to = piece_count t f; ends = true } in
      span_marks t (all_places t) f all c v bits (whole_span t n f all sound there (record { from_is = refl; to_is = refl; ends_is = refl })) marks
  whole_tells (telling.RunsIn r) sound whole = absurd whole

  -- where what is told of a file broke off, the verdicts are true of the first contents
  pub stopped_true : (spelled : Spelling) (telling : Telling) (old new : S × SinkSeen)
      → (stops : StopsAtFile (whole_visiting shelf seen t) spelled t telling old new)
      → AreTrueOfFirst t (shelf.contents old.0).under (verdicts_in stops.told ++ stops.verdict ∷ [])
  stopped_true spelled telling old new stops =
      let n : ℕ = length stops.told in
      let long : length (verdicts_in stops.told) ≡ length stops.told = length-told stops.told in
      record {
        contents = stops.contents;
        agree = λ k g lt at. stops.agree k g (omega (arith, lt, length_push (verdicts_in stops.told) stops.verdict, long)) at;
        each = λ k g w at said. elim (pushed_at (verdicts_in stops.told) stops.verdict w k said) [
          | inl before ↦
              let x = verdict_at stops.told k w before in
              subst (IsVerdict t g (stops.contents k)) x.2 (stops.each k g x.0 at x.1).0
          | inr last ↦
              let number : k ≡ n = last.0 ∙ long in
              let same : stops.file ≡ g = same_Some stops.file g (sym stops.file_is ∙ ap (slice_get t.files) (sym number) ∙ at) in
              subst (λ c. IsVerdict t g c w) (sym (ap stops.contents number))
              (subst (IsVerdict t g (stops.contents n)) last.1
              (subst (λ h. IsVerdict t h (stops.contents n) stops.verdict) same stops.says))
        ];
      }

  -- all files were checked
  pub whole_all : (spelled : Spelling) (telling : Telling) (files : List FileVerdict) (v1 : Option V1Verdict) (old new : S × SinkSeen) → IsSound t
      → VisitsAll (whole_visiting shelf seen t) spelled t telling files v1 old new → ChecksAll shelf seen spelled t telling files v1 old new
  whole_all spelled telling files v1 old new sound visits =
      let contents : Contents = visits.contents in
      let each = verdicts_say (whole_visiting shelf seen t) spelled t telling files v1 old new visits in
      let are_true : AreTrueVerdicts t contents files v1 = record {
        each = each;
        version1 = λ w v is_v1 at. v1_verdict contents v w is_v1 visits.has (visits.has.checked v at) each (visits.version1 w v is_v1 at);
      } in
      record {
        visits = visits;
        are_true = record {
          contents = contents;
          agree = visits.agree;
          are_true = are_true;
          sure = yes_is_sure t contents files v1 visits.has are_true;
          enough = good_is_enough t contents files v1 sound visits.has are_true;
        };
        same = refl;
      }
    where
      v1_verdict : (contents : Contents) (said : V1Verdict) (w : Version1) → t.v1 ≡ Some w → HasVerdicts t files v1
          → is_checked said ≡ list_all is_whole files
          → AreVerdicts t contents files → IsPartV1 t w (all_places t) contents said → IsV1Verdict t w contents said
      v1_verdict contents said w is_v1 has checked each stated =
          said_of_stream t contents w sound is_v1 said
          (λ on m f there.
          let v = item_at files m (omega (arith, slice_get_within t.files m f there, has.count)) in
          whole_length t m f (contents m) v.0 sound there (all_at is_whole files m v.0 (sym checked ∙ on) v.1) (each m f v.0 there v.1))
          (λ whole p m k f bytes at before.
          let inside : p < place_count t - 1 = place_inside t contents p m k f bytes sound at in
          let held : Holds (all_places t) p = (omega arith, omega (arith, inside)) in
          elim before [
            | inl good ↦ (subst (IsPartV1 t w (all_places t) contents) good stated) p m k f bytes at held
            | inr bad ↦ (subst (IsPartV1 t w (all_places t) contents) bad.1 stated).3 p m k f bytes at held bad.2
          ])
          (λ q bad. let s = subst (IsPartV1 t w (all_places t) contents) bad stated in (s.1, s.2))
