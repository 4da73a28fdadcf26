-- What looking at the path of a file gave.
use Rattle.std.proofs.Common.{◌≡◌, ◌∙◌, ℕ, inl, inr, List, [], length, Option, Some, None, Ok, Err, refl, sym, ap, subst, arith}
use Rattle.std.specs.Prelude.{⊤}
use Rattle.benc.specs.Device.{SourceSeen}
use Rattle.opening.specs.Description.{Description, FileEntry}
use Rattle.folders.specs.Shelf.{more}
use Rattle.folders.specs.Verdicts.{Agrees, IsVerdict, fault_count}
use Rattle.folders.specs.Visits.{IsReadFor, Visits, whole_extent}
use Rattle.folders.specs.declared.report.FileVerdict.{FileVerdict}
use Rattle.folders.specs.declared.report.FileVerdict.TheVariants as file
use Rattle.folders.specs.declared.shelf.Shelf.{Ghosts}
use Rattle.folders.proofs.Visiting.{handed_as}
use Rattle.parts.specs.Finding.{FindsWhole}
use Rattle.parts.specs.Passing.{JudgesAnswer, IsReadToCheck}
use Rattle.parts.specs.Visiting.{VisitsFile, whole_visiting}
use Rattle.parts.specs.declared.verdicts.Verdicts.{Verdicts}
use Rattle.parts.proofs.FileReads.{had_failed, was_other, was_whole}
use Rattle.parts.proofs.FoundFiles.{finds_missing, finds_other_length, finds_unreadable, known, known_agrees}
use Rattle.parts.proofs.There.{IsByLength}
use Rattle.parts.proofs.WholeFiles.{whole_meaning}
use Rattle.passes.specs.Held.{Answer, content, failed, missing, unasked}
use Rattle.passes.specs.Passing.{FailsReading, Looks, ReadsContent}

module _ {S F : Type 0} (shelf : Ghosts S F) (seen : F → SourceSeen) (t : Description) (f : FileEntry) (s s' : S) where
  -- its path was looked at
  abbrev pub LooksAt : Answer → Type 0
  LooksAt a = Looks shelf seen (IsReadToCheck f.length) (Some (record { path = f.path; most = f.length })) s a s'

  abbrev stated : Option (Option (List ℕ))
  stated = (shelf.contents s).under f.path

  -- a verdict follows from what came of that
  abbrev pub Says : Answer → FileVerdict → Type 0
  Says unasked w = ⊤
  Says missing w = w ≡ file.Missing
  Says failed w = w ≡ file.Unreadable
  Says (content bytes) w = IsVerdict t f (Some bytes) w × IsByLength f bytes w

  -- it was visited for this verdict, which is true of what stands there
  pub record IsSeen (w : FileVerdict) : Type 0 where
    pub visits : Visits shelf seen t s f w s'
    pub counts : shelf.faults s' ≡ more (shelf.faults s) (fault_count w)
    pub stays : shelf.contents s' ≡ shelf.contents s
    pub content : Option (List ℕ)
    pub agrees : Agrees stated content
    pub says : IsVerdict t f content w

  read_so : (bytes : List ℕ) (w : FileVerdict) (old new : SourceSeen) → Agrees old.left bytes → IsVerdict t f (Some bytes) w → IsByLength f bytes w
      → ReadsContent (IsReadToCheck f.length) bytes old new → IsReadFor t f w old new
  read_so bytes w old new gave says (inl (long, whole)) read =
      was_whole (whole_extent f) (IsVerdict t f) old new read.is_read.within (λ off. absurd (off tt)) w whole
      (record { rest = bytes; agrees = gave; each = λ b at. subst (λ c. IsVerdict t f (Some c) w) (sym at) says }) read.quiet (read.is_read.taken.0 long)
  read_so bytes w old new gave says (inr (other, is)) read =
      subst (λ w. IsReadFor t f w old new) (sym is)
      (was_other (whole_extent f) (IsVerdict t f) old new read.is_read.within (λ off. absurd (off tt))
      (record { rest = bytes; agrees = gave; each = λ b at. (b, refl, λ long. other (ap length (sym at) ∙ long)) })
      read.quiet (λ same. other (read.is_read.taken.1 same)))

  failed_so : (old new : SourceSeen) → FailsReading f.length old new → IsReadFor t f file.Unreadable old new
  failed_so old new fails =
      let early = fails.early in
      had_failed (whole_extent f) (IsVerdict t f) old new (omega (arith, early)) (λ off. absurd (off tt)) fails.counted early

  no_fault : (w : FileVerdict) (bytes : List ℕ) → IsByLength f bytes w → fault_count w ≡ 0
  no_fault file.Good bytes is = refl
  no_fault file.Missing bytes is = refl
  no_fault file.Unreadable bytes (inl (long, whole)) = let no : ⊥ = cc in absurd no
  no_fault file.Unreadable bytes (inr (other, is)) = let no : ⊥ = cc in absurd no
  no_fault file.WrongLength bytes is = refl
  no_fault (file.Bad p) bytes is = refl

  seen_as : (w w' : FileVerdict) → w ≡ w' → IsSeen w' → IsSeen w
  seen_as w w' is = subst IsSeen (sym is)

  pub seen_so : (a : Answer) (w : FileVerdict) → LooksAt a → Says a w → IsSeen w
  seen_so unasked w looks is = absurd looks
  seen_so missing w looks is = seen_as w file.Missing is (record {
    visits = record { answer = Ok None; opened = looks.opened; follows = refl };
    counts = looks.quiet;
    stays = looks.stays;
    content = None;
    agrees = looks.agrees;
    says = refl;
  })
  seen_so failed w looks is = seen_as w file.Unreadable is (record {
    visits = elim looks.failed [
      | inl opening ↦ record { answer = Err opening.0; opened = opening.1; follows = refl }
      | inr reading ↦ record {
        answer = Ok (Some reading.0);
        opened = handed_as shelf seen (FailsReading f.length) (IsReadFor t f file.Unreadable) s f.path reading.0 s' reading.1
            (failed_so (seen reading.0) (seen reading.1.read) reading.1.reading);
        follows = tt;
      }
    ];
    counts = looks.counted;
    stays = looks.stays;
    content = known stated;
    agrees = known_agrees stated;
    says = tt;
  })
  seen_so (content bytes) w looks (says, by_length) = record {
    visits = record {
      answer = Ok (Some looks.file);
      opened = handed_as shelf seen (ReadsContent (IsReadToCheck f.length) bytes) (IsReadFor t f w) s f.path looks.file s' looks.handed
          (read_so bytes w (seen looks.file) (seen looks.handed.read) looks.gave says by_length looks.handed.reading);
      follows = tt;
    };
    counts = looks.quiet ∙ sym (ap (more (shelf.faults s)) (no_fault w bytes by_length));
    stays = looks.stays;
    content = Some bytes;
    agrees = looks.agrees;
    says = says;
  }

  -- ---- the verdicts that were found of it

  judged_content : (bytes : List ℕ) (v : Verdicts) (found : FindsWhole t f (Some (Some bytes)) [] v) → Some bytes ≡ found.content
  judged_content bytes v found = found.agrees (Some bytes) refl

  says_so : (a : Answer) (v : Verdicts) → JudgesAnswer t f a v → Says a v.file
  says_so unasked v found = tt
  says_so missing v found = found.0
  says_so failed v found = found.0
  says_so (content bytes) v (inl judged) = (
    subst (λ c. IsVerdict t f c v.file) (sym (judged_content bytes v judged.finds)) judged.finds.verdict,
    inl (judged.long, judged.whole),
  )
  says_so (content bytes) v (inr (other, is)) = (subst (IsVerdict t f (Some bytes)) (sym is.0) (bytes, refl, other), inr (other, is.0))

  finds_so : (a : Answer) (v : Verdicts) → LooksAt a → JudgesAnswer t f a v → FindsWhole t f stated [] v
  finds_so unasked v looks found = absurd looks
  finds_so missing v looks found = finds_missing t f (whole_meaning t f) stated [] v looks.agrees found
  finds_so failed v looks found = finds_unreadable t f (whole_meaning t f) stated [] v found
  finds_so (content bytes) v looks (inl judged) = record {
    content = judged.finds.content;
    agrees = subst (Agrees stated) (judged_content bytes v judged.finds) looks.agrees;
    verdict = judged.finds.verdict;
    version1 = judged.finds.version1;
    checked = judged.finds.checked;
    marks = judged.finds.marks;
  }
  finds_so (content bytes) v looks (inr (other, is)) =
      finds_other_length t f (whole_meaning t f) stated [] v bytes other looks.agrees (λ runs. (bytes, refl, λ j lt. absurd (omega (arith, lt)))) is

  pub seen_found : (a : Answer) (v : Verdicts) → LooksAt a → JudgesAnswer t f a v → IsSeen v.file
  seen_found a v looks found = seen_so a v.file looks (says_so a v found)

  pub visited_found : (a : Answer) (v : Verdicts) → LooksAt a → JudgesAnswer t f a v → VisitsFile (whole_visiting shelf seen t) t s f [] v s'
  visited_found a v looks found =
      let so = seen_found a v looks found in
      record { finds = finds_so a v looks found; visits = so.visits; counts = so.counts; stays = so.stays }
