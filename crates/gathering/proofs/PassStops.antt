-- Where a pass over listed paths stops.
use Rattle.std.proofs.Common.{◌≡◌, ◌∙◌, ◌⊎◌, true, inl, inr, ℕ, suc, ◌+◌, ◌-◌, ◌<◌, ◌≤◌, ◌^◌, List, [], ◌∷◌, length, take, drop, slice_get, Some}
use Rattle.std.proofs.Common.{option_map}
use Rattle.std.proofs.Common.{IfErr, IfOk, Result, Ok, Err, refl, sym, ap, ap₂, subst, arith, take-take}
use Rattle.std.proofs.lemmas.List.{drop-take, length-drop, length-map, nil_from_length, take-map}
use Rattle.std.proofs.lemmas.Option.{same_Some, slice_get-map, slice_get_within}
use Rattle.benc.specs.Device.{SourceSeen}
use Rattle.chains.specs.Chain.{Chain}
use Rattle.chains.proofs.Cases.{drop_item, item_at}
use Rattle.chains.proofs.Chains.{cut_chain}
use Rattle.drafts.specs.Outline.{Outline}
use Rattle.folders.specs.TakeAll.{IsReadWithin}
use Rattle.folders.specs.declared.shelf.Shelf.{Ghosts}
use Rattle.folders.proofs.Visiting.{handed_as}
use Rattle.gathering.specs.Adding.{Declines}
use Rattle.gathering.specs.Gathered.{DraftAdds}
use Rattle.gathering.specs.Gathering.{Reads}
use Rattle.gathering.specs.Passing.{GatherTask, AddsAnswer, gather_task}
use Rattle.gathering.specs.Steps.{AddsAll, DeclinesAt, FaultsWith, ReadsStill, StopsAdding, StopsVisiting}
use Rattle.gathering.specs.declared.file_fault.FileFault.{FileFault}
use Rattle.gathering.specs.declared.file_fault.FileFault.TheVariants as why
use Rattle.gathering.proofs.Rows.{SaysRow, says_row}
use Rattle.passes.specs.Held.{Answer, content, failed, missing, unasked}
use Rattle.passes.specs.declared.stopped.Stopped.{Stopped}
use Rattle.passes.proofs.Stops.{looks_still}
use Rattle.passes.specs.Passing.{FailsReading, LooksFor, PassesAll, StopsPassing, is_amiss}
use Rattle.gathering.proofs.Passed.{all_gathered, contents_of, gathered_first, none_unasked, not_sure, read_all, same_contents}
use Rattle.gathering.proofs.Passed.{taken_contents}

module _ (t : GatherTask) {S F : Type 0} (shelf : Ghosts S F) (seen : F → SourceSeen) where
  declines_at : (f : FileFault) (d : Outline) (path : List (List ℕ)) (bytes : List ℕ) (s s' : S) → Reads shelf seen s path bytes s' → Declines f d path bytes
      → DeclinesAt shelf seen f d path s s'
  declines_at (why.Refused r) d path bytes s s' reads refuses = record { content = bytes; reads = reads; refuses = refuses }
  declines_at why.Device d path bytes s s' reads declines = absurd declines
  declines_at why.NoMemory d path bytes s s' reads (short, takes) = record { content = bytes; reads = reads; short = short; takes = takes }
  declines_at why.Changed d path bytes s s' reads declines = absurd declines

  -- a content that was read was not added
  adding_stops : (s s' : S) (cs : List (List ℕ)) (number : ℕ) (path : List (List ℕ)) (bytes : List ℕ) (firsts : List (List ℕ)) (d middle : Outline)
      (f : FileFault) → slice_get t.paths number ≡ Some path → slice_get cs number ≡ Some bytes → firsts ≡ take number cs
      → length cs ≤ number + 64 → Chain (ReadsStill shelf seen) s (take (length cs) t.paths) cs s'
      → Chain DraftAdds d (take number t.paths) firsts middle → Declines f middle path bytes
      → StopsAdding shelf seen d s t.paths s' (record { number = number; stop = f })
  adding_stops s s' cs number path bytes firsts d middle f there at firsts_are few run adds declines =
      let m : ℕ = length cs in
      let lt : number < m = slice_get_within cs number bytes at in
      let left : ℕ = m - (number + 1) in
      let whole_is : number + (left + 1) ≡ m = omega (arith, lt) in
      let one : left + 1 ≡ suc left = omega arith in
      let cut = cut_chain (ReadsStill shelf seen) s (take m t.paths) cs number s' run in
      let firsts_is : take number (take m t.paths) ≡ take number t.paths = take-take number m t.paths (omega (arith, lt)) in
      let others : drop number (take m t.paths) ≡ path ∷ take left (drop (number + 1) t.paths) =
      ap (λ j. drop number (take j t.paths)) (sym whole_is) ∙ drop-take number (left + 1) t.paths
      ∙ ap (take (left + 1)) (drop_item t.paths number path there) ∙ ap (λ j. take j (path ∷ drop (number + 1) t.paths)) one in
      let step = subst (λ os. Chain (ReadsStill shelf seen) cut.mid (path ∷ take left (drop (number + 1) t.paths)) os s') (drop_item cs number bytes at)
      (subst (λ ps. Chain (ReadsStill shelf seen) cut.mid ps (drop number cs) s') others cut.after) in
      let says : SaysRow shelf seen step.0 (take left (drop (number + 1) t.paths)) (drop (number + 1) cs) s' =
      says_row shelf seen step.0 (take left (drop (number + 1) t.paths)) (drop (number + 1) cs) s' step.2 in
      record {
        path = path;
        there = there;
        draft = middle;
        mid = cut.mid;
        before = gathered_first t shelf seen s cut.mid number (take number cs) d middle
            (subst (λ ps. Chain (ReadsStill shelf seen) s ps (take number cs) cut.mid) firsts_is cut.before)
            (subst (λ os. Chain DraftAdds d (take number t.paths) os middle) firsts_are adds);
        why = record {
          after = step.0;
          why = declines_at f middle path bytes cut.mid step.0 step.1.reads declines;
          ahead = record {
            count = left;
            few = omega (arith, few);
            contents = drop (number + 1) cs;
            read = says.read;
            quiet = says.quiet;
          };
        };
      }

  -- no file was read under a path
  faults_with : (f : FileFault) (a : Answer) (mid s' : S) (path : List (List ℕ)) (d e : Outline) → LooksFor shelf seen (gather_task t) mid path a s'
      → AddsAnswer d path a (Err f) e → is_amiss a ≡ true → FaultsWith shelf seen f mid path s'
  faults_with f unasked mid s' path d e looks is fails = absurd looks
  faults_with f missing mid s' path d e looks is fails =
      let why_is : f ≡ why.Changed = cc in
      subst (λ x. FaultsWith shelf seen x mid path s') (sym why_is) (record { opened = looks.opened; agrees = looks.agrees; quiet = looks.quiet })
  faults_with f failed mid s' path d e looks is fails =
      let why_is : f ≡ why.Device = cc in
      subst (λ x. FaultsWith shelf seen x mid path s') (sym why_is) (record {
        counted = looks.counted;
        failed = elim looks.failed [
          | inl opening ↦ inl opening
          | inr reading ↦ inr (
            reading.0,
            handed_as shelf seen (FailsReading (2 ^ 46)) (IsReadWithin (2 ^ 46)) mid path reading.0 s' reading.1
                reading.1.reading.early,
          )
        ];
      })
  faults_with f (content bytes) mid s' path d e looks is fails = let no : ⊥ = not_sure (sym fails) in absurd no

  pub stops_where : (s s' : S) (d e : Outline) (number : ℕ) (f : FileFault) → StopsPassing shelf seen (gather_task t) s d number f s' e
      → StopsAdding shelf seen d s t.paths s' (record { number = number; stop = f })
      ⊎ StopsVisiting shelf seen d s t.paths s' (record { number = number; stop = f })
  stops_where s s' d e number f stops =
      let m : ℕ = length stops.answers in
      let took = taken_contents t d (take stops.taken t.paths) (take stops.taken stops.answers) stops.takes.middle stops.takes.takes in
      let asked = none_unasked t shelf seen s (take m t.paths) stops.answers s' stops.looks in
      elim stops.turn [
        | inl turn ↦
            let all = contents_of stops.answers asked (turn.sure refl) in
            let cs : List (List ℕ) = all.contents in
            let size : length stops.answers ≡ length cs = ap length all.are ∙ length-map cs content in
            let run = read_all t shelf seen s (take (length cs) t.paths) cs s'
            (subst (λ xs. Chain (LooksFor shelf seen (gather_task t)) s (take (length cs) t.paths) xs s') all.are
            (subst (λ n. Chain (LooksFor shelf seen (gather_task t)) s (take n t.paths) stops.answers s') size stops.looks)) in
            let at = item_at cs number (omega (arith, size, slice_get_within stops.answers number stops.takes.answer stops.takes.answer_is)) in
            let answer : stops.takes.answer ≡ content at.0 = same_Some stops.takes.answer (content at.0)
            (sym stops.takes.answer_is ∙ ap (λ xs. slice_get xs number) all.are ∙ slice_get-map content cs number ∙ ap (option_map content) at.1) in
            let firsts : took.0 ≡ take number cs = same_contents took.0 (take number cs)
            (sym took.1 ∙ ap₂ (λ n xs. take n xs) (sym turn.now) all.are ∙ take-map content number cs) in
            inl (adding_stops s s' cs number stops.takes.item at.0 took.0 d stops.takes.middle f stops.takes.item_is at.1 firsts
            (omega (arith, size, stops.few, turn.now)) run
            (subst (λ n. Chain DraftAdds d (take n t.paths) took.0 stops.takes.middle) (sym turn.now) took.2)
            (subst (λ a. AddsAnswer stops.takes.middle stops.takes.item a (Err f) e) answer stops.takes.stops))
        | inr once ↦
            let look = LooksFor shelf seen (gather_task t) in
            let cut = cut_chain look s (take m t.paths) stops.answers number s' stops.looks in
            let one : m ≡ number + 1 = sym once.last in
            let early : take number (take m t.paths) ≡ take number t.paths = take-take number m t.paths (omega (arith, one)) in
            let before = subst (λ ps. Chain look s ps (take number stops.answers) cut.mid) early cut.before in
            let firsts_are = take number stops.answers in
            let all = contents_of firsts_are (none_unasked t shelf seen s (take number t.paths) firsts_are cut.mid before) once.sure in
            let cs : List (List ℕ) = all.contents in
            let run = read_all t shelf seen s (take number t.paths) cs cut.mid (subst (λ xs. Chain look s (take number t.paths) xs cut.mid) all.are before) in
            let n : ℕ = stops.taken in
            let left : ℕ = number - n in
            let split : n + left ≡ number = omega (arith, once.after) in
            let cut2 = cut_chain (ReadsStill shelf seen) s (take number t.paths) cs n cut.mid run in
            let firsts : took.0 ≡ take n cs = same_contents took.0 (take n cs)
            (sym took.1 ∙ sym (take-take n number stops.answers once.after) ∙ ap (take n) all.are ∙ take-map content n cs) in
            let later : drop n (take number t.paths) ≡ take left (drop n t.paths) =
            ap (λ j. drop n (take j t.paths)) (sym split) ∙ drop-take n left t.paths in
            let says : SaysRow shelf seen cut2.mid (take left (drop n t.paths)) (drop n cs) cut.mid =
            says_row shelf seen cut2.mid (take left (drop n t.paths)) (drop n cs) cut.mid
            (subst (λ ps. Chain (ReadsStill shelf seen) cut2.mid ps (drop n cs) cut.mid) later cut2.after) in
            let ends : drop (number + 1) stops.answers ≡ [] = nil_from_length (drop (number + 1) stops.answers)
            (omega (arith, length-drop (number + 1) stops.answers, one)) in
            let last_answer : drop number stops.answers ≡ stops.takes.answer ∷ [] =
            drop_item stops.answers number stops.takes.answer stops.takes.answer_is ∙ ap (λ xs. stops.takes.answer ∷ xs) ends in
            let last_path : drop number (take m t.paths) ≡ stops.takes.item ∷ [] =
            ap (λ j. drop number (take j t.paths)) one ∙ drop-take number 1 t.paths
            ∙ ap (take 1) (drop_item t.paths number stops.takes.item stops.takes.item_is) in
            let step = subst (λ os. Chain look cut.mid (stops.takes.item ∷ []) os s') last_answer
            (subst (λ ps. Chain look cut.mid ps (drop number stops.answers) s') last_path cut.after) in
            inr (record {
              path = stops.takes.item;
              there = stops.takes.item_is;
              gathered = n;
              draft = stops.takes.middle;
              between = cut2.mid;
              before = gathered_first t shelf seen s cut2.mid n (take n cs) d stops.takes.middle
                  (subst (λ ps. Chain (ReadsStill shelf seen) s ps (take n cs) cut2.mid) (take-take n number t.paths once.after) cut2.before)
                  (subst (λ os. Chain DraftAdds d (take n t.paths) os stops.takes.middle) firsts took.2);
              mid = cut.mid;
              ahead = record {
                count = left;
                few = omega (arith, stops.few, one);
                contents = drop n cs;
                read = says.read;
                quiet = says.quiet;
              };
              number_is = sym split;
              why = faults_with f stops.takes.answer cut.mid s' stops.takes.item stops.takes.middle e
                  (subst (look cut.mid stops.takes.item stops.takes.answer) (sym step.2) step.1) stops.takes.stops
                  (once.fails stops.takes.answer stops.takes.answer_is);
            })
      ]

  pub passes_adds : (s s' : S) (d e : Outline) (r : Result (Unit {0}) (Stopped FileFault)) → IfOk r (λ u. PassesAll shelf seen (gather_task t) s d s' e)
      → IfErr r (λ stopped. StopsPassing shelf seen (gather_task t) s d stopped.number stopped.stop s' e) → AddsAll shelf seen d s t.paths e s' r
  passes_adds s s' d e (Ok u) all stops = all_gathered t shelf seen s s' d e all
  passes_adds s s' d e (Err stopped) all stops = stops_where s s' d e stopped.number stopped.stop stops

  pub passes_stays : (s s' : S) (d e : Outline) (r : Result (Unit {0}) (Stopped FileFault)) → IfOk r (λ u. PassesAll shelf seen (gather_task t) s d s' e)
      → IfErr r (λ stopped. StopsPassing shelf seen (gather_task t) s d stopped.number stopped.stop s' e) → shelf.contents s' ≡ shelf.contents s
  passes_stays s s' d e (Ok u) all stops = looks_still shelf seen (gather_task t) s t.paths all.answers s' all.looks
  passes_stays s s' d e (Err stopped) all stops = looks_still shelf seen (gather_task t) s (take (length stops.answers) t.paths) stops.answers s' stops.looks
