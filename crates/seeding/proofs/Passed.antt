-- What a pass over the files of a torrent seeded.
use Rattle.std.proofs.Common.{◌≡◌, ◌∙◌, ℕ, suc, ◌+◌, Bool, inl, inr, List, [], ◌∷◌, length, take, drop, Option, Some, Result, Ok, Err}
use Rattle.std.proofs.Common.{refl, sym, ap, subst, arith}
use Rattle.std.specs.Prelude.{slice_get}
use Rattle.std.proofs.lemmas.List.{nil_from_length}
use Rattle.benc.specs.Device.{Sent, SourceSeen}
use Rattle.benc.proofs.Known.{Appends_nothing}
use Rattle.benc.proofs.Out.{Sent-append}
use Rattle.chains.specs.Chain.{Chain}
use Rattle.chains.proofs.Chains.{StepAt}
use Rattle.folders.specs.declared.shelf.Shelf.{Ghosts}
use Rattle.lines.specs.declared.out_fault.OutFault.{OutFault as SeedFault}
use Rattle.lines.specs.declared.out_fault.OutFault.TheVariants as fault
use Rattle.opening.specs.Description.{Description, FileEntry}
use Rattle.passes.specs.Held.{Answer}
use Rattle.passes.specs.Passing.{LooksFor, PassesAll, StopsPassing, Takes}
use Rattle.passes.proofs.Stops as stopping
use Rattle.seeding.specs.Passing.{SaysLine, SeedFound, SeedState, TakesAnswer, TakesFound, FindsByTree, seed_task}
use Rattle.seeding.specs.Seeding.{IsSmallFile, LooksAhead, LooksBehind, SeedStep, SeedsAll, SeedsFiles, StopsAtFile, seed_lines, shelf_and_session}
use Rattle.seeding.proofs.Looked.{looks_ahead, seeds_file, stops_file}

module _ {S F : Type 0} (shelf : Ghosts S F) (seen : F → SourceSeen) (line : FileEntry → Bool → List ℕ) (t : Description) where
  abbrev Look : S → FileEntry → Answer → S → Type 0
  Look = LooksFor shelf seen (seed_task line t)

  -- ---- one file

  -- it was seeded or not, and its line went out or broke off
  record IsSaid (s s' : S) (k k' : SeedState) (f : FileEntry) (result : Result (Unit {0}) SeedFault) : Type 0 where
    seeded : Bool
    step : SeedStep shelf seen (shelf_and_session s k.0) f seeded (shelf_and_session s' k'.0)
    says : SaysLine k.1 k'.1 result (line f seeded)

  module _ (s s' : S) (k k' : SeedState) (f : FileEntry) (a : Answer) (looks : Look s f a s') where
    said_found : (result : Result (Unit {0}) SeedFault) (found : SeedFound) → FindsByTree k.0.torrent f f.tree a found → TakesFound line k f found result k'
        → (result ≡ Err fault.NoMemory → ⊥) → IsSaid s s' k k' f result
    said_found result (Err refused) finds takes other = absurd (other takes.0)
    said_found result (Ok grown) finds (seeded, fills, says) other = record {
      seeded = seeded;
      step = seeds_file shelf seen f s s' k.0 k'.0 f.tree a grown seeded looks finds fills;
      says = says;
    }

    said : (result : Result (Unit {0}) SeedFault) → TakesAnswer line k f a result k' → (result ≡ Err fault.NoMemory → ⊥) → IsSaid s s' k k' f result
    said result takes other = said_found result takes.found takes.finds takes.takes other

    -- memory was refused for it
    lacks_found : (found : SeedFound) → FindsByTree k.0.torrent f f.tree a found → TakesFound line k f found (Err fault.NoMemory) k'
        → StopsAtFile shelf seen (shelf_and_session s k.0) f (shelf_and_session s' k'.0) × (k' ≡ k)
    lacks_found (Ok grown) finds (seeded, fills, says) = absurd says
    lacks_found (Err refused) finds (is, kept) =
        (stops_file shelf seen f s s' k.0 k'.0 f.tree a refused (ap (λ (x : SeedState). x.0) kept) looks finds, kept)

  -- ---- all files

  -- these were seeded, and their lines went out
  record AreSaid (s s' : S) (k k' : SeedState) (files : List FileEntry) : Type 0 where
    each : List Bool
    run : SeedsAll shelf seen (shelf_and_session s k.0) files each (shelf_and_session s' k'.0)
    sent : Sent k.1 k'.1 (seed_lines line files each)

  all_said : (s s' : S) (k k' : SeedState) (files : List FileEntry) (answers : List Answer) → Chain Look s files answers s'
      → Chain (Takes (seed_task line t)) k files answers k' → AreSaid s s' k k' files
  all_said s s' k k' [] [] looks takes = record {
    each = [];
    run = ap (λ x. shelf_and_session x k'.0) looks ∙ ap (λ (x : SeedState). shelf_and_session s x.0) takes;
    sent = subst (λ (x : SeedState). Sent k.1 x.1 []) (sym takes) (record { bytes = Appends_nothing k.1.written; faults = refl; flushes = refl });
  }
  all_said s s' k k' [] (a ∷ more) looks takes = absurd looks
  all_said s s' k k' (f ∷ files) [] looks takes = absurd looks
  all_said s s' k k' (f ∷ files) (a ∷ more) (mid, look, rest) (middle, take, later) =
      let one = said s mid k middle f a look (Ok tt) take (λ is. let no : ⊥ = cc in no) in
      let all = all_said mid s' middle k' files more rest later in
      record {
        each = one.seeded ∷ all.each;
        run = (shelf_and_session mid middle.0, one.step, all.run);
        sent = Sent-append k.1 middle.1 k'.1 (line f one.seeded) (seed_lines line files all.each) one.says all.sent;
      }

  -- ---- where it stopped

  -- small files that were looked at
  ahead_all : (s s' : S) (files : List FileEntry) (answers : List Answer) → ((j : ℕ) (f : FileEntry) → slice_get files j ≡ Some f → IsSmallFile f)
      → Chain Look s files answers s' → (contents : List (Option (List ℕ))) × (length contents ≡ length answers)
      × Chain (LooksAhead shelf seen) s files contents s'
  ahead_all s s' [] [] small looks = ([], refl, looks)
  ahead_all s s' [] (a ∷ more) small looks = absurd looks
  ahead_all s s' (f ∷ files) [] small looks = absurd looks
  ahead_all s s' (f ∷ files) (a ∷ more) small (mid, look, rest) =
      let one = looks_ahead shelf seen f s mid (small 0 f refl) f.tree a refl look in
      let all = ahead_all mid s' files more (λ j g is. small (suc j) g is) rest in
      (one.0 ∷ all.0, ap suc all.1, (mid, one.1, all.2))

  module _ (s s' : S) (k k' : SeedState) (number : ℕ) (stop : SeedFault) (stops : StopsPassing shelf seen (seed_task line t) s k number stop s' k') where
    abbrev at_stop : StepAt Look s (take (length stops.answers) t.files) stops.answers number stops.takes.item stops.takes.answer s'
    at_stop = stopping.at_stop shelf seen (seed_task line t) s s' k k' number stop stops

    firsts : AreSaid s at_stop.from k stops.takes.middle (take number t.files)
    firsts = all_said s at_stop.from k stops.takes.middle (take number t.files) (take number stops.answers)
        (stopping.looks_before shelf seen (seed_task line t) s s' k k' number stop stops)
        (stopping.takes_before shelf seen (seed_task line t) s s' k k' number stop stops refl)

    behind : LooksBehind shelf seen t.files number stops.takes.item at_stop.to s'
    behind =
        let past = stopping.behind shelf seen (seed_task line t) s s' k k' number stop stops refl in
        let files = take (length past.answers) (drop (number + 1) t.files) in
        let all = ahead_all at_stop.to s' files past.answers past.wait past.run in
        record {
          contents = all.0;
          few = omega (arith, all.1, past.few);
          small = elim past.own [
            | inl none ↦ inl (nil_from_length all.0 (all.1 ∙ ap length none))
            | inr small ↦ inr small
          ];
          run = subst (λ n. Chain (LooksAhead shelf seen) at_stop.to (take n (drop (number + 1) t.files)) all.0 s') (sym all.1) all.2;
        }

-- ---- the whole pass

module _ {S F : Type 0} (shelf : Ghosts S F) (seen : F → SourceSeen) (line : FileEntry → Bool → List ℕ) (s s' : S) (k k' : SeedState) where
  -- what is done in it
  abbrev pub Does : Result (Unit {0}) SeedFault → Type 0
  Does r = SeedsFiles shelf seen line (shelf_and_session s k.0) (shelf_and_session s' k'.0) k.1 k'.1 r

  pub seeded_all : PassesAll shelf seen (seed_task line k.0.torrent) s k s' k' → Does (Ok tt)
  seeded_all all =
      let are = all_said shelf seen line k.0.torrent s s' k k' k.0.torrent.files all.answers all.looks all.takes in
      record { each = are.each; run = are.run; sent = are.sent }

  pub stopped_at : (number : ℕ) (stop : SeedFault) → StopsPassing shelf seen (seed_task line k.0.torrent) s k number stop s' k' → Does (Err stop)
  stopped_at number fault.NoMemory stops =
      let t = k.0.torrent in
      let at = at_stop shelf seen line t s s' k k' number fault.NoMemory stops in
      let first = firsts shelf seen line t s s' k k' number fault.NoMemory stops in
      let stop = stops.takes.stops in
      let lacks = lacks_found shelf seen line t at.from at.to stops.takes.middle k' stops.takes.item stops.takes.answer at.step stop.found stop.finds
      stop.takes in
      record {
        each = first.each;
        count = number;
        file = stops.takes.item;
        file_is = stops.takes.item_is;
        mid = shelf_and_session at.from stops.takes.middle.0;
        run = first.run;
        after = at.to;
        stops = lacks.0;
        behind = behind shelf seen line t s s' k k' number fault.NoMemory stops;
        sent = subst (λ (x : SeedState). Sent k.1 x.1 (seed_lines line (take number t.files) first.each)) (sym lacks.1) first.sent;
      }
  stopped_at number fault.Write stops =
      let t = k.0.torrent in
      let at = at_stop shelf seen line t s s' k k' number fault.Write stops in
      let first = firsts shelf seen line t s s' k k' number fault.Write stops in
      let last = said shelf seen line t at.from at.to stops.takes.middle k' stops.takes.item stops.takes.answer at.step (Err fault.Write) stops.takes.stops
      (λ is. let no : ⊥ = cc in no) in
      record {
        each = first.each;
        count = number;
        file = stops.takes.item;
        file_is = stops.takes.item_is;
        seeded = last.seeded;
        between = shelf_and_session at.from stops.takes.middle.0;
        run = first.run;
        after = at.to;
        last = last.step;
        behind = behind shelf seen line t s s' k k' number fault.Write stops;
        mid = stops.takes.middle.1;
        sent = first.sent;
        broke = last.says;
      }
