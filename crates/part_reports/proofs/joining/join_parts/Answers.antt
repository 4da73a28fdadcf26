use Rattle.std.proofs.Common.{◌≡◌, ◌++◌, ◌∷◌, ◌∙◌, ◌+◌, ◌-◌, ◌<◌, ◌^◌, ℕ, Bor, List, [], get_or, length}
use Rattle.std.proofs.Common.{map, sum_by, take, refl, sym, ap, subst, arith}
use Rattle.std.proofs.lemmas.List.{length-append, length-map, map-append}
use Rattle.std.proofs.lemmas.Option.{none-some}
use Rattle.chains.proofs.Cases.{item_at}
use Rattle.opening.specs.Description.{FileEntry}
use Rattle.parts.specs.Joins.{IsJoin}
use Rattle.parts.specs.Parts.{PartReport, place_count}
use Rattle.parts.specs.Shares.{share, start}
use Rattle.part_reports.specs.Joined.{AreReadAs, IsReadAs, report_text_of}
use Rattle.part_reports.specs.Lines.{MarkedPart, part_of}
use Rattle.part_reports.specs.Marks.{HasMarkRoom}
use Rattle.part_reports.specs.Reasons.{AreNamed, StopsBehind}
use Rattle.part_reports.proofs.Faults.{is_missing, reason_of_text, some_parts}
use Rattle.part_reports.proofs.Reports.{each_once, few_parts, joined_more, marks_more, no_marks, no_other_text, none_joined, read_more, read_report, text_there}
use Rattle.part_reports.proofs.TextReads.{part_at}
use Rattle.part_reports.proofs.Rooms.{room_stays}
use Rattle.part_reports.proofs.joining.join_parts.Goals.{Start}
use Rattle.part_reports.proofs.joining.join_parts.Goals as goal

pub parts-init : goal.parts-init
parts-init c =
    let t = c.args.torrent.now in
    let start = c.first_start-start.ensures in
    let joined = c.in_ok-joined.joined in
    let good = c.in_ok-joined.ensures in (
      [],
      refl,
      λ i p at. absurd (none-some p at),
      none_joined t joined.report.files.items joined.report.v1 good.files good.hybrid good.version1,
      start.place,
      record {
        within = omega (arith, start.file);
        bytes_is = start.bytes ∙ sym (ap (λ k. sum_by (λ (f : FileEntry). f.length) (take k t.files)) start.file);
        before = omega (arith, start.bytes);
      },
      no_marks t joined good.none,
      good.room,
    )

-- the texts, and what their first lines say
module _ (c : Start) where
  abbrev texts : List (List ℕ)
  texts = map (λ x. x.now) c.args.texts.now

  all : length c.args.numbers.now.parts.items ≡ length texts
  all = c.requires.texts ∙ sym (length-map c.args.texts.now (λ x. x.now))

  some : 0 < length texts
  some = omega (arith, length-map c.args.texts.now (λ x. x.now), c.requires.some)

  count : (0 < c.args.numbers.now.count) × (c.args.numbers.now.count < 2 ^ 64)
  count = some_parts c.args.kind c.args.torrent.now texts c.args.numbers.now.parts.items c.args.numbers.now.count c.requires.named all some

pub of-division-requires : goal.of-division-requires
of-division-requires c = (count (goal.at.of-division-requires c).Start).0

pub parts-preserved : goal.parts-preserved
parts-preserved c =
    let t = c.args.torrent.now in
    let k = c.args.kind in
    let s = (goal.at.parts-preserved c).Start in
    let count = c.args.numbers.now.count in
    let parts = c.parts.invariant.0 in
    let did = c.in-Some-join_text.ensures in
    let p : MarkedPart = did.said in
    let old = c.parts.joined in
    let new = c.join_text.new.joined in
    let within : c.in-Some.place < length c.args.texts.now = omega (arith, c.in-Some.ensures.bound, c.requires.texts) in
    let next : IsReadAs k t (texts s) c.parts.part count p = record {
      places = did.places;
      can = did.can;
      number = c.in-Some.place;
      there = text_there c.args.texts.now c.in-Some.place _ _ within did.is;
    } in
    let more = joined_more t (map part_of parts) (part_of p) old.report.files.items new.report.files.items old.report.v1 new.report.v1
    c.worse_joins.ensures.files c.worse_joins.ensures.version1 did.can.says.count did.can.says.hybrid did.joined c.parts.invariant.3 in (
      parts ++ p ∷ [],
      length-append parts (p ∷ []) ∙ ap (λ n. n + 1) c.parts.invariant.1,
      read_more k t (texts s) count parts p c.parts.invariant.2 (subst (λ n. IsReadAs k t (texts s) n count p) (sym c.parts.invariant.1) next),
      subst (λ ps. IsJoin t ps new.report.files.items new.report.v1) (sym (map-append part_of parts (p ∷ []))) more,
      c.start-end.ensures.place ∙ ap (start t (c.parts.part + 1)) c.of-division.ensures.parts_is,
      c.start-end.ensures.passed,
      marks_more t parts p old new c.parts.invariant.6 did.marks,
      room_stays k c.of-division.result.pieces old.bad new.bad did.marks.count c.parts.invariant.7,
    )

pub returns-clause-joined : goal.returns-clause-joined
returns-clause-joined c =
    let t = c.args.torrent.now in
    let k = c.args.kind in
    let s = (goal.at.returns-clause-joined c).Start in
    let numbers = c.args.numbers.now.parts.items in
    let parts = c.parts.invariant.0 in
    let as_many : length parts ≡ c.args.numbers.now.count = c.parts.invariant.1 ∙ omega (arith, c.parts-test.false, c.parts.auto.part-end) in
    let are : AreReadAs k t (texts s) (length parts) parts = subst (λ n. AreReadAs k t (texts s) n parts) (sym as_many) c.parts.invariant.2 in
    let named : AreNamed k t (texts s) numbers (length parts) = subst (AreNamed k t (texts s) numbers) (sym as_many) c.requires.named in
    let any : 0 < length parts = omega (arith, as_many, (count s).0) in
    let reports : List PartReport = map part_of parts in
    let count_is : length reports ≡ length parts = length-map parts part_of in
    record {
      verdicts = record {
        parts = parts;
        some = any;
        small = few_parts k t (texts s) numbers parts named (all s) are any;
        are = are;
        all = c.shares_have_all_places.ensures t reports (omega (arith, any, count_is)) (λ i p at.
            let m = part_at parts i p at in
            ap (λ (x : PartReport). x.places) (sym m.2) ∙ (are i m.0 m.1).places ∙ ap (share t i) (sym count_is));
        join = c.parts.invariant.3;
        number_of = λ i. get_or numbers i 0;
        no_other = no_other_text k t (texts s) numbers parts named (all s) are;
        once = each_once k t (texts s) numbers (length parts) named (all s);
      };
      marks = c.parts.invariant.6;
      room =
          let pieces : c.of-division.result.pieces ≡ place_count t - 1 = omega (arith, c.of-division.ensures.pieces_is) in
          subst (λ n. HasMarkRoom k n c.parts.joined.bad) pieces c.parts.invariant.7;
    }

-- the reports of the parts before one were read
stops_behind : (s : Start) (part : ℕ) (reports : List MarkedPart) → part < s.args.numbers.now.count → length reports ≡ part
    → AreReadAs s.args.kind s.args.torrent.now (texts s) s.args.numbers.now.count reports
    → StopsBehind s.args.kind s.args.torrent.now (texts s) part s.args.numbers.now.count
stops_behind s part reports there so_far are = record {
  parts = s.args.numbers.now.parts.items;
  named = s.requires.named;
  all = all s;
  there = there;
  before = λ earlier less.
      let k = s.args.kind in
      let t = s.args.torrent.now in
      let n = s.args.numbers.now.count in
      let p = item_at reports earlier (omega (arith, less, so_far)) in
      let read = are earlier p.0 p.1 in
      (read.number, report_text_of k t earlier n p.0, read.there, read_report k t (texts s) earlier n p.0 (omega (arith, less, there)) (count s).1 read);
}

pub returns-in_default-clause-reason : goal.returns-in_default-clause-reason
unfolding stops_behind
returns-in_default-clause-reason c =
    let s = (goal.at.returns-in_default-clause-reason c).Start in
    let there : c.parts.part < c.args.numbers.now.count = omega (arith, c.parts-test.true, c.parts.auto.part-end) in
    let stops = stops_behind s c.parts.part c.parts.invariant.0 there c.parts.invariant.1 c.parts.invariant.2 in
    is_missing c.args.kind c.args.torrent.now (texts s) c.parts.part c.args.numbers.now.count stops c.in_default.ensures.found
    (λ none. let is = ap length none in let any = some s in absurd (omega (arith, is, any)))

pub returns-in-None-clause-reason : goal.returns-in-None-clause-reason
returns-in-None-clause-reason c =
    let s = (goal.at.returns-in-None-clause-reason c).Start in
    let place = c.in-Some.place in
    let none : Bor (List ℕ) = record { ref_ptr = (0, 0); now = [] } in
    let text : List ℕ = (get_or c.args.texts.now place none).now in
    let within : place < length c.args.texts.now = omega (arith, c.in-Some.ensures.bound, c.requires.texts) in
    let at = text_there c.args.texts.now place none text within refl in
    let there : c.parts.part < c.args.numbers.now.count = omega (arith, c.parts-test.true, c.parts.auto.part-end) in
    let stops = stops_behind s c.parts.part c.parts.invariant.0 there c.parts.invariant.1 c.parts.invariant.2 in
    reason_of_text c.args.kind c.args.torrent.now (texts s) c.parts.part c.args.numbers.now.count place text stops at
    (c.requires.named.heads place c.parts.part text at c.in-Some.ensures.found) c.in-None.ensures
