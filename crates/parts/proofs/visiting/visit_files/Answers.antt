use Rattle.std.proofs.Common.{rules, ◌≡◌, ◌∙◌, ◌+◌, ◌<◌, ◌^◌, ◌-◌, is_some, length, ap, sym, subst, arith}
use Rattle.std.proofs.lemmas.List.{length-map}
use Rattle.std.proofs.lemmas.Option.{same_Some, none-some}
use Rattle.std.proofs.lemmas.Result.{err_from_is_err_and}
use Rattle.chains.proofs.Cases.{same_some}
use Rattle.opening.specs.Seen.{file_entry, version1}
use Rattle.opening.proofs.Placing.{file_there, all_passed}
use Rattle.parts.specs.Checking.{shelf_and_sink}
use Rattle.parts.specs.Visiting.{EndsVisits}
use Rattle.benc.specs.Device.{Broke, Sent}
use Rattle.parts.specs.Telling.{HasBits, Tells, TellsFirst, Told}
use Rattle.parts.specs.Worse.{worse_v1}
use Rattle.parts.proofs.ToldFirst.{IsToldFirst, length-told, stops_at, told_all, told_none, told_one}
use Rattle.parts.proofs.visiting.visit_files.Goals as goal
use Rattle.parts.proofs.visiting.visit_files.Goals.{in-Some, in-None}

pub visit-found-requires-clause-file : goal.visit-found-requires-clause-file
visit-found-requires-clause-file g c = (
  c.files.file-index,
  file_there c.args.torrent.now c.files-entries.result.now c.files.file-index c.file-item.result c.files-entries.ensures c.files-test.true c.file-item.is,
)

pub tell-requires-clause-file : goal.tell-requires-clause-file
tell-requires-clause-file g c = (
  c.files.file-index,
  file_there c.args.torrent.now c.files-entries.result.now c.files.file-index c.file-item.result c.files-entries.ensures c.files-test.true c.file-item.is,
)

pub tell-requires-clause-room : goal.tell-requires-clause-room
tell-requires-clause-room g c = λ needs.
    let there = file_there c.args.torrent.now c.files-entries.result.now c.files.file-index c.file-item.result c.files-entries.ensures c.files-test.true
    c.file-item.is in
    let room = c.visit-found.ensures.room (c.files.invariant.bits needs c.files.file-index (file_entry c.file-item.result) there) in
    search rules

pub files-init : goal.files-init
files-init g c =
    let V = g.V.Visitor.visiting c.args.visitor.now c.args.torrent.now in
    record {
      room = omega (
        arith,
        c.requires.room.files,
        length-map c.files-entries.result.now file_entry,
        ap length c.files-entries.ensures,
      );
      bits = c.requires.room.bits;
      checked = subst
          (λ xs. IsToldFirst V g.L.LineSink.spelled c.args.torrent.now c.args.telling
          (shelf_and_sink c.args.shelf.now (g.L.LineSink.seen c.args.out.now)) 0 xs
          _ (shelf_and_sink c.args.shelf.now (g.L.LineSink.seen c.args.out.now)))
          (sym c.requires.room.none)
          (told_none V g.L.LineSink.spelled c.args.torrent.now c.args.telling (shelf_and_sink c.args.shelf.now (g.L.LineSink.seen c.args.out.now)));
    }

pub files-preserved : goal.files-preserved
files-preserved g c =
    let V = g.V.Visitor.visiting c.args.visitor.now c.args.torrent.now in
    let t = c.args.torrent.now in
    let n = c.files.file-index in
    let f = file_entry c.file-item.result in
    let found = c.visit-found in
    let old = shelf_and_sink c.args.shelf.now (g.L.LineSink.seen c.args.out.now) in
    let mid = shelf_and_sink c.files.shelf (g.L.LineSink.seen c.files.out) in
    let new = shelf_and_sink found.new.shelf (g.L.LineSink.seen c.tell.new.out) in
    let there = file_there t c.files-entries.result.now n c.file-item.result c.files-entries.ensures c.files-test.true c.file-item.is in
    let told = subst (λ b. Told (λ content. Tells
    g.L.LineSink.spelled t c.args.telling f content found.result.file) t c.args.telling f found.result.file b
    (Sent mid.1 (g.L.LineSink.seen c.tell.new.out)))
    c.deref.ensures.value c.in_ok-tell.ensures.tells in
    let checked = told_one V g.L.LineSink.spelled t c.args.telling old mid n c.files.files.items c.files.v1 f found.result found.new.bits.items
    found.new.shelf (g.L.LineSink.seen c.tell.new.out) c.requires.own there found.ensures.visited told c.files.invariant.checked in
    record {
      room = omega (arith, c.files.invariant.room, c.push_reserved.ensures.capacity);
      bits = subst (λ k. HasBits t c.args.telling k) (sym found.ensures.capacity) c.files.invariant.bits;
      checked = subst (λ v. IsToldFirst V g.L.LineSink.spelled t c.args.telling old (n + 1) c.push_reserved.new.self.items v new)
          (sym c.worse_v1-v1.ensures)
          (subst (λ xs. IsToldFirst V g.L.LineSink.spelled t c.args.telling old (n + 1) xs (worse_v1 c.files.v1 found.result.v1) new)
          (sym c.push_reserved.ensures.items) checked);
    }

pub returns-in_err-tell-clause-ends : goal.returns-in_err-tell-clause-ends
returns-in_err-tell-clause-ends g c =
    let V = g.V.Visitor.visiting c.args.visitor.now c.args.torrent.now in
    let t = c.args.torrent.now in
    let n = c.files.file-index in
    let f = file_entry c.file-item.result in
    let found = c.visit-found in
    let old = shelf_and_sink c.args.shelf.now (g.L.LineSink.seen c.args.out.now) in
    let mid = shelf_and_sink c.files.shelf (g.L.LineSink.seen c.files.out) in
    let there = file_there t c.files-entries.result.now n c.file-item.result c.files-entries.ensures c.files-test.true c.file-item.is in
    let so_far = c.files.invariant.checked in
    let long : length c.files.files.items ≡ n = ap length (sym so_far.verdicts_are) ∙ length-told so_far.told
    ∙ so_far.count in
    let few : length c.files.files.items < 2 ^ 64 - 1 = omega (arith, long, c.files-test.true, c.files.invariant.room, c.files.files.small) in
    let p = err_from_is_err_and c.from_residual.result c.from_residual.ensures.1 in
    let told = subst (λ b. Told (λ content. TellsFirst g.L.LineSink.spelled t c.args.telling f content found.result.file) t c.args.telling f
    found.result.file b
    (Broke mid.1 (g.L.LineSink.seen c.tell.new.out))) c.deref.ensures.value c.in_err-tell.ensures.tells in
    let stops = stops_at V g.L.LineSink.spelled t c.args.telling old mid n c.files.files.items c.files.v1 f found.result found.new.bits.items
    found.new.shelf (g.L.LineSink.seen c.tell.new.out) few c.in_err-tell.ensures.some c.requires.own there found.ensures.visited told so_far in
    subst (λ r. EndsVisits V g.L.LineSink.spelled t c.args.telling old (shelf_and_sink found.new.shelf (g.L.LineSink.seen c.tell.new.out)) r)
    (sym p.1) stops

pub returns-clause-ends : goal.returns-clause-ends
returns-clause-ends g c =
    let V = g.V.Visitor.visiting c.args.visitor.now c.args.torrent.now in
    let t = c.args.torrent.now in
    let all = all_passed t c.files.file-index c.files-entries.result.now c.files-entries.ensures c.files-test.false c.files.auto.file-index-end in
    let hybrid : is_some t.v1 ≡ is_some c.v1.result = same_some (λ v. version1 v.now) c.v1.result t.v1 c.v1.ensures in
    let so_far = c.files.invariant.checked in
    let few : length c.files.files.items < 2 ^ 64 = omega (
      arith,
      ap length so_far.verdicts_are,
      length-told so_far.told,
      so_far.count,
      all,
      c.files.auto.file-index-end,
      c.files.invariant.room,
      c.files.files.small,
    ) in
    told_all V g.L.LineSink.spelled t c.args.telling (shelf_and_sink c.args.shelf.now (g.L.LineSink.seen c.args.out.now))
    (shelf_and_sink c.files.shelf (g.L.LineSink.seen c.files.out)) c.files.file-index c.files.files.items c.files.v1 c.match-v1.v1 c.recall_sound.ensures all
    few
    (elim c.match-v1.branch [
      | in-Some w ↦ ap is_some w.v1-is ∙ sym (hybrid ∙ ap is_some w.in-Some.is)
      | in-None w ↦ ap is_some w.v1-is ∙ sym (hybrid ∙ ap is_some w.in-None.is)
    ])
    (λ v at. elim c.match-v1.branch [
      | in-Some w ↦ same_Some c.files.v1 v (sym w.v1-is ∙ at)
      | in-None w ↦ absurd (none-some v (sym w.v1-is ∙ at))
    ])
    c.files.invariant.checked

pub returns-clause-stays : goal.returns-clause-stays
returns-clause-stays g c = c.files.invariant.checked.stays

pub returns-in_err-tell-clause-stays : goal.returns-in_err-tell-clause-stays
returns-in_err-tell-clause-stays g c = c.visit-found.ensures.visited.stays ∙ c.files.invariant.checked.stays
