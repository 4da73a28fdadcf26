use Rattle.std.proofs.Common.{◌≡◌, ◌+◌, ◌-◌, ℕ, List, Some, length, is_some, set, slice_get, refl, sym, ap, subst, ◌∙◌, arith}
use Rattle.std.proofs.lemmas.Option.{get_or_from_slice_get, slice_get_within}
use Rattle.chains.proofs.Cases.{item_at}
use Rattle.opening.specs.Description.{FileEntry}
use Rattle.opening.specs.Seen.{file_entry}
use Rattle.folders.specs.declared.report.FileVerdict.{FileVerdict}
use Rattle.parts.specs.Worse.{worse}
use Rattle.part_reports.proofs.Rooms.{room_for_file, room_stays}
use Rattle.part_reports.proofs.SoFar.{LinesSoFar, end_there, joined_whole, so_far_next, so_far_none, so_far_off, told_there}
use Rattle.part_reports.proofs.Windows.{file_in}
use Rattle.part_reports.proofs.report_lines.join_lines.Goals.{After-index-files-i, After-read_end}
use Rattle.part_reports.proofs.report_lines.join_lines.Goals as goal

pub files-init : goal.files-init
files-init c =
    let first = c.window-first.result.0 in
    let old = c.args.joined.now in
    record {
      within = c.window-first.ensures.first;
      so_far = so_far_off first 0 first (so_far_none c.args.kind c.args.torrent.now c.args.places c.args.lines.now old.report.files.items old.bad)
          c.recall_sound.ensures c.requires.files (omega arith) c.window-first.ensures.first (λ n f both there. c.window-first.ensures.before n f both.1 there);
      stays = refl;
    }

-- the file that is read
module _ (c : After-index-files-i) where
  abbrev own : FileEntry
  own = file_entry c.index-files-i.result

  there : slice_get c.args.torrent.now.files c.files.i ≡ Some own
  there = file_in c.args.torrent.now c.files-files.result.now c.files.i c.window-first.result.1 c.index-files-i.result c.files-files.ensures
      c.files-test.true c.window-first.ensures.end c.index-files-i.is

pub read_file-requires-clause-file : goal.read_file-requires-clause-file
read_file-requires-clause-file c = (c.files.i, there (goal.at.read_file-requires-clause-file c).After-index-files-i)

pub read_file-requires-clause-room : goal.read_file-requires-clause-room
read_file-requires-clause-room c =
    let s = (goal.at.read_file-requires-clause-room c).After-index-files-i in
    room_for_file c.args.kind c.args.torrent.now c.files.i (own s) c.args.pieces c.files.joined.bad c.recall_sound.ensures (there s) c.requires.pieces
    (room_stays c.args.kind c.args.pieces c.args.joined.now.bad c.files.joined.bad c.files.invariant.so_far.marks.count c.requires.room)

pub returns-in_err-verdict : goal.returns-in_err-verdict
returns-in_err-verdict c = rw c.from_residual.ensures (λ has.
    let here = there (goal.at.returns-in_err-verdict c).After-index-files-i in
    c.in_err-verdict.ensures (told_there c.files.invariant.so_far c.recall_sound.ensures here has))

pub files-preserved : goal.files-preserved
files-preserved c =
    let t = c.args.torrent.now in
    let k = c.args.kind in
    let r = c.args.places in
    let lines = c.args.lines.now in
    let old = c.args.joined.now.report.files.items in
    let was = c.args.joined.now.bad in
    let items : List FileVerdict = c.files.joined.report.files.items in
    let i : ℕ = c.files.i in
    let v = c.in_ok-verdict.verdict in
    let more = c.in_ok-verdict.behind.now in
    let s = (goal.at.files-preserved c).After-index-files-i in
    let within = slice_get_within t.files i (own s) (there s) in
    let a = item_at items i (omega (arith, within, c.files.invariant.so_far.own, c.requires.files)) in
    let later = c.read_file.new.bad in
    let next = so_far_next c.files.invariant.so_far c.recall_sound.ensures (there s) a.1 c.in_ok-verdict.ensures in
    let worse_is : c.worse-worse_one.result ≡ worse a.0 v = c.worse-worse_one.ensures
    ∙ ap (λ z. worse z v) (c.index.ensures ∙ get_or_from_slice_get items i a.0 c.index.result.now a.1) in
    record {
      within = omega (arith, within);
      so_far = subst (λ w. LinesSoFar k t r lines old (set items i c.worse-worse_one.result) was later (i + 1) w more) (sym c.worse-worst.ensures)
          (subst (λ x. LinesSoFar k t r lines old (set items i x) was later (i + 1) (worse c.files.worst v) more) (sym worse_is) next);
      stays = c.files.invariant.stays;
    }

-- all files were passed
full : (c : After-read_end) → LinesSoFar c.args.kind c.args.torrent.now c.args.places c.args.lines.now c.args.joined.now.report.files.items
    c.files.joined.report.files.items c.args.joined.now.bad c.files.joined.bad (length c.args.torrent.now.files) c.files.worst c.files.rest.now
full c =
    let all = length c.args.torrent.now.files in
    so_far_off (all - c.files.i) c.files.i all c.files.invariant.so_far c.recall_sound.ensures c.requires.files (omega (arith, c.files.invariant.within))
    (omega arith) (λ n f both there. c.window-first.ensures.behind n f (omega (arith, both.0, c.files-test.false)) there)

pub returns-in_err-v1 : goal.returns-in_err-v1
returns-in_err-v1 c = rw c.from_residual-in_err-v1.ensures (λ has.
    c.in_err-v1.ensures (end_there (full (goal.at.returns-in_err-v1 c).After-read_end) has))

pub returns : goal.returns
returns c =
    joined_whole c.args.joined.now _ (full (goal.at.returns c).After-read_end) c.in_ok-v1.ensures
    (c.join_v1.ensures.hybrid ∙ ap is_some c.files.invariant.stays)
    (λ a b one other. c.join_v1.ensures.version1 a b (c.files.invariant.stays ∙ one) other)
