use Rattle.std.proofs.Common.{◌≡◌, ℕ, ◌+◌, ◌≤◌, ◌++◌, List, [], drop, length, Option, Some, sym, ap, ◌∙◌, subst, arith}
use Rattle.std.specs.Prelude.{slice_get}
use Rattle.std.proofs.lemmas.List.{append-nil, drop_all}
use Rattle.std.proofs.lemmas.Option.{slice_get_within, get_or_from_slice_get}
use Rattle.std.proofs.lemmas.Result.{err_from_is_err_and}
use Rattle.partial_tree.specs.declared.refusal.BlockRefusal.{BlockRefusal}
use Rattle.benc.specs.Device.{Sent}
use Rattle.lines.specs.Rows.{Row, Spelling}
use Rattle.printing.proofs.Parts.{item_next, sent_fault, sent_next}
use Rattle.session.specs.Blocks.{BlocksSeen}
use Rattle.replays.specs.ReplayRows.{entry_lines_as, frame_entry_row}
use Rattle.replays.proofs.lines_of_frame.write_blocks.Goals as goal

-- the line of an entry, and those behind it
next_entry : (spelled : Spelling) (n : ℕ) (v : BlocksSeen) (i : ℕ) (r : Option BlockRefusal) (line : Row) → slice_get v.refusals i ≡ Some r
    → line ≡ frame_entry_row n v i r
    → entry_lines_as spelled n v i (drop i v.refusals) ≡ spelled line ++ entry_lines_as spelled n v (i + 1) (drop (i + 1) v.refusals)
unfolding entry_lines_as
next_entry spelled n v i r line at is =
    ap (entry_lines_as spelled n v i) (item_next v.refusals i r (slice_get_within v.refusals i r at) (sym (get_or_from_slice_get v.refusals i r r at)))
    ∙ ap (λ t. spelled t ++ entry_lines_as spelled n v (i + 1) (drop (i + 1) v.refusals)) (sym is)

-- nothing is left behind the last entry
no_entry : (spelled : Spelling) (n : ℕ) (v : BlocksSeen) (i : ℕ) → length v.refusals ≤ i → entry_lines_as spelled n v i (drop i v.refusals) ≡ []
unfolding entry_lines_as
no_entry spelled n v i past = ap (entry_lines_as spelled n v i) (drop_all i v.refusals past)

pub returns-in_err-say : goal.returns-in_err-say
returns-in_err-say g c =
    let next = next_entry g.L.LineSink.spelled c.args.number c.args.blocks.now c.entries.entry c.refusal.result _ c.refusal.ensures
    c.line_of_entry-line.ensures in
    let p = err_from_is_err_and c.from_residual.result c.from_residual.ensures.1 in
    sent_fault _ p.0 _ _ _ _ _ _ _ c.entries.invariant next p.1 c.in_err-say.ensures

pub entries-preserved : goal.entries-preserved
entries-preserved g c =
    let next = next_entry g.L.LineSink.spelled c.args.number c.args.blocks.now c.entries.entry c.refusal.result _ c.refusal.ensures
    c.line_of_entry-line.ensures in
    sent_next _ _ _ _ _ _ _ c.entries.invariant next c.in_ok-say.ensures

pub returns : goal.returns
returns g c =
    let none = no_entry g.L.LineSink.spelled c.args.number c.args.blocks.now c.entries.entry
    (omega (arith, c.entries-test.false, c.len-entry-end.ensures.count)) in
    subst (Sent (g.L.LineSink.seen c.args.report.now) (g.L.LineSink.seen c.entries.report))
    (sym (c.entries.invariant.1 ∙ ap (λ t. c.entries.invariant.0 ++ t) none ∙ append-nil c.entries.invariant.0)) c.entries.invariant.2
