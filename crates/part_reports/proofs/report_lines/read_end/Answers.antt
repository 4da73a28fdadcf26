use Rattle.std.proofs.Common.{◌≡◌, ◌-◌, ◌++◌, ◌&&◌, ℕ, List, refl, sym, ap, subst, ◌∙◌, arith}
use Rattle.folders.specs.Verdicts.{is_good, stream_is_good}
use Rattle.parts.specs.Parts.{place_count}
use Rattle.folders.specs.Printed.{version1_rows}
use Rattle.parts.specs.PartLines.{part_answer_row}
use Rattle.lines.specs.Rows.{spell}
use Rattle.lines.specs.Texts.{text_of}
use Rattle.part_reports.specs.Lines.{SaysEnd}
use Rattle.part_reports.proofs.Said.{same_said_v1}
use Rattle.part_reports.proofs.SameLines.{same_rest}
use Rattle.part_reports.proofs.report_lines.read_end.Goals as goal

pub returns-then-not-can_say_of_stream : goal.returns-then-not-can_say_of_stream
returns-then-not-can_say_of_stream c = λ end.
    let r = c.args.places in
    let worst = c.args.worst in
    let pieces : place_count c.args.torrent.now - 1 ≡ c.args.pieces = omega (arith, c.requires) in
    let says : SaysEnd r c.args.pieces worst end.0 = subst (λ n. SaysEnd r n worst end.0) pieces end.1.says in
    let same = same_said_v1 c.args.torrent.now r c.args.pieces worst c.args.text.now c.read_v1-v1.result c.requires c.ranges.pieces.fits
    c.read_v1-v1.ensures.whole end in
    let on = c.can_say_of_stream.ensures.1 (subst (SaysEnd r c.args.pieces worst) (sym same) says) in
    let off = c.if-not-can_say_of_stream.true in
    (let x : ⊥ = cc in absurd x)

pub returns-in_err-answer : goal.returns-in_err-answer
returns-in_err-answer c = rw c.from_residual.ensures (λ end.
    let same = same_said_v1 c.args.torrent.now c.args.places c.args.pieces c.args.worst c.args.text.now c.read_v1-v1.result c.requires c.ranges.pieces.fits
    c.read_v1-v1.ensures.whole end in
    let answer : List ℕ = text_of (part_answer_row (is_good c.args.worst && stream_is_good end.0)) in
    c.in_err-answer.ensures (answer, end.1.is ∙ ap (λ v. spell text_of (version1_rows v) ++ answer) (sym same)))

pub returns-then-ends_with : goal.returns-then-ends_with
returns-then-ends_with c =
    let v1 = c.read_v1-v1.result in
    let pieces : place_count c.args.torrent.now - 1 ≡ c.args.pieces = omega (arith, c.requires) in
    record {
      hybrid = c.read_v1-v1.ensures.hybrid;
      says = subst (λ n. SaysEnd c.args.places n c.args.worst v1) (sym pieces) (c.if-not-can_say_of_stream.ensures.0 refl);
      is = c.in_ok-answer.ensures
          ∙ ap (λ x. spell text_of (version1_rows v1) ++ x) (c.if-ends_with.ensures.0 refl ∙ ap (λ b. text_of (part_answer_row b)) c.yes.ensures);
    }

pub returns-else-ends_with : goal.returns-else-ends_with
returns-else-ends_with c = λ end.
    let v1 = c.read_v1-v1.result in
    let same = same_said_v1 c.args.torrent.now c.args.places c.args.pieces c.args.worst c.args.text.now v1 c.requires c.ranges.pieces.fits
    c.read_v1-v1.ensures.whole end in
    let other : List ℕ = text_of (part_answer_row (is_good c.args.worst && stream_is_good end.0)) in
    let answer_is : c.in_ok-answer.answer.now ≡ other = same_rest (spell text_of (version1_rows v1)) c.in_ok-answer.answer.now other
    (sym c.in_ok-answer.ensures ∙ end.1.is ∙ ap (λ v. spell text_of (version1_rows v) ++ other) (sym same)) in
    let line_is : other ≡ text_of (part_answer_row c.yes.result) = ap (λ v. text_of (part_answer_row (is_good c.args.worst && stream_is_good v))) (sym same)
    ∙ ap (λ b. text_of (part_answer_row b)) (sym c.yes.ensures) in
    let on = c.ends_with.ensures.1 (answer_is ∙ line_is) in
    let off = c.if-ends_with.false in
    (let x : ⊥ = cc in absurd x)
