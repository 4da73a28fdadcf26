use Rattle.std.proofs.Common.{◌≡◌, ◌++◌, ◌+◌, ◌%◌, ◌^◌, ◌∙◌, ap, sym, subst, ◌<◌, arith, take}
use Rattle.std.specs.Option.{MatchOption}
use Rattle.benc.specs.Device.{one_more}
use Rattle.lines.specs.Reading.{BeginsWith, bytes_taken}
use Rattle.lines.specs.Table.{row_of}
use Rattle.lines.specs.Texts.{text_of}
use Rattle.lines.proofs.Agreeing.{differs_there, same_after}
use Rattle.lines.proofs.reading.strip_line.Goals as goal

pub returns-in-Ok : goal.returns-in-Ok
returns-in-Ok c =
    let line = text_of (row_of c.args.line.now) in
    let same = same_after c.new-compared.result c.say.new.out line c.in-Ok.ensures.bytes in
    let text = same.0 ∙ c.new-compared.ensures.text in
    let taken = same.1 ∙ ap (λ b. b ++ line) c.new-compared.ensures.nothing in
    subst (λ t. MatchOption c.rest.result (BeginsWith line t → ⊥) (λ rest. t ≡ line ++ rest.now)) text
    (subst (λ l. MatchOption c.rest.result (BeginsWith l c.say.new.out.text.now → ⊥) (λ rest. c.say.new.out.text.now ≡ l ++ rest.now)) taken
    c.rest.ensures)

pub returns-in-Err : goal.returns-in-Err
returns-in-Err c = λ begins.
    let line = text_of (row_of c.args.line.now) in
    let n = c.in-Err.ensures.bytes.0 in
    let out = c.say.new.out in
    let same = same_after c.new-compared.result out (take n line) c.in-Err.ensures.bytes.1 in
    let text = same.0 ∙ c.new-compared.ensures.text in
    let taken = same.1 ∙ ap (λ b. b ++ take n line) c.new-compared.ensures.nothing in
    let count : out.faults ≡ (0 + 1) % 2 ^ 64 = c.in-Err.ensures.faults ∙ ap one_more c.new-compared.ensures.faults in
    let some : 0 < out.faults = omega (arith, count) in
    differs_there out line n taken (out.faulty some) (subst (λ t. BeginsWith line t) (sym text) begins)
