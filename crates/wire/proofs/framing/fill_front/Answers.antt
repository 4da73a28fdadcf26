use Rattle.std.proofs.Common.{◌≡◌, length, take, drop, ◌∙◌, subst, sym}
use Rattle.std.proofs.lemmas.List.{length-take-le, take_at}
use Rattle.std.proofs.lemmas.Result.{MatchResult-weaker}
use Rattle.wire.specs.Reading.{GaveFaultless, StopsShort}
use Rattle.wire.proofs.framing.fill_front.Goals as goal

pub returns-clause-bytes : goal.returns-clause-bytes
returns-clause-bytes g c =
    let S = g.R.Source in
    let count = c.args.count in
    let room = c.args.room.now in
    let new = c.read_exact.new.buf in
    let wanted : length (take count room) ≡ count = length-take-le count room c.requires in
    MatchResult-weaker c.read_exact.result c.read_exact.ensures.bytes
    (λ _ gave. subst (GaveFaultless (S.seen c.args.source.now) (S.seen c.read_exact.new.source))
    (sym (take_at new (drop count room) count (c.read_exact.auto.buf ∙ wanted))) gave)
    (λ why s. subst (λ n. StopsShort (S.seen c.args.source.now) (S.seen c.read_exact.new.source) n why) wanted s)
