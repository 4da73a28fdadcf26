use Rattle.std.proofs.Common.{rules, take, subst, sym, ◌∙◌}
use Rattle.std.proofs.lemmas.Result.{err_from_is_err_and}
use Rattle.conversions.specs.Steps.{EndsForm1}
use Rattle.conversions.proofs.Fronts.{one_from_test}
use Rattle.conversions.proofs.Stopping.{cut_short, fails_to_flush}
use Rattle.conversions.proofs.converting.convert_record.Goals as goal

pub returns-then-not-whole : goal.returns-then-not-whole
returns-then-not-whole g c =
    let S = g.R.Source in
    let W = g.W.Sink in
    let t = c.in_ok-held.ensures.front in
    let has = one_from_test (take c.in_ok-held.held c.read_front.new.buffer) (sym c.starts_with.ensures.value ∙ c.if-starts_with.false) in
    let e = c.in_ok-whole.ensures (S.seen c.args.source.now) (W.seen c.args.out.now) t.0 t.1 has c.in_ok-write_header.ensures in
    cut_short (S.seen c.args.source.now) (S.seen c.convert_rest.new.source) (W.seen c.args.out.now) (W.seen c.convert_rest.new.out)
    (subst (λ b. EndsForm1 b (S.seen c.args.source.now) (S.seen c.convert_rest.new.source) (W.seen c.args.out.now) (W.seen c.convert_rest.new.out))
    c.if-not-whole.true e)

pub returns-in_err-flush : goal.returns-in_err-flush
returns-in_err-flush g c =
    let S = g.R.Source in
    let W = g.W.Sink in
    let p = err_from_is_err_and c.from_residual-in_err-flush.result c.from_residual-in_err-flush.ensures.1 in
    let t = c.in_ok-held.ensures.front in
    let has = one_from_test (take c.in_ok-held.held c.read_front.new.buffer) (sym c.starts_with.ensures.value ∙ c.if-starts_with.false) in
    let e = c.in_ok-whole.ensures (S.seen c.args.source.now) (W.seen c.args.out.now) t.0 t.1 has c.in_ok-write_header.ensures in
    rw (p.1, p.2) (fails_to_flush (S.seen c.args.source.now) (S.seen c.convert_rest.new.source) (W.seen c.args.out.now) (W.seen c.convert_rest.new.out)
    (W.seen c.flush.new.out)
    (subst (λ b. EndsForm1 b (S.seen c.args.source.now) (S.seen c.convert_rest.new.source) (W.seen c.args.out.now) (W.seen c.convert_rest.new.out))
    c.if-not-whole.false e) c.in_err-flush.ensures)

pub returns-in_err-held : goal.returns-in_err-held
returns-in_err-held g c = search rules

pub returns-then-starts_with : goal.returns-then-starts_with
returns-then-starts_with g c = search rules

pub returns-in_err-write_header : goal.returns-in_err-write_header
returns-in_err-write_header g c = search rules

pub returns-in_err-whole : goal.returns-in_err-whole
returns-in_err-whole g c = search rules

pub returns : goal.returns
returns g c = search rules
