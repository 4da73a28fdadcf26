use Rattle.std.proofs.lemmas.Result.{err_from_is_err_and}
use Rattle.std.proofs.Common.{subst, sym, ◌≡◌, List, ℕ, []}
use Rattle.benc.specs.Device.{Broke, Sent}
use Rattle.conversions.specs.Steps.{Held}
use Rattle.conversions.proofs.Sending.{held_broke, held_sent}
use Rattle.conversions.proofs.outgoing.send.Goals as goal

pub returns-in_err-write_all-clause-text : goal.returns-in_err-write_all-clause-text
returns-in_err-write_all-clause-text g c = λ start text h.
    let S = g.W.Sink in
    let p = err_from_is_err_and c.from_residual.result c.from_residual.ensures.1 in
    let e : c.as_slice.result.now ≡ c.args.outgoing.now.items = c.as_slice.ensures.value in
    rw p.1 (held_broke start (S.seen c.args.out.now) (S.seen c.write_all.new.out) c.args.outgoing.now.items text h
    (subst (Broke (S.seen c.args.out.now) (S.seen c.write_all.new.out)) e c.in_err-write_all.ensures))

pub returns-clause-text : goal.returns-clause-text
returns-clause-text g c = λ start text h.
    let S = g.W.Sink in
    let e : c.as_slice.result.now ≡ c.args.outgoing.now.items = c.as_slice.ensures.value in
    let none : c.clear.new.self.items ≡ [] = c.clear.ensures in
    subst (λ (xs : List ℕ). Held start (S.seen c.write_all.new.out) xs text) (sym none)
    (held_sent start (S.seen c.args.out.now) (S.seen c.write_all.new.out) c.args.outgoing.now.items text h
    (subst (Sent (S.seen c.args.out.now) (S.seen c.write_all.new.out)) e c.in_ok-write_all.ensures))
