use Rattle.std.proofs.Common.{refl, inl, inr}
use Rattle.c_layouts.specs.Refusals.{nothing_more}
use Rattle.btcheck_c.specs.Openings.{SessionOpened}
use Rattle.btcheck_c.specs.declared.thing.Kind.TheVariants as kind
use Rattle.btcheck_c.proofs.Throughs.{filled, unfilled, holds_nothing}
use Rattle.btcheck_c.proofs.opening_calls.btcheck_session_open.Goals as goal

pub returns-in-Err : goal.returns-in-Err
returns-in-Err c =
    unfilled (SessionOpened c.args.input.now c.args.with_layers) c.args.handle.now.slot.held c.in-Err.why.status
    (holds_nothing c.args.handle.now.slot.held c.is_full.result c.is_full.ensures c.if-is_full.false)
    (λ none. (c.in-Err.why.more, inr (none, c.in-Err.ensures)))

pub returns-in-Ok : goal.returns-in-Ok
returns-in-Ok c =
    filled (SessionOpened c.args.input.now c.args.with_layers) (kind.Session c.in-Ok.session) c.args.handle.now.slot.held
    c.fill.new.self.slot.held c.fill.result
    (holds_nothing c.args.handle.now.slot.held c.is_full.result c.is_full.ensures c.if-is_full.false) c.fill.ensures
    (λ there. (nothing_more, inl (refl, (refl, (c.in-Ok.session, (there, c.in-Ok.ensures))))))
    (λ none. (nothing_more, inr (none, inr refl)))
