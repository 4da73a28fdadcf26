use Rattle.std.proofs.Common.{refl, inl, inr}
use Rattle.c_layouts.specs.Refusals.{nothing_more}
use Rattle.btcheck_c.specs.Openings.{SessionExplained}
use Rattle.btcheck_c.specs.declared.thing.Kind.TheVariants as kind
use Rattle.btcheck_c.proofs.Throughs.{filled, unfilled, holds_nothing}
use Rattle.btcheck_c.proofs.opening_calls.btcheck_session_open_explained.Goals as goal

pub returns-in-Err-clause-done : goal.returns-in-Err-clause-done
returns-in-Err-clause-done c =
    unfilled (SessionExplained c.args.input.now c.args.with_layers c.in-Err.why.more) c.args.handle.now.slot.held c.in-Err.why.status
    (holds_nothing c.args.handle.now.slot.held c.is_full.result c.is_full.ensures c.if-is_full.false)
    (λ none. inr (none, c.in-Err.ensures))

pub returns-in-Ok-clause-done : goal.returns-in-Ok-clause-done
returns-in-Ok-clause-done c =
    filled (SessionExplained c.args.input.now c.args.with_layers nothing_more) (kind.Session c.in-Ok.session) c.args.handle.now.slot.held
    c.fill.new.self.slot.held c.fill.result
    (holds_nothing c.args.handle.now.slot.held c.is_full.result c.is_full.ensures c.if-is_full.false) c.fill.ensures
    (λ there. inl (refl, (refl, (c.in-Ok.session, (there, c.in-Ok.ensures))))) (λ none. inr (none, inr refl))
