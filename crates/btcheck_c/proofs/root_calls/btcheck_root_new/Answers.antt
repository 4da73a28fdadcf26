use Rattle.std.proofs.Common.{refl, inl, inr}
use Rattle.btcheck_c.specs.RootCalls.{RootMade}
use Rattle.btcheck_c.specs.Holds.{FillsHandle}
use Rattle.btcheck_c.specs.declared.thing.Kind.TheVariants as kind
use Rattle.btcheck_c.proofs.Throughs.{filled, holds_nothing, unfilled}
use Rattle.btcheck_c.proofs.root_calls.btcheck_root_new.Goals as goal

pub returns-in-Err : goal.returns-in-Err
returns-in-Err c =
    unfilled RootMade c.args.handle.now.slot.held 2
    (holds_nothing c.args.handle.now.slot.held c.is_full.result c.is_full.ensures c.if-is_full.false)
    (λ none. inr (refl, none))

pub returns-in-Ok : goal.returns-in-Ok
returns-in-Ok c =
    filled RootMade (kind.Root c.in-Ok.file) c.args.handle.now.slot.held c.fill.new.self.slot.held c.fill.result
    (holds_nothing c.args.handle.now.slot.held c.is_full.result c.is_full.ensures c.if-is_full.false) c.fill.ensures
    (λ there. inl (refl, (c.in-Ok.file, there, c.in-Ok.ensures)))
    (λ none. inr (refl, none))
