use Rattle.std.proofs.Common.{refl, sym, subst}
use Rattle.btcheck_c.specs.CheckCalls.{StartsPieces}
use Rattle.btcheck_c.specs.Holds.{IsHandleFilled, Kept}
use Rattle.btcheck_c.specs.declared.thing.Kind.TheVariants as kind
use Rattle.btcheck_c.proofs.Starting.{started}
use Rattle.btcheck_c.proofs.Throughs.{holds_nothing}
use Rattle.btcheck_c.proofs.check_calls.btcheck_check_new_pieces.Goals as goal

pub returns-in-Err : goal.returns-in-Err
returns-in-Err c =
    let free = holds_nothing c.args.handle.now.slot.held c.is_full.result c.is_full.ensures c.if-is_full.false in
    started kind.Check (StartsPieces c.args.number c.args.from c.args.to) c.args.session.now.slot.held c.args.handle.now.slot.held c.args.handle.now.slot.held
    c.start_pieces.new.session.slot.held c.start_pieces.result c.in-Err.status free c.start_pieces.ensures
    (subst (λ made. Kept kind.Check made c.in-Err.status c.args.handle.now.slot.held) (sym c.in-Err.is) (refl, free))

pub returns-in-Ok : goal.returns-in-Ok
returns-in-Ok c =
    let free = holds_nothing c.args.handle.now.slot.held c.is_full.result c.is_full.ensures c.if-is_full.false in
    started kind.Check (StartsPieces c.args.number c.args.from c.args.to) c.args.session.now.slot.held c.args.handle.now.slot.held c.fill.new.self.slot.held
    c.start_pieces.new.session.slot.held c.start_pieces.result c.fill.result free c.start_pieces.ensures
    (subst (λ made. Kept kind.Check made c.fill.result c.fill.new.self.slot.held) (sym c.in-Ok.is)
    (subst (λ o. IsHandleFilled (kind.Check c.in-Ok.check) o c.fill.result c.fill.new.self.slot.held) free c.fill.ensures))
