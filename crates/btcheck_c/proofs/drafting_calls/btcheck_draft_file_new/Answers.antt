use Rattle.std.proofs.Common.{refl, sym, subst}
use Rattle.btcheck_c.specs.Drafting.{StartsFile}
use Rattle.btcheck_c.specs.Holds.{IsHandleFilled, Kept}
use Rattle.btcheck_c.specs.declared.thing.Kind.TheVariants as kind
use Rattle.btcheck_c.proofs.Starting.{started}
use Rattle.btcheck_c.proofs.Throughs.{holds_nothing}
use Rattle.btcheck_c.proofs.drafting_calls.btcheck_draft_file_new.Goals as goal

pub returns-in-Err : goal.returns-in-Err
returns-in-Err c =
    let free = holds_nothing c.args.handle.now.slot.held c.is_full.result c.is_full.ensures c.if-is_full.false in
    started kind.File StartsFile c.args.draft.now.slot.held c.args.handle.now.slot.held c.args.handle.now.slot.held
    c.start_file.new.draft.slot.held c.start_file.result c.in-Err.status free c.start_file.ensures
    (subst (λ made. Kept kind.File made c.in-Err.status c.args.handle.now.slot.held) (sym c.in-Err.is) (refl, free))

pub returns-in-Ok : goal.returns-in-Ok
returns-in-Ok c =
    let free = holds_nothing c.args.handle.now.slot.held c.is_full.result c.is_full.ensures c.if-is_full.false in
    started kind.File StartsFile c.args.draft.now.slot.held c.args.handle.now.slot.held c.fill.new.self.slot.held
    c.start_file.new.draft.slot.held c.start_file.result c.fill.result free c.start_file.ensures
    (subst (λ made. Kept kind.File made c.fill.result c.fill.new.self.slot.held) (sym c.in-Ok.is)
    (subst (λ o. IsHandleFilled (kind.File c.in-Ok.file) o c.fill.result c.fill.new.self.slot.held) free c.fill.ensures))
