use Rattle.std.proofs.Common.{Some, refl, inl, inr, ap, ◌∙◌}
use Rattle.drafting.specs.Drafted.{new_rows}
use Rattle.btcheck_c.specs.Drafting.{DraftMade}
use Rattle.btcheck_c.specs.declared.thing.Kind.TheVariants as kind
use Rattle.btcheck_c.proofs.Drafts.{refused_as}
use Rattle.btcheck_c.proofs.Throughs.{filled, holds_nothing, unfilled}
use Rattle.btcheck_c.proofs.drafting_calls.btcheck_draft_new.Goals as goal

pub returns-in-Err : goal.returns-in-Err
returns-in-Err c =
    unfilled (DraftMade c.args.name.now c.args.piece_length c.args.hybrid) c.args.handle.now.slot.held c.refused_draft.result
    (holds_nothing c.args.handle.now.slot.held c.is_full.result c.is_full.ensures c.if-is_full.false)
    (λ none. inr (
      none,
      refused_as (new_rows c.args.name.now c.args.piece_length) c.in-Err.refusal c.refused_draft.result
          c.in-Err.ensures.empty c.in-Err.ensures.memory c.refused_draft.ensures,
    ))

pub returns-in-Ok : goal.returns-in-Ok
returns-in-Ok c =
    filled (DraftMade c.args.name.now c.args.piece_length c.args.hybrid) (kind.Draft c.in-Ok.draft) c.args.handle.now.slot.held
    c.fill.new.self.slot.held c.fill.result
    (holds_nothing c.args.handle.now.slot.held c.is_full.result c.is_full.ensures c.if-is_full.false) c.fill.ensures
    (λ there. inl (c.in-Ok.ensures.empty.0, (refl, there ∙ ap (λ d. Some (record { kind = kind.Draft d })) c.in-Ok.ensures.empty.1)))
    (λ none. inr (none, inl (c.in-Ok.ensures.empty.0, refl)))
