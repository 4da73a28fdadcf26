use Rattle.uses.proofs.making.draft_of_parts.Goals as goal

pub returns : goal.returns
returns c = λ under l contents are.
    c.all_texts_assemble.ensures under l contents are.parts are.numbers _ c.assemble.result are.listed are.short are.few are.held are.all are.are
    c.assemble.ensures
