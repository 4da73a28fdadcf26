use Rattle.std.proofs.Common.{◌∙◌, ap, map}
use Rattle.drafting.proofs.Adding.{adds_file}
use Rattle.drafting.specs.Drafted.{components_of}
use Rattle.drafting.proofs.open_draft.OpenDraft.add.Goals as goal

pub returns : goal.returns
returns c =
    adds_file c.args.self.now c.add_parts.new.self c.args.file.now c.add_parts.new.file c.args.path.now _ c.add_parts.result
    c.in-Ok.ensures.cases.1
    (ap (map (λ s. s.now)) c.deref.ensures.value ∙ c.in_ok-parts.ensures ∙ ap components_of c.in-Ok.ensures.cases.0)
    c.add_parts.ensures
