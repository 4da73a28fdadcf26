use Rattle.std.proofs.Common.{◌<◌, inl, inr, sym, ◌∙◌, subst, arith}
use Rattle.std.proofs.lemmas.Bool.{cases_lt, false≢true}
use Rattle.std.proofs.lemmas.Result.{IfOk-weaker, on_err_weaker}
use Rattle.hashtree.specs.LayerBuilder.{layer_byte_count}
use Rattle.gathering.specs.Hashing.{EndsWithHashes}
use Rattle.drafting.specs.Stages.{FoundOf}
use Rattle.drafting.proofs.Finding.{found_coming, found_empty, lacks_at_end}
use Rattle.drafting.specs.declared.stage.Stage.TheVariants as stage
use Rattle.drafting.proofs.stage.Stage.found.Goals as goal

pub returns-then-is_empty-clause-found : goal.returns-then-is_empty-clause-found
returns-then-is_empty-clause-found c =
    let h = c.in-Coming.hashing in
    subst (λ s. FoundOf s c.empty.result) (sym c.in-Coming.is)
    (found_empty h c.empty.result (c.is_empty.ensures.0 c.if-is_empty.true) c.empty.ensures)

pub returns-else-is_empty-clause-found : goal.returns-else-is_empty-clause-found
returns-else-is_empty-clause-found c =
    let h = c.in-Coming.hashing in
    rw c.in-Coming.is (IfOk-weaker c.finish.result (EndsWithHashes h) (FoundOf (stage.Coming h)) (found_coming h) c.finish.ensures.gives)

pub returns-else-is_empty-clause-memory : goal.returns-else-is_empty-clause-memory
returns-else-is_empty-clause-memory c =
    let h = c.in-Coming.hashing in
    let some : 0 < layer_byte_count h.tree = elim (cases_lt 0 (layer_byte_count h.tree)) [
      | inl more ↦ more
      | inr none ↦ absurd (false≢true (sym c.if-is_empty.false ∙ c.is_empty.ensures.1 (omega (arith, none))))
    ] in
    rw c.in-Coming.is (on_err_weaker c.finish.result (lacks_at_end h some) c.finish.ensures.memory)
