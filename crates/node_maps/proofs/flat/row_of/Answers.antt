use Rattle.std.proofs.Common.{◌≡◌, ℕ, List, length, get_or, Option, None, inl, inr, refl, sym, ap, ◌∙◌}
use Rattle.std.specs.Prelude.{slice_get}
use Rattle.std.specs.Option.{option_and_then}
use Rattle.std.proofs.lemmas.Bool.{cases_lt}
use Rattle.std.proofs.lemmas.Option.{slice_get-get_or, slice_get_past, slice_get_read}
use Rattle.std.proofs.lemmas.List.{get_or_past}
use Rattle.node_maps.specs.Digest.{Hash}
use Rattle.node_maps.specs.Flat.{FlatRow}
use Rattle.node_maps.proofs.flat.row_of.Goals as goal

-- a cell past the end holds nothing
read : (xs : List (Option Hash)) (i : ℕ) → get_or xs i None ≡ option_and_then (λ (o : Option Hash). o) (slice_get xs i)
read xs i = elim (cases_lt i (length xs)) [
  | inl low ↦ sym (ap (option_and_then (λ (o : Option Hash). o)) (slice_get-get_or xs i None low))
  | inr past ↦ get_or_past xs i None past ∙ sym (ap (option_and_then (λ (o : Option Hash). o)) (slice_get_past xs i past))
]

pub returns-then-layer-rows : goal.returns-then-layer-rows
returns-then-layer-rows c = λ i.
    ap (λ xs. get_or xs i None) c.deref.ensures.value ∙ read c.index-rows-layer.result.items i
    ∙ sym (ap (option_and_then (λ (row : FlatRow). option_and_then (λ (o : Option Hash). o) (slice_get row.items i)))
    (slice_get_read c.args.rows.now (length c.args.rows.now) c.args.layer c.index-rows-layer.result refl c.if-layer-rows.true c.index-rows-layer.is))

pub returns-else-layer-rows : goal.returns-else-layer-rows
returns-else-layer-rows c = λ i.
    sym (ap (option_and_then (λ (row : FlatRow). option_and_then (λ (o : Option Hash). o) (slice_get row.items i)))
    (slice_get_past c.args.rows.now c.args.layer c.if-layer-rows.false))
