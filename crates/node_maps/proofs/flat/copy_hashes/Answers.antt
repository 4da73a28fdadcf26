use Rattle.std.proofs.Common.{ℕ, ◌+◌, ◌-◌, ◌<◌, ◌≤◌, ◌++◌, List, length, Option, None, inl, inr, sym, ap, ◌∙◌, arith}
use Rattle.std.proofs.lemmas.Bool.{cases_lt}
use Rattle.std.proofs.lemmas.Option.{none-some}
use Rattle.std.proofs.lemmas.List.{get_or_past}
use Rattle.node_maps.specs.Digest.{Hash}
use Rattle.node_maps.specs.Flat.{hash_in_row}
use Rattle.node_maps.specs.Runs.{AreKnown}
use Rattle.node_maps.proofs.Runs.{known-in_part, hashes-in_part}
use Rattle.node_maps.proofs.flat.copy_hashes.Goals as goal

-- known places lie inside
inside : (row : List (Option Hash)) (from count : ℕ) → AreKnown (hash_in_row row) from count → from < from + count → from + count ≤ length row
inside row from count known some = elim (cases_lt (length row) (from + count)) [
  | inr fits ↦ fits
  | inl short ↦
      let last = known (count - 1) (omega arith) in
      absurd (none-some last.0 (sym (get_or_past row (from + (count - 1)) None (omega arith)) ∙ last.1))
]

pub append_hashes-requires-clause-known : goal.append_hashes-requires-clause-known
append_hashes-requires-clause-known c = known-in_part (λ o. o) None c.args.row.now c.args.from c.args.count
    (inside c.args.row.now c.args.from c.args.count c.requires.known c.if-from-end.true) c.requires.known

pub returns-then-from-end-clause-copied : goal.returns-then-from-end-clause-copied
returns-then-from-end-clause-copied c =
    c.append_hashes.ensures.copied ∙ ap (λ xs. c.args.out.now.items ++ xs) (hashes-in_part (λ o. o) None c.args.row.now c.args.from c.args.count
    (inside c.args.row.now c.args.from c.args.count c.requires.known c.if-from-end.true))
