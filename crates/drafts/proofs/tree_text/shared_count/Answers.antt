use Rattle.std.proofs.Common.{◌≡◌, ◌<◌, ◌+◌, suc, Bool, true, false, not, if◌then◌else◌, [], length, map, drop, inl, inr, sym, ap, ◌∙◌, arith}
use Rattle.std.proofs.lemmas.Bool.{cases_lt}
use Rattle.std.proofs.lemmas.List.{get_or-map, length-map}
use Rattle.std.specs.String.{string_bytes}
use Rattle.drafts.specs.TreeText.{shared}
use Rattle.drafts.proofs.TreeTexts.{shared_here, shared_none}
use Rattle.drafts.proofs.tree_text.shared_count.Goals as goal
use Rattle.drafts.proofs.tree_text.shared_count.Goals.{After-ne}

turned : (b c : Bool) → c ≡ not b → b ≡ not c
turned true c e = ap not (sym e)
turned false c e = ap not (sym e)

-- the two names at this place are compared
here : (c : After-ne) (differ : Bool) → c.ne.result ≡ differ
    → shared (drop c.parts.i (map string_bytes c.args.one.now)) (drop c.parts.i (map string_bytes c.args.other.now))
    ≡ (if not differ
    then suc (shared (drop (c.parts.i + 1) (map string_bytes c.args.one.now)) (drop (c.parts.i + 1) (map string_bytes c.args.other.now)))
    else 0)
here c differ is =
    let one : c.parts.i < length c.args.one.now = omega (arith, c.parts-test.true, c.min-count.ensures) in
    let other : c.parts.i < length c.args.other.now = omega (arith, c.parts-test.true, c.min-count.ensures) in
    shared_here (map string_bytes c.args.one.now) (map string_bytes c.args.other.now) c.parts.i (string_bytes c.index-one-i.result)
    (string_bytes c.index-other-i.result) (not differ)
    (omega (arith, one, length-map c.args.one.now string_bytes)) (omega (arith, other, length-map c.args.other.now string_bytes))
    (get_or-map string_bytes c.args.one.now c.parts.i c.index-one-i.result [] one ∙ ap string_bytes (sym c.index-one-i.is))
    (get_or-map string_bytes c.args.other.now c.parts.i c.index-other-i.result [] other ∙ ap string_bytes (sym c.index-other-i.is))
    (turned _ differ (sym is ∙ c.ne.ensures))

pub returns-then-ne-clause-value : goal.returns-then-ne-clause-value
returns-then-ne-clause-value c =
    let none = here (goal.at.returns-then-ne-clause-value c).After-ne true c.if-ne.true in omega (arith, c.parts.invariant, none)

pub parts-preserved : goal.parts-preserved
parts-preserved c = let one = here (goal.at.parts-preserved c).After-ne false c.if-ne.false in omega (arith, c.parts.invariant, one)

pub returns-clause-value : goal.returns-clause-value
returns-clause-value c =
    let i = c.parts.i in
    let none = shared_none (map string_bytes c.args.one.now) (map string_bytes c.args.other.now) i (elim (cases_lt i (length c.args.one.now)) [
      | inl less ↦ inr (omega (arith, less, c.parts-test.false, c.min-count.ensures, length-map c.args.other.now string_bytes))
      | inr past ↦ inl (omega (arith, past, length-map c.args.one.now string_bytes))
    ])
    in
    omega (arith, c.parts.invariant, none, c.parts-test.false, c.parts.auto.i-end)
