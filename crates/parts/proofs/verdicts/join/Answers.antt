use Rattle.std.proofs.Common.{rules, ◌≡◌, inl, inr, ℕ, ◌<◌, List, length, set, slice_get, Some, ap, sym, ◌∙◌, arith, ap₂}
use Rattle.std.proofs.lemmas.Bool.{cases_lt}
use Rattle.std.proofs.lemmas.List.{get_or-set_other, get_or-set_same, length-set}
use Rattle.std.proofs.lemmas.Option.{slice_get_within, slice_get_past, slice_get-get_or, get_or_from_slice_get}
use Rattle.chains.proofs.Cases.{last_or_before}
use Rattle.folders.specs.declared.report.FileVerdict.{FileVerdict}
use Rattle.parts.specs.Worse.{worse}
use Rattle.parts.proofs.verdicts.join.Goals as goal

-- what stands at a place of a list, after one place was written
at_other : {A : Type 0} (xs : List A) (i n : ℕ) (x : A) → (n ≡ i → ⊥) → slice_get (set xs i x) n ≡ slice_get xs n
at_other xs i n x other = elim (cases_lt n (length xs)) [
  | inl lt ↦
      slice_get-get_or (set xs i x) n x (omega (arith, lt, length-set xs i x))
      ∙ ap Some (get_or-set_other xs i n x x other)
      ∙ sym (slice_get-get_or xs n x lt)
  | inr past ↦ slice_get_past (set xs i x) n (omega (arith, past, length-set xs i x)) ∙ sym (slice_get_past xs n past)
]

at_same : {A : Type 0} (xs : List A) (i : ℕ) (x : A) → i < length xs → slice_get (set xs i x) i ≡ Some x
at_same xs i x lt = slice_get-get_or (set xs i x) i x (omega (arith, lt, length-set xs i x)) ∙ ap Some (get_or-set_same xs i x x lt)

pub files-preserved : goal.files-preserved
files-preserved c =
    let xs : List FileVerdict = c.files.report.files.items in
    let i : ℕ = c.files.i in
    let x : FileVerdict = c.worse-joined.result in
    let keep = c.files.invariant in
    let inside : i < length xs = omega (arith, keep.own, c.files-test.true) in
    record {
      own = length-set xs i x ∙ keep.own;
      other = keep.other;
      done = λ n v w lt a b. elim (last_or_before n i lt) [
        | inl before ↦ at_other xs i n x (λ e. omega (arith, e, before)) ∙ keep.done n v w before a b
        | inr last ↦
            let own : slice_get xs i ≡ Some v = keep.rest i (omega arith) ∙ ap (slice_get c.args.report.now.files.items) (sym last) ∙ a in
            let other : slice_get c.args.part.now.files.items i ≡ Some w = ap (slice_get c.args.part.now.files.items) (sym last) ∙ b in
            ap (slice_get (set xs i x)) last
            ∙ at_same xs i x inside
            ∙ ap Some (c.worse-joined.ensures
            ∙ ap₂ worse (c.index.ensures ∙ get_or_from_slice_get xs i v c.index.result.now own)
            (c.index-in-files.ensures ∙ get_or_from_slice_get c.args.part.now.files.items i w c.index-in-files.result.now other))
      ];
      rest = λ n le. at_other xs i n x (λ e. omega (arith, e, le)) ∙ keep.rest n (omega (arith, le));
      stays = keep.stays;
    }

pub returns-in-Some-Some-clause-each : goal.returns-in-Some-Some-clause-each
returns-in-Some-Some-clause-each c = λ n v w a b.
    c.files.invariant.done n v w (omega (arith, slice_get_within c.args.part.now.files.items n w b, c.files.invariant.other, c.files-test.false)) a b

pub returns-after-files-2-clause-each : goal.returns-after-files-2-clause-each
returns-after-files-2-clause-each c = λ n v w a b.
    c.files.invariant.done n v w (omega (arith, slice_get_within c.args.part.now.files.items n w b, c.files.invariant.other, c.files-test.false)) a b

pub returns-in-Some-Some-clause-version1 : goal.returns-in-Some-Some-clause-version1
returns-in-Some-Some-clause-version1 c = search rules
