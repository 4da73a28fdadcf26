use Rattle.std.proofs.Common.{◌≡◌, inl, inr, arith}
use Rattle.std.specs.Option.{option_copied}
use Rattle.benc.specs.View.{view}
use Rattle.benc.specs.declared.fault.FaultKind.TheVariants.{NoMemory, Trailing}
use Rattle.benc.proofs.Fronts.{taken_trails, whole_is, whole_spells}
use Rattle.benc.proofs.Handed.{handed_on}
use Rattle.benc.proofs.Lookups.{spans_stand}
use Rattle.benc.proofs.Unique.{no_fault, one_fault}
use Rattle.benc.proofs.decoding.parse_whole.Goals as goal

pub returns-in_err-v-clause-only : goal.returns-in_err-v-clause-only
returns-in_err-v-clause-only c v s =
    let fault = c.in_err-v.field-0.0 in
    rw (handed_on c.from_residual.result _ c.from_residual.ensures.1)
    (absurd (no_fault c.args.input.now v fault.kind fault.offset s (inl c.in_err-v.ensures.fault.1)))

pub returns-in_err-v-clause-first : goal.returns-in_err-v-clause-first
returns-in_err-v-clause-first c kind offset f =
    let fault = c.in_err-v.field-0.0 in
    rw (handed_on c.from_residual.result _ c.from_residual.ensures.1)
    (one_fault c.args.input.now fault.kind kind fault.offset offset (inl c.in_err-v.ensures.fault.1) f)

pub returns-in_err-v-clause-fault : goal.returns-in_err-v-clause-fault
returns-in_err-v-clause-fault c =
    rw (handed_on c.from_residual.result _ c.from_residual.ensures.1) (λ known. inl c.in_err-v.ensures.fault.1)

pub returns-in_err-v-clause-memory : goal.returns-in_err-v-clause-memory
returns-in_err-v-clause-memory c =
    rw (handed_on c.from_residual.result _ c.from_residual.ensures.1) (λ none. absurd (c.in_err-v.ensures.fault.0 none))

pub returns-in_err-v-clause-spelled : goal.returns-in_err-v-clause-spelled
returns-in_err-v-clause-spelled c =
    rw (handed_on c.from_residual.result _ c.from_residual.ensures.1) (λ none. absurd (c.in_err-v.ensures.fault.0 none))

trails : Trailing ≡ NoMemory → ⊥
trails h = cc

pub returns-then-used-input-clause-memory : goal.returns-then-used-input-clause-memory
returns-then-used-input-clause-memory c none = absurd (trails none)

pub returns-then-used-input-clause-spelled : goal.returns-then-used-input-clause-spelled
returns-then-used-input-clause-spelled c none = absurd (trails none)

pub returns-then-used-input-clause-fault : goal.returns-then-used-input-clause-fault
returns-then-used-input-clause-fault c known =
    let found = c.in_ok-v.ensures.spelled in inr (taken_trails c.args.input.now c.in_ok-v.used found.0 c.if-used-input.true found.1)

pub returns-then-used-input-clause-only : goal.returns-then-used-input-clause-only
returns-then-used-input-clause-only c v s =
    let found = c.in_ok-v.ensures.spelled in
    let known = whole_is c.args.input.now c.in_ok-v.used found.0 v c.in_ok-v.ensures.used found.1 s in
    absurd (omega (arith, known.1))

pub returns-then-used-input-clause-first : goal.returns-then-used-input-clause-first
returns-then-used-input-clause-first c kind offset f =
    let input = c.args.input.now in
    let used = c.in_ok-v.used in
    let found = c.in_ok-v.ensures.spelled in
    one_fault input Trailing kind used offset (inr (taken_trails input used found.0 c.if-used-input.true found.1)) f

pub returns-in_err-check-clause-spelled : goal.returns-in_err-check-clause-spelled
returns-in_err-check-clause-spelled c =
    let found = c.in_ok-v.ensures.spelled in
    rw (handed_on c.from_residual-in_err-check.result _ c.from_residual-in_err-check.ensures.1)
    (λ none. (found.0, whole_spells c.args.input.now c.in_ok-v.used found.0 (omega arith) found.1))

pub returns-in_err-check-clause-first : goal.returns-in_err-check-clause-first
returns-in_err-check-clause-first c kind offset f =
    let found = c.in_ok-v.ensures.spelled in
    absurd (no_fault c.args.input.now found.0 kind offset (whole_spells c.args.input.now c.in_ok-v.used found.0 (omega arith) found.1) f)

pub returns-clause-found : goal.returns-clause-found
returns-clause-found c =
    whole_spells c.args.input.now c.in_ok-v.used (view c.in_ok-v.v) c.if-used-input.false (c.in_ok-v.ensures.kept c.in_ok-check.ensures)

pub returns-clause-span : goal.returns-clause-span
returns-clause-span c = c.in_ok-v.ensures.span c.in_ok-check.ensures

pub returns-clause-stands : goal.returns-clause-stands
returns-clause-stands c =
    let input = c.args.input.now in
    let v = view c.in_ok-v.v in
    let kept = c.in_ok-check.ensures in
    spans_stand (option_copied c.args.asked) input v (option_copied c.in_ok-v.span)
    (whole_spells input c.in_ok-v.used v c.if-used-input.false (c.in_ok-v.ensures.kept kept)) (c.in_ok-v.ensures.span kept)

pub returns-clause-only : goal.returns-clause-only
returns-clause-only c v s = (whole_is c.args.input.now c.in_ok-v.used (view c.in_ok-v.v) v c.in_ok-v.ensures.used (c.in_ok-v.ensures.kept c.in_ok-check.ensures)
    s).0

pub returns-clause-first : goal.returns-clause-first
returns-clause-first c kind offset f =
    let found = c.in_ok-v.ensures.spelled in
    no_fault c.args.input.now found.0 kind offset (whole_spells c.args.input.now c.in_ok-v.used found.0 c.if-used-input.false found.1) f

pub returns-in_err-check-clause-fault : goal.returns-in_err-check-clause-fault
returns-in_err-check-clause-fault c =
    rw (handed_on c.from_residual-in_err-check.result _ c.from_residual-in_err-check.ensures.1) (λ known. absurd (known c.in_err-check.ensures.0))

pub returns-in_err-check-clause-memory : goal.returns-in_err-check-clause-memory
returns-in_err-check-clause-memory c =
    rw (handed_on c.from_residual-in_err-check.result _ c.from_residual-in_err-check.ensures.1) (λ none. c.in_err-check.ensures.1)

pub returns-in_err-check-clause-only : goal.returns-in_err-check-clause-only
returns-in_err-check-clause-only c v s =
    rw (handed_on c.from_residual-in_err-check.result _ c.from_residual-in_err-check.ensures.1) c.in_err-check.ensures.0
