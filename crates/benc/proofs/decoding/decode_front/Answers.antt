use Rattle.std.proofs.Common.{take, drop, inl, sym}
use Rattle.std.proofs.lemmas.List.{take-append-drop}
use Rattle.std.proofs.lemmas.Result.{err_from_is_err_and}
use Rattle.benc.specs.View.{view}
use Rattle.benc.proofs.Fronts.{front_never_stops, taken_is, taken_never_stops}
use Rattle.benc.proofs.Unique.{one_fault}
use Rattle.benc.proofs.decoding.decode_front.Goals as goal

pub returns-in_err-v-clause-only : goal.returns-in_err-v-clause-only
returns-in_err-v-clause-only c v front rest e s =
    let fault = c.in_err-v.field-0.0 in
    let p = err_from_is_err_and c.from_residual.result c.from_residual.ensures.1 in
    rw (p.1, p.2) (absurd (front_never_stops c.args.input.now front rest v fault.kind fault.offset e s c.in_err-v.ensures.fault.1))

pub returns-in_err-v-clause-first : goal.returns-in_err-v-clause-first
returns-in_err-v-clause-first c kind offset f =
    let fault = c.in_err-v.field-0.0 in
    let p = err_from_is_err_and c.from_residual.result c.from_residual.ensures.1 in
    rw (p.1, p.2) (one_fault c.args.input.now fault.kind kind fault.offset offset (inl c.in_err-v.ensures.fault.1) (inl f))

pub returns-in_err-check-clause-spelled : goal.returns-in_err-check-clause-spelled
returns-in_err-check-clause-spelled c =
    let input = c.args.input.now in
    let used = c.in_ok-v.used in
    let found = c.in_ok-v.ensures.spelled in
    let p = err_from_is_err_and c.from_residual-in_err-check.result c.from_residual-in_err-check.ensures.1 in
    rw (p.1, p.2) (λ none. (found.0, take used input, drop used input, sym (take-append-drop used input), found.1))

pub returns-in_err-check-clause-first : goal.returns-in_err-check-clause-first
returns-in_err-check-clause-first c kind offset f =
    let found = c.in_ok-v.ensures.spelled in absurd (taken_never_stops c.args.input.now c.in_ok-v.used found.0 kind offset found.1 f)

pub returns-clause-found : goal.returns-clause-found
returns-clause-found c = c.in_ok-v.ensures.kept c.in_ok-check.ensures

pub returns-clause-only : goal.returns-clause-only
returns-clause-only c v front rest e s =
    taken_is c.args.input.now c.in_ok-v.used (view c.in_ok-v.v) v front rest c.in_ok-v.ensures.used (c.in_ok-v.ensures.kept c.in_ok-check.ensures) e s

pub returns-clause-first : goal.returns-clause-first
returns-clause-first c kind offset f =
    let found = c.in_ok-v.ensures.spelled in taken_never_stops c.args.input.now c.in_ok-v.used found.0 kind offset found.1 f
