use Rattle.std.proofs.Common.{◌≡◌, ℕ, ◌+◌, ◌≤◌, ◌++◌, ◌∷◌, List, [], None, Some, IsSome, take, vec_len, sym, subst, arith, rules, append-nil}
use Rattle.std.specs.Vec.{vec_capacity}
use Rattle.pieces.specs.CutStreams.{TellsCut}
use Rattle.pieces.proofs.CutMemory.{told_small, told_takes_memory}
use Rattle.pieces.proofs.FileCuts.{goes_both, goes_told}
use Rattle.pieces.proofs.v1_cuts.V1Cuts.take.Goals as goal

pub take-taken-requires-clause-fits : goal.take-taken-requires-clause-fits
take-taken-requires-clause-fits c = told_small c.args.self.now (c.args.self.now.in_time c.requires.works)

pub returns-in_default-clause-on : goal.returns-in_default-clause-on
returns-in_default-clause-on c =
    goes_told c.args.self.now _ _ None (subst (λ o. TellsCut c.args.self.now.stream (take c.take-taken.result.0 c.args.bytes.now) o c.take-taken.new.self)
    c.in_default.is c.take-taken.ensures.tells) (sym (append-nil c.args.self.now.cuts.items)) (omega arith) (omega arith)

pub returns-then-is_err-clause-memory : goal.returns-then-is_err-clause-memory
returns-then-is_err-clause-memory c =
    let some : IsSome c.take-taken.result.1 = search rules in
    let full : vec_capacity c.args.self.now.cuts ≤ vec_len c.args.self.now.cuts = search rules in
    told_takes_memory c.args.self.now _ (c.take-taken.ensures.after some) full

pub returns-clause-on : goal.returns-clause-on
returns-clause-on c =
    let f = c.args.self.now in
    let part : List ℕ = take c.take-taken.result.0 c.args.bytes.now in
    let items : c.push_thrifty.new.list.items ≡ f.cuts.items ++ c.in-Some.digest ∷ [] = search rules in
    let count : vec_len c.push_thrifty.new.list ≡ vec_len f.cuts + 1 = search rules in
    goes_both f _ c.begin_stages.new.self part [] part (append-nil part)
    (goes_told f _ part (Some c.in-Some.digest) (subst (λ o. TellsCut f.stream part o c.take-taken.new.self) c.in-Some.is c.take-taken.ensures.tells)
    items count c.push_thrifty.ensures.capacity)
    c.begin_stages.ensures.on
