use Rattle.std.proofs.Common.{rules, false, Err, sym, subst}
use Rattle.std.proofs.lemmas.Result.{err_from_is_err_and}
use Rattle.passes.specs.Held.{ReadsStated}
use Rattle.passes.specs.Rows.{FillsBehind, seen_held}
use Rattle.passes.proofs.HeldReads.{held_not, held_other, held_whole}
use Rattle.passes.proofs.HeldRows.{still_sound}
use Rattle.passes.proofs.held.HeldFiles.read.Goals as goal

pub invariant_of-self : goal.invariant_of-self
invariant_of-self g c = record {
  sound = still_sound _ _ c.self.invariant.sound c.fill_behind.ensures.behind;
  hashed = λ on. (let no : ⊥ = cc in absurd no);
}

pub invariant_of-self-then-count-size : goal.invariant_of-self-then-count-size
invariant_of-self-then-count-size g c = record {
  sound = still_sound _ _ c.self.invariant.sound c.fill_behind.ensures.behind;
  hashed = λ on. (let no : ⊥ = cc in absurd no);
}

pub keep-requires-clause-sound : goal.keep-requires-clause-sound
keep-requires-clause-sound g c = still_sound _ _ c.self.invariant.sound c.fill_behind.ensures.behind

pub returns-in_err-count-clause-reads : goal.returns-in_err-count-clause-reads
returns-in_err-count-clause-reads g c =
    let p = err_from_is_err_and c.from_residual.result c.from_residual.ensures.1 in
    let old = g.F.Source.seen c.args.file.now in
    let new = g.F.Source.seen c.fill_behind.new.file in
    subst (ReadsStated c.args.size old new c.args.self.now (seen_held c.fill_behind.new.self false)) (sym p.1)
    (held_not c.args.size old new c.self.inside.rows c.fill_behind.new.self c.self.inside.is_hashed c.args.self.now p.0 c.self.invariant.sound c.self.view_is
    (subst (λ e. FillsBehind c.args.size old new c.self.inside.rows c.fill_behind.new.self (Err e)) (sym p.2) c.in_err-count.ensures))

pub returns-then-count-size-clause-reads : goal.returns-then-count-size-clause-reads
returns-then-count-size-clause-reads g c =
    held_other c.args.size c.in_ok-count.count _ _ c.self.inside.rows c.fill_behind.new.self c.fill_behind.new.self c.self.inside.is_hashed c.args.self.now
    c.self.invariant.sound c.self.view_is c.in_ok-count.ensures (search rules) c.if-count-size.true

pub returns-clause-reads : goal.returns-clause-reads
returns-clause-reads g c =
    held_whole c.args.size c.in_ok-count.count _ _ c.self.inside.rows c.fill_behind.new.self c.keep.new.self c.self.inside.is_hashed c.args.self.now
    c.self.invariant.sound c.self.view_is c.in_ok-count.ensures (search rules) c.if-count-size.false c.keep.ensures
