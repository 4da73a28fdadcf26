use Rattle.std.proofs.Common.{◌≡◌, ◌+◌, take, None, sym, subst, inl, inr, arith}
use Rattle.opening.specs.Rooted.{AreRoots}
use Rattle.opening.proofs.Rooting.{roots_none, roots_some, reused, take_next, item_in, taken_in, none_left}
use Rattle.benc.proofs.Handed.{handed_on}
use Rattle.opening.proofs.roots.distinct.Goals as goal
use Rattle.opening.proofs.roots.distinct.Goals.{in-Some+in_ok-add, in_default}

pub returns-in_err-add : goal.returns-in_err-add
returns-in_err-add c =
    let xs = c.args.files.now in
    let i = c.files.file-index in
    let x = c.file-item.result in
    rw (handed_on c.from_residual.result _ c.from_residual.ensures.1)
    (λ memory. elim c.in_err-add.ensures.there [
      | inl known ↦ (
        known.0,
        reused xs (take i xs) c.files.roots x c.in-Some.root known.1.number known.1.at (taken_in xs i)
            (item_in xs i x (omega arith) c.file-item.is) c.in-Some.is c.files.invariant known.1.place known.1.there known.1.differs,
      )
      | inr none ↦ absurd (memory none.0)
    ])

pub files-preserved : goal.files-preserved
files-preserved c =
    let xs = c.args.files.now in
    let i = c.files.file-index in
    let x = c.file-item.result in
    let more = take_next xs i x (omega arith) c.file-item.is in
    elim c.match-file.branch [
      | in-Some+in_ok-add w ↦
          let roots = roots_some (take i xs) c.files.roots w.add.new.self x w.in-Some.root w.in-Some.is w.in_ok-add.ensures.added w.in_ok-add.ensures.there
          c.files.invariant in
          subst (AreRoots (take (i + 1) xs)) (sym w.roots-is) (subst (λ fs. AreRoots fs w.add.new.self) (sym more) roots)
      | in_default w ↦
          let none : x.root ≡ None = none_left x.root w.in_default.not-Some in
          subst (AreRoots (take (i + 1) xs)) (sym w.roots-is) (subst (λ fs. AreRoots fs c.files.roots) (sym more)
          (roots_none (take i xs) c.files.roots x none c.files.invariant))
    ]
