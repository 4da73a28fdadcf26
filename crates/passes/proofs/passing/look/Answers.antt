use Rattle.std.proofs.Common.{◌∙◌, ap, Some, None, Ok, refl, sym, subst}
use Rattle.chains.proofs.Cases.{item_at}
use Rattle.passes.specs.Batches.{LooksOnce}
use Rattle.passes.specs.Passing.{Looks}
use Rattle.passes.proofs.Looking.{keeps_same, looks_failed, looks_missing, looks_once, looks_read, looks_unasked, wanted}
use Rattle.passes.proofs.passing.look.Goals as goal

pub returns-in_default-clause-looks : goal.returns-in_default-clause-looks
returns-in_default-clause-looks g c =
    let t = g.J.Job.task c.args.job.now in
    let i = item_at t.items c.args.number c.requires.there in
    looks_once g.S.Shelf g.S.File.Source.seen t c.args.number _ _ _ _ _ i.0 i.1 _
    (looks_unasked g.S.Shelf g.S.File.Source.seen (t.reads i.0) (t.wants i.0) c.args.shelf.now c.open.new.shelf c.open.result c.in_default.is
    (c.open.ensures.opens i.0 i.1)) (refl, keeps_same c.args.held.now)

pub returns-in-Ok-Some-clause-looks : goal.returns-in-Ok-Some-clause-looks
returns-in-Ok-Some-clause-looks g c =
    let t = g.J.Job.task c.args.job.now in
    let shelf = g.S.Shelf in
    let seen = g.S.File.Source.seen in
    let i = item_at t.items c.args.number c.requires.there in
    let opened = c.in-Some.is ∙ ap Some (c.in-Ok-Some.is ∙ ap Ok c.in-Ok-Some.field-0-is) in
    let was = wanted shelf seen (t.wants i.0) c.args.shelf.now c.open.new.shelf c.open.result (Ok (Some c.in-Ok-Some.file)) opened
    (c.open.ensures.opens i.0 i.1) in
    let found = looks_read shelf seen (t.finds i.0) (t.reads i.0) was.want c.args.shelf.now c.open.new.shelf c.close.new.self c.in-Ok-Some.file
    c.read-read.new.file c.args.held.now c.read-read.new.held was.opens c.close.ensures.closes c.close.ensures.counts c.close.ensures.stays c.read-read.result
    (c.read-read.ensures.reads i.0 was.want i.1 was.is) c.read-read.ensures.counts in
    subst (λ r. LooksOnce shelf seen t c.args.number c.args.shelf.now c.args.held.now c.read-read.new.held r c.close.new.self) (sym c.looked_of.ensures)
    (looks_once shelf seen t c.args.number c.args.shelf.now c.close.new.self c.args.held.now c.read-read.new.held _ i.0 i.1 found.0
    (subst (λ o. Looks shelf seen (t.reads i.0) o c.args.shelf.now found.0 c.close.new.self) (sym was.is) found.1) found.2)

pub returns-in-Ok-None-clause-looks : goal.returns-in-Ok-None-clause-looks
returns-in-Ok-None-clause-looks g c =
    let t = g.J.Job.task c.args.job.now in
    let i = item_at t.items c.args.number c.requires.there in
    let opened = c.in-Some.is ∙ ap Some (c.in-Ok-None.is ∙ ap Ok c.in-Ok-None.field-0-is) in
    looks_once g.S.Shelf g.S.File.Source.seen t c.args.number _ _ _ _ _ i.0 i.1 _
    (looks_missing g.S.Shelf g.S.File.Source.seen (t.reads i.0) (t.wants i.0) c.args.shelf.now c.open.new.shelf
    (wanted g.S.Shelf g.S.File.Source.seen (t.wants i.0) c.args.shelf.now c.open.new.shelf c.open.result (Ok None) opened (c.open.ensures.opens i.0 i.1)))
    (refl, keeps_same c.args.held.now)

pub returns-in-Err-clause-looks : goal.returns-in-Err-clause-looks
returns-in-Err-clause-looks g c =
    let t = g.J.Job.task c.args.job.now in
    let i = item_at t.items c.args.number c.requires.there in
    let opened = c.in-Some.is ∙ ap Some c.in-Err.is in
    looks_once g.S.Shelf g.S.File.Source.seen t c.args.number _ _ _ _ _ i.0 i.1 _
    (looks_failed g.S.Shelf g.S.File.Source.seen (t.reads i.0) (t.wants i.0) c.args.shelf.now c.open.new.shelf c.in-Err.field-0
    (wanted g.S.Shelf g.S.File.Source.seen (t.wants i.0) c.args.shelf.now c.open.new.shelf c.open.result _ opened (c.open.ensures.opens i.0 i.1)))
    (refl, keeps_same c.args.held.now)
