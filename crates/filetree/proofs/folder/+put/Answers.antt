use Rattle.std.proofs.Common.{◌++◌, [], sym, ap, ◌∙◌}
use Rattle.std.proofs.lemmas.List.{append-nil}
use Rattle.filetree.specs.Folders.{names_to, names_of}
use Rattle.filetree.proofs.Folders.{one_left, put_last}
use Rattle.filetree.proofs.folder.+put.Goals as goal
use Rattle.filetree.proofs.folder.+put.Goals.{in-Some, in_default}

pub push-requires : goal.push-requires
push-requires t c =
    let last = c.args.last.now in
    elim c.match-last.branch [
      | in-Some w ↦ rw w.parts-is (one_left last c.args.parts.now w.put.new.parts (names_to w.in-Some.above.value) (ap names_of w.in-Some.is)
          (w.put.ensures ∙ ap (λ a. c.args.parts.now ++ names_to a) w.deref.ensures) c.requires)
      | in_default w ↦ rw w.parts-is (one_left last c.args.parts.now c.args.parts.now [] (ap names_of w.in_default.is) (sym (append-nil _)) c.requires)
    ]

pub returns : goal.returns
returns t c =
    let before = c.args.parts.now in
    let put_last = put_last c.args.last.now before in
    elim c.match-last.branch [
      | in-Some w ↦ put_last w.put.new.parts c.push.new.self (names_to w.in-Some.above.value) c.as_str.result.now (ap names_of w.in-Some.is)
          (w.put.ensures ∙ ap (λ a. before ++ names_to a) w.deref.ensures) (rw (sym w.parts-is) c.push.ensures) c.as_str.ensures.value
      | in_default w ↦ put_last before c.push.new.self [] c.as_str.result.now (ap names_of w.in_default.is) (sym (append-nil _))
          (rw (sym w.parts-is) c.push.ensures) c.as_str.ensures.value
    ]
