use Rattle.std.proofs.Common.{rules, ◌≡◌, ◌∙◌, length, ap, sym, arith}
use Rattle.std.proofs.lemmas.Option.{same_Some}
use Rattle.std.proofs.lemmas.Slice.Eq.{bytes_eq-Decides}
use Rattle.opening.specs.Seen.{file_entry}
use Rattle.folders.proofs.Places.{tree_inside, tree_there}
use Rattle.parts.proofs.JudgedBytes.{judged_good, same_held}
use Rattle.parts.proofs.judging.is_good.Goals as goal

pub unreachable-requires : goal.unreachable-requires
unreachable-requires c =
    let f = file_entry c.args.file.now in
    let file = c.requires.file in
    omega (arith, (c.recall_sound.ensures.files file.0 f file.1).no_tree c.in_default.is, c.requires.some)

pub root-root-requires-clause-whole : goal.root-root-requires-clause-whole
root-root-requires-clause-whole c = let held = c.requires.whole in (held.0, held.1, omega (arith, held.2, c.requires.some))

pub bounds-trees-number : goal.bounds-trees-number
bounds-trees-number c =
    let t = c.args.torrent.now in
    let f = file_entry c.args.file.now in
    let file = c.requires.file in
    tree_inside t f c.in-Some.number c.trees.result.now c.trees.ensures (c.recall_sound.ensures.files file.0 f file.1) c.in-Some.is

pub offset_bounds-trees-number : goal.offset_bounds-trees-number
offset_bounds-trees-number c = let lt = bounds-trees-number c in search rules

pub returns-then-eq : goal.returns-then-eq
returns-then-eq c on bytes at =
    let t = c.args.torrent.now in
    let f = file_entry c.args.file.now in
    let file = c.requires.file in
    let held = c.requires.whole in
    let long : length bytes ≡ f.length = ap length (sym (same_held c.args.held.now.answers c.args.place held.0 bytes held.1 at)) ∙ held.2 in
    judged_good t file.0 f bytes c.recall_sound.ensures file.1 long (c.are_cuts_good.ensures.good on bytes at)
    (λ e there.
    let is = tree_there t f c.in-Some.number c.trees.result.now _ c.trees.ensures (c.recall_sound.ensures.files file.0 f file.1) c.in-Some.is in
    let tree = same_Some _ e (sym is ∙ there) in
    sym (c.root-root.ensures bytes at) ∙ (bytes_eq-Decides c.root-root.result _).0 (sym c.eq.ensures ∙ c.if-eq.true) ∙ ap (λ x. x.root) tree)
