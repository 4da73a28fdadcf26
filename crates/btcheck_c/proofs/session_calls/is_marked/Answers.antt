use Rattle.std.proofs.Common.{◌∙◌, refl, sym, subst, inl, inr}
use Rattle.std.proofs.lemmas.Bool.{false≢true}
use Rattle.std.proofs.lemmas.Option.{slice_get_within}
use Rattle.btcheck_c.specs.Taken.{HasTreeBlock}
use Rattle.btcheck_c.proofs.session_calls.is_marked.Goals as goal

pub is_marked-requires : goal.is_marked-requires
is_marked-requires c =
    let has = subst (λ d. HasTreeBlock d c.args.tree c.args.block) c.torrent.ensures (c.has_block.ensures.0 c.if-has_block.true) in
    slice_get_within c.args.session.now.torrent.trees c.args.tree has.0 has.1

pub returns-then-has_block : goal.returns-then-has_block
returns-then-has_block c =
    let has = subst (λ d. HasTreeBlock d c.args.tree c.args.block) c.torrent.ensures (c.has_block.ensures.0 c.if-has_block.true) in
    (refl, inl (has, (c.is_marked.result, c.status_of_answer.ensures, c.is_marked.ensures)))

pub returns-else-has_block : goal.returns-else-has_block
returns-else-has_block c = (
  refl,
  inr (
    refl,
    λ has. false≢true (sym c.if-has_block.false
        ∙ c.has_block.ensures.1 (subst (λ d. HasTreeBlock d c.args.tree c.args.block) (sym c.torrent.ensures) has)),
  ),
)
