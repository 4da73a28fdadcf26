use Rattle.std.proofs.Common.{◌≡◌, ◌∙◌, ℕ, Option, Some, None, IfNone, refl, subst, sym}
use Rattle.std.proofs.lemmas.Option.{none-some, same_Some}
use Rattle.opening.specs.Trees.{IsTreeWithRoot}
use Rattle.session.specs.Session.{SessionSeen}
use Rattle.wire.specs.declared.message.Ask.{Ask}
use Rattle.replays.specs.ByPieces.{asked_in}
use Rattle.replays.proofs.by_pieces.tree_in.Goals as goal

none-for : {X : Type 0} (S : SessionSeen) (ask : Ask) (o : Option Ask) (r : Option X) → o ≡ Some ask
    → IfNone r ((n : ℕ) → ¬ IsTreeWithRoot S.torrent.trees ask.root n)
    → IfNone r ((other : Ask) (n : ℕ) → o ≡ Some other → ¬ IsTreeWithRoot S.torrent.trees other.root n)
none-for S ask o (Some x) is none = tt
none-for S ask o None is none = λ other n at has.
    none n (subst (λ (x : Ask). IsTreeWithRoot S.torrent.trees x.root n) (same_Some other ask (sym at ∙ is)) has)

pub returns-in-Some-clause-none : goal.returns-in-Some-clause-none
returns-in-Some-clause-none g c =
    none-for c.args.session.now c.in-Some.ask (asked_in c.args.frame) c.pieces_with_root.result c.in-Some.ensures.some c.pieces_with_root.ensures.none

pub returns-in-None-clause-none : goal.returns-in-None-clause-none
returns-in-None-clause-none g c = λ ask n at has. none-some ask (sym c.in-None.ensures.none ∙ at)
