use Rattle.std.proofs.Common.{◌≡◌, ◌∙◌, ℕ, List, Option, Some, None, IfNone, refl, subst, sym}
use Rattle.std.proofs.lemmas.Option.{none-some, same_Some}
use Rattle.session.specs.Blocks.{BlocksSeen}
use Rattle.session.specs.Session.{SessionSeen}
use Rattle.replays.specs.ByPieces.{bytes_in}
use Rattle.replays.specs.Held.{IsRunOf}
use Rattle.replays.proofs.by_pieces.run_in.Goals as goal

none-for : {X : Type 0} (S : SessionSeen) (v : BlocksSeen) (carried : List ℕ) (o : Option (List ℕ)) (r : Option X) → o ≡ Some carried
    → IfNone r ((n : ℕ) → ¬ IsRunOf S v carried n) → IfNone r ((bytes : List ℕ) (n : ℕ) → o ≡ Some bytes → ¬ IsRunOf S v bytes n)
none-for S v carried o (Some x) is none = tt
none-for S v carried o None is none = λ bytes n at run. none n (subst (λ b. IsRunOf S v b n) (same_Some bytes carried (sym at ∙ is)) run)

pub returns-in-Some-clause-none : goal.returns-in-Some-clause-none
returns-in-Some-clause-none g c =
    none-for c.args.session.now c.args.blocks.now c.in-Some.bytes.now (bytes_in c.args.frame) c.delivered.result c.in-Some.ensures.some
    c.delivered.ensures.none

pub returns-in-None-clause-none : goal.returns-in-None-clause-none
returns-in-None-clause-none g c = λ bytes n at run. none-some bytes (sym c.in-None.ensures.none ∙ at)
