use Rattle.std.proofs.Common.{◌≡◌, ℕ, ◌+◌, ◌<◌, Bool, true, false, List, length, cond, Some, drop, get_or, ap, sym, ◌∙◌, arith}
use Rattle.std.specs.Str.{bytes_eq}
use Rattle.benc.specs.Lookup.{under}
use Rattle.benc.specs.View.{Seen, view, pairs_view}
use Rattle.benc.specs.declared.value.Pair.{Pair}
use Rattle.benc.proofs.Spelled.{at_index}
use Rattle.benc.proofs.Values.{view-Pair}
use Rattle.benc.proofs.value.Value.get.Goals as goal

-- the first value under a key, from a pair on
from_pair : (key : List ℕ) (ps : List Pair) (i : ℕ) (x : Pair) (is_key : Bool) → i < length ps → x ≡ get_or ps i x → bytes_eq x.key.now key ≡ is_key
    → under key (pairs_view (drop i ps)) ≡ cond is_key (Some (view x.value)) (under key (pairs_view (drop (i + 1) ps)))
from_pair key ps i x is_key low is same =
    ap (λ ys. under key (pairs_view ys)) (at_index ps i x low is)
    ∙ ap (λ (s : Seen). cond (bytes_eq s.0 key) (Some s.1) (under key (pairs_view (drop (i + 1) ps)))) (view-Pair x.key x.value)
    ∙ ap (λ b. cond b (Some (view x.value)) (under key (pairs_view (drop (i + 1) ps)))) same

pub returns-then-eq : goal.returns-then-eq
returns-then-eq c =
    sym (c.pairs.invariant ∙ from_pair c.args.key.now c.deref-pair-items.result.now c.pairs.pair-index c.pair-item.result true (omega arith) c.pair-item.is
    (sym c.eq.ensures ∙ c.if-eq.true))

pub pairs-preserved : goal.pairs-preserved
pairs-preserved c =
    c.pairs.invariant ∙ from_pair c.args.key.now c.deref-pair-items.result.now c.pairs.pair-index c.pair-item.result false (omega arith) c.pair-item.is
    (sym c.eq.ensures ∙ c.if-eq.false)
