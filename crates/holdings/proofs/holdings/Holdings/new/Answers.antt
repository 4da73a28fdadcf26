use Rattle.std.proofs.Common.{◌≡◌, ℕ, ◌+◌, ◌<◌, ◌≤◌, ◌^◌, Option, Some, None, refl, sym, ap, ◌∙◌, arith}
use Rattle.std.specs.FinMap.{get, len, get-empty, len-empty}
use Rattle.std.proofs.lemmas.Option.{none-some}
use Rattle.node_maps.specs.Known.{place_cmp}
use Rattle.fixed_maps.specs.FixedMaps.{map_of}
use Rattle.holdings.specs.Holdings.{PieceSeen, seen_at, age_at}
use Rattle.holdings.proofs.holdings.Holdings.new.Goals as goal

pub new-requires : goal.new-requires
new-requires c = let x = c.min-most.ensures in omega (arith, x)

pub invariant_of-result : goal.invariant_of-result
invariant_of-result c =
    let m = c.in_ok-new.field-0 in
    let a = c.in_ok-new-2.field-0 in
    let no-piece : (q : ℕ × ℕ) (x : PieceSeen) → seen_at m q ≡ Some x → ⊥ = λ q x at.
    none-some x (sym (ap (λ k. get k q) c.in_ok-new.ensures.none ∙ get-empty place_cmp q) ∙ at) in
    let no-age : (k q : ℕ × ℕ) → get (map_of a) k ≡ Some q → ⊥ = λ k q at.
    none-some q (sym (ap (λ x. get x k) c.in_ok-new-2.ensures.none ∙ get-empty place_cmp k) ∙ at) in
    record {
      aged = record {
        at = λ q x at. absurd (no-piece q x at);
        of = λ t q at. absurd (no-age (0, t) q at);
        past = λ t q at. absurd (no-age (0, t) q at);
        low = λ q x at. absurd (no-piece q x at);
      };
      zero = λ k q at. absurd (no-age k q at);
      as_many = ap len c.in_ok-new-2.ensures.none ∙ len-empty place_cmp (ℕ × ℕ) ∙ sym (ap len c.in_ok-new.ensures.none ∙ len-empty place_cmp PieceSeen);
      some = let x = c.min-most.ensures in let y = c.max-2.ensures in omega (arith, x, y);
      many = let x = c.min-most.ensures in omega (arith, x);
      few = let none = ap len c.in_ok-new.ensures.none ∙ len-empty place_cmp PieceSeen in omega (arith, none);
      room = let room = c.in_ok-new.ensures.room in omega (arith, room);
      ages_room = let room = c.in_ok-new-2.ensures.room in omega (arith, room);
      few_ages = c.in_ok-new-2.ensures.most;
    }
