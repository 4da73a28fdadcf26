use Rattle.std.proofs.Common.{◌≡◌, ◌∙◌, ◌+◌, ◌-◌, ◌++◌, [], ◌∷◌, ap, sym, arith, append-nil, drop, false, length, option_map, true, Some, None, suc}
use Rattle.globs.specs.Reading.{begins, put, range_at, ranges_at}
use Rattle.globs.proofs.Onward.{put_put, ranges_end, ranges_none, ranges_step}
use Rattle.globs.proofs.reading.members.Goals as goal

pub returns-then-begins : goal.returns-then-begins
returns-then-begins c =
    let items = c.members.ranges.items in
    let text = c.members.rest.now in
    let m = length c.in-Some.rest.now - c.members.done in
    let closed : begins 93 text ≡ true = sym c.begins.ensures ∙ c.if-begins.true in
    let next : m ≡ suc (m - 1) = omega arith in
    sym c.members.invariant ∙ ap (option_map (put items)) (ranges_end m (m - 1) text next closed)
    ∙ ap (λ t. Some (t, drop 1 text)) (append-nil items) ∙ ap (λ t. Some (items, t)) (sym c.tail.ensures)

pub returns-in_default-range_at : goal.returns-in_default-range_at
returns-in_default-range_at c =
    let items = c.members.ranges.items in
    let text = c.members.rest.now in
    let m = length c.in-Some.rest.now - c.members.done in
    let others : begins 93 text ≡ false = sym c.begins.ensures ∙ c.if-begins.false in
    let next : m ≡ suc (m - 1) = omega arith in
    let none : None ≡ range_at text = c.in_default-range_at.ensures in
    sym c.members.invariant ∙ ap (option_map (put items)) (ranges_none m (m - 1) text next others none)

pub members-preserved : goal.members-preserved
members-preserved c =
    let items = c.members.ranges.items in
    let text = c.members.rest.now in
    let more = c.in-Some-range_at.more.now in
    let range = c.in-Some-range_at.range in
    let m = length c.in-Some.rest.now - c.members.done in
    let n = length c.in-Some.rest.now - (c.members.done + 1) in
    let others : begins 93 text ≡ false = sym c.begins.ensures ∙ c.if-begins.false in
    let next : m ≡ suc n = omega arith in
    let at : Some (range, more) ≡ range_at text = c.in-Some-range_at.ensures in
    let now : c.push-in-members.new.self.items ≡ items ++ range ∷ [] = c.in_ok-push-2.ensures.items in
    ap (λ xs. option_map (put xs) (ranges_at n more)) now
    ∙ sym (put_put items range (ranges_at n more))
    ∙ ap (option_map (put items)) (sym (ranges_step m n text more range next others at))
    ∙ c.members.invariant

pub returns : goal.returns
returns c =
    let zero : length c.in-Some.rest.now - c.members.done ≡ 0 = omega arith in
    sym c.members.invariant ∙ ap (λ k. option_map (put c.members.ranges.items) (ranges_at k c.members.rest.now)) zero
