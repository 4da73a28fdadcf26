use Rattle.std.proofs.Common.{◌≡◌, ℕ, ◌+◌, ◌-◌, ◌<◌, ◌++◌, ◌∷◌, List, [], ◌∙◌, length, take, drop, sym, subst, arith, None, Some}
use Rattle.std.specs.Prelude.{slice_set}
use Rattle.std.proofs.lemmas.List.{length-set}
use Rattle.fixed_maps.specs.Tiers.{TierSeen, flat, room_of}
use Rattle.fixed_maps.proofs.Carried.{step-back, step-full, flat-parts, room-set}
use Rattle.fixed_maps.proofs.tiers.carry_back.Goals as goal
use Rattle.fixed_maps.proofs.tiers.carry_back.Goals.{After-put_last}

-- the tier that the entry has come to, and what is invariant at the one after it
module _ (c : After-put_last) where
  abbrev a : ℕ
  a = length c.tiers.tiers - 1 - c.tiers.behind

  low : c.tiers.behind < length c.tiers.tiers
  low = omega (arith, c.tiers-test.true, c.tiers.auto.tiers)

  inside : a < length c.tiers.tiers
  inside = omega (arith, low)

  after : length c.tiers.tiers - c.tiers.behind ≡ a + 1
  after = omega (arith, low)

  entries : flat (take (a + 1) c.tiers.tiers) ++ c.tiers.carried ∷ flat (drop (a + 1) c.tiers.tiers) ≡ flat c.args.tiers.now ++ c.args.entry ∷ []
  entries = subst (λ n. flat (take n c.tiers.tiers) ++ c.tiers.carried ∷ flat (drop n c.tiers.tiers) ≡ flat c.args.tiers.now ++ c.args.entry ∷ []) after
      c.tiers.invariant.entries

pub returns-in-None-clause-entries : goal.returns-in-None-clause-entries
returns-in-None-clause-entries c =
    let s = (goal.at.returns-in-None-clause-entries c).After-put_last in
    sym (flat-parts (a s) _) ∙ step-back c.tiers.tiers (a s) c.index-tiers-at.result c.put_last.new.self c.tiers.carried None (inside s)
    c.in-None.ensures.items _ (entries s)

pub returns-in-None-clause-room : goal.returns-in-None-clause-room
returns-in-None-clause-room c =
    room-set c.tiers.tiers _ c.index-tiers-at.result c.put_last.new.self (inside (goal.at.returns-in-None-clause-room c).After-put_last)
    c.in-None.ensures.width ∙ c.tiers.invariant.room

pub tiers-preserved : goal.tiers-preserved
tiers-preserved c =
    let s = (goal.at.tiers-preserved c).After-put_last in
    let ts = c.tiers.tiers in
    let t = c.put_last.new.self in
    let us : List TierSeen = slice_set ts (a s) t in
    let first = low s in
    let long : length us ≡ length ts = length-set ts (a s) t in
    let next : a s ≡ length us - (c.tiers.behind + 1) = omega (arith, long, first) in
    record {
      entries = subst (λ n. flat (take n us) ++ c.in-Some.first ∷ flat (drop n us) ≡ flat c.args.tiers.now ++ c.args.entry ∷ []) next
          (step-back ts (a s) c.index-tiers-at.result t c.tiers.carried (Some c.in-Some.first) (inside s) c.in-Some.ensures.items _ (entries s));
      room = room-set ts (a s) c.index-tiers-at.result t (inside s) c.in-Some.ensures.width ∙ c.tiers.invariant.room;
      full = subst (λ n. length (flat (drop n us)) ≡ room_of (drop n us)) next
          (step-full ts (a s) c.index-tiers-at.result t c.tiers.carried (Some c.in-Some.first) (inside s)
          (c.in-Some.ensures.full ∙ sym c.in-Some.ensures.width)
          (subst (λ n. length (flat (drop n ts)) ≡ room_of (drop n ts)) (after s) c.tiers.invariant.full));
    }
