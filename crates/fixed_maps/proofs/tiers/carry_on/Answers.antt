use Rattle.std.proofs.Common.{◌+◌, ◌<◌, ◌∙◌, length, sym, arith, None, Some}
use Rattle.std.proofs.lemmas.List.{length-set, append-nil}
use Rattle.fixed_maps.proofs.Carried.{step-on, flat-parts, room-set}
use Rattle.fixed_maps.proofs.tiers.carry_on.Goals as goal

pub returns-in-None-clause-entries : goal.returns-in-None-clause-entries
returns-in-None-clause-entries c =
    let ts = c.tiers.tiers in
    let lt : c.tiers.at < length ts = omega (arith, c.tiers-test.true, c.tiers.auto.tiers) in
    append-nil _ ∙ sym (flat-parts (c.tiers.at + 1) _)
    ∙ step-on ts c.tiers.at c.index-tiers-at.result c.put.new.self c.tiers.carried None lt c.in-None.ensures.items _
    c.tiers.invariant.entries

pub returns-in-None-clause-room : goal.returns-in-None-clause-room
returns-in-None-clause-room c =
    let ts = c.tiers.tiers in
    let lt : c.tiers.at < length ts = omega (arith, c.tiers-test.true, c.tiers.auto.tiers) in
    room-set ts c.tiers.at c.index-tiers-at.result c.put.new.self lt c.in-None.ensures.width ∙ c.tiers.invariant.room

pub tiers-preserved : goal.tiers-preserved
tiers-preserved c =
    let ts = c.tiers.tiers in
    let lt : c.tiers.at < length ts = omega (arith, c.tiers-test.true, c.tiers.auto.tiers) in
    let long = length-set ts c.tiers.at c.put.new.self in
    record {
      inside = omega (arith, lt, long);
      entries = step-on ts c.tiers.at c.index-tiers-at.result c.put.new.self c.tiers.carried (Some c.in-Some.last) lt
          c.in-Some.ensures.items _ c.tiers.invariant.entries;
      room = room-set ts c.tiers.at c.index-tiers-at.result c.put.new.self lt c.in-Some.ensures.width ∙ c.tiers.invariant.room;
    }
