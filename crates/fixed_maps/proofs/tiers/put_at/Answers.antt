use Rattle.std.proofs.Common.{◌+◌, ◌∙◌, sym, arith, Some, None}
use Rattle.std.proofs.lemmas.List.{append-nil}
use Rattle.fixed_maps.specs.Tiers.{before_spot, after_spot}
use Rattle.fixed_maps.proofs.Carried.{entry-in, flat-parts, room-set, one-more, parted-length}
use Rattle.fixed_maps.proofs.tiers.put_at.Goals as goal

pub returns-in_default-clause-entries : goal.returns-in_default-clause-entries
returns-in_default-clause-entries c = sym (flat-parts (c.args.spot.tier + 1) _)
    ∙ entry-in c.args.tiers.now c.args.spot.tier c.args.spot.place c.index-tiers-spot.result c.put.new.self c.requires.tier c.args.entry None
    c.in_default.ensures.items

pub returns-in_default-clause-room : goal.returns-in_default-clause-room
returns-in_default-clause-room c = room-set c.args.tiers.now c.args.spot.tier c.index-tiers-spot.result c.put.new.self c.requires.tier
    c.in_default.ensures.width

pub returns-in_default-carry_on-clause-entries : goal.returns-in_default-carry_on-clause-entries
returns-in_default-carry_on-clause-entries c = sym (append-nil _) ∙ c.in_default-carry_on.ensures.entries
    ∙ entry-in c.args.tiers.now c.args.spot.tier c.args.spot.place c.index-tiers-spot.result c.put.new.self c.requires.tier c.args.entry (Some c.in-Some.next)
    c.in-Some.ensures.items

pub returns-in_default-carry_on-clause-room : goal.returns-in_default-carry_on-clause-room
returns-in_default-carry_on-clause-room c = c.in_default-carry_on.ensures.room
    ∙ room-set c.args.tiers.now c.args.spot.tier c.index-tiers-spot.result c.put.new.self c.requires.tier c.in-Some.ensures.width

pub carry_back-requires : goal.carry_back-requires
carry_back-requires c =
    let ts = c.args.tiers.now in
    let whole = c.in-Some-carry_on.ensures.entries
    ∙ entry-in ts c.args.spot.tier c.args.spot.place c.index-tiers-spot.result c.put.new.self c.requires.tier c.args.entry (Some c.in-Some.next)
    c.in-Some.ensures.items in
    let same = one-more _ (before_spot ts c.args.spot.tier c.args.spot.place) (after_spot ts c.args.spot.tier c.args.spot.place) c.args.entry
    c.in-Some-carry_on.last whole in
    let parts = parted-length ts c.args.spot.tier c.args.spot.place c.requires.tier in
    let room = c.in-Some-carry_on.ensures.room
    ∙ room-set ts c.args.spot.tier c.index-tiers-spot.result c.put.new.self c.requires.tier c.in-Some.ensures.width in
    let low = c.requires.room in
    omega (arith, same, parts, room, low)

pub returns-clause-entries : goal.returns-clause-entries
returns-clause-entries c = c.carry_back.ensures.entries ∙ c.in-Some-carry_on.ensures.entries
    ∙ entry-in c.args.tiers.now c.args.spot.tier c.args.spot.place c.index-tiers-spot.result c.put.new.self c.requires.tier c.args.entry (Some c.in-Some.next)
    c.in-Some.ensures.items

pub returns-clause-room : goal.returns-clause-room
returns-clause-room c = c.carry_back.ensures.room ∙ c.in-Some-carry_on.ensures.room
    ∙ room-set c.args.tiers.now c.args.spot.tier c.index-tiers-spot.result c.put.new.self c.requires.tier c.in-Some.ensures.width
