use Rattle.std.proofs.Common.{◌+◌, ◌∙◌, sym, subst, arith, rules}
use Rattle.node_maps.specs.Known.{Known, look}
use Rattle.node_maps.specs.Room.{HasRoomFor}
use Rattle.node_maps.proofs.Nodes.{known-of}
use Rattle.partial_tree.specs.Claims.{joined, HasNew}
use Rattle.partial_tree.specs.EndPads.{end_pads}
use Rattle.partial_tree.specs.Joins.{Joins}
use Rattle.partial_tree.specs.Evidence.{claimed_by}
use Rattle.partial_tree.proofs.Tracing.{found-agreed, new_if_noted, nothing-joins}
use Rattle.partial_tree.proofs.PadRows.{joins-twice, known-joined, new-first, new-second}
use Rattle.partial_tree.proofs.Uncles.{leads-up}
use Rattle.partial_tree.proofs.message.row_storing.store_to_end.Goals as goal
use Rattle.partial_tree.proofs.message.row_storing.store_to_end.Goals.{else-is_empty-via-then-is_empty+else-padded, else-is_empty-via-else-is_empty}

pub find_new-requires : goal.find_new-requires
find_new-requires g c = record {
  leads = leads-up _ c.args.evidence.now c.args.layer c.args.index c.requires.low c.requires.inside c.requires.place c.requires.leads;
}

pub put_found-gained-requires-clause-leads : goal.put_found-gained-requires-clause-leads
put_found-gained-requires-clause-leads g c =
    leads-up _ c.args.evidence.now c.args.layer c.args.index c.requires.low c.requires.inside c.requires.place c.requires.leads

pub put_end_pads-pads-requires-clause-room : goal.put_end_pads-pads-requires-clause-room
put_end_pads-pads-requires-clause-room g c =
    let room : HasRoomFor (end_pads c.args.shape) (g.N.NodeMap.has_room c.reserve_to_end.new.map) = search rules in
    λ l i is. c.put_found-gained.ensures.keeps l i (room l i is)

pub returns-then-padded-clause-stored : goal.returns-then-padded-clause-stored
returns-then-padded-clause-stored g c =
    let m : Known = (g.N.NodeMap.seen c.args.map.now).known in
    joins-twice (claimed_by c.args.evidence.now) (end_pads c.args.shape) m m m 0 0
    (nothing-joins (claimed_by c.args.evidence.now) m c.in-Some.found c.in-Some.ensures.found (c.is_empty.ensures.0 c.if-is_empty.true))
    c.requires.agreed (known-joined (look m) (end_pads c.args.shape) c.if-padded.ensures.known) (omega arith)

pub returns-then-is_err-clause-refused : goal.returns-then-is_err-clause-refused
returns-then-is_err-clause-refused g c =
    let m : Known = (g.N.NodeMap.seen c.args.map.now).known in
    let C = claimed_by c.args.evidence.now in
    let P = end_pads c.args.shape in
    let new : HasNew (look m) (joined C P) = elim c.else-is_empty.branch [
      | else-is_empty-via-then-is_empty+else-padded w ↦ new-second (look m) C P w.if-padded.ensures.new
      | else-is_empty-via-else-is_empty w ↦
          new-first (look m) C P
          (new_if_noted (look m) C c.in-Some.found c.is_empty.result c.is_empty.ensures w.if-is_empty.false c.in-Some.ensures.found.notes_new)
    ] in (
      (
        found-agreed _ C c.in-Some.found c.in-Some.ensures.found,
        new,
      ),
      c.trim.ensures.seen ∙ c.reserve_to_end.ensures.seen,
    )

pub returns-clause-stored : goal.returns-clause-stored
returns-clause-stored g c =
    let m : Known = (g.N.NodeMap.seen c.args.map.now).known in
    let between : Known = (g.N.NodeMap.seen c.put_found-gained.new.map).known in
    let after : Known = (g.N.NodeMap.seen c.put_end_pads-pads.new.map).known in
    let C = claimed_by c.args.evidence.now in
    let P = end_pads c.args.shape in
    let first : Joins C m between c.put_found-gained.result =
    subst (λ (k : Known). Joins C k between c.put_found-gained.result) (known-of c.reserve_to_end.ensures.seen) c.put_found-gained.ensures.stored in
    subst (λ (k : Known). Joins (joined C P) m k (c.put_found-gained.result + c.put_end_pads-pads.result)) (sym (known-of c.trim-2.ensures.seen))
    (joins-twice C P m between after c.put_found-gained.result c.put_end_pads-pads.result first c.requires.agreed c.put_end_pads-pads.ensures.put
    c.put_end_pads-pads.ensures.gained)
