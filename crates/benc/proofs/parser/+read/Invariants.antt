use Rattle.std.proofs.Common.{◌≡◌, ◌+◌, ◌*◌, List, length, map, vec_capacity}
use Rattle.std.specs.Prelude.{IfSome}
use Rattle.std.specs.Option.{option_copied, option_map}
use Rattle.benc.specs.Lookup.{under}
use Rattle.benc.specs.Text.{spelling}
use Rattle.benc.specs.Value.{Bencode}
use Rattle.benc.specs.View.{Seen, view, pair_view, pairs_of}
use Rattle.benc.specs.Parser.{GrowsForItem, GrowsForPair}
use Rattle.benc.specs.Storing.{KeepsAll, Refused}
use Rattle.benc.specs.Thrift.{AreThrifty, ArePairsThrifty, IsSmallRoom}
use Rattle.benc.proofs.SoFar.{ItemsSoFar, PairsSoFar}
use Rattle.benc.proofs.parser.+read.Given as goal

abbrev pub decreases-value : goal.decreases-value
decreases-value l = 2 * l.room

abbrev pub decreases-items : goal.decreases-items
decreases-items l = 2 * l.room + 1

abbrev pub decreases-pairs : goal.decreases-pairs
decreases-pairs l = 2 * l.room + 1

-- what is read so far, of which all is there unless a growth was refused
abbrev pub invariant-items-items : goal.invariant-items-items
invariant-items-items l = record {
  read : (vs : List Bencode) × ItemsSoFar l.room l.bytes l.rest vs × (KeepsAll l.store → vs ≡ map view l.found.items);
  refused : Refused l.fn.store l.store (GrowsForItem l.room l.start l.bytes);
  room : IsSmallRoom (vec_capacity l.found) (length l.found.items);
  thrifty : AreThrifty l.found.items;
}

abbrev pub decreases-items-items : goal.decreases-items-items
decreases-items-items l = length l.rest

abbrev pub invariant-pairs-pairs : goal.invariant-pairs-pairs
invariant-pairs-pairs l = record {
  read : (ps : List Seen) × PairsSoFar l.room l.bytes l.rest (option_copied l.before) ps × (KeepsAll l.store → ps ≡ map pair_view l.found.items)
      × IfSome (option_copied l.asked) (λ key. option_copied l.span ≡ option_map spelling (under key (pairs_of ps)));
  refused : Refused l.fn.store l.store (GrowsForPair l.room l.start l.bytes);
  room : IsSmallRoom (vec_capacity l.found) (length l.found.items);
  thrifty : ArePairsThrifty l.found.items;
}

abbrev pub decreases-pairs-pairs : goal.decreases-pairs-pairs
decreases-pairs-pairs l = length l.rest
