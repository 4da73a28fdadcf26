-- The laws of what takes a row.
use Rattle.std.proofs.Common.{ℕ, ◌+◌, ◌≤◌, ◌++◌, [], List, length, Option, Some, None, refl, ◌∙◌, arith}
use Rattle.hashtree.proofs.Marking.{row_both, row_none}
use Rattle.pieces.proofs.Fed.{feeds_both, feeds_nothing}
use Rattle.pieces.specs.declared.v1_feed.V1Feed.{V1Feed}
use Rattle.folders.specs.CutFeeds.{HasCutRoom, TakesCuts}
use Rattle.folders.specs.RowFeeds.{FeedsBits, HasRowRoom}
use Rattle.folders.specs.declared.row_feed.RowFeed.{RowFeed}

pub cuts_room : (old new : Option V1Feed) (part : List ℕ) (n m : ℕ)
    → TakesCuts old part new → HasCutRoom old m → length part + n ≤ m → HasCutRoom new n
cuts_room None None part n m takes room fits = tt
cuts_room None (Some s) part n m takes room fits = absurd takes
cuts_room (Some r) None part n m takes room fits = absurd takes
cuts_room (Some r) (Some s) part n m takes room fits =
    omega (arith, takes.given_is, takes.same_total, room, fits)

pub cuts_append : (a b c : Option V1Feed) (xs ys : List ℕ)
    → TakesCuts a xs b → TakesCuts b ys c → TakesCuts a (xs ++ ys) c
cuts_append None None None xs ys one two = tt
cuts_append None None (Some h) xs ys one two = absurd two
cuts_append None (Some g) c xs ys one two = absurd one
cuts_append (Some f) None c xs ys one two = absurd one
cuts_append (Some f) (Some g) None xs ys one two = absurd two
cuts_append (Some f) (Some g) (Some h) xs ys one two =
    feeds_both f g h xs ys (xs ++ ys) refl one two

pub cuts_nothing : (a : Option V1Feed) → TakesCuts a [] a
cuts_nothing None = tt
cuts_nothing (Some f) = feeds_nothing f

pub cuts_less : (a : Option V1Feed) (m n : ℕ) → HasCutRoom a n → m ≤ n → HasCutRoom a m
cuts_less None m n room le = tt
cuts_less (Some r) m n room le = omega (arith, room, le)

pub fed_nothing : (f : RowFeed) → FeedsBits f [] f
fed_nothing f =
    record { row = row_none f.check f.bits.items; cuts = cuts_nothing f.cuts.feed; room = refl }

pub fed_twice : (a b c : RowFeed) (x y : List ℕ) → FeedsBits a x b → FeedsBits b y c
    → FeedsBits a (x ++ y) c
fed_twice a b c x y one two = record {
  row = row_both a.check b.check c.check a.bits.items b.bits.items c.bits.items x y one.row
      two.row;
  cuts = cuts_append a.cuts.feed b.cuts.feed c.cuts.feed x y one.cuts two.cuts;
  room = two.room ∙ one.room;
}

pub fed_room : (a b : RowFeed) (x : List ℕ) (n : ℕ)
    → FeedsBits a x b → HasRowRoom a (length x + n) → HasRowRoom b n
fed_room a b x n fed room = (
  omega (arith, fed.row.count, fed.row.shape, room.0),
  cuts_room a.cuts.feed b.cuts.feed x n (length x + n) fed.cuts room.1 (omega arith),
)

pub fed_less : (f : RowFeed) (m n : ℕ) → HasRowRoom f n → m ≤ n → HasRowRoom f m
fed_less f m n room le = (omega (arith, room.0, le), cuts_less f.cuts.feed m n room.1 le)
