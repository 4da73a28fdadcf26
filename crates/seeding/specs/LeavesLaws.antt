-- The laws of what takes a file's bytes for its leaves: several parts are one, and leave room for
-- less.
use Rattle.std.proofs.Common.{ℕ, ◌+◌, ◌≤◌, ◌++◌, List, [], length, sym, ◌∙◌, subst, append_assoc, append-nil, refl, arith}
use Rattle.std.proofs.lemmas.List.{length-append}
use Rattle.seeding.specs.Leaves.{HasRoomForBytes, IsFedLeaves, Pushes}
use Rattle.seeding.specs.declared.leaves.Leaves.{Leaves}

pub pushed_none : {N : Type 0} (l : Leaves N) → Pushes l [] l
pushed_none l = record {
  same_length = refl;
  fed = λ file fed. subst (IsFedLeaves l) (sym (append-nil file)) fed;
}

pub pushed_both : {N : Type 0} (a b c : Leaves N) (x y : List ℕ) → Pushes a x b → Pushes b y c
    → Pushes a (x ++ y) c
pushed_both a b c x y one two = record {
  same_length = two.same_length ∙ one.same_length;
  fed = λ file fed. subst (IsFedLeaves c) (append_assoc file x y)
      (two.fed (file ++ x) (one.fed file fed));
}

pub pushed_room : {N : Type 0} (a b : Leaves N) (x : List ℕ) (n : ℕ)
    → Pushes a x b → HasRoomForBytes a (length x + n) → HasRoomForBytes b n
pushed_room a b x n one room = record {
  content = room.content ++ x;
  fed = one.fed room.content room.fed;
  fits = omega (arith, room.fits, one.same_length, length-append room.content x);
  bound = omega (arith, room.bound, one.same_length);
}

pub pushed_less : {N : Type 0} (l : Leaves N) (m n : ℕ) → HasRoomForBytes l n → m ≤ n
    → HasRoomForBytes l m
pushed_less l m n room le = record {
  content = room.content;
  fed = room.fed;
  fits = omega (arith, room.fits, le);
  bound = room.bound;
}
