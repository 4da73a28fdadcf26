-- The root of a file takes its bytes part by part.
use Rattle.std.proofs.Common.{◌≡◌, ℕ, ◌+◌, List, [], ◌++◌, length, sym, ap, ◌∙◌, ◌≤◌, subst, arith}
use Rattle.std.proofs.lemmas.List.{append_assoc, append-nil, length-append}
use Rattle.hashtree.specs.Parts.{TakesFront}
use Rattle.hashtree.specs.RootBuilder.{Feeds, IsFed}
use Rattle.hashtree.specs.RootBuilder as builder
use Rattle.short_pushes.specs.FileRoots.{EndsWithRoot, FeedsRoot, IsGivenRoot, room_of_root}
use Rattle.short_pushes.specs.Held.{Appends, held}
use Rattle.short_pushes.specs.declared.file_root.FileRoot.{FileRoot}

-- all have the same room
same_room : (a b : FileRoot) → room_of_root b ≡ room_of_root a
same_room a b = b.waiting.exact ∙ sym a.waiting.exact

-- bytes wait after those that waited
waits : (a b : FileRoot) (x : List ℕ) → b.builder ≡ a.builder → held b.waiting ≡ held a.waiting ++ x → FeedsRoot a x b
waits a b x same more = record {
  count = omega (arith, ap builder.byte_count same, ap length more, length-append (held a.waiting) x);
  room = same_room a b;
  given = λ file g. record {
    taken = g.taken;
    content_is = ap (λ f. f ++ x) g.content_is ∙ append_assoc g.taken (held a.waiting) x ∙ ap (λ w. g.taken ++ w) (sym more);
    fed = subst (λ b. IsFed b g.taken) (sym same) g.fed;
  };
}

-- two parts are one
both : (a b c : FileRoot) (x y : List ℕ) → FeedsRoot a x b → FeedsRoot b y c → FeedsRoot a (x ++ y) c
both a b c x y p q = record {
  count = omega (arith, p.count, q.count, length-append x y);
  room = q.room ∙ p.room;
  given = λ file g. subst (IsGivenRoot c) (append_assoc file x y) (q.given (file ++ x) (p.given file g));
}

still : (a b c : FileRoot) (x : List ℕ) → FeedsRoot a x b → FeedsRoot b [] c → FeedsRoot a x c
still a b c x p q = subst (λ z. FeedsRoot a z c) (append-nil x) (both a b c x [] p q)

-- the first bytes wait too; then they are handed on
pub front_waits : (a b : FileRoot) (bytes rest : List ℕ) → b.builder ≡ a.builder → TakesFront Appends (held a.waiting) bytes (held b.waiting) rest
    → TakesFront FeedsRoot a bytes b rest
front_waits a b bytes rest same t = record { front = t.front; bytes_are = t.bytes_are; taken = waits a b t.front same t.taken }

pub front_handed_on : (a b c : FileRoot) (bytes rest : List ℕ) → b.builder ≡ a.builder → TakesFront Appends (held a.waiting) bytes (held b.waiting) rest
    → FeedsRoot b [] c → TakesFront FeedsRoot a bytes c rest
front_handed_on a b c bytes rest same t on =
    record { front = t.front; bytes_are = t.bytes_are; taken = still a b c t.front (waits a b t.front same t.taken) on }

-- the builder takes the first bytes where none wait, and the others wait
pub passes : (a b : FileRoot) (bytes groups rest : List ℕ) → held a.waiting ≡ [] → Feeds a.builder groups b.builder → held b.waiting ≡ held a.waiting ++ rest
    → groups ++ rest ≡ bytes → FeedsRoot a bytes b
passes a b bytes groups rest none fed more all =
    let left : held b.waiting ≡ rest = more ∙ ap (λ w. w ++ rest) none in record {
      count = omega (arith, fed.count, ap length none, ap length left, ap length all, length-append groups rest);
      room = same_room a b;
      given = λ file g. record {
        taken = g.taken ++ groups;
        content_is =
            ap (λ f. f ++ bytes) (g.content_is ∙ ap (λ w. g.taken ++ w) none ∙ append-nil g.taken)
            ∙ ap (λ f. g.taken ++ f) (sym all) ∙ sym (append_assoc g.taken groups rest)
            ∙ ap (λ w. (g.taken ++ groups) ++ w) (sym left);
        fed = fed.fed g.taken g.fed;
      };
    }

-- all parts are the whole
pub joins : (a b c : FileRoot) (bytes rest : List ℕ) → TakesFront FeedsRoot a bytes b rest → FeedsRoot b rest c → FeedsRoot a bytes c
joins a b c bytes rest t q = subst (λ z. FeedsRoot a z c) (sym t.bytes_are) (both a b c t.front rest t.taken q)

pub joins_none : (a b : FileRoot) (bytes rest : List ℕ) → TakesFront FeedsRoot a bytes b rest → rest ≡ [] → FeedsRoot a bytes b
joins_none a b bytes rest t none =
    subst (λ z. FeedsRoot a z b) (sym (append-nil t.front) ∙ ap (λ r. t.front ++ r) (sym none) ∙ sym t.bytes_are) t.taken

pub room_left : (a b : FileRoot) (bytes rest : List ℕ) (most : ℕ) → TakesFront FeedsRoot a bytes b rest
    → builder.byte_count a.builder + length (held a.waiting) + length bytes ≤ most → builder.byte_count b.builder + length (held b.waiting) + length rest ≤ most
room_left a b bytes rest most t room = omega (arith, t.taken.count, ap length t.bytes_are, length-append t.front rest, room)

-- where no byte waits, the builder has the root
pub root_ended : (a b : FileRoot) (len : ℕ) (root : List ℕ) → FeedsRoot a [] b → held b.waiting ≡ [] → builder.EndsWith b.builder len root
    → EndsWithRoot a len root
root_ended a b len root on none ends = λ file g.
    let h = on.given file g in
    ends file (subst (IsFed b.builder) (sym (append-nil h.taken) ∙ ap (λ w. h.taken ++ w) (sym none) ∙ sym h.content_is ∙ append-nil file) h.fed)
