-- What is held of the entries of a message came with them, and of a block what came last.
use Rattle.std.proofs.Common.{◌≡◌, ◌⊎◌, ℕ, zero, suc, ◌+◌, ◌<◌, ◌≤◌, List, [], ◌∷◌, ◌++◌, length, Option, Some, None, inl, inr, refl, sym, ap, ◌∙◌}
use Rattle.std.proofs.Common.{subst, arith}
use Rattle.std.specs.Prelude.{slice_get}
use Rattle.std.proofs.lemmas.Bool.{cases_lt}
use Rattle.std.proofs.lemmas.Option.{none-some, same_Some, slice_get_within}
use Rattle.chains.proofs.Cases.{item_at, item_stays, last_or_before}
use Rattle.hashtree.specs.Tree.{block}
use Rattle.opening.specs.Description.{Description}
use Rattle.session.specs.Blocks.{BlocksSeen}
use Rattle.session.specs.Layouts.{tree_number, tree_of}
use Rattle.session.specs.Session.{SessionSeen}
use Rattle.holdings.specs.declared.run.Run.{Run}
use Rattle.holdings.specs.Holdings.{HoldingsSeen}
use Rattle.replays.specs.ByPieces.{bytes_in}
use Rattle.replays.specs.Held.{AreSaidOf, IsSaidOf}
use Rattle.replays.specs.ProvedLines.{FrameTold, HoldsBlock, held_of, proved_of}
use Rattle.replays.proofs.ToldCases.{IsHeldEntry, IsNotHeld, TheSaid, blocks_report, entry-cases}
use Rattle.replay_laws.proofs.Holding.{AreOfCame, came-weaker, one-held}

-- these bytes came for block b of tree n in one of the first frames, and were held, for the last time in them
pub record CameBefore (frames : List FrameTold) (limit : ℕ) (E : SessionSeen) (n b : ℕ) (bytes : List ℕ) : Type 0 where
  pub number : ℕ
  pub low : number < limit
  pub frame : FrameTold
  pub there : slice_get frames number ≡ Some frame
  pub came : HoldsBlock E frame n b bytes
  pub last : (j : ℕ) → number < j → j < limit → (later : FrameTold) → slice_get frames j ≡ Some later → (other : List ℕ) → ¬ HoldsBlock E later n b other

-- what is told of the block
abbrev pub said_of : {E : SessionSeen} {h : FrameTold} {n b : ℕ} {bytes : List ℕ} → HoldsBlock E h n b bytes → TheSaid
said_of x = held_of x.blocks x.entry x.dropped x.dropped_from

-- a file has the same tree in each state of a session
pub same-tree : (S E : SessionSeen) (d : Description) → S.torrent ≡ d → E.torrent ≡ d → (file : ℕ) → tree_of S file ≡ tree_of E file
same-tree S E d same ends file = ap (λ (c : Description). tree_number (slice_get c.files file)) (same ∙ sym ends)

-- an item of two lists is one of the first or of the second
pub in-either : {A : Type 0} (xs ys : List A) (k : ℕ) (x : A) → slice_get (xs ++ ys) k ≡ Some x
    → (slice_get xs k ≡ Some x) ⊎ ((j : ℕ) × (slice_get ys j ≡ Some x))
in-either [] ys k x at = inr (k, at)
in-either (z ∷ xs) ys zero x at = inl at
in-either (z ∷ xs) ys (suc k) x at = in-either xs ys k x at

-- where a list has no item, it has none further on
below-none : {A : Type 0} (xs : List A) (m q : ℕ) (x : A) → slice_get xs m ≡ None → slice_get xs q ≡ Some x → q < m
below-none xs m q x none at = by (cases_lt m (length xs))
  where
    by : (m < length xs) ⊎ (length xs ≤ m) → q < m
    by (inl low) = let (y, there) = item_at xs m low in absurd (none-some y (sym none ∙ there))
    by (inr high) = let inside = slice_get_within xs q x at in omega (arith, high, inside)

-- ---- a frame that holds nothing

module _ (E : SessionSeen) (frames : List FrameTold) (i : ℕ) (h : FrameTold) (there : slice_get frames i ≡ Some h) where
  -- it leaves what came last before it
  pub still-last : (n b : ℕ) (bytes : List ℕ) → ((other : List ℕ) → ¬ HoldsBlock E h n b other) → CameBefore frames i E n b bytes
      → CameBefore frames (suc i) E n b bytes
  still-last n b bytes none c = record {
    number = c.number;
    low = omega (arith, c.low);
    frame = c.frame;
    there = c.there;
    came = c.came;
    last = λ j after before later at other holds. by j after at other holds (last_or_before j i (omega (arith, before)));
  }
    where
      by : (j : ℕ) → c.number < j → {later : FrameTold} → slice_get frames j ≡ Some later → (other : List ℕ) → HoldsBlock E later n b other
          → (j < i) ⊎ (j ≡ i) → ⊥
      by j after {later} at other holds (inl before) = c.last j after before later at other holds
      by j after {later} at other holds (inr same) =
          none other (subst (λ (g : FrameTold). HoldsBlock E g n b other) (same_Some later h (sym at ∙ ap (slice_get frames) same ∙ there)) holds)

-- ---- the entries of a message

-- an entry is told of its own number
pub said-at : (S : SessionSeen) (v : BlocksSeen) (bytes : List ℕ) (n m : ℕ) (k : HoldingsSeen) (ss : List TheSaid) (k' : HoldingsSeen)
    → AreSaidOf S v bytes n m k ss k' → (q : ℕ) (w : BlocksSeen) (e : ℕ) (dropped : Option Run) (file : ℕ)
    → slice_get ss q ≡ Some (held_of w e dropped file) → (w ≡ v) × (e ≡ m + q)
unfolding AreSaidOf
said-at S v bytes n m k [] k' is q w e dropped file at = absurd (none-some (held_of w e dropped file) at)
said-at S v bytes n m k (s ∷ ss) k' (mid, one, rest) zero w e dropped file at =
    let here = subst (λ t. IsSaidOf S v bytes n m k t mid) (same_Some s (held_of w e dropped file) at) one in
    let same : e ≡ m = here.1 in
    (here.0, omega (arith, same))
said-at S v bytes n m k (s ∷ ss) k' (mid, one, rest) (suc q) w e dropped file at =
    let (blocks, number) = said-at S v bytes n (m + 1) mid ss k' rest q w e dropped file at in
    (blocks, omega (arith, number))

-- no entry is told to be proved
pub entries-prove-nothing : (S : SessionSeen) (v : BlocksSeen) (bytes : List ℕ) (n m : ℕ) (k : HoldingsSeen) (ss : List TheSaid) (k' : HoldingsSeen)
    → AreSaidOf S v bytes n m k ss k' → (j file : ℕ) (run : Run) → slice_get ss j ≡ Some (proved_of file run) → ⊥
unfolding AreSaidOf
entries-prove-nothing S v bytes n m k [] k' is j file run at = none-some (proved_of file run) at
entries-prove-nothing S v bytes n m k (s ∷ ss) k' (mid, one, rest) zero file run at =
    subst (λ t. IsSaidOf S v bytes n m k t mid) (same_Some s (proved_of file run) at) one
entries-prove-nothing S v bytes n m k (s ∷ ss) k' (mid, one, rest) (suc j) file run at =
    entries-prove-nothing S v bytes n (m + 1) mid ss k' rest j file run at

module _ (d : Description) (E : SessionSeen) (ends : E.torrent ≡ d) (frames : List FrameTold) (i : ℕ) (h : FrameTold)
    (there : slice_get frames i ≡ Some h) (S : SessionSeen) (same : S.torrent ≡ d) (v : BlocksSeen) (report_is : h.report ≡ blocks_report v) (bytes : List ℕ)
    (message_is : bytes_in h.frame ≡ Some bytes) (n : ℕ) (of_file : tree_of S v.file ≡ Some n) (all settled : List TheSaid)
    (told_is : h.told ≡ all ++ settled) where
  -- one of the first entries is told to be held for block c of tree m
  pub record IsHeldAmong (count m c : ℕ) : Type 0 where
    pub entry : ℕ
    pub low : entry < count
    pub dropped : Option Run
    pub file : ℕ
    pub at : slice_get all entry ≡ Some (held_of v entry dropped file)
    pub tree_is : m ≡ n
    pub block_is : c ≡ v.first + entry

  -- it came before the frame, and no entry of the frame so far is of it; or it came in this frame
  abbrev During : ℕ → ℕ → ℕ → List ℕ → Type 0
  During count m c bs = (CameBefore frames i E m c bs × (¬ IsHeldAmong count m c)) ⊎ HoldsBlock E h m c bs

  during-more : (count m c : ℕ) (bs : List ℕ)
      → ((dropped : Option Run) (file : ℕ) → slice_get all count ≡ Some (held_of v count dropped file) → m ≡ n → c ≡ v.first + count → ⊥)
      → During count m c bs → During (count + 1) m c bs
  during-more count m c bs apart (inr here) = inr here
  during-more count m c bs apart (inl (came, none)) = inl (came, λ x. by x (last_or_before x.entry count x.low))
    where
      by : (x : IsHeldAmong (count + 1) m c) → (x.entry < count) ⊎ (x.entry ≡ count) → ⊥
      by x (inl before) = none (record {
        entry = x.entry;
        low = before;
        dropped = x.dropped;
        file = x.file;
        at = x.at;
        tree_is = x.tree_is;
        block_is = x.block_is;
      })
      by x (inr last) =
          apart x.dropped x.file (subst (λ e. slice_get all e ≡ Some (held_of v e x.dropped x.file)) last x.at) x.tree_is
          (subst (λ e. c ≡ v.first + e) last x.block_is)

  entry-holds : (m : ℕ) (k : HoldingsSeen) (s : TheSaid) (k' : HoldingsSeen) → slice_get all m ≡ Some s → (e : IsHeldEntry S v bytes n m k s k')
      → HoldsBlock E h n (v.first + m) (block bytes m)
  entry-holds m k s k' at e = record {
    message = bytes;
    message_is = message_is;
    blocks = v;
    report_is = report_is;
    entry = m;
    unproved = e.unproved;
    dropped = e.dropped;
    dropped_from = e.file;
    held = (m, ap (λ ss. slice_get ss m) told_is ∙ item_stays all settled m (held_of v m e.dropped e.file) (at ∙ ap Some e.said_is));
    tree_is = sym (same-tree S E d same ends v.file) ∙ of_file;
    block_is = refl;
    bytes_are = refl;
  }

  one-entry : (m : ℕ) (k : HoldingsSeen) (s : TheSaid) (k' : HoldingsSeen) → slice_get all m ≡ Some s → IsSaidOf S v bytes n m k s k'
      → AreOfCame d (During m) k → AreOfCame d (During (m + 1)) k'
  one-entry m k s k' at one good = by (entry-cases S v bytes n m k s k' one)
    where
      by : IsHeldEntry S v bytes n m k s k' ⊎ ((k' ≡ k) × IsNotHeld s) → AreOfCame d (During (m + 1)) k'
      by (inl e) = one-held d (During m) k good S k' same n (v.first + m) (block bytes m) e.dropped e.held (During (m + 1))
          (inr (entry-holds m k s k' at e))
          (λ t c bs apart. during-more m t c bs (λ dropped file held tree number. apart (sym tree) (sym number)))
      by (inr (stays, not_held)) = subst (AreOfCame d (During (m + 1))) (sym stays) (came-weaker d (During m) (During (m + 1)) k
          (λ t c bs. during-more m t c bs (λ dropped file held tree number. not_held v m dropped file (same_Some s _ (sym at ∙ held)))) good)

  -- ---- all of them

  module _ (k : HoldingsSeen) (k' : HoldingsSeen) (said : AreSaidOf S v bytes n 0 k all k')
      (none : (j : ℕ) (w : BlocksSeen) (e : ℕ) (dropped : Option Run) (file : ℕ) → slice_get settled j ≡ Some (held_of w e dropped file) → ⊥) where
    -- what the frame holds is of one of its entries
    among : (m c count : ℕ) (bs : List ℕ) → slice_get all count ≡ None → (x : HoldsBlock E h m c bs) → IsHeldAmong count m c
    among m c count bs ended x = by (in-either all settled x.held.0 (said_of x) (sym (ap (λ ss. slice_get ss x.held.0) told_is) ∙ x.held.1))
      where
        by : (slice_get all x.held.0 ≡ Some (said_of x)) ⊎ ((j : ℕ) × (slice_get settled j ≡ Some (said_of x))) → IsHeldAmong count m c
        by (inr (j, at)) = absurd (none j x.blocks x.entry x.dropped x.dropped_from at)
        by (inl at) =
            let (blocks, number) = said-at S v bytes n 0 k all k' said x.held.0 x.blocks x.entry x.dropped x.dropped_from at in
            let entry : x.held.0 ≡ x.entry = omega (arith, number) in
            let here : slice_get all x.entry ≡ Some (held_of v x.entry x.dropped x.dropped_from) =
            subst (λ w. slice_get all x.entry ≡ Some (held_of w x.entry x.dropped x.dropped_from)) blocks
            (subst (λ q. slice_get all q ≡ Some (said_of x)) entry at) in
            record {
              entry = x.entry;
              low = below-none all count x.entry (held_of v x.entry x.dropped x.dropped_from) ended here;
              dropped = x.dropped;
              file = x.dropped_from;
              at = here;
              tree_is = same_Some m n (sym x.tree_is ∙ ap (λ (w : BlocksSeen). tree_of E w.file) blocks ∙ sym (same-tree S E d same ends v.file) ∙ of_file);
              block_is = x.block_is ∙ ap (λ (w : BlocksSeen). w.first + x.entry) blocks;
            }

    ended : (count m c : ℕ) (bs : List ℕ) → slice_get all count ≡ None → During count m c bs → CameBefore frames (suc i) E m c bs
    ended count m c bs end (inl (came, no_entry)) = still-last E frames i h there m c bs (λ other x. no_entry (among m c count other end x)) came
    ended count m c bs end (inr here) = record {
      number = i;
      low = omega arith;
      frame = h;
      there = there;
      came = here;
      last = λ j after before later at other holds. omega (arith, after, before);
    }

    each-entry : (m : ℕ) (l : HoldingsSeen) (ss : List TheSaid) → ((j : ℕ) → slice_get ss j ≡ slice_get all (m + j)) → AreSaidOf S v bytes n m l ss k'
        → AreOfCame d (During m) l → AreOfCame d (CameBefore frames (suc i) E) k'
    unfolding AreSaidOf
    each-entry m l [] at is good =
        let zero_is : m + 0 ≡ m = omega arith in
        let end : slice_get all m ≡ None = ap (slice_get all) (sym zero_is) ∙ sym (at 0) in
        subst (AreOfCame d (CameBefore frames (suc i) E)) (sym is)
        (came-weaker d (During m) (CameBefore frames (suc i) E) l (λ t c bs. ended m t c bs end) good)
    each-entry m l (s ∷ ss) at (mid, one, rest) good =
        let zero_is : m + 0 ≡ m = omega arith in
        each-entry (m + 1) mid ss (λ j. let suc_is : m + suc j ≡ m + 1 + j = omega arith in at (suc j) ∙ ap (slice_get all) suc_is) rest
        (one-entry m l s mid (ap (slice_get all) (sym zero_is) ∙ sym (at 0)) one good)

    pub entries-held : AreOfCame d (CameBefore frames i E) k → AreOfCame d (CameBefore frames (suc i) E) k'
    entries-held good = each-entry 0 k all (λ j. let plus : j ≡ 0 + j = omega arith in ap (slice_get all) plus) said
        (came-weaker d (CameBefore frames i E) (During 0) k (λ t c bs came. inl (came, λ x. omega (arith, x.low))) good)
