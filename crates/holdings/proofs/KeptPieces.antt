-- What is kept after a digest is held, or a piece is settled or forgotten.
use Rattle.std.proofs.Common.{◌≡◌, ◌≢◌, ◌⊎◌, ℕ, zero, ◌+◌, ◌-◌, ◌<◌, ◌≤◌, Bool, true, false, cond, length, set, replicate, Option}
use Rattle.std.proofs.Common.{Some, None, inl}
use Rattle.std.proofs.Common.{inr, refl, sym, ap, ◌∙◌, subst, arith}
use Rattle.std.specs.Ordering.{nat_cmp, eq_by_cmp}
use Rattle.std.specs.Cmp.{eq_by_cmp_equiv, nat_cmp_total}
use Rattle.std.specs.FinMap.{get, insert, remove, len, get-insert, get-remove, same_map}
use Rattle.std.proofs.lemmas.Option.{none-some, same_Some}
use Rattle.std.proofs.lemmas.Map.Views.{tells_apart}
use Rattle.node_maps.specs.Digest.{Hash}
use Rattle.node_maps.specs.Known.{place_cmp}
use Rattle.node_maps.proofs.Known.{place_total, place_exact}
use Rattle.fixed_maps.specs.FixedMaps.{map_of, map_room}
use Rattle.holdings.specs.declared.run.Run.{Run}
use Rattle.holdings.specs.Cells.{Cells}
use Rattle.holdings.specs.Settling.{run_of}
use Rattle.holdings.specs.Holdings.{PieceSeen, HoldingsSeen, KeptPieces, KeptAges, WritesCell, IsAged, IsKept, IsLowPiece, Renews, BeginsPiece}
use Rattle.holdings.specs.Holdings.{age_at, seen_at}
use Rattle.holdings.specs.Holdings.{seen_holdings, without_piece, with_table_piece}
use Rattle.holdings.specs.Next.{HoldsSome, IsBare, LeavesCells, with_cells}
use Rattle.std.proofs.lemmas.Map.Lookups.{exact_unsigned}
use Rattle.holdings.proofs.Aged.{aged-again, aged-came, aged-gone, aged-written, other_key}
use Rattle.holdings.proofs.LookUps.{put-seen, gone-seen, age-put, age-gone, zero-put, zero-gone, more-ages, fewer-ages, more-pieces, same-pieces, fewer-pieces}

-- ---- what contracts see

module _ (m m' : KeptPieces) (most clock : ℕ) (q : ℕ × ℕ) where
  -- another digest of a piece that is there
  pub renewed : (j : ℕ) (d : Hash) → WritesCell m q j d clock m' → Renews (seen_holdings m most clock) q j d (seen_holdings m' most (clock + 1))
  renewed j d k = record {
    seen = k.seen;
    there = k.there;
    inside = k.inside;
    after = ap (λ (t : KeptPieces). seen_holdings t most (clock + 1)) k.after;
  }

  abbrev pub begins-with : ℕ → ℕ → Hash → PieceSeen
  begins-with size j d = record { cells = set (replicate size None) j (Some d); newest = clock }

  -- the first digest of a piece, for which there is room
  pub begun : (size j : ℕ) (d : Hash) → seen_at m q ≡ None → len m.pieces < most → m' ≡ with_table_piece m q (begins-with size j d)
      → BeginsPiece (seen_holdings m most clock) q size j d None (seen_holdings m' most (clock + 1))
  begun size j d absent room is = record {
    absent = absent;
    between = seen_holdings m most clock;
    room = (room, refl);
    after = ap (λ (t : KeptPieces). seen_holdings t most (clock + 1)) is;
  }

  -- the first digest of a piece, for which the oldest one gives way
  pub begun-full : (size j : ℕ) (d : Hash) (m1 : KeptPieces) (v : ℕ × ℕ) (x : PieceSeen) (run : Run) → seen_at m q ≡ None
      → most ≤ len m.pieces → seen_at m v ≡ Some x → ((r : ℕ × ℕ) (y : PieceSeen) → seen_at m r ≡ Some y → x.newest ≤ y.newest)
      → run ≡ run_of v.0 v.1 0 (length x.cells - 1) → m1 ≡ with_table_piece m q (begins-with size j d) → m' ≡ record m1 { pieces = remove m1.pieces v }
      → BeginsPiece (seen_holdings m most clock) q size j d (Some run) (seen_holdings m' most (clock + 1))
  begun-full size j d m1 v x run absent full there oldest run_is is gone = record {
    absent = absent;
    between = without_piece (seen_holdings m most clock) v;
    room = record {
      piece = v;
      seen = x;
      is_oldest = record { there = there; oldest = oldest };
      full = full;
      run_is = run_is;
      after = refl;
    };
    after = λ i. record { pieces = exchanged i; most = most; longest = wide i; clock = clock + 1 };
  }
    where
      new : PieceSeen
      new = begins-with size j d

      wide : m'.width ≡ m.width
      wide = ap (λ (t : KeptPieces). t.width) gone ∙ ap (λ (t : KeptPieces). t.width) is

      apart : v ≢ q
      apart e = none-some x (sym absent ∙ ap (seen_at m) (sym e) ∙ there)

      crossed : (r : ℕ × ℕ) (b c : Bool) (o : Option PieceSeen) → eq_by_cmp place_cmp r v ≡ b → eq_by_cmp place_cmp r q ≡ c
          → cond b None (cond c (Some new) o) ≡ cond c (Some new) (cond b None o)
      crossed r true true o e f = absurd (apart (sym (tells_apart place_exact r v e) ∙ tells_apart place_exact r q f))
      crossed r true false o e f = refl
      crossed r false c o e f = refl

      exchanged : m'.pieces ≡ insert (remove m.pieces v) q new
      exchanged = ap (λ (t : KeptPieces). t.pieces) gone ∙ ap (λ (t : KeptPieces). remove t.pieces v) is
          ∙ same_map place_total place_exact _ _ (λ r.
          get-remove place_total (insert m.pieces q new) v r ∙ ap (λ o. cond (eq_by_cmp place_cmp r v) None o) (get-insert place_total m.pieces q new r)
          ∙ crossed r _ _ (seen_at m r) refl refl
          ∙ ap (λ o. cond (eq_by_cmp place_cmp r q) (Some new) o) (sym (get-remove place_total m.pieces v r))
          ∙ sym (get-insert place_total (remove m.pieces v) q new r))

-- cells that are bare are not kept
module _ (h : HoldingsSeen) (q : ℕ × ℕ) (x : PieceSeen) (cells : Cells) where
  written : get (with_cells h q x cells).pieces q ≡ Some (record { cells = cells; newest = x.newest })
  written = get-insert place_total h.pieces q (record { cells = cells; newest = x.newest }) q
      ∙ ap (λ b. cond b (Some (record { cells = cells; newest = x.newest })) (get h.pieces q)) ((eq_by_cmp_equiv place_total).refl q)

  without-written : without_piece (with_cells h q x cells) q ≡ without_piece h q
  without-written = ap (λ ps. record h { pieces = ps }) (same_map place_total place_exact _ _ (λ r.
      get-remove place_total _ q r
      ∙ ap (λ o. cond (eq_by_cmp place_cmp r q) None o) (get-insert place_total h.pieces q (record { cells = cells; newest = x.newest }) r)
      ∙ twice (eq_by_cmp place_cmp r q) (Some (record { cells = cells; newest = x.newest })) (get h.pieces r) ∙ sym (get-remove place_total h.pieces q r)))
    where
      twice : (b : Bool) (o p : Option PieceSeen) → cond b None (cond b o p) ≡ cond b None p
      twice true o p = refl
      twice false o p = refl

  pub leaves-cells : (h' : HoldingsSeen)
      → (((y : PieceSeen) → get (with_cells h q x cells).pieces q ≡ Some y → HoldsSome y.cells) × (h' ≡ with_cells h q x cells))
      ⊎ ((y : PieceSeen) × (get (with_cells h q x cells).pieces q ≡ Some y) × IsBare y.cells × (h' ≡ without_piece (with_cells h q x cells) q))
      → LeavesCells h q x cells h'
  leaves-cells h' (inl (some, same)) = inl (some _ written, same)
  leaves-cells h' (inr (y, at, bare, gone)) =
      let is : y ≡ record { cells = cells; newest = x.newest } = same_Some y _ (sym at ∙ written) in
      inr (subst (λ (z : PieceSeen). IsBare z.cells) is bare, gone ∙ without-written)

-- ---- the two maps stay right

-- no piece stands at the present time
pub no-age : (m : KeptPieces) (a : KeptAges) (most clock : ℕ) → IsKept m a most clock → age_at a clock ≡ None
no-age m a most clock kept = by (age_at a clock) refl
  where
    by : (o : Option (ℕ × ℕ)) → age_at a clock ≡ o → age_at a clock ≡ None
    by None is = is
    by (Some q) is = absurd (let low = kept.aged.past clock q is in omega (arith, low))

module _ (m m' : KeptPieces) (a : KeptAges) (most clock : ℕ) (kept : IsKept m a most clock) (q : ℕ × ℕ) where
  -- other cells of a piece
  pub kept-written : (x y : PieceSeen) → seen_at m q ≡ Some x → y.newest ≡ x.newest → length y.cells ≡ length x.cells
      → m' ≡ with_table_piece m q y → IsKept m' a most clock
  kept-written x y there now size is = record {
    aged = aged-written (seen_at m) (seen_at m') (age_at a) clock kept.aged q x y there now size (put-seen m m' q y is);
    zero = kept.zero;
    as_many = kept.as_many ∙ sym (same-pieces m m' q x y is there);
    some = kept.some;
    many = kept.many;
    few = let few = kept.few in let same = same-pieces m m' q x y is there in omega (arith, few, same);
    room = let room = kept.room in let same : m'.room ≡ m.room = ap (λ (t : KeptPieces). t.room) is in omega (arith, room, same);
    ages_room = kept.ages_room;
    few_ages = kept.few_ages;
  }

module _ (m m' : KeptPieces) (a a' : KeptAges) (most clock : ℕ) (kept : IsKept m a most clock) (q : ℕ × ℕ) (wide : map_room a' ≡ map_room a) where
  -- another digest of a piece
  pub kept-renewed : (x y : PieceSeen) (a1 : KeptAges) → seen_at m q ≡ Some x → y.newest ≡ clock → length y.cells ≡ length x.cells
      → m' ≡ with_table_piece m q y → map_of a1 ≡ insert (map_of a) (0, clock) q → map_of a' ≡ remove (map_of a1) (0, x.newest)
      → IsKept m' a' most (clock + 1)
  kept-renewed x y a1 there now size is came gone = record {
    aged = aged-again (seen_at m) (seen_at m') (age_at a) (age_at a') clock kept.aged q x y there now size (put-seen m m' q y is)
        (λ t. age-gone a1 a' x.newest gone t ∙ ap (λ o. cond (eq_by_cmp nat_cmp x.newest t) None o) (age-put a a1 clock q came t));
    zero = zero-gone a1 a' x.newest gone (zero-put a a1 clock q came kept.zero);
    as_many =
        let more = more-ages a a1 clock q came (no-age m a most clock kept) in
        let there' : age_at a1 x.newest ≡ Some q = still in
        let fewer = fewer-ages a1 a' x.newest q gone there' in
        let same = same-pieces m m' q x y is there in
        let was = kept.as_many in
        omega (arith, more, fewer, same, was);
    some = kept.some;
    many = kept.many;
    few = let few = kept.few in let same = same-pieces m m' q x y is there in omega (arith, few, same);
    room = let room = kept.room in let same : m'.room ≡ m.room = ap (λ (t : KeptPieces). t.room) is in omega (arith, room, same);
    ages_room = let room = kept.ages_room in omega (arith, room, wide);
    few_ages = let few = kept.few_ages in omega (arith, few, wide);
  }
    where
      at : age_at a x.newest ≡ Some q
      at = kept.aged.at q x there

      still : age_at a1 x.newest ≡ Some q
      still = age-put a a1 clock q came x.newest ∙ ap (λ b. cond b (Some q) (age_at a x.newest))
          (other_key nat_cmp_total exact_unsigned clock x.newest (λ e. let low = kept.aged.past x.newest q at in omega (arith, low, e))) ∙ at

  -- a piece goes
  pub kept-gone : (x : PieceSeen) → seen_at m q ≡ Some x → m' ≡ record m { pieces = remove m.pieces q } → map_of a' ≡ remove (map_of a) (0, x.newest)
      → IsKept m' a' most clock
  kept-gone x there is gone = record {
    aged = aged-gone (seen_at m) (seen_at m') (age_at a) (age_at a') clock kept.aged q x there (gone-seen m m' q is) (age-gone a a' x.newest gone);
    zero = zero-gone a a' x.newest gone kept.zero;
    as_many =
        let fewer = fewer-ages a a' x.newest q gone (kept.aged.at q x there) in
        let less = fewer-pieces m m' q x is there in
        let was = kept.as_many in
        omega (arith, fewer, less, was);
    some = kept.some;
    many = kept.many;
    few = let few = kept.few in let less = fewer-pieces m m' q x is there in omega (arith, few, less);
    room = let room = kept.room in let same : m'.room ≡ m.room = ap (λ (t : KeptPieces). t.room) is in omega (arith, room, same);
    ages_room = let room = kept.ages_room in omega (arith, room, wide);
    few_ages = let few = kept.few_ages in omega (arith, few, wide);
  }

-- a piece comes
module _ (m m1 : KeptPieces) (a a1 : KeptAges) (most clock : ℕ) (kept : IsKept m a most clock) (q : ℕ × ℕ) (y : PieceSeen)
    (absent : seen_at m q ≡ None) (now : y.newest ≡ clock) (low : IsLowPiece q y) (is : m1 ≡ with_table_piece m q y)
    (came : map_of a1 ≡ insert (map_of a) (0, clock) q) (wide : map_room a1 ≡ map_room a) where
  aged-begun : IsAged (seen_at m1) (age_at a1) (clock + 1)
  aged-begun = aged-came (seen_at m) (seen_at m1) (age_at a) (age_at a1) clock kept.aged q y absent now low (put-seen m m1 q y is) (age-put a a1 clock q came)

  more-kept : len (map_of a1) ≡ len m1.pieces
  more-kept =
      let ages = more-ages a a1 clock q came (no-age m a most clock kept) in
      let pieces = more-pieces m m1 q y is absent in
      let was = kept.as_many in
      omega (arith, ages, pieces, was)

  same-room : m1.room ≡ m.room
  same-room = ap (λ (t : KeptPieces). t.room) is

  pub kept-begun : len m.pieces < most → IsKept m1 a1 most (clock + 1)
  kept-begun room = record {
    aged = aged-begun;
    zero = zero-put a a1 clock q came kept.zero;
    as_many = more-kept;
    some = kept.some;
    many = kept.many;
    few = let more = more-pieces m m1 q y is absent in omega (arith, room, more);
    room = let room = kept.room in omega (arith, room, same-room);
    ages_room = let room = kept.ages_room in omega (arith, room, wide);
    few_ages = let few = kept.few_ages in omega (arith, few, wide);
  }

  -- and another one goes
  module _ (m2 : KeptPieces) (a2 : KeptAges) (v : ℕ × ℕ) (x : PieceSeen) (there : seen_at m v ≡ Some x)
      (gone : m2 ≡ record m1 { pieces = remove m1.pieces v }) (went : map_of a2 ≡ remove (map_of a1) (0, x.newest)) (wide2 : map_room a2 ≡ map_room a1) where
    still : seen_at m1 v ≡ Some x
    still = put-seen m m1 q y is v
        ∙ ap (λ b. cond b (Some y) (seen_at m v)) (other_key place_total place_exact q v (λ e. none-some x (sym absent ∙ ap (seen_at m) e ∙ there))) ∙ there

    pub kept-exchanged : IsKept m2 a2 most (clock + 1)
    kept-exchanged = record {
      aged = aged-gone (seen_at m1) (seen_at m2) (age_at a1) (age_at a2) (clock + 1) aged-begun v x still (gone-seen m1 m2 v gone)
          (age-gone a1 a2 x.newest went);
      zero = zero-gone a1 a2 x.newest went (zero-put a a1 clock q came kept.zero);
      as_many =
          let ages = fewer-ages a1 a2 x.newest v went (aged-begun.at v x still) in
          let pieces = fewer-pieces m1 m2 v x gone still in
          let same = more-kept in
          omega (arith, ages, pieces, same);
      some = kept.some;
      many = kept.many;
      few =
          let less = fewer-pieces m1 m2 v x gone still in
          let more = more-pieces m m1 q y is absent in
          let few = kept.few in
          omega (arith, less, more, few);
      room =
          let room = kept.room in
          let same : m2.room ≡ m1.room = ap (λ (t : KeptPieces). t.room) gone in
          omega (arith, room, same-room, same);
      ages_room = let room = kept.ages_room in omega (arith, room, wide, wide2);
      few_ages = let few = kept.few_ages in omega (arith, few, wide, wide2);
    }
