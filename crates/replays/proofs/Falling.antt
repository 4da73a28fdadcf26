-- Each settling leaves less to settle, and the same torrent.
use Rattle.std.proofs.Common.{◌≡◌, ◌⊎◌, ℕ, zero, suc, ◌+◌, ◌-◌, ◌*◌, ◌^◌, ◌<◌, ◌≤◌, Bool, true, false, cond, min, List, length, map, set, replicate}
use Rattle.std.proofs.Common.{Option, Some, None, IsSome, is_some, inl, inr, refl, sym, ap, ◌∙◌, subst, arith}
use Rattle.std.specs.Prelude.{◌≢◌, slice_get}
use Rattle.std.specs.Ordering.{eq_by_cmp}
use Rattle.std.specs.Cmp.{eq_by_cmp_equiv}
use Rattle.std.specs.FinMap.{get, insert, remove, get-insert, get-remove}
use Rattle.std.proofs.lemmas.Bool.{cases_eq, cases_lt, cond-true}
use Rattle.std.proofs.lemmas.Option.{none-some}
use Rattle.std.proofs.Math.ListN.{get_or-eq_default}
use Rattle.std.proofs.lemmas.List.Sums.{count_by-le-length, sum_by-cons, sum_by-set}
use Rattle.hashtree.specs.Tree.{block_count}
use Rattle.node_maps.specs.Digest.{Hash}
use Rattle.node_maps.specs.Known.{place_cmp}
use Rattle.node_maps.proofs.Known.{place_total}
use Rattle.partial_tree.specs.TreeRoot.{TreeRoot}
use Rattle.opening.specs.Description.{Description}
use Rattle.session.specs.Layouts.{SessionSeen, root_of_entry, roots}
use Rattle.session.specs.Pieces.{HasPiece, IsLeafMarked}
use Rattle.holdings.specs.declared.piece_range.Pieces.{Pieces}
use Rattle.holdings.specs.declared.run.Settled.{Settled}
use Rattle.holdings.specs.declared.run.Settled.TheVariants.{Proved, False}
use Rattle.holdings.specs.Cells.{Cells, digest_in}
use Rattle.holdings.specs.Settling.{AreBlocksMarked, IsBlockMarked, IsMarkedRun, IsGivenUp, Settles}
use Rattle.holdings.specs.Holdings.{HoldingsSeen, PieceSeen, held_in, without_piece}
use Rattle.holdings.specs.Next.{LacksMemoryNext, LeavesCells, SettlesNext, with_cells}
use Rattle.holdings.proofs.Settlements.{some_of}
use Rattle.replays.specs.declared.said.Said.{Said}
use Rattle.replays.specs.declared.said.Said.TheVariants as said
use Rattle.replays.specs.Held.{IsSettled, Work}

-- ---- the torrent

mark-torrent : (S : SessionSeen) (n b : ℕ) (d : Hash) (S' : SessionSeen) → IsLeafMarked S n b d S' → S'.torrent ≡ S.torrent
mark-torrent S n b d S' m = ap (λ (U : SessionSeen). U.torrent) m.3

marks-torrent : (S : SessionSeen) (n first : ℕ) (cells : Cells) (from k : ℕ) (S' : SessionSeen) (cells' : Cells)
    → AreBlocksMarked S n first cells from k S' cells' → S'.torrent ≡ S.torrent
marks-torrent S n first cells from zero S' cells' h = ap (λ (U : SessionSeen). U.torrent) h.0
marks-torrent S n first cells from (suc k) S' cells' (M, between, rest, last) =
    mark-torrent M n (first + (from + k)) last.digest S' last.marked ∙ marks-torrent S n first cells from k M between rest

settles-torrent : (S : SessionSeen) (n first size : ℕ) (cells : Cells) (e : Settled) (S' : SessionSeen) (cells' : Cells)
    → Settles S n first size cells e S' cells' → S'.torrent ≡ S.torrent
settles-torrent S n first size cells (Proved run) S' cells' (inl k) = marks-torrent S n first cells k.from (suc k.judged.more) S' cells' k.judged.marks
settles-torrent S n first size cells (Proved run) S' cells' (inr p) =
    marks-torrent p.joined n first cells p.from (suc p.marked.more) S' cells' p.marked.marks
    ∙ ap (λ (U : SessionSeen). U.torrent) p.join.taken.state_after
settles-torrent S n first size cells (False run) S' cells' (inl k) = ap (λ (U : SessionSeen). U.torrent) k.judged.session
settles-torrent S n first size cells (False run) S' cells' (inr p) = ap (λ (U : SessionSeen). U.torrent) p.session

pub next-torrent : (S : SessionSeen) (h : HoldingsSeen) (p : Pieces) (e : Settled) (S' : SessionSeen) (h' : HoldingsSeen) (p' : Pieces)
    → SettlesNext S h p e S' h' p' → S'.torrent ≡ S.torrent
next-torrent S h p e S' h' p' next =
    let piece = next.settles in
    settles-torrent S p.tree next.first (length piece.seen.cells) piece.seen.cells e S' piece.cells piece.settles

-- ---- how many digests are held of a piece

-- one digest fewer
fewer-set : (cells : Cells) (j : ℕ) (d : Hash) → digest_in cells j ≡ Some d → held_in (set cells j None) + 1 ≡ held_in cells
fewer-set cells j d held = by (cases_lt j (length cells))
  where
    by : (j < length cells) ⊎ (length cells ≤ j) → held_in (set cells j None) + 1 ≡ held_in cells
    by (inl low) =
        let count : Option Hash → ℕ = λ x. cond (is_some x) 1 0 in
        let one : count (digest_in cells j) ≡ 1 = ap count held in
        let moved : held_in (set cells j None) + count (digest_in cells j) ≡ held_in cells + 0 = sum_by-set count cells j None None low in
        omega (arith, one, moved)
    by (inr high) = absurd (none-some d (sym (get_or-eq_default cells None high) ∙ held))

marks-fewer : (S : SessionSeen) (n first : ℕ) (cells : Cells) (from k : ℕ) (S' : SessionSeen) (cells' : Cells)
    → AreBlocksMarked S n first cells from k S' cells' → held_in cells' + k ≡ held_in cells
marks-fewer S n first cells from zero S' cells' h = let same : held_in cells' ≡ held_in cells = ap held_in h.1 in omega (arith, same)
marks-fewer S n first cells from (suc k) S' cells' (M, between, rest, last) =
    let before : held_in between + k ≡ held_in cells = marks-fewer S n first cells from k M between rest in
    let now : held_in cells' ≡ held_in (set between (from + k) None) = ap held_in last.rest in
    let one : held_in (set between (from + k) None) + 1 ≡ held_in between = fewer-set between (from + k) last.digest last.held in
    omega (arith, before, now, one)

none-held : (n : ℕ) → held_in (replicate n None) ≡ 0
none-held zero = refl
none-held (suc n) =
    let count : Option Hash → ℕ = λ x. cond (is_some x) 1 0 in
    let more : held_in (replicate (suc n) None) ≡ 0 + held_in (replicate n None) = sum_by-cons count None (replicate n None) in
    let none : held_in (replicate n None) ≡ 0 = none-held n in
    omega (arith, more, none)

settles-fewer : (S : SessionSeen) (n first size : ℕ) (cells : Cells) (e : Settled) (S' : SessionSeen) (cells' : Cells)
    → Settles S n first size cells e S' cells' → held_in cells' < held_in cells
settles-fewer S n first size cells (Proved run) S' cells' (inl k) =
    let few : held_in cells' + suc k.judged.more ≡ held_in cells = marks-fewer S n first cells k.from (suc k.judged.more) S' cells' k.judged.marks in
    omega (arith, few)
settles-fewer S n first size cells (Proved run) S' cells' (inr p) =
    let few : held_in cells' + suc p.marked.more ≡ held_in cells =
    marks-fewer p.joined n first cells p.from (suc p.marked.more) S' cells' p.marked.marks in
    omega (arith, few)
settles-fewer S n first size cells (False run) S' cells' (inl k) =
    let now : held_in cells' ≡ held_in (set cells k.from None) = ap held_in k.judged.rest in
    let one : held_in (set cells k.from None) + 1 ≡ held_in cells = fewer-set cells k.from k.is_first.digest k.is_first.held in
    omega (arith, now, one)
settles-fewer S n first size cells (False run) S' cells' (inr p) =
    let (j, inside, some) = p.refuted.complete.held in
    let (d, held) = some_of (digest_in cells j) some in
    let now : held_in cells' ≡ held_in (replicate (length cells) None) = ap held_in p.rest in
    let none : held_in (replicate (length cells) None) ≡ 0 = none-held (length cells) in
    let one : held_in (set cells j None) + 1 ≡ held_in cells = fewer-set cells j d held in
    omega (arith, now, none, one)

-- ---- the measure

abbrev pub held_of : Option PieceSeen → ℕ
held_of None = 0
held_of (Some x) = held_in x.cells

-- how many digests are held of the piece that is looked at first
abbrev pub held_on : HoldingsSeen → Pieces → ℕ
held_on h p = held_of (get h.pieces (p.tree, p.from))

-- what is left to settle
abbrev pub weight : HoldingsSeen → Pieces → ℕ
weight h p = (p.end - p.from) * 4294967297 + min (held_on h p) 4294967296

-- the files of tree n have 2^32 blocks at most
pub record HasFewBlocks (S : SessionSeen) (n : ℕ) : Type 0 where
  pub tree : TreeRoot
  pub is_tree : slice_get (roots S) n ≡ Some tree
  pub few : block_count tree.length ≤ 2 ^ 32

-- further pieces weigh less
further : (a b x y : ℕ) → a < b → a * 4294967297 + min x 4294967296 < b * 4294967297 + min y 4294967296
further a b x y less = omega (arith, less)

-- and so does one of which less is held
lighter : (a b x y : ℕ) → a ≡ b → x < y → y ≤ 4294967296 → a * 4294967297 + min x 4294967296 < b * 4294967297 + min y 4294967296
lighter a b x y same less few = omega (arith, same, less, few)

pub lacking-falls : (S : SessionSeen) (h : HoldingsSeen) (p p' : Pieces) → LacksMemoryNext S h p p' → weight h p' < weight h p
lacking-falls S h p p' next =
    let low : p.end - (next.first + 1) < p.end - p.from = omega (arith, next.from, next.end) in
    let here : weight h (record p { from = next.first + 1 }) < weight h p =
    further (p.end - (next.first + 1)) (p.end - p.from) (held_on h (record p { from = next.first + 1 })) (held_on h p) low in
    subst (λ (q : Pieces). weight h q < weight h p) (sym next.next) here

-- what is held of a piece then
left-on : (h : HoldingsSeen) (q : ℕ × ℕ) (x : PieceSeen) (cells : Cells) (h' : HoldingsSeen) → LeavesCells h q x cells h'
    → held_of (get h'.pieces q) ≤ held_in cells
left-on h q x cells h' (inl (some, is)) =
    let same = (eq_by_cmp_equiv place_total).refl q in
    let now : get h'.pieces q ≡ Some (record { cells = cells; newest = x.newest }) =
    ap (λ (k : HoldingsSeen). get k.pieces q) is ∙ get-insert place_total h.pieces q _ q ∙ cond-true _ _ _ same in
    let count : held_of (get h'.pieces q) ≡ held_in cells = ap held_of now in
    omega (arith, count)
left-on h q x cells h' (inr (bare, is)) =
    let same = (eq_by_cmp_equiv place_total).refl q in
    let now : get h'.pieces q ≡ None =
    ap (λ (k : HoldingsSeen). get k.pieces q) is ∙ get-remove place_total h.pieces q q ∙ cond-true _ _ _ same in
    let count : held_of (get h'.pieces q) ≡ 0 = ap held_of now in
    omega (arith, count)

pub settling-falls : (S : SessionSeen) (h : HoldingsSeen) (p : Pieces) (e : Settled) (S' : SessionSeen) (h' : HoldingsSeen) (p' : Pieces)
    → HasFewBlocks S p.tree → SettlesNext S h p e S' h' p' → weight h' p' < weight h p
settling-falls S h p e S' h' p' blocks next = subst (λ (q : Pieces). weight h' q < weight h p) (sym next.next) (by (cases_eq next.first p.from))
  where
    seen : PieceSeen
    seen = next.settles.seen

    after : held_of (get h'.pieces (p.tree, next.first)) < held_in seen.cells
    after =
        let left : held_of (get h'.pieces (p.tree, next.first)) ≤ held_in next.settles.cells =
        left-on h (p.tree, next.first) seen next.settles.cells h' next.settles.leaves in
        let fewer : held_in next.settles.cells < held_in seen.cells =
        settles-fewer S p.tree next.first (length seen.cells) seen.cells e S' next.settles.cells next.settles.settles in
        omega (arith, left, fewer)

    few : held_in seen.cells ≤ 4294967296
    few =
        let row = next.settles.piece blocks.tree blocks.is_tree in
        let count : held_in seen.cells ≤ length seen.cells = count_by-le-length is_some seen.cells in
        let size : length seen.cells ≤ block_count blocks.tree.length = omega (arith, row.count_is) in
        omega (arith, count, size, blocks.few)

    by : (next.first ≡ p.from) ⊎ (next.first ≢ p.from) → weight h' (record p { from = next.first }) < weight h p
    by (inl same) =
        let here : held_on h p ≡ held_in seen.cells =
        ap (λ f. held_of (get h.pieces (p.tree, f))) (sym same) ∙ ap held_of next.settles.there in
        let left : p.end - next.first ≡ p.end - p.from = ap (λ f. p.end - f) same in
        lighter (p.end - next.first) (p.end - p.from) (held_on h' (record p { from = next.first })) (held_on h p) left
        (subst (λ k. held_of (get h'.pieces (p.tree, next.first)) < k) (sym here) after)
        (subst (λ k. k ≤ 4294967296) (sym here) few)
    by (inr other) =
        let low : p.end - next.first < p.end - p.from = omega (arith, next.from, next.end, other) in
        further (p.end - next.first) (p.end - p.from) (held_on h' (record p { from = next.first })) (held_on h p) low

-- ---- one thing that is settled and told

pub few-blocks : (S M : SessionSeen) (n m blocks : ℕ)
    → (t : TreeRoot) × (slice_get (roots S) n ≡ Some t) × (blocks ≡ block_count t.length) → blocks ≤ 2 ^ 32 → M.torrent ≡ S.torrent → m ≡ n
    → HasFewBlocks M m
few-blocks S M n m blocks (t, there, is) few same tree = record {
  tree = t;
  is_tree = ap (λ (d : Description). slice_get (map root_of_entry d.trees) m) same
      ∙ ap (λ i. slice_get (roots S) i) tree ∙ there;
  few = omega (arith, is, few);
}

module _ (file : ℕ) (w : Work) (w' : Work) where
  pub settled-falls : (s : Said) → HasFewBlocks w.session w.pieces.tree → IsSettled file w s w' → weight w'.held w'.pieces < weight w.held w.pieces
  settled-falls (said.Settling file' e) few (same, next) = settling-falls w.session w.held w.pieces e w'.session w'.held w'.pieces few next
  settled-falls said.Lacking few (lacking, same, held) =
      subst (λ h. weight h w'.pieces < weight w.held w.pieces) (sym held) (lacking-falls w.session w.held w.pieces w'.pieces lacking)
  settled-falls (said.Report d) few is = absurd is
  settled-falls (said.Entry v m r) few is = absurd is
  settled-falls (said.Unproved v m h f) few is = absurd is

  pub settled-torrent : (s : Said) → IsSettled file w s w' → w'.session.torrent ≡ w.session.torrent
  settled-torrent (said.Settling file' e) (same, next) = next-torrent w.session w.held w.pieces e w'.session w'.held w'.pieces next
  settled-torrent said.Lacking (lacking, same, held) = ap (λ (U : SessionSeen). U.torrent) same
  settled-torrent (said.Report d) is = absurd is
  settled-torrent (said.Entry v m r) is = absurd is
  settled-torrent (said.Unproved v m h f) is = absurd is

  pub settled-tree : (s : Said) → IsSettled file w s w' → w'.pieces.tree ≡ w.pieces.tree
  settled-tree (said.Settling file' e) (same, next) = ap (λ (p : Pieces). p.tree) next.next
  settled-tree said.Lacking (lacking, same, held) = ap (λ (p : Pieces). p.tree) lacking.next
  settled-tree (said.Report d) is = absurd is
  settled-tree (said.Entry v m r) is = absurd is
  settled-tree (said.Unproved v m h f) is = absurd is
