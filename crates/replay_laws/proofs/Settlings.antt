-- What is settled of what came.
use Rattle.std.proofs.Common.{◌≡◌, ◌⊎◌, ℕ, zero, suc, List, [], ◌∷◌, Option, Some, inl, inr, sym, ap, ◌∙◌, subst, arith}
use Rattle.std.specs.Prelude.{slice_get}
use Rattle.std.proofs.lemmas.Option.{none-some, same_Some}
use Rattle.opening.specs.Description.{Description}
use Rattle.session.specs.Blocks.{BlocksSeen}
use Rattle.session.specs.Layouts.{tree_of}
use Rattle.session.specs.Session.{SessionSeen, HasClosedTrees}
use Rattle.holdings.specs.declared.piece_range.Pieces.{Pieces}
use Rattle.holdings.specs.declared.run.Run.{Run}
use Rattle.holdings.specs.declared.run.Settled.{Settled}
use Rattle.holdings.specs.Next.{SettlesNext}
use Rattle.replays.specs.Held.{AreSettled, IsSettled, Work}
use Rattle.replays.specs.ProvedLines.{CameBy, FrameTold, HaveCome, held_of, proved_of}
use Rattle.replays.proofs.ToldCases.{TheSaid, settled-cases}
use Rattle.replay_laws.proofs.Entries.{CameBefore}
use Rattle.replay_laws.proofs.Holding.{AreOfCame, one-settled}
use Rattle.replay_laws.proofs.KnownRuns.{IsKnownBlock, IsKnownRun, block-at-end, proved-known}
use Rattle.replay_laws.proofs.Staying.{Stays, one-stays, settled-stays, stays-then}

-- nothing is told to be held
pub settled-hold-nothing : (file : ℕ) (w : Work) (ss : List TheSaid) (w' : Work) → AreSettled file w ss w' → (j : ℕ) (v : BlocksSeen) (m : ℕ)
    (dropped : Option Run) (from : ℕ) → slice_get ss j ≡ Some (held_of v m dropped from) → ⊥
unfolding AreSettled
settled-hold-nothing file w [] w' is j v m dropped from at = none-some (held_of v m dropped from) at
settled-hold-nothing file w (s ∷ ss) w' (mid, one, rest) zero v m dropped from at =
    subst (λ t. IsSettled file w t mid) (same_Some s (held_of v m dropped from) at) one
settled-hold-nothing file w (s ∷ ss) w' (mid, one, rest) (suc j) v m dropped from at = settled-hold-nothing file mid ss w' rest j v m dropped from at

-- settlings are of one tree
one-tree : (file : ℕ) (w : Work) (s : TheSaid) (w' : Work) → IsSettled file w s w' → w'.pieces.tree ≡ w.pieces.tree
one-tree file w s w' one = by (settled-cases file w s w' one)
  where
    by : ((e : Settled) × SettlesNext w.session w.held w.pieces e w'.session w'.held w'.pieces)
        ⊎ ((w'.session ≡ w.session) × (w'.held ≡ w.held) × (w'.pieces.tree ≡ w.pieces.tree)) → w'.pieces.tree ≡ w.pieces.tree
    by (inl (e, next)) = ap (λ (p : Pieces). p.tree) next.next
    by (inr stays) = stays.2

module _ (d : Description) (E : SessionSeen) (frames : List FrameTold) (i : ℕ) (file : ℕ) where
  abbrev Came : ℕ → ℕ → List ℕ → Type 0
  Came = CameBefore frames (suc i) E

  one-good : (w : Work) (s : TheSaid) (w' : Work) → IsSettled file w s w' → AreOfCame d Came w.held → AreOfCame d Came w'.held
  one-good w s w' one good = by (settled-cases file w s w' one)
    where
      by : ((e : Settled) × SettlesNext w.session w.held w.pieces e w'.session w'.held w'.pieces)
          ⊎ ((w'.session ≡ w.session) × (w'.held ≡ w.held) × (w'.pieces.tree ≡ w.pieces.tree)) → AreOfCame d Came w'.held
      by (inl (e, next)) = one-settled d Came w.held good w.session w'.held w.pieces e w'.session w'.pieces next
      by (inr stays) = subst (AreOfCame d Came) (sym stays.1) good

  pub settled-good : (w : Work) (ss : List TheSaid) (w' : Work) → AreSettled file w ss w' → AreOfCame d Came w.held → AreOfCame d Came w'.held
  unfolding AreSettled
  settled-good w [] w' is good = subst (λ (x : Work). AreOfCame d Came x.held) (sym is) good
  settled-good w (s ∷ ss) w' (mid, one, rest) good = settled-good mid ss w' rest (one-good w s mid one good)

  -- ---- what is told to be proved

  -- the file that is named has the tree, if a block of the tree came
  module _ (closed : HasClosedTrees E) (n : ℕ) (names : (b : ℕ) (bytes : List ℕ) → Came n b bytes → tree_of E file ≡ Some n) where
    run-came : (S : SessionSeen) → S.torrent ≡ d → Stays S E → (run : Run) → IsKnownRun d Came S n run → HaveCome frames i E file run
    run-came S same stays run r = record {
      tree_is =
          let x = r.each run.first (omega arith) r.some in
          names run.first x.bytes x.came ∙ ap Some (sym r.tree_is);
      some = r.some;
      each = λ b low high. subst (λ t. CameBy frames i E t b) (sym r.tree_is) (one b (r.each b low high));
    }
      where
        one : (b : ℕ) → IsKnownBlock d Came S n b → CameBy frames i E n b
        one b x = record {
          number = x.came.number;
          by_then = omega (arith, x.came.low);
          frame = x.came.frame;
          there = x.came.there;
          bytes = x.bytes;
          came = x.came.came;
          last = λ j after upto later at other. x.came.last j after (omega (arith, upto)) later at other;
          is_block = block-at-end d Came S E n b x same stays closed;
        }

    pub settled-came : (w : Work) (ss : List TheSaid) (w' : Work) → AreSettled file w ss w' → w.session.torrent ≡ d → w.pieces.tree ≡ n
        → AreOfCame d Came w.held → Stays w'.session E → (j file' : ℕ) (run : Run) → slice_get ss j ≡ Some (proved_of file' run)
        → HaveCome frames i E file' run
    unfolding AreSettled
    settled-came w [] w' is same tree good stays j file' run at = absurd (none-some (proved_of file' run) at)
    settled-came w (s ∷ ss) w' (mid, one, rest) same tree good stays zero file' run at =
        let (file_is, next) = subst (λ t. IsSettled file w t mid) (same_Some s (proved_of file' run) at) one in
        let known = proved-known d Came w.held good w.session w.pieces run mid.session mid.held mid.pieces next in
        let later = stays-then mid.session w'.session E (settled-stays file mid ss w' rest) stays in
        let torrent = (one-stays file w s mid one).torrent ∙ same in
        subst (λ f. HaveCome frames i E f run) (sym file_is)
        (run-came mid.session torrent later run (subst (λ m. IsKnownRun d Came mid.session m run) tree known))
    settled-came w (s ∷ ss) w' (mid, one, rest) same tree good stays (suc j) file' run at =
        settled-came mid ss w' rest ((one-stays file w s mid one).torrent ∙ same) (one-tree file w s mid one ∙ tree) (one-good w s mid one good) stays j file'
        run at
