-- What the loops over items and pairs have read so far, and how they end.
use Rattle.std.proofs.Common.{◌≡◌, ◌≢◌, ℕ, ◌-◌, ◌<◌, ◌≤◌, List, [], ◌∷◌, ◌++◌, length, take, Option, Some, None, Ok, Err, refl, sym, ap, ◌∙◌, subst, inl, inr}
use Rattle.std.proofs.Common.{append_assoc, arith}
use Rattle.benc.specs.Value.{Bencode, Items, Pairs}
use Rattle.benc.specs.View.{Seen, items_of, pairs_of}
use Rattle.benc.specs.Spelling.{string, IsAbove, Spelled, SpelledItems, SpelledPairs}
use Rattle.benc.specs.Text.{spelling}
use Rattle.benc.specs.Items.{key_at}
use Rattle.benc.specs.Fails.{last_key, Reaches}
use Rattle.benc.specs.Parser.{◌>>=◌, Parsed, Failed, GrowsForItem, GrowsForPair, items_at, items_behind, pairs_at, pairs_behind, value_at}
use Rattle.benc.specs.declared.fault.FaultKind.{FaultKind}
use Rattle.benc.specs.declared.fault.FaultKind.TheVariants.{Truncated}
use Rattle.benc.proofs.Sound.{ok_of, taken, value_takes}
use Rattle.benc.proofs.SoundItems.{key_takes}
use Rattle.benc.proofs.Reached.{items_grow, pairs_grow, last_grows, has_item, has_pair}
use Rattle.benc.proofs.Texts.{spelled_is}
use Rattle.benc.proofs.Turns.{with_items, with_pairs, items_short, items_end, items_more, items_fail, pairs_short, pairs_end, pairs_more, pairs_no_key}
use Rattle.benc.proofs.Turns.{pairs_fail}

-- what is read, where what it leaves is known
pub value_of : {A : Type 0} (r : Parsed A) (left : List ℕ) → (r >>= λ y. Ok y.1) ≡ Ok left → (x : A) × (r ≡ Ok (x, left))
value_of (Ok x) left e = (x.0, ap (λ z. Ok (x.0, z)) (ok_of x.1 left e))
value_of (Err d) left e = absurd cc

pub same_value : {A : Type 0} (r : Parsed A) (x y : A) (left : List ℕ) → r ≡ Ok (x, left) → r ≡ Ok (y, left) → x ≡ y
same_value {A} r x y left e h = ap (λ (p : A × List ℕ). p.0) (ok_of (x, left) (y, left) (sym e ∙ h))

-- what a part leaves, the whole leaves
pub left_mapped : {A B : Type 0} (r : Parsed A) (f : A → B) (s : Parsed B) (left : List ℕ) → s ≡ (r >>= λ x. Ok (f x.0, x.1)) → (r >>= λ y. Ok y.1) ≡ Ok left
    → (s >>= λ y. Ok y.1) ≡ Ok left
left_mapped (Ok x) f s left e h = ap (λ t. t >>= λ y. Ok y.1) e ∙ h
left_mapped (Err d) f s left e h = absurd cc

-- ---- items

pub record ItemsSoFar (room : ℕ) (bytes rest : List ℕ) (vs : List Bencode) : Type 0 where
  pub turns : ℕ
  pub enough : length rest ≤ turns
  pub within : length rest ≤ length bytes
  pub read : with_items vs (items_at (value_at room) turns rest) ≡ items_behind room bytes
  pub done : List ℕ
  pub parts : bytes ≡ done ++ rest
  pub spelled : SpelledItems room (items_of vs) done

pub items_begin : (room : ℕ) (bytes : List ℕ) → ItemsSoFar room bytes bytes []
items_begin room bytes = record {
  turns = length bytes;
  enough = omega arith;
  within = omega arith;
  read = with_none (items_behind room bytes);
  done = [];
  parts = refl;
  spelled = refl;
}
  where
    with_none : (r : Parsed Items) → with_items [] r ≡ r
    with_none (Ok x) = refl
    with_none (Err e) = refl

module _ {room : ℕ} {bytes here : List ℕ} {vs : List Bencode} (so : ItemsSoFar room bytes here vs) where
  pub items_next : {c : ℕ} {tail after : List ℕ} {v : Bencode} → here ≡ c ∷ tail → c ≢ 101 → value_at room here ≡ Ok (v, after) → length after < length here
      → ItemsSoFar room bytes after (vs ++ v ∷ [])
  items_next {c = c} {tail = tail} {after = after} {v = v} first other read less =
      let took = value_takes room here (v, after) read in
      let more = items_more (value_at room) so.turns c tail after vs v (omega (arith, so.enough, ap length first)) other
      (subst (λ b. value_at room b ≡ Ok (v, after)) first read) in
      record {
        turns = so.turns - 1;
        enough = omega (arith, so.enough, less);
        within = omega (arith, so.within, less);
        read = sym more ∙ ap (λ b. with_items vs (items_at (value_at room) so.turns b)) (sym first) ∙ so.read;
        done = so.done ++ took.0;
        parts = so.parts ∙ ap (λ x. so.done ++ x) took.1 ∙ sym (append_assoc so.done took.0 after);
        spelled = items_grow room vs v so.done took.0 so.spelled took.2;
      }

  pub items_all : {c : ℕ} {after : List ℕ} → here ≡ c ∷ after → c ≡ 101 → items_behind room bytes ≡ Ok (items_of vs, after)
  items_all {c = c} {after = after} first mark =
      sym so.read ∙ ap (λ b. with_items vs (items_at (value_at room) so.turns b)) first
      ∙ items_end (value_at room) so.turns c after vs (omega (arith, so.enough, ap length first)) mark

  pub items_cut : here ≡ [] → items_behind room bytes ≡ Err (Truncated, here)
  items_cut none = sym so.read ∙ items_short (value_at room) so.turns here vs none

  pub items_failed : {c : ℕ} {tail : List ℕ} {e : Failed} → here ≡ c ∷ tail → c ≢ 101 → value_at room here ≡ Err e → items_behind room bytes ≡ Err e
  items_failed {c = c} {tail = tail} {e = e} first other fails =
      sym so.read ∙ ap (λ b. with_items vs (items_at (value_at room) so.turns b)) first
      ∙ items_fail (value_at room) so.turns c tail vs e (omega (arith, so.enough, ap length first)) other (subst (λ b. value_at room b ≡ Err e) first fails)

  -- the list itself has to grow, and one in an item
  pub items_grow_here : {v : Bencode} {after start there : List ℕ} → value_at room here ≡ Ok (v, after) → there ≡ start → GrowsForItem room start bytes there
  items_grow_here {v = v} {after = after} read same =
      let took = value_takes room here (v, after) read in
      inl (same, has_item room vs v bytes so.done took.0 after (so.parts ∙ ap (λ x. so.done ++ x) took.1) so.spelled took.2)

  pub items_reach : (start there : List ℕ) → Reaches room here there → GrowsForItem room start bytes there
  items_reach start there reached = inr (items_of vs, so.done, here, so.parts, so.spelled, reached)

-- ---- pairs

pub record PairsSoFar (room : ℕ) (bytes rest : List ℕ) (before : Option (List ℕ)) (ps : List Seen) : Type 0 where
  pub turns : ℕ
  pub enough : length rest ≤ turns
  pub within : length rest ≤ length bytes
  pub read : with_pairs ps (pairs_at (value_at room) turns before rest) ≡ pairs_behind room bytes
  pub done : List ℕ
  pub parts : bytes ≡ done ++ rest
  pub spelled : SpelledPairs room None (pairs_of ps) done
  pub last : before ≡ last_key None (pairs_of ps)

pub pairs_begin : (room : ℕ) (bytes : List ℕ) → PairsSoFar room bytes bytes None []
pairs_begin room bytes =
    record {
      turns = length bytes;
      enough = omega arith;
      within = omega arith;
      read = with_none (pairs_behind room bytes);
      done = [];
      parts = refl;
      spelled =
          refl;
      last = refl;
    }
  where
    with_none : (r : Parsed Pairs) → with_pairs [] r ≡ r
    with_none (Ok x) = refl
    with_none (Err e) = refl

module _ {room : ℕ} {bytes here : List ℕ} {before : Option (List ℕ)} {ps : List Seen} (so : PairsSoFar room bytes here before ps) where
  pub pairs_next : {c : ℕ} {tail k behind after : List ℕ} {v : Bencode} → here ≡ c ∷ tail → c ≢ 101 → key_at before here ≡ Ok (k, behind)
      → length behind < length here → value_at room behind ≡ Ok (v, after) → length after < length behind
      → PairsSoFar room bytes after (Some k) (ps ++ (k, v) ∷ [])
  pairs_next {c = c} {tail = tail} {k = k} {behind = behind} {after = after} {v = v} first other key nearer read less =
      let took = value_takes room behind (v, after) read in
      let name = key_takes before here k behind key in
      let mine = string k ++ took.0 in
      let more = pairs_more (value_at room) so.turns c before tail behind after k v ps (omega (arith, so.enough, ap length first)) other
      (subst (λ b. key_at before b ≡ Ok (k, behind)) first key) read in
      record {
        turns = so.turns - 1;
        enough = omega (arith, so.enough, less, nearer);
        within = omega (arith, so.within, less, nearer);
        read = sym more ∙ ap (λ b. with_pairs ps (pairs_at (value_at room) so.turns before b)) (sym first) ∙ so.read;
        done = so.done ++ mine;
        parts = so.parts ∙ ap (λ x. so.done ++ x) (name.2 ∙ ap (λ x. string k ++ x) took.1 ∙ sym (append_assoc (string k) took.0 after))
            ∙ sym (append_assoc so.done mine after);
        spelled = pairs_grow room None ps k v so.done took.0 so.spelled name.0 (subst (IsAbove k) so.last name.1) took.2;
        last = sym (last_grows None ps (k, v));
      }

  pub pairs_all : {c : ℕ} {after : List ℕ} → here ≡ c ∷ after → c ≡ 101 → pairs_behind room bytes ≡ Ok (pairs_of ps, after)
  pairs_all {c = c} {after = after} first mark =
      sym so.read ∙ ap (λ b. with_pairs ps (pairs_at (value_at room) so.turns before b)) first
      ∙ pairs_end (value_at room) so.turns c before after ps (omega (arith, so.enough, ap length first)) mark

  pub pairs_cut : here ≡ [] → pairs_behind room bytes ≡ Err (Truncated, here)
  pairs_cut none = sym so.read ∙ pairs_short (value_at room) so.turns before here ps none

  pub pairs_keyless : {c : ℕ} {tail : List ℕ} {f : FaultKind} → here ≡ c ∷ tail → c ≢ 101 → key_at before here ≡ Err f
      → pairs_behind room bytes ≡ Err (f, here)
  pairs_keyless {c = c} {tail = tail} {f = f} first other key =
      sym so.read ∙ ap (λ b. with_pairs ps (pairs_at (value_at room) so.turns before b)) first
      ∙ pairs_no_key (value_at room) so.turns c before tail ps f (omega (arith, so.enough, ap length first)) other
      (subst (λ b. key_at before b ≡ Err f) first key)
      ∙ ap (λ b. Err (f, b)) (sym first)

  pub pairs_failed : {c : ℕ} {tail k behind : List ℕ} {e : Failed} → here ≡ c ∷ tail → c ≢ 101 → key_at before here ≡ Ok (k, behind)
      → value_at room behind ≡ Err e → pairs_behind room bytes ≡ Err e
  pairs_failed {c = c} {tail = tail} {k = k} {behind = behind} {e = e} first other key fails =
      sym so.read ∙ ap (λ b. with_pairs ps (pairs_at (value_at room) so.turns before b)) first
      ∙ pairs_fail (value_at room) so.turns c before tail behind k ps e (omega (arith, so.enough, ap length first)) other
      (subst (λ b. key_at before b ≡ Ok (k, behind)) first key) fails

  -- the dictionary itself has to grow, and one in a value
  pub pairs_grow_here : {k behind after start there : List ℕ} {v : Bencode} → key_at before here ≡ Ok (k, behind) → value_at room behind ≡ Ok (v, after)
      → there ≡ start → GrowsForPair room start bytes there
  pairs_grow_here {k = k} {behind = behind} {after = after} {v = v} key read same =
      let took = value_takes room behind (v, after) read in
      let name = key_takes before here k behind key in
      let parts = so.parts ∙ ap (λ x. so.done ++ x) (name.2 ∙ ap (λ x. string k ++ x) took.1) in
      inl (same, has_pair room ps k v bytes so.done took.0 after parts so.spelled name.0 (subst (IsAbove k) so.last name.1) took.2)

  pub pairs_reach : {k behind : List ℕ} (start there : List ℕ) → key_at before here ≡ Ok (k, behind) → Reaches room behind there
      → GrowsForPair room start bytes there
  pairs_reach {k = k} {behind = behind} start there key reached =
      let name = key_takes before here k behind key in
      inr (pairs_of ps, k, so.done, behind, so.parts ∙ ap (λ x. so.done ++ x) name.2, so.spelled, name.0, subst (IsAbove k) so.last name.1, reached)

-- the bytes of a value are its spelling
pub value_bytes : (room : ℕ) (behind after : List ℕ) (v : Bencode) → value_at room behind ≡ Ok (v, after)
    → take (length behind - length after) behind ≡ spelling v
value_bytes room behind after v read =
    spelled_is room v (take (length behind - length after) behind) (taken (Spelled room) behind v after (value_takes room behind (v, after) read))
