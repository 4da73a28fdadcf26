-- Files that are held.
use Rattle.std.proofs.Common.{◌≡◌, ◌∙◌, ℕ, zero, suc, ◌+◌, ◌-◌, ◌<◌, ◌≤◌, List, [], ◌∷◌, ◌++◌, length, map, take, drop, slice_get, Option, Some, None}
use Rattle.std.proofs.Common.{refl, sym, ap, ap₂, subst, arith, take-take, inl, inr}
use Rattle.std.proofs.lemmas.List.{drop-take, length-map, length-take, map-append}
use Rattle.std.proofs.lemmas.Option.{same_Some}
use Rattle.file_windows.specs.Files.{HasFile, IsWithin, bytes_at}
use Rattle.chains.proofs.Cases.{item_at, last_or_before, taken_more}
use Rattle.file_windows.specs.Windows.{AreCutsWithin, HasCuts}
use Rattle.file_windows.specs.declared.blocks.files.Window.{Window}
use Rattle.file_windows.specs.declared.cuts.window.CutWindow.{CutWindow}
use Rattle.passes.specs.Rows.{HoldsRow, IsRowPlaced, IsRowSound, WritesBehind, answer_at, held_answers, cutting_of, held_as}
use Rattle.passes.specs.declared.nothing.Nothing.{Nothing}
use Rattle.passes.specs.declared.rows.Place.{Place}
use Rattle.passes.specs.declared.rows.Rows.{Rows}

-- ---- parts of lists

map_same : {A B : Type 0} (f g : A → B) (xs : List A) → ((k : ℕ) (x : A) → slice_get xs k ≡ Some x → f x ≡ g x) → map f xs ≡ map g xs
map_same f g [] same = refl
map_same f g (x ∷ xs) same = ap₂ (λ y ys. y ∷ ys) (same 0 x refl) (map_same f g xs (λ k y is. same (suc k) y is))

taken_at : {A : Type 0} (n : ℕ) (xs : List A) (k : ℕ) (x : A) → slice_get (take n xs) k ≡ Some x → (k < n) × (slice_get xs k ≡ Some x)
taken_at zero xs k x is = let no : ⊥ = cc in absurd no
taken_at (suc n) [] k x is = let no : ⊥ = cc in absurd no
taken_at (suc n) (y ∷ xs) zero x is = (omega arith, is)
taken_at (suc n) (y ∷ xs) (suc k) x is = let t = taken_at n xs k x is in (omega (arith, t.0), t.1)

take_same : {A : Type 0} (n : ℕ) (xs ys : List A) → n ≤ length xs → n ≤ length ys → ((k : ℕ) → k < n → slice_get ys k ≡ slice_get xs k) → take n ys ≡ take n xs
take_same zero xs ys long too same = refl
take_same (suc n) [] ys long too same = absurd (omega (arith, long))
take_same (suc n) (x ∷ xs) [] long too same = absurd (omega (arith, too))
take_same (suc n) (x ∷ xs) (y ∷ ys) long too same =
    ap₂ (λ z zs. z ∷ zs) (same_Some y x (same 0 (omega arith)))
    (take_same n xs ys (omega (arith, long)) (omega (arith, too)) (λ k lt. same (suc k) (omega (arith, lt))))

-- what stands before a place of a room stays
same_bytes : (used start size : ℕ) (room room' : List ℕ) → take used room' ≡ take used room → start + size ≤ used
    → bytes_at room' start size ≡ bytes_at room start size
same_bytes used start size room room' same le = within room' ∙ ap (λ r. take size (drop start r)) same ∙ sym (within room)
  where
    within : (r : List ℕ) → take size (drop start r) ≡ take size (drop start (take used r))
    within r =
        let m : ℕ = used - start in
        let split : start + m ≡ used = omega (arith, le) in
        sym (ap (λ k. take size (drop start (take k r))) (sym split) ∙ ap (take size) (drop-take start m r)
        ∙ take-take size m (drop start r) (omega (arith, le)))

-- what is held at a place does not depend on bytes that are not held
same_answer : (e : Place) (room room' : List ℕ) → (e.nothing ≡ None → bytes_at room' e.start e.size ≡ bytes_at room e.start e.size)
    → answer_at room' e ≡ answer_at room e
same_answer e room room' same = by_nothing e.nothing (bytes_at room e.start e.size) (bytes_at room' e.start e.size) same
  where
    by_nothing : (n : Option Nothing) (xs ys : List ℕ) → (n ≡ None → ys ≡ xs) → held_as n ys ≡ held_as n xs
    by_nothing (Some why) xs ys is = refl
    by_nothing None xs ys is = ap (held_as None) (is refl)

-- what is held stays if the first bytes of the room do
same_answers : (r s : Rows) → IsRowSound r → take r.used s.room.items ≡ take r.used r.room.items → take r.count s.places ≡ take r.count r.places
    → map (answer_at s.room.items) (take r.count s.places) ≡ held_answers r
same_answers r s sound before firsts =
    ap (map (answer_at s.room.items)) firsts
    ∙ map_same (answer_at s.room.items) (answer_at r.room.items) (take r.count r.places) (λ k e is.
    let t = taken_at r.count r.places k e is in
    same_answer e r.room.items s.room.items (λ whole. same_bytes r.used e.start e.size r.room.items s.room.items before (sound.each k e t.0 t.1 whole).inside))

-- ---- one more

-- what is held stays, and one more place was put behind it
pub record HasMore (r s : Rows) (e : Place) : Type 0 where
  pub few : r.count < 64
  pub count : s.count ≡ r.count + 1
  pub used : r.used ≤ s.used
  pub fits : s.used ≤ length r.room.items
  pub room : s.room.items ≡ r.room.items
  pub places : length s.places ≡ 64
  pub others : (k : ℕ) → k < r.count → slice_get s.places k ≡ slice_get r.places k
  pub last : (x : Place) → slice_get s.places r.count ≡ Some x → x ≡ e
  pub placed : e.nothing ≡ None → IsRowPlaced s e
  pub blocks_kept : (first from many : ℕ) → HasFile r.blocks first from many → HasFile s.blocks first from many
  pub cuts_kept : (first from many : ℕ) → HasCuts r.cuts first from many → HasCuts s.cuts first from many
  pub blocks_within : IsWithin s.blocks (length r.room.items)
  pub cuts_within : AreCutsWithin s.cuts (length r.room.items)
  pub cutting : cutting_of s ≡ cutting_of r

pub held_more : (r s : Rows) (e : Place) → IsRowSound r → HasMore r s e → HoldsRow r (answer_at r.room.items e) s
held_more r s e sound has =
    let n : ℕ = r.count in
    let there = item_at s.places n (omega (arith, has.places, has.few)) in
    let x_is : there.0 ≡ e = has.last there.0 there.1 in
    let firsts : take n s.places ≡ take n r.places =
    take_same n r.places s.places (omega (arith, sound.places, sound.few)) (omega (arith, has.places, has.few)) has.others in
    let all : take s.count s.places ≡ take n s.places ++ e ∷ [] =
    ap (λ k. take k s.places) has.count ∙ taken_more s.places n there.0 there.1 ∙ ap (λ x. take n s.places ++ x ∷ []) x_is in
    let size : length s.room.items ≡ length r.room.items = ap length has.room in
    record {
      sound = record {
        few = omega (arith, has.count, has.few);
        places = has.places;
        fits = omega (arith, has.fits, size);
        each = λ k x lt is whole. elim (last_or_before k n (omega (arith, lt, has.count))) [
          | inl less ↦
              let old = sound.each k x less (sym (has.others k less) ∙ is) whole in
              record {
                inside = omega (arith, old.inside, has.used);
                blocks = has.blocks_kept x.block x.start x.size old.blocks;
                cuts = has.cuts_kept x.cut x.start x.size old.cuts;
              }
          | inr now ↦
              let is_e : x ≡ e = has.last x (ap (slice_get s.places) (sym now) ∙ is) in
              subst (IsRowPlaced s) (sym is_e) (has.placed (ap (λ (y : Place). y.nothing) (sym is_e) ∙ whole))
        ];
        blocks = subst (IsWithin s.blocks) (sym size) has.blocks_within;
        cuts = subst (AreCutsWithin s.cuts) (sym size) has.cuts_within;
      };
      answers_are = ap (map (answer_at s.room.items)) all ∙ map-append (answer_at s.room.items) (take n s.places) (e ∷ [])
          ∙ ap₂ (λ xs x. xs ++ x ∷ []) (same_answers r s sound (ap (take r.used) has.room) firsts) (ap (λ room. answer_at room e) has.room);
      cutting_is = has.cutting;
    }

-- ---- hashed windows

pub hashed_sound : (r : Rows) (blocks : Window) (cuts : CutWindow) → IsRowSound r
    → ((first from many : ℕ) → HasFile r.blocks first from many → HasFile blocks first from many) → IsWithin blocks (length r.room.items)
    → ((first from many : ℕ) → HasCuts r.cuts first from many → HasCuts cuts first from many) → AreCutsWithin cuts (length r.room.items)
    → IsRowSound (record r { blocks = blocks; cuts = cuts })
hashed_sound r blocks cuts sound blocks_kept blocks_within cuts_kept cuts_within = record {
  few = sound.few;
  places = sound.places;
  fits = sound.fits;
  each = λ k e lt is file.
      let old = sound.each k e lt is file in
      record {
        inside = old.inside;
        blocks = blocks_kept e.block e.start e.size old.blocks;
        cuts = cuts_kept e.cut e.start e.size old.cuts;
      };
  blocks = blocks_within;
  cuts = cuts_within;
}

-- ---- bytes behind what is held

pub still_sound : (r s : Rows) → IsRowSound r → WritesBehind r s → IsRowSound s
still_sound r s sound writes =
    let size = writes.room in
    record {
      few = omega (arith, sound.few, writes.count);
      places = ap length writes.places ∙ sound.places;
      fits = omega (arith, sound.fits, writes.used, size);
      each = λ k e lt is whole.
          let old = sound.each k e (omega (arith, lt, writes.count)) (ap (λ ps. slice_get ps k) (sym writes.places) ∙ is) whole in
          record {
            inside = omega (arith, old.inside, writes.used);
            blocks = subst (λ b. HasFile b e.block e.start e.size) (sym writes.blocks) old.blocks;
            cuts = subst (λ c. HasCuts c e.cut e.start e.size) (sym writes.cuts) old.cuts;
          };
      blocks = subst (λ b. IsWithin b (length s.room.items)) (sym writes.blocks) (subst (IsWithin r.blocks) (sym size) sound.blocks);
      cuts = subst (λ c. AreCutsWithin c (length s.room.items)) (sym writes.cuts) (subst (AreCutsWithin r.cuts) (sym size) sound.cuts);
    }

pub still_held : (r s : Rows) → IsRowSound r → WritesBehind r s → held_answers s ≡ held_answers r
still_held r s sound writes =
    ap (λ n. map (answer_at s.room.items) (take n s.places)) writes.count
    ∙ same_answers r s sound writes.before (ap (take r.count) writes.places)

-- how many are held
pub length-answers : (r : Rows) → IsRowSound r → length (held_answers r) ≡ r.count
length-answers r sound =
    length-map (take r.count r.places) (answer_at r.room.items) ∙ length-take r.count r.places ∙ omega (arith, sound.few, sound.places)
