-- The place of what is held.
use Rattle.std.proofs.Common.{◌≡◌, ◌≢◌, ◌∙◌, ℕ, ◌+◌, ◌<◌, ◌≤◌, List, length, take, drop, get_or, slice_get, Option, Some, None, option_map}
use Rattle.std.proofs.Common.{refl, sym, ap, subst, arith}
use Rattle.std.proofs.lemmas.List.{get_or-take, length-drop, length-take}
use Rattle.std.proofs.lemmas.Option.{same_Some, slice_get-get_or, slice_get-map}
use Rattle.file_windows.specs.Files.{bytes_at}
use Rattle.file_windows.specs.Windows.{AreCutsHashed}
use Rattle.passes.specs.Held.{Answer, IsNothingFor, content}
use Rattle.passes.specs.Rows.{AreRowsHashed, HashesCuts, IsFilePlaced, IsRowSound, answer_at, held_answers, held_as}
use Rattle.passes.specs.declared.cuts_wanted.CutsWanted.{CutsWanted}
use Rattle.passes.specs.declared.cuts_wanted.CutsWanted.TheVariants as cuts
use Rattle.passes.specs.declared.nothing.Nothing.{Nothing}
use Rattle.passes.specs.declared.nothing.Nothing.TheVariants as none
use Rattle.passes.specs.declared.rows.Place.{Place}
use Rattle.passes.specs.declared.rows.Rows.{Rows}
use Rattle.passes.proofs.HeldRows.{length-answers}

of_nothing : (n : Option Nothing) (bytes : List ℕ) → IsNothingFor n (held_as n bytes)
of_nothing (Some why) bytes = refl
of_nothing None bytes = (bytes, refl)

only_file : (n : Option Nothing) (own bytes : List ℕ) → held_as n own ≡ content bytes → (n ≡ None) × (own ≡ bytes)
only_file (Some none.Unasked) own bytes is = let no : ⊥ = cc in absurd no
only_file (Some none.Missing) own bytes is = let no : ⊥ = cc in absurd no
only_file (Some none.Failed) own bytes is = let no : ⊥ = cc in absurd no
only_file None own bytes is = (refl, cc)

module _ (r : Rows) (number : ℕ) (d : Place) (sound : IsRowSound r) (there : number < length (held_answers r)) where
  inside : number < r.count
  inside = omega (arith, there, length-answers r sound)

  abbrev pub at_place : Place
  at_place = get_or r.places number d

  stands : slice_get r.places number ≡ Some at_place
  stands = slice_get-get_or r.places number d (omega (arith, inside, sound.few, sound.places))

  held : slice_get (held_answers r) number ≡ Some (answer_at r.room.items at_place)
  held = slice_get-map (answer_at r.room.items) (take r.count r.places) number
      ∙ ap (option_map (answer_at r.room.items))
      (slice_get-get_or (take r.count r.places) number d (omega (arith, inside, length-take r.count r.places, sound.few, sound.places))
      ∙ ap Some (get_or-take r.count r.places number d inside))

  pub nothing_there : (a : Answer) → slice_get (held_answers r) number ≡ Some a → IsNothingFor at_place.nothing a
  nothing_there a is = subst (IsNothingFor at_place.nothing) (same_Some (answer_at r.room.items at_place) a (sym held ∙ is))
      (of_nothing at_place.nothing (bytes_at r.room.items at_place.start at_place.size))

  pub file_there : (bytes : List ℕ) → slice_get (held_answers r) number ≡ Some (content bytes) → IsFilePlaced r at_place bytes
  file_there bytes is =
      let e : Place = at_place in
      let own : List ℕ = bytes_at r.room.items e.start e.size in
      let whole = only_file e.nothing own bytes (same_Some (answer_at r.room.items e) (content bytes) (sym held ∙ is)) in
      let placed = sound.each number e inside stands whole.0 in
      let fits : e.start + e.size ≤ length r.room.items = omega (arith, placed.inside, sound.fits) in
      record {
        placed = placed;
        inside = fits;
        are = whole.1;
        size = sym (ap length whole.1) ∙ length-take e.size (drop e.start r.room.items) ∙ omega (arith, fits, length-drop e.start r.room.items);
      }

-- the version 1 pieces are hashed if they were wanted
pub filled_hashed : (r : Rows) → AreRowsHashed r → r.wanted ≢ cuts.Nothing → AreCutsHashed r.cuts r.room.items
filled_hashed r hashed wanted = by_want r.wanted wanted hashed.cuts
  where
    by_want : (w : CutsWanted) → w ≢ cuts.Nothing → HashesCuts w r → AreCutsHashed r.cuts r.room.items
    by_want cuts.Nothing some is = absurd (some refl)
    by_want cuts.Filled some is = is
    by_want cuts.Both some is = is.1
