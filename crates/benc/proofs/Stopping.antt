-- What was read before the items or pairs stopped at a fault.
use Rattle.std.proofs.Common.{◌≡◌, ℕ, zero, suc, ◌+◌, ◌<◌, ◌≤◌, ◌^◌, Bool, true, false, cond, eqb, List, [], ◌∷◌, ◌++◌, length, Option, Some, None}
use Rattle.std.proofs.Common.{Result, Ok, Err, ◌⊎◌, refl, sym, ap, ◌∙◌, subst, inl, inr, append_assoc, arith}
use Rattle.std.proofs.lemmas.List.{length-append}
use Rattle.benc.specs.declared.fault.FaultKind.{FaultKind}
use Rattle.benc.specs.declared.fault.FaultKind.TheVariants.{Truncated}
use Rattle.benc.specs.Value.{Bencode, Items, no_items, item, Pairs, no_pairs, pair}
use Rattle.benc.specs.Spelling.{string, IsAbove, Spelled, SpelledItems, SpelledPairs}
use Rattle.benc.specs.Items.{key_at}
use Rattle.benc.specs.Fails.{Due, a_value, a_value_or_end, a_key_or_end, Level, in_list, in_dict, at_value, last_key, Begun}
use Rattle.benc.proofs.Scanned.{fault_of, scanned_fault}
use Rattle.benc.specs.Parser.{◌>>=◌, Parsed, Failed, begun_at, items_at, pairs_at}
use Rattle.benc.proofs.Sound.{TakesFront, began}
use Rattle.benc.proofs.SoundItems.{key_takes}

-- at the item that is due, or in a container that is open there
abbrev pub Further : ℕ → Due → List ℕ → Failed → Type 0
Further room d bytes e =
    ((bytes ≡ e.1) × (scanned_fault d room bytes ≡ Some e.0))
    ⊎ ((l : Level) × (ls : List Level) × (due : Due) × (left : ℕ) × (front : List ℕ) × (bytes ≡ front ++ e.1) × Begun room (l ∷ ls) front due left
    × (scanned_fault due left e.1 ≡ Some e.0))

abbrev bad : {A : Type 0} → Failed → Result A Failed
bad e = Err e

pub err_of : {A : Type 0} (x y : Failed) → bad {A = A} x ≡ bad y → x ≡ y
err_of x y e = cc

pub began_err : {A B : Type 0} (start : List ℕ) (r : Result A FaultKind) (g : A → B) (e : Failed) → (begun_at start r >>= λ x. Ok (g x)) ≡ Err e
    → (f : FaultKind) × (r ≡ Err f) × ((f, start) ≡ e)
began_err start (Ok x) g e h = absurd cc
began_err {A} {B} start (Err f) g e h = (f, refl, err_of {A = B} (f, start) e h)

pub mapped_err : {A B : Type 0} (r : Result A Failed) (g : A → B) (e : Failed) → (r >>= λ x. Ok (g x)) ≡ Err e → r ≡ Err e
mapped_err (Ok x) g e h = absurd cc
mapped_err {A} {B} (Err d) g e h = ap (λ z. Err z) (err_of {A = B} d e h)

-- a step that failed, or the one after it did
bind_err : {A B : Type 0} (r : Result A Failed) (f : A → Result B Failed) (e : Failed) → (r >>= f) ≡ Err e → (r ≡ Err e)
    ⊎ ((x : A) × (r ≡ Ok x) × (f x ≡ Err e))
bind_err (Ok x) f e h = inr (x, refl, h)
bind_err {A} {B} (Err d) f e h = inl (ap (λ z. Err z) (err_of {A = B} d e h))

-- behind some finished items
abbrev ItemsStop : ℕ → List ℕ → Failed → Type 0
ItemsStop room bytes e = (vs : Items) × (inner rest : List ℕ) × (bytes ≡ inner ++ rest) × SpelledItems room vs inner × Further room a_value_or_end rest e

-- a failed value is what is due in a list
in_items : (room : ℕ) (c : ℕ) (bytes : List ℕ) (e : Failed) → eqb c 101 ≡ false → Further room a_value (c ∷ bytes) e → Further room a_value_or_end (c ∷ bytes) e
in_items room c bytes e m (inl p) = inl (p.0, rw m p.1)
in_items room c bytes e m (inr p) = inr p

module _ (room : ℕ) (read : List ℕ → Parsed Bencode) (sound : (b : List ℕ) (x : Bencode × List ℕ) → read b ≡ Ok x → TakesFront (Spelled room) b x.0 x.1)
    (shorter : (b : List ℕ) (x : Bencode × List ℕ) → read b ≡ Ok x → length x.1 < length b)
    (stops : (b : List ℕ) (e : Failed) → read b ≡ Err e → Further room a_value b e) where
  pub items_stop : (n : ℕ) (bytes : List ℕ) (e : Failed) → length bytes ≤ n → items_at read n bytes ≡ Err e → ItemsStop room bytes e
  unfolding items_at
  items_stop zero [] e le h = subst (λ x. ItemsStop room [] x) (err_of {A = Items × List ℕ} (Truncated, []) e h) (
    no_items,
    [],
    [],
    refl,
    refl,
    inl (refl, refl),
  )
  items_stop (suc n) [] e le h = subst (λ x. ItemsStop room [] x) (err_of {A = Items × List ℕ} (Truncated, []) e h) (
    no_items,
    [],
    [],
    refl,
    refl,
    inl (refl, refl),
  )
  items_stop zero (c ∷ bytes) e le h = absurd (omega arith)
  items_stop (suc n) (c ∷ bytes) e le h = by_mark (λ b d l g. items_stop n b d l g) (eqb c 101) refl h
    where
      by_mark : ((b : List ℕ) (d : Failed) → length b ≤ n → items_at read n b ≡ Err d → ItemsStop room b d) → (m : Bool) → eqb c 101 ≡ m
          → cond {A = Parsed Items} m (Ok (no_items, bytes)) (read (c ∷ bytes) >>= λ y. items_at read n y.1 >>= λ z. Ok (item y.0 z.0, z.1)) ≡ Err e
          → ItemsStop room (c ∷ bytes) e
      by_mark again true m f = absurd cc
      by_mark again false m f =
          elim (bind_err (read (c ∷ bytes)) (λ y. items_at read n y.1 >>= λ z. Ok (item y.0 z.0, z.1)) e f) [
            | inl p ↦ (no_items, [], c ∷ bytes, refl, refl, in_items room c bytes e m (stops (c ∷ bytes) e p))
            | inr p ↦
                let less = shorter (c ∷ bytes) p.0 p.1 in
                let first = sound (c ∷ bytes) p.0 p.1 in
                let k = again p.0.1 e (omega arith) (mapped_err (items_at read n p.0.1) (λ z. (item p.0.0 z.0, z.1)) e p.2) in (
                  item p.0.0 k.0,
                  first.0 ++ k.1,
                  k.2,
                  first.1 ∙ ap (λ t. first.0 ++ t) k.3
                      ∙ sym (append_assoc first.0 k.1 k.2),
                  (first.0, k.1, refl, first.2, k.4),
                  k.5,
                )
          ]

-- a list that stopped, behind its mark
pub list_stops : (room : ℕ) (bytes : List ℕ) (e : Failed) → ItemsStop room bytes e → Further (suc room) a_value (108 ∷ bytes) e
list_stops room bytes e k = by_place k.5
  where
    by_place : Further room a_value_or_end k.2 e → Further (suc room) a_value (108 ∷ bytes) e
    by_place (inl p) =
        inr (
          in_list k.0,
          [],
          a_value_or_end,
          room,
          108 ∷ k.1,
          ap (λ t. 108 ∷ t) (k.3 ∙ ap (λ t. k.1 ++ t) p.0),
          (room, refl, (k.1, refl, k.4), refl, refl),
          subst (λ t. scanned_fault a_value_or_end room t ≡ Some e.0) p.0 p.1,
        )
    by_place (inr (l, ls, due, left, front, parts, begun, fails)) =
        inr (
          in_list k.0,
          l ∷ ls,
          due,
          left,
          (108 ∷ k.1) ++ front,
          ap (λ t. 108 ∷ t) (k.3 ∙ ap (λ t. k.1 ++ t) parts ∙ sym (append_assoc k.1 front e.1)),
          (room, 108 ∷ k.1, front, refl, refl, (k.1, refl, k.4), tt, begun),
          fails,
        )

began_only : {A : Type 0} (start : List ℕ) (r : Result A FaultKind) (e : Failed) → begun_at start r ≡ Err e → (f : FaultKind) × (r ≡ Err f) × ((f, start) ≡ e)
began_only start (Ok x) e h = absurd cc
began_only {A} start (Err f) e h = (f, refl, err_of {A = A} (f, start) e h)

-- at a key, or in the value of one that was read
abbrev PairFurther : ℕ → Option (List ℕ) → List ℕ → Failed → Type 0
PairFurther room last rest e =
    ((rest ≡ e.1) × (scanned_fault (a_key_or_end last) room rest ≡ Some e.0))
    ⊎ ((k behind : List ℕ) × (rest ≡ string k ++ behind) × (length k < 10 ^ 10) × IsAbove k last × Further room a_value behind e)

abbrev PairsStop : ℕ → Option (List ℕ) → List ℕ → Failed → Type 0
PairsStop room before bytes e = (ps : Pairs) × (inner rest : List ℕ) × (bytes ≡ inner ++ rest) × SpelledPairs room before ps inner
    × PairFurther room (last_key before ps) rest e

module _ (room : ℕ) (read : List ℕ → Parsed Bencode) (sound : (b : List ℕ) (x : Bencode × List ℕ) → read b ≡ Ok x → TakesFront (Spelled room) b x.0 x.1)
    (shorter : (b : List ℕ) (x : Bencode × List ℕ) → read b ≡ Ok x → length x.1 < length b)
    (stops : (b : List ℕ) (e : Failed) → read b ≡ Err e → Further room a_value b e) where
  pub pairs_stop : (n : ℕ) (before : Option (List ℕ)) (bytes : List ℕ) (e : Failed) → length bytes ≤ n → pairs_at read n before bytes ≡ Err e
      → PairsStop room before bytes e
  unfolding pairs_at
  pairs_stop zero before [] e le h = subst (λ x. PairsStop room before [] x) (err_of {A = Pairs × List ℕ} (Truncated, []) e h) (
    no_pairs,
    [],
    [],
    refl,
    refl,
    inl (refl, refl),
  )
  pairs_stop (suc n) before [] e le h = subst (λ x. PairsStop room before [] x) (err_of {A = Pairs × List ℕ} (Truncated, []) e h) (
    no_pairs,
    [],
    [],
    refl,
    refl,
    inl (refl, refl),
  )
  pairs_stop zero before (c ∷ bytes) e le h = absurd (omega arith)
  pairs_stop (suc n) before (c ∷ bytes) e le h = by_mark (λ k b d l g. pairs_stop n (Some k) b d l g) (eqb c 101) refl h
    where
      by_value : ((k b : List ℕ) (d : Failed) → length b ≤ n → pairs_at read n (Some k) b ≡ Err d → PairsStop room (Some k) b d) → (k : List ℕ × List ℕ)
          → (length k.0 < 10 ^ 10) × IsAbove k.0 before × (c ∷ bytes ≡ string k.0 ++ k.1)
          → ◌>>=◌ {B = Pairs × List ℕ} (read k.1) (λ y. ◌>>=◌ {B = Pairs × List ℕ} (pairs_at read n (Some k.0) y.1) (λ z. Ok (pair k.0 y.0 z.0, z.1))) ≡ Err e
          → PairsStop room before (c ∷ bytes) e
      by_value again k name f =
          elim (bind_err (read k.1) (λ y. pairs_at read n (Some k.0) y.1 >>= λ z. Ok (pair k.0 y.0 z.0, z.1)) e f) [
            | inl p ↦ (no_pairs, [], c ∷ bytes, refl, refl, inr (k.0, k.1, name.2, name.0, name.1, stops k.1 e p))
            | inr p ↦
                let less = shorter k.1 p.0 p.1 in
                let first = sound k.1 p.0 p.1 in
                let size : length (c ∷ bytes) ≡ length (string k.0) + length k.1 = ap length name.2 ∙ length-append (string k.0) k.1 in
                let q = again k.0 p.0.1 e (omega arith) (mapped_err (pairs_at read n (Some k.0) p.0.1) (λ z. (pair k.0 p.0.0 z.0, z.1)) e p.2) in (
                  pair k.0 p.0.0 q.0,
                  string k.0 ++ (first.0 ++ q.1),
                  q.2,
                  name.2 ∙ ap (λ t. string k.0 ++ t) (first.1 ∙ ap (λ t. first.0 ++ t) q.3 ∙ sym (append_assoc first.0 q.1 q.2))
                      ∙ sym (append_assoc (string k.0) (first.0 ++ q.1) q.2),
                  (first.0, q.1, refl, name.0, name.1, first.2, q.4),
                  q.5,
                )
          ]

      by_mark : ((k b : List ℕ) (d : Failed) → length b ≤ n → pairs_at read n (Some k) b ≡ Err d → PairsStop room (Some k) b d) → (m : Bool) → eqb c 101 ≡ m
          → cond {A = Parsed Pairs} m (Ok (no_pairs, bytes)) (begun_at (c ∷ bytes) (key_at before (c ∷ bytes)) >>= λ k. read k.1 >>= λ y. pairs_at read n
          (Some k.0) y.1 >>= λ z. Ok (pair k.0 y.0 z.0, z.1)) ≡ Err e → PairsStop room before (c ∷ bytes) e
      by_mark again true m f = absurd cc
      by_mark again false m f =
          elim (bind_err (begun_at (c ∷ bytes) (key_at before (c ∷ bytes))) (λ k. read k.1 >>= λ y. pairs_at read n (Some k.0) y.1 >>= λ z. Ok
          (pair k.0 y.0 z.0, z.1)) e f) [
            | inl p ↦
                let b = began_only (c ∷ bytes) (key_at before (c ∷ bytes)) e p in
                subst (λ x. PairsStop room before (c ∷ bytes) x) b.2 (no_pairs, [], c ∷ bytes, refl, refl, inl (refl, rw m (ap fault_of b.1)))
            | inr p ↦ by_value again p.0 (key_takes before (c ∷ bytes) p.0.0 p.0.1 (began (c ∷ bytes) (key_at before (c ∷ bytes)) p.0 p.1)) p.2
          ]

-- a dictionary that stopped, behind its mark
pub dict_stops : (room : ℕ) (bytes : List ℕ) (e : Failed) → PairsStop room None bytes e → Further (suc room) a_value (100 ∷ bytes) e
dict_stops room bytes e k = by_place k.5
  where
    in_value : (n b : List ℕ) → k.2 ≡ string n ++ b → length n < 10 ^ 10 → IsAbove n (last_key None k.0) → Further room a_value b e
        → Further (suc room) a_value (100 ∷ bytes) e
    in_value n b parts small above (inl p) =
        inr (
          at_value k.0 n,
          [],
          a_value,
          room,
          100 ∷ (k.1 ++ string n),
          ap (λ t. 100 ∷ t) (k.3 ∙ ap (λ t. k.1 ++ t) (parts ∙ ap (λ t. string n ++ t) p.0) ∙ sym (append_assoc k.1 (string n) e.1)),
          (room, refl, (k.1, refl, k.4, small, above), refl, refl),
          subst (λ t. scanned_fault a_value room t ≡ Some e.0) p.0 p.1,
        )
    in_value n b parts small above (inr (l, ls, due, left, front, more, begun, fails)) =
        inr (
          at_value k.0 n,
          l ∷ ls,
          due,
          left,
          (100 ∷ (k.1 ++ string n)) ++ front,
          ap (λ t. 100 ∷ t) (k.3 ∙ ap (λ t. k.1 ++ t) (parts ∙ ap (λ t. string n ++ t) more) ∙ sym (append_assoc k.1 (string n) (front ++ e.1))
              ∙ sym (append_assoc (k.1 ++ string n) front e.1)),
          (room, 100 ∷ (k.1 ++ string n), front, refl, refl, (k.1, refl, k.4, small, above), tt, begun),
          fails,
        )

    by_place : PairFurther room (last_key None k.0) k.2 e → Further (suc room) a_value (100 ∷ bytes) e
    by_place (inl p) =
        inr (
          in_dict k.0,
          [],
          a_key_or_end (last_key None k.0),
          room,
          100 ∷ k.1,
          ap (λ t. 100 ∷ t) (k.3 ∙ ap (λ t. k.1 ++ t) p.0),
          (room, refl, (k.1, refl, k.4), refl, refl),
          subst (λ t. scanned_fault (a_key_or_end (last_key None k.0)) room t ≡ Some e.0) p.0 p.1,
        )
    by_place (inr (n, b, parts, small, above, further)) = in_value n b parts small above further
