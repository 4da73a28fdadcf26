-- An entry that goes on to the next tier.
use Rattle.std.proofs.Common.{◌≡◌, ℕ, zero, suc, ◌+◌, ◌<◌, ◌++◌, List, [], ◌∷◌, length, take, drop, set, get_or, Option, refl, sym}
use Rattle.std.proofs.Common.{ap, ap₂, ◌∙◌, arith, append_assoc, length-append}
use Rattle.std.specs.List.{insert, remove}
use Rattle.std.specs.Option.{option_to_list}
use Rattle.std.proofs.lemmas.List.{drop_more, take_more, take_more_set, take-set, drop-set, drop-set-lt, flat_map_more}
use Rattle.std.proofs.lemmas.List.{get_or_default}
use Rattle.fixed_maps.proofs.Spots.{parted}
use Rattle.fixed_maps.specs.Tiers.{Entry, TierSeen, flat, room_of, capacity_of, items_at, before_spot, after_spot, after_spot_but_one}

pub flat-parts : (n : ℕ) (ts : List TierSeen) → flat (take n ts) ++ flat (drop n ts) ≡ flat ts
flat-parts zero ts = refl
flat-parts (suc n) [] = refl
flat-parts (suc n) (t ∷ ts) = append_assoc t.items (flat (take n ts)) (flat (drop n ts)) ∙ ap (λ es. t.items ++ es) (flat-parts n ts)

pub flat-push : (ts : List TierSeen) (t : TierSeen) → flat (ts ++ t ∷ []) ≡ flat ts ++ t.items
flat-push ts t = sym (flat_map_more (λ (s : TierSeen). s.items) [] ts t)

pub room-push : (ts : List TierSeen) (t : TierSeen) → room_of (ts ++ t ∷ []) ≡ room_of ts + t.width
room-push [] t = omega arith
room-push (s ∷ ts) t = let rest = room-push ts t in omega (arith, rest)

pub capacity-push : (ts : List TierSeen) (t : TierSeen) → capacity_of (ts ++ t ∷ []) ≡ capacity_of ts + t.capacity
capacity-push [] t = omega arith
capacity-push (s ∷ ts) t = let rest = capacity-push ts t in omega (arith, rest)

pub room-set : (ts : List TierSeen) (a : ℕ) (d t' : TierSeen) → a < length ts → t'.width ≡ (get_or ts a d).width → room_of (set ts a t') ≡ room_of ts
room-set [] a d t' lt same = absurd (omega (arith, lt))
room-set (s ∷ ts) zero d t' lt same = ap (λ w. w + room_of ts) same
room-set (s ∷ ts) (suc a) d t' lt same = ap (λ n. s.width + n) (room-set ts a d t' (omega (arith, lt)) same)

module _ (ts : List TierSeen) (a : ℕ) (d t' : TierSeen) (e : Entry) (over : Option Entry) (lt : a < length ts) where
  abbrev t : TierSeen
  t = get_or ts a d

  abbrev F : List Entry
  F = flat (take a ts)

  abbrev R : List Entry
  R = flat (drop (a + 1) ts)

  pub rest-on : flat (drop a ts) ≡ t.items ++ R
  rest-on = ap flat (drop_more ts a d lt)

  -- on to the next tier
  pub step-on : t'.items ++ option_to_list over ≡ insert t.items 0 e → (X : List Entry) → F ++ e ∷ flat (drop a ts) ≡ X
      → flat (take (a + 1) (set ts a t')) ++ (option_to_list over ++ flat (drop (a + 1) (set ts a t'))) ≡ X
  step-on put X whole =
      ap₂ (λ xs ys. xs ++ (option_to_list over ++ ys)) (ap flat (take_more_set ts a t' lt) ∙ flat-push (take a ts) t')
      (ap flat (drop-set-lt (a + 1) ts a t' (omega arith)))
      ∙ append_assoc F t'.items _ ∙ ap (λ xs. F ++ xs) (sym (append_assoc t'.items (option_to_list over) R) ∙ ap (λ xs. xs ++ R) put)
      ∙ ap (λ xs. F ++ e ∷ xs) (sym rest-on) ∙ whole

  -- in its own tier, after b entries
  pub step-in : (b : ℕ) → t'.items ++ option_to_list over ≡ insert t.items b e
      → flat (take (a + 1) (set ts a t')) ++ (option_to_list over ++ flat (drop (a + 1) (set ts a t'))) ≡ (F ++ take b t.items) ++ e ∷ (drop b t.items ++ R)
  step-in b put =
      ap₂ (λ xs ys. xs ++ (option_to_list over ++ ys)) (ap flat (take_more_set ts a t' lt) ∙ flat-push (take a ts) t')
      (ap flat (drop-set-lt (a + 1) ts a t' (omega arith)))
      ∙ append_assoc F t'.items _
      ∙ ap (λ xs. F ++ xs) (sym (append_assoc t'.items (option_to_list over) R) ∙ ap (λ xs. xs ++ R) put
      ∙ append_assoc (take b t.items) (e ∷ drop b t.items) R)
      ∙ sym (append_assoc F (take b t.items) (e ∷ (drop b t.items ++ R)))

  -- back to the tier before
  pub step-back : option_to_list over ++ t'.items ≡ t.items ++ e ∷ [] → (X : List Entry) → flat (take (a + 1) ts) ++ e ∷ R ≡ X
      → flat (take a (set ts a t')) ++ (option_to_list over ++ flat (drop a (set ts a t'))) ≡ X
  step-back put X whole =
      ap₂ (λ xs ys. xs ++ (option_to_list over ++ ys)) (ap flat (take-set ts a t')) (ap flat (drop-set ts a t' lt))
      ∙ ap (λ xs. F ++ xs) (sym (append_assoc (option_to_list over) t'.items R) ∙ ap (λ xs. xs ++ R) put ∙ append_assoc t.items (e ∷ []) R)
      ∙ sym (append_assoc F t.items (e ∷ R))
      ∙ ap (λ xs. xs ++ e ∷ R) (sym (flat-push (take a ts) t) ∙ ap flat (sym (take_more ts a d lt)))
      ∙ whole

  pub step-full : length t'.items ≡ t'.width → length R ≡ room_of (drop (a + 1) ts) → length (flat (drop a (set ts a t'))) ≡ room_of (drop a (set ts a t'))
  step-full full rest =
      ap (λ us. length (flat us)) (drop-set ts a t' lt) ∙ length-append t'.items R ∙ ap₂ (λ m n. m + n) full rest
      ∙ sym (ap room_of (drop-set ts a t' lt))

-- an entry less in its tier
pub step-out : (ts : List TierSeen) (a b : ℕ) (d t' : TierSeen) → a < length ts → t'.items ≡ remove (get_or ts a d).items b
    → flat (set ts a t') ≡ (flat (take a ts) ++ take b (get_or ts a d).items) ++ (drop (suc b) (get_or ts a d).items ++ flat (drop (a + 1) ts))
step-out ts a b d t' lt gone =
    sym (flat-parts a (set ts a t'))
    ∙ ap₂ (λ xs ys. xs ++ ys) (ap flat (take-set ts a t')) (ap flat (drop-set ts a t' lt))
    ∙ ap (λ xs. flat (take a ts) ++ (xs ++ flat (drop (a + 1) ts))) gone
    ∙ ap (λ xs. flat (take a ts) ++ xs) (append_assoc (take b (get_or ts a d).items) (drop (suc b) (get_or ts a d).items) (flat (drop (a + 1) ts)))
    ∙ sym (append_assoc (flat (take a ts)) (take b (get_or ts a d).items) _)

-- ---- in the words of the contracts

module _ (ts : List TierSeen) (a b : ℕ) (d t' : TierSeen) (lt : a < length ts) where
  default : get_or ts a d ≡ get_or ts a (record { items = []; width = 0; capacity = 0 })
  default = get_or_default ts a d (record { items = []; width = 0; capacity = 0 }) lt

  next : a + 1 ≡ suc a
  next = omega arith

  pub entry-in : (e : Entry) (over : Option Entry) → t'.items ++ option_to_list over ≡ insert (get_or ts a d).items b e
      → flat (take (a + 1) (set ts a t')) ++ (option_to_list over ++ flat (drop (a + 1) (set ts a t'))) ≡ before_spot ts a b ++ e ∷ after_spot ts a b
  entry-in e over put = step-in ts a d t' e over lt b put
      ∙ ap (λ (u : TierSeen). (flat (take a ts) ++ take b u.items) ++ e ∷ (drop b u.items ++ flat (drop (a + 1) ts))) default
      ∙ ap (λ n. before_spot ts a b ++ e ∷ (drop b (items_at ts a) ++ flat (drop n ts))) next

  pub entry-out : t'.items ≡ remove (get_or ts a d).items b → flat (set ts a t') ≡ before_spot ts a b ++ after_spot_but_one ts a b
  entry-out gone = step-out ts a b d t' lt gone
      ∙ ap (λ (u : TierSeen). (flat (take a ts) ++ take b u.items) ++ (drop (suc b) u.items ++ flat (drop (a + 1) ts))) default
      ∙ ap (λ n. before_spot ts a b ++ (drop (suc b) (items_at ts a) ++ flat (drop n ts))) next

-- an entry in between makes one more
pub one-more : (xs P S : List Entry) (e last : Entry) → xs ++ last ∷ [] ≡ P ++ e ∷ S → length xs ≡ length P + length S
one-more xs P S e last is =
    let left = length-append xs (last ∷ []) in
    let right = length-append P (e ∷ S) in
    let same : length (xs ++ last ∷ []) ≡ length (P ++ e ∷ S) = ap length is in
    omega (arith, left, right, same)

pub parted-length : (ts : List TierSeen) (a b : ℕ) → a < length ts → length (flat ts) ≡ length (before_spot ts a b) + length (after_spot ts a b)
parted-length ts a b lt = ap length (parted ts a b lt) ∙ length-append (before_spot ts a b) (after_spot ts a b)
