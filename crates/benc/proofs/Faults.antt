-- Where reading stops, the item that is due there fails.
use Rattle.std.proofs.Common.{◌≡◌, ℕ, zero, suc, ◌-◌, ◌<◌, ◌≤◌, Bool, true, false, ◌||◌, cond, eqb, List, [], ◌∷◌, length, Option, Some, None}
use Rattle.std.proofs.Common.{Ok, Err, refl, sym, ap, ◌∙◌, subst, inl, inr, arith}
use Rattle.std.proofs.lemmas.Bool.{eqb-true}
use Rattle.std.specs.Fmt.{decimal}
use Rattle.std.proofs.lemmas.List.{length-append}
use Rattle.benc.specs.declared.fault.FaultKind.{FaultKind}
use Rattle.benc.specs.declared.fault.FaultKind.TheVariants.{Truncated, BadStart, TooDeep}
use Rattle.benc.specs.Value.{Bencode, int, text, list, dict, Items, Pairs}
use Rattle.benc.specs.Spelling.{Spelled}
use Rattle.benc.specs.Digits.{is_digit}
use Rattle.benc.specs.Items.{integer_at, string_at}
use Rattle.benc.specs.Fails.{a_value, Begun, Stops}
use Rattle.benc.proofs.Scanned.{fault_of, value_fault, scanned_fault, table_is}
use Rattle.benc.specs.Parser.{◌>>=◌, Parsed, Failed, begun_at, items_at, pairs_at, value_with, value_at}
use Rattle.benc.proofs.Sound.{value_takes}
use Rattle.benc.proofs.Stopping.{Further, err_of, began_err, mapped_err, items_stop, list_stops, pairs_stop, dict_stops}

pick_digit : (p q r s : Bool) (a t b d : Option FaultKind) → p ≡ false → q ≡ false → r ≡ false → s ≡ true → cond p a (cond (q || r) t (cond s b d)) ≡ b
pick_digit p q r s a t b d i j k m = rw (i, j, k, m) refl

pick_last : (p q r s : Bool) (a t b d : Option FaultKind) → p ≡ false → q ≡ false → r ≡ false → s ≡ false → cond p a (cond (q || r) t (cond s b d)) ≡ d
pick_last p q r s a t b d i j k m = rw (i, j, k, m) refl

module _ (room : ℕ) (ls : List ℕ → List ℕ → Parsed Items) (ds : List ℕ → List ℕ → Parsed Pairs)
    (list_stop : (c : ℕ) (b : List ℕ) (e : Failed) → c ≡ 108 → ls (c ∷ b) b ≡ Err e → Further room a_value (c ∷ b) e)
    (dict_stop : (c : ℕ) (b : List ℕ) (e : Failed) → c ≡ 100 → ds (c ∷ b) b ≡ Err e → Further room a_value (c ∷ b) e) where
  level_stops : (bytes : List ℕ) (e : Failed) → value_with ls ds bytes ≡ Err e → Further room a_value bytes e
  level_stops [] e h = subst (λ x. Further room a_value [] x) (err_of {A = Bencode × List ℕ} (Truncated, []) e h) (inl (refl, refl))
  level_stops (c ∷ bytes) e h = by_i (eqb c 105) refl h
    where
      by_digit : (m : Bool) → is_digit c ≡ m → eqb c 105 ≡ false → eqb c 108 ≡ false → eqb c 100 ≡ false
          → cond {A = Parsed Bencode} m (begun_at (c ∷ bytes) (string_at (c ∷ bytes)) >>= λ y. Ok (text y.0, y.1)) (Err (BadStart, c ∷ bytes)) ≡ Err e
          → Further room a_value (c ∷ bytes) e
      by_digit false m i l d f = subst (λ x. Further room a_value (c ∷ bytes) x) (err_of {A = Bencode × List ℕ} (BadStart, c ∷ bytes) e f)
          (inl (refl, pick_last (eqb c 105) (eqb c 108) (eqb c 100) (is_digit c) _ _ _ _ i l d m))
      by_digit true m i l d f =
          let b = began_err (c ∷ bytes) (string_at (c ∷ bytes)) (λ y. (text y.0, y.1)) e f in
          subst (λ x. Further room a_value (c ∷ bytes) x) b.2 (inl (
            refl,
            pick_digit (eqb c 105) (eqb c 108) (eqb c 100) (is_digit c) _ _ _ _ i l d m
                ∙ ap fault_of b.1,
          ))

      by_d : (m : Bool) → eqb c 100 ≡ m → eqb c 105 ≡ false → eqb c 108 ≡ false
          → cond {A = Parsed Bencode} m (ds (c ∷ bytes) bytes >>= λ y. Ok (dict y.0, y.1))
          (cond (is_digit c) (begun_at (c ∷ bytes) (string_at (c ∷ bytes)) >>= λ y. Ok (text y.0, y.1)) (Err (BadStart, c ∷ bytes))) ≡ Err e
          → Further room a_value (c ∷ bytes) e
      by_d true m i l f = dict_stop c bytes e (eqb-true c 100 m) (mapped_err (ds (c ∷ bytes) bytes) (λ y. (dict y.0, y.1)) e f)
      by_d false m i l f = by_digit (is_digit c) refl i l m f

      by_l : (m : Bool) → eqb c 108 ≡ m → eqb c 105 ≡ false
          → cond {A = Parsed Bencode} m (ls (c ∷ bytes) bytes >>= λ y. Ok (list y.0, y.1)) (cond (eqb c 100) (ds (c ∷ bytes) bytes >>= λ y. Ok (dict y.0, y.1))
          (cond (is_digit c) (begun_at (c ∷ bytes) (string_at (c ∷ bytes)) >>= λ y. Ok (text y.0, y.1)) (Err (BadStart, c ∷ bytes)))) ≡ Err e
          → Further room a_value (c ∷ bytes) e
      by_l true m i f = list_stop c bytes e (eqb-true c 108 m) (mapped_err (ls (c ∷ bytes) bytes) (λ y. (list y.0, y.1)) e f)
      by_l false m i f = by_d (eqb c 100) refl i m f

      by_i : (m : Bool) → eqb c 105 ≡ m
          → cond {A = Parsed Bencode} m (begun_at (c ∷ bytes) (integer_at bytes) >>= λ y. Ok (int y.0, y.1))
          (cond (eqb c 108) (ls (c ∷ bytes) bytes >>= λ y. Ok (list y.0, y.1)) (cond (eqb c 100) (ds (c ∷ bytes) bytes >>= λ y. Ok (dict y.0, y.1))
          (cond (is_digit c) (begun_at (c ∷ bytes) (string_at (c ∷ bytes)) >>= λ y. Ok (text y.0, y.1)) (Err (BadStart, c ∷ bytes))))) ≡ Err e
          → Further room a_value (c ∷ bytes) e
      by_i true m f =
          let b = began_err (c ∷ bytes) (integer_at bytes) (λ y. (int y.0, y.1)) e f in
          subst (λ x. Further room a_value (c ∷ bytes) x) b.2 (inl (refl, rw m (ap fault_of b.1)))
      by_i false m f = by_l (eqb c 108) refl m f

spelled_long : (room : ℕ) (v : Bencode) (b : List ℕ) → Spelled room v b → 0 < length b
spelled_long room (int z) b s = omega (arith, ap length s.1)
spelled_long room (text t) b s = omega (arith, ap length s.1, length-append (decimal (length t)) (58 ∷ t))
spelled_long room (list vs) b s = omega (arith, ap length s.2)
spelled_long room (dict ps) b s = omega (arith, ap length s.2)

value_shorter : (room : ℕ) (b : List ℕ) (x : Bencode × List ℕ) → value_at room b ≡ Ok x → length x.1 < length b
value_shorter room b x h =
    let t = value_takes room b x h in
    omega (arith, spelled_long room x.0 t.0 t.2, ap length t.1, length-append t.0 x.1)

pub value_stops : (room : ℕ) (bytes : List ℕ) (e : Failed) → value_at room bytes ≡ Err e → Further room a_value bytes e
unfolding value_at
value_stops zero bytes e h =
    level_stops 0 (λ s b. Err (TooDeep, s)) (λ s b. Err (TooDeep, s))
    (λ c b d i g. subst (λ x. Further 0 a_value (c ∷ b) x) (err_of {A = Items × List ℕ} (TooDeep, c ∷ b) d g)
    (inl (refl, subst (λ y. value_fault 0 (y ∷ b) ≡ Some TooDeep) (sym i) refl)))
    (λ c b d i g. subst (λ x. Further 0 a_value (c ∷ b) x) (err_of {A = Pairs × List ℕ} (TooDeep, c ∷ b) d g)
    (inl (refl, subst (λ y. value_fault 0 (y ∷ b) ≡ Some TooDeep) (sym i) refl))) bytes e h
value_stops (suc room) bytes e h =
    level_stops (suc room) (λ s b. items_at (value_at room) (length b) b) (λ s b. pairs_at (value_at room) (length b) None b)
    (λ c b d i g. subst (λ y. Further (suc room) a_value (y ∷ b) d) (sym i)
    (list_stops room b d (items_stop room (value_at room) (λ x y z. value_takes room x y z) (λ x y z. value_shorter room x y z)
    (λ x y z. value_stops room x y z) (length b) b d (omega arith) g)))
    (λ c b d i g. subst (λ y. Further (suc room) a_value (y ∷ b) d) (sym i)
    (dict_stops room b d (pairs_stop room (value_at room) (λ x y z. value_takes room x y z) (λ x y z. value_shorter room x y z)
    (λ x y z. value_stops room x y z) (length b) None b d (omega arith) g))) bytes e h

-- the failing item stands in the input
pub stopped_within : (room : ℕ) (bytes : List ℕ) (e : Failed) → Further room a_value bytes e → length e.1 ≤ length bytes
stopped_within room bytes e (inl p) = omega (arith, ap length p.0)
stopped_within room bytes e (inr (l, ls, due, left, front, parts, begun, fails)) = omega (arith, ap length parts, length-append front e.1)

pub stops_from : (room : ℕ) (bytes : List ℕ) (e : Failed) (offset : ℕ) → room ≡ 128 → offset ≡ length bytes - length e.1 → Further room a_value bytes e
    → Stops bytes e.0 offset
stops_from room bytes e offset full place (inl p) =
    record {
      levels = [];
      due = a_value;
      left = 128;
      front = [];
      rest = e.1;
      parts = p.0;
      place = omega (arith, ap length p.0);
      begun = (refl, refl, refl);
      fails = sym (table_is a_value 128 e.1) ∙ subst (λ r. scanned_fault a_value r e.1 ≡ Some e.0) full (subst (λ t. scanned_fault a_value room t ≡ Some e.0)
          p.0 p.1);
    }
stops_from room bytes e offset full place (inr (l, ls, due, left, front, parts, begun, fails)) =
    record {
      levels = l ∷ ls;
      due = due;
      left = left;
      front = front;
      rest = e.1;
      parts = parts;
      place = omega (arith, ap length parts, length-append front e.1);
      begun = subst (λ r. Begun r (l ∷ ls) front due left) full begun;
      fails = sym (table_is due left e.1) ∙ fails;
    }
