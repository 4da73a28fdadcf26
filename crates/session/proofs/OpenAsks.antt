-- Open asks, kept in the order of their fields, as a set.
use Rattle.std.proofs.Common.{◌≡◌, Bool, true, false, cond, not, ◌&&◌, ◌||◌, List, Result, Ok, Err, IsOk, OnOk, refl, sym, ap}
use Rattle.std.proofs.Common.{◌∙◌}
use Rattle.std.specs.List.{list_any}
use Rattle.std.specs.Ordering.{nat_cmp, eq_by_cmp, is_eq}
use Rattle.std.specs.Cmp.{IsTotalOrder, Equal-is, tied_itself, eq_by_cmp_equiv}
use Rattle.std.specs.Cmp.Lexicographic.{slice_cmp}
use Rattle.std.specs.FinMap.{IsAntisymmetric, slice_cmp-IsAntisymmetric, nat_cmp-IsAntisymmetric}
use Rattle.std.specs.FinSet as set
use Rattle.std.proofs.lemmas.Bool.{false≢true}
use Rattle.wire.specs.contracts.message.AskOrd.TheImpl.Laws.{total-law}
use Rattle.wire.specs.declared.message.Ask.{Ask}
use Rattle.session.specs.Asks.{AskSet, ask_cmp}
use Rattle.chains.proofs.Cases.{both_equal}

pub ask_total : IsTotalOrder ask_cmp
ask_total = total-law

-- an ask is its five fields
pub ask_antisymmetric : IsAntisymmetric ask_cmp
ask_antisymmetric a b e =
    let root = both_equal (slice_cmp nat_cmp a.root b.root) _ e in
    let base = both_equal (nat_cmp a.base b.base) _ root.1 in
    let index = both_equal (nat_cmp a.index b.index) _ base.1 in
    let count = both_equal (nat_cmp a.length b.length) _ index.1 in
    let r : a.root ≡ b.root = slice_cmp-IsAntisymmetric nat_cmp-IsAntisymmetric a.root b.root root.0 in
    let s : a.base ≡ b.base = nat_cmp-IsAntisymmetric a.base b.base base.0 in
    let t : a.index ≡ b.index = nat_cmp-IsAntisymmetric a.index b.index index.0 in
    let u : a.length ≡ b.length = nat_cmp-IsAntisymmetric a.length b.length count.0 in
    let v : a.proof ≡ b.proof = nat_cmp-IsAntisymmetric a.proof b.proof count.1 in
    λ i. record { root = r i; base = s i; index = t i; length = u i; proof = v i }

pub same_ask : (a b : Ask) → eq_by_cmp ask_cmp a b ≡ true → a ≡ b
same_ask a b e = ask_antisymmetric a b ((Equal-is (ask_cmp a b)).0 e)

turned : (a b : Ask) → eq_by_cmp ask_cmp a b ≡ eq_by_cmp ask_cmp b a
turned = (eq_by_cmp_equiv ask_total).symm

-- ---- the set of these keys

pub kept_contains : (keys : List Ask) (q : Ask) → set.contains (set.from_list {R = ask_cmp} keys) q ≡ list_any (eq_by_cmp ask_cmp q) keys
kept_contains keys q = set.contains-from_list ask_total keys q

or-cond : (b c : Bool) → cond b true c ≡ (b || c)
or-cond true c = refl
or-cond false c = refl

and-cond : (b c : Bool) → cond b false c ≡ (not b && c)
and-cond true c = refl
and-cond false c = refl

module _ (before after : List Ask) (k : Ask) where
  pub kept_inserted : ((q : Ask) → list_any (eq_by_cmp ask_cmp q) after ≡ cond (eq_by_cmp ask_cmp k q) true (list_any (eq_by_cmp ask_cmp q) before))
      → set.from_list {R = ask_cmp} after ≡ set.insert (set.from_list before) k
  kept_inserted put = set.same_set ask_total ask_antisymmetric _ _ (λ q.
      kept_contains after q ∙ put q ∙ or-cond (eq_by_cmp ask_cmp k q) _
      ∙ ap (λ b. b || list_any (eq_by_cmp ask_cmp q) before) (turned k q) ∙ ap (λ b. eq_by_cmp ask_cmp q k || b) (sym (kept_contains before q))
      ∙ sym (set.contains-insert ask_total (set.from_list before) k q))

  pub kept_removed : ((q : Ask) → list_any (eq_by_cmp ask_cmp q) after ≡ cond (eq_by_cmp ask_cmp k q) false (list_any (eq_by_cmp ask_cmp q) before))
      → set.from_list {R = ask_cmp} after ≡ set.remove (set.from_list before) k
  kept_removed taken = set.same_set ask_total ask_antisymmetric _ _ (λ q.
      kept_contains after q ∙ taken q ∙ and-cond (eq_by_cmp ask_cmp k q) _
      ∙ ap (λ b. not b && list_any (eq_by_cmp ask_cmp q) before) (turned k q) ∙ ap (λ b. not (eq_by_cmp ask_cmp q k) && b) (sym (kept_contains before q))
      ∙ sym (set.contains-remove ask_total (set.from_list before) k q))

-- ---- asks that are opened and closed

pub opened_contains : (s : AskSet) (k : Ask) → set.contains (set.insert s k) k ≡ true
opened_contains s k = set.contains-insert ask_total s k k ∙ ap (λ o. is_eq o || set.contains s k) (tied_itself ask_total k)

-- an open ask that is opened again changes nothing
pub opened_again : (s : AskSet) (k : Ask) → set.contains s k ≡ true → set.insert s k ≡ s
opened_again s k there = set.same_set ask_total ask_antisymmetric _ _ (λ q. set.contains-insert ask_total s k q ∙ by_case q (eq_by_cmp ask_cmp q k) refl)
  where
    by_case : (q : Ask) (b : Bool) → eq_by_cmp ask_cmp q k ≡ b → (b || set.contains s q) ≡ set.contains s q
    by_case q true e = sym (ap (set.contains s) (same_ask q k e) ∙ there)
    by_case q false e = refl

pub unchanged_if_open : {X E : Type 0} (s after : AskSet) (k : Ask) (r : Result X E) → set.contains s k ≡ true → (set.contains s k ≡ true → IsOk r)
    → OnOk r (after ≡ set.insert s k) → after ≡ s
unchanged_if_open s after k (Ok x) there ok same = same ∙ opened_again s k there
unchanged_if_open s after k (Err e) there ok same = absurd (false≢true (ok there))
