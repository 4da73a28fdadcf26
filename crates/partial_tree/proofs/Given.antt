-- What evidence gives, place by place.
use Rattle.std.proofs.Common.{◌≡◌, ℕ, ◌+◌, ◌-◌, ◌/◌, ◌^◌, ◌<◌, ◌≤◌, leb, [], length, get_or, replicate, Some, None, sym, ap, ◌∙◌, subst, arith}
use Rattle.std.specs.Prelude.{slice_get}
use Rattle.std.proofs.lemmas.Bool.{and_from, and_left, eq-eqb, le-leb, lt-leb, cond-true, cond-false}
use Rattle.std.proofs.lemmas.Option.{slice_get_past, slice_get-get_or}
use Rattle.std.proofs.lemmas.List.{length-append, length-replicate, get_or_append_left}
use Rattle.hashtree.proofs.Heights.{height_pow}
use Rattle.partial_tree.specs.declared.message.evidence.Evidence.{Evidence}
use Rattle.partial_tree.specs.Claims.{span, cover, above, sibling, uncle_hash}
use Rattle.partial_tree.specs.Evidence.{range_of, hashes_of}

module _ (e : Evidence) where
  pub span_is : span (range_of e) ≡ e.span
  span_is = height_pow e.span

  pub cover_is : cover (range_of e) ≡ e.base + e.span
  cover_is = ap (λ k. e.base + k) span_is

  -- how many hashes there are, pads counted
  pub hashes-length : length (hashes_of e) ≡ length e.hashes.now + (2 ^ e.span - length e.hashes.now)
  hashes-length = length-append e.hashes.now (replicate (2 ^ e.span - length e.hashes.now) e.pad)
      ∙ ap (λ k. length e.hashes.now + k) (length-replicate (2 ^ e.span - length e.hashes.now) e.pad)

  -- a hash that is there
  pub hash_there : (k : ℕ) → k < length e.hashes.now → slice_get (hashes_of e) k ≡ Some (get_or e.hashes.now k [])
  hash_there k in' =
      slice_get-get_or (hashes_of e) k [] (omega (arith, hashes-length))
      ∙ ap Some (get_or_append_left e.hashes.now (replicate (2 ^ e.span - length e.hashes.now) e.pad) [] k in')

  -- and nothing past both
  pub hash_past : (k : ℕ) → length e.hashes.now ≤ k → 2 ^ e.span ≤ k → slice_get (hashes_of e) k ≡ None
  hash_past k past beyond = slice_get_past (hashes_of e) k (omega (arith, hashes-length))

  pub uncle-low : (l i : ℕ) → l < e.base + e.span → uncle_hash (range_of e) (hashes_of e) l i ≡ None
  uncle-low l i low = cond-false _ _ _ (and_left (leb (cover (range_of e)) l) _ (lt-leb (cover (range_of e)) l (subst (λ k. l < k) (sym cover_is) low)))

  pub uncle-here : (l i : ℕ) → e.base + e.span ≤ l → i ≡ sibling (e.index / 2 ^ (l - e.base))
      → uncle_hash (range_of e) (hashes_of e) l i ≡ slice_get (hashes_of e) (2 ^ e.span + (l - (e.base + e.span)))
  uncle-here l i high same =
      cond-true _ _ _ (and_from _ _ (le-leb (cover (range_of e)) l (subst (λ k. k ≤ l) (sym cover_is) high)) (eq-eqb i (sibling (above (range_of e) l)) same))
      ∙ ap (λ k. slice_get (hashes_of e) (2 ^ e.span + (l - k))) cover_is
