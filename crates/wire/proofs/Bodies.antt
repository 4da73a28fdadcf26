-- Bodies of the right size, and their fields.
use Rattle.std.proofs.Common.{◌≡◌, ℕ, ◌+◌, ◌-◌, List, ◌∷◌, ◌++◌, length, take, drop, All, inl, inr, subst, sym, ap, ◌∙◌, arith}
use Rattle.std.specs.List.{flat_map}
use Rattle.std.proofs.lemmas.List.{append-nil, drop_all, take_rest}
use Rattle.wire.specs.declared.message.Ask.{Ask}
use Rattle.wire.specs.Meaning.{IsRightSize, IsHashesSize, IsAsk, HasHashLength, IsAskBody, IsHashesBody, ask_bytes}

-- the right size at each id
pub size_of_request : (size : ℕ) → IsRightSize 21 size → size ≡ 49
size_of_request size h = elim h [
  | inl p ↦ absurd (omega (arith, p.0))
  | inr q ↦ elim q
      [ inl p ↦ p.1 | inr r ↦ elim r [ inl p ↦ absurd (omega (arith, p.0)) | inr p ↦ absurd (omega (arith, p.0)) ] ]
]

pub size_of_hashes : (size : ℕ) → IsRightSize 22 size → IsHashesSize size
size_of_hashes size h = elim h [
  | inl p ↦ absurd (omega (arith, p.0))
  | inr q ↦ elim q [
    | inl p ↦ absurd (omega (arith, p.0))
    | inr r ↦ elim r
        [ inl p ↦ p.1 | inr p ↦ absurd (omega (arith, p.0)) ]
  ]
]

pub size_of_reject : (size : ℕ) → IsRightSize 23 size → size ≡ 49
size_of_reject size h = elim h [
  | inl p ↦ absurd (omega (arith, p.0))
  | inr q ↦ elim q [
    | inl p ↦ absurd (omega (arith, p.0))
    | inr r ↦ elim r
        [ inl p ↦ absurd (omega (arith, p.0)) | inr p ↦ p.1 ]
  ]
]

-- the five fields alone
pub IsAskBody-from_fields : (id : ℕ) (fields : List ℕ) (ask : Ask) → length fields + 1 ≡ 49 → IsAsk ask → fields ≡ ask_bytes ask ++ drop 48 fields
    → IsAskBody id (id ∷ fields) ask
IsAskBody-from_fields id fields ask size fit e = record {
  fields = fit;
  bytes = ap (λ t. id ∷ t) (e ∙ ap (λ t. ask_bytes ask ++ t) (drop_all 48 fields (omega arith)) ∙ append-nil (ask_bytes ask));
}

-- the five fields, and the hashes lent from the bytes after them
pub IsHashesBody-from_fields : (fields : List ℕ) (ask : Ask) (hashes : List (List ℕ)) → IsHashesSize (length fields + 1) → IsAsk ask
    → fields ≡ ask_bytes ask ++ drop 48 fields → All HasHashLength hashes
    → flat_map (λ hash. hash) hashes ≡ take (length fields - 48) (drop 48 fields) → IsHashesBody (22 ∷ fields) ask hashes
IsHashesBody-from_fields fields ask hashes size fit e each joined = record {
  fields = fit;
  each = each;
  size = subst IsHashesSize (omega arith) size;
  bytes = ap (λ t. 22 ∷ t) (e ∙ ap (λ t. ask_bytes ask ++ t) (sym (joined ∙ take_rest fields 48)));
}
