-- Known bytes over several calls.
use Rattle.std.proofs.Common.{◌≡◌, ◌++◌, ℕ, List, [], ap, sym, ◌∙◌, Option, Some, None, subst, length}
use Rattle.std.proofs.lemmas.List.{append_assoc, append-nil}
use Rattle.std.proofs.Math.Seq.{take-length}
use Rattle.benc.specs.Device.{AppendsPrefix}
use Rattle.std.specs.Io.KnownBytes.{Appends, Consumes, Keeps, IsAtEnd}

pub Appends-append : (a b c : Option (List ℕ)) (xs ys : List ℕ) → Appends a b xs → Appends b c ys → Appends a c (xs ++ ys)
Appends-append None b c xs ys p q = tt
Appends-append (Some a) None c xs ys p q = absurd p
Appends-append (Some a) (Some b) None xs ys p q = absurd q
Appends-append (Some a) (Some b) (Some c) xs ys p q = q ∙ ap (λ t. t ++ ys) p ∙ append_assoc a xs ys

pub Appends-keeps : (a b c : Option (List ℕ)) (xs : List ℕ) → Appends a b xs → Keeps b c → Appends a c xs
Appends-keeps None b c xs p q = tt
Appends-keeps (Some a) None c xs p q = absurd p
Appends-keeps (Some a) (Some b) None xs p q = absurd q
Appends-keeps (Some a) (Some b) (Some c) xs p q = q ∙ p

pub Appends_nothing : (a : Option (List ℕ)) → Appends a a []
Appends_nothing None = tt
Appends_nothing (Some a) = sym (append-nil a)

-- what a reader whose bytes are known gave before it ended is all of them
pub Consumes_all : (a b : Option (List ℕ)) (xs : List ℕ) (file : List ℕ) → a ≡ Some file → Consumes a b xs → IsAtEnd b → file ≡ xs
Consumes_all None b xs file e p q = let no : ⊥ = cc in absurd no
Consumes_all (Some a) None xs file e p q = absurd p
Consumes_all (Some a) (Some b) xs file e p q =
    let is : a ≡ file = cc in sym is ∙ p ∙ ap (λ t. xs ++ t) q ∙ append-nil xs

-- all the bytes are a prefix of them
pub Appends_whole : (a b c : Option (List ℕ)) (xs : List ℕ) → Appends a b xs → Keeps b c → AppendsPrefix a c xs
Appends_whole a b c xs p q = (length xs, subst (Appends a c) (sym (take-length xs)) (Appends-keeps a b c xs p q))
