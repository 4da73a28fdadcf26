-- What an opened file has is what stands at its path, and how it was read.
use Rattle.std.proofs.Common.{◌≡◌, List, ℕ, Option, Some, None, Result, Ok, Err, IfOk, IfSome, option_map, refl, sym, ap, subst, ◌∙◌}
use Rattle.std.proofs.lemmas.Option.{same_Some}
use Rattle.benc.specs.Device.{CountsFault, SourceSeen}
use Rattle.benc.specs.declared.device.DeviceFault.{DeviceFault}
use Rattle.folders.specs.Shelf.{IsFound, more}
use Rattle.folders.specs.Verdicts.{Agrees}
use Rattle.folders.specs.Visits.{HandsBack, HandsOver, VisitsKnown}
use Rattle.folders.specs.declared.shelf.Shelf.{Ghosts}

same_content : (left : Option (List ℕ)) (bytes : List ℕ) (content : Option (List ℕ)) → Agrees left bytes → Some left ≡ option_map Some content
    → content ≡ Some bytes
same_content left bytes None gave e = let no : ⊥ = cc in absurd no
same_content left bytes (Some known) gave e = ap Some (gave known (same_Some left (Some known) e))

-- what an opened file has is what stands at its path
pub agrees_opened : (shown : Option (Option (List ℕ))) (left : Option (List ℕ)) (bytes : List ℕ) → IsFound shown (Some left) → Agrees left bytes
    → Agrees shown (Some bytes)
agrees_opened None left bytes found gave there is = let no : ⊥ = cc in absurd no
agrees_opened (Some stands) left bytes found gave there is = same_content left bytes there gave (found ∙ ap (option_map Some) (same_Some stands there is))

-- nothing has the name
pub agrees_missing : (shown : Option (Option (List ℕ))) → IsFound shown None → Agrees shown None
agrees_missing None found there is = let no : ⊥ = cc in absurd no
agrees_missing (Some content) found there is = none_of there (found ∙ ap (option_map Some) (same_Some content there is))
  where
    none_of : (there : Option (List ℕ)) → None ≡ option_map Some there → there ≡ None
    none_of None is = refl
    none_of (Some bytes) is = let no : ⊥ = cc in absurd no

-- a file that was handed back was read in each way that its two sights show
pub handed_as : {S F : Type 0} (shelf : Ghosts S F) (seen : F → SourceSeen) (IsRead IsReadToo : SourceSeen → SourceSeen → Type 0) (s : S)
    (path : List (List ℕ)) (file : F) (s' : S) → (h : HandsBack (shelf.opens s path) shelf.closes seen IsRead file s') → IsReadToo (seen file) (seen h.read)
    → HandsBack (shelf.opens s path) shelf.closes seen IsReadToo file s'
handed_as shelf seen IsRead IsReadToo s path file s' h how = record {
  between = h.between;
  opened = h.opened;
  read = h.read;
  reading = how;
  closed = h.closed;
}

-- ---- what was opened, read and handed back

-- how a path was opened under which this is known
pub record WasOpened {S F : Type 0} (shelf : Ghosts S F) (seen : F → SourceSeen) (Opens : Result (Option F) DeviceFault → S → Type 0)
    (known : Option (Option (List ℕ))) (s between : S) (opened : Result (Option F) DeviceFault) : Type 0 where
  pub found : IfOk opened (λ o. IsFound known (option_map (λ f. (seen f).left) o))
  pub fresh : IfOk opened (λ o. IfSome o (λ f. (seen f).faults ≡ 0))
  pub counts : CountsFault (shelf.faults s) (shelf.faults between) opened
  pub opens : Opens opened between

module _ {S F A : Type 0} (shelf : Ghosts S F) (seen : F → SourceSeen) (opens : Result (Option F) DeviceFault → S → Type 0)
    (known : Option (Option (List ℕ))) (IsReadAs : A → SourceSeen → SourceSeen → Type 0) where
  pub visited : (s between s' : S) (opened : Result (Option F) DeviceFault) (result : Result (Option A) DeviceFault)
      → WasOpened shelf seen opens known s between opened → HandsOver shelf seen IsReadAs between opened result s'
      → VisitsKnown shelf seen opens known IsReadAs s result s'
  visited s between s' opened (Ok (Some answer)) was h =
      let o = subst (WasOpened shelf seen opens known s between) h.is was in
      record {
        file = h.file;
        found = o.found;
        fresh = o.fresh;
        handed = record { between = between; opened = o.opens; read = h.read; reading = h.reading; closed = h.closed };
        counted = h.counted ∙ ap (λ n. more n (seen h.read).faults) o.counts;
      }
  visited s between s' opened (Ok None) was h =
      let o = subst (WasOpened shelf seen opens known s between) h.0 was in
      (subst (opens (Ok None)) (sym h.1) o.opens, o.found, ap shelf.faults h.1 ∙ o.counts)
  visited s between s' opened (Err fault) was h =
      let o = subst (WasOpened shelf seen opens known s between) h.0 was in
      (subst (opens (Err fault)) (sym h.1) o.opens, ap shelf.faults h.1 ∙ o.counts)
