-- What the calls on drafts answer.
use Rattle.std.proofs.Common.{◌≡◌, ◌≢◌, ◌⊎◌, ℕ, List, Option, Some, None, refl, sym, ap, inl, inr, ◌∙◌, subst}
use Rattle.c_layouts.specs.Drafts.{HasDraftStatus}
use Rattle.drafting.specs.declared.coming_file.ComingFile.{ComingFile}
use Rattle.drafts.specs.Outline.{Outline}
use Rattle.filetree.specs.Tests.{First, NoneHolds, TestRow}
use Rattle.filetree.specs.declared.refusal.Refusal.{Refusal}
use Rattle.filetree.specs.declared.refusal.Refusal.TheVariants as refusals
use Rattle.btcheck_c.specs.Drafting.{OnDraft, WithFile}
use Rattle.btcheck_c.specs.Holds.{ThroughBoth}
use Rattle.btcheck_c.specs.declared.thing.Thing.{Thing}
use Rattle.btcheck_c.specs.declared.thing.Kind.{Kind}
use Rattle.btcheck_c.specs.declared.thing.Kind.TheVariants as kind

-- a refusal is that of the first test, or memory was refused where none holds
pub refused_as : (rows : List TestRow) (r : Refusal) (status : ℕ) → (r ≢ refusals.NoMemory → First rows r)
    → (r ≡ refusals.NoMemory → NoneHolds rows) → HasDraftStatus r status
    → (NoneHolds rows × (status ≡ 2)) ⊎ ((q : Refusal) × (First rows q × HasDraftStatus q status))
refused_as rows r status first none (inl memory) = inl (none memory.0, memory.1)
refused_as rows r status first none (inr other) = inr (r, (first other.0, inr other))

-- a call on a draft, and on a file of another handle
pub with_file : (P : Outline → ComingFile → ℕ → Outline → ComingFile → Type 0) (d e : Outline) (q q' : Option Thing) (u lent : Thing) (f g : ComingFile)
    (status : ℕ) → Some u ≡ q → lent ≡ u → lent.kind ≡ kind.File f → q' ≡ Some (record { kind = kind.File g }) → P d f status e g
    → WithFile P d q status e q'
with_file P d e q q' u lent f g status is same of_kind is' p =
    subst (λ w. WithFile P d w status e q') is (
      record { kind = kind.File g },
      (
        is',
        subst (λ x. OnDraft P (kind.Draft d) x status (kind.Draft e) (kind.File g)) (sym of_kind ∙ ap (λ (t : Thing). t.kind) same)
            (e, (g, (refl, (refl, p)))),
      ),
    )

-- so both things that were lent go back
pub through_draft : (P : Outline → ComingFile → ℕ → Outline → ComingFile → Type 0) (o o' q q' : Option Thing) (t lent : Thing) (d e : Outline) (status : ℕ)
    → Some t ≡ o → lent ≡ t → lent.kind ≡ kind.Draft d → o' ≡ Some (record { kind = kind.Draft e }) → WithFile P d q status e q'
    → ThroughBoth (OnDraft P) o q status o' q'
through_draft P o o' None q' t lent d e status is same of_kind is' (one, (unchanged, none)) =
    let back : kind.Draft e ≡ t.kind = ap kind.Draft unchanged ∙ sym of_kind ∙ ap (λ (s : Thing). s.kind) same in
    let thing : Kind → Thing = λ k. record { kind = k } in
    subst (λ w. ThroughBoth (OnDraft P) w None status o' q') is (one, (is' ∙ ap (λ k. Some (thing k)) back, none))
through_draft P o o' (Some u) q' t lent d e status is same of_kind is' (u', (there, on)) =
    subst (λ w. ThroughBoth (OnDraft P) w (Some u) status o' q') is (
      record { kind = kind.Draft e },
      (
        u',
        (
          is',
          (
            there,
            subst (λ x. OnDraft P x u.kind status (kind.Draft e) u'.kind) (sym of_kind ∙ ap (λ (s : Thing). s.kind) same) on,
          ),
        ),
      ),
    )
