-- A struct of a pointer and an allocator's handle, by value, and what it owns beside them. Assumes `Logic`.
--     word            its machine value
--     cut             what is owned of it is [what it owns beside its fields; the handle], and its machine value is such a word
--     sew             the way back
use Rattle.std.proofs.Common.{◌≡◌, List, [], ◌∷◌, ◌++◌, refl, ◌∙◌}
use mathlib.Core.Bool.{Bool, true, false, ◌&&◌}
use lib.Dec.{T}
use seplogic.Ra.Ura.{Ura}
use mir.Syntax.{impl, tnil, dnil, ty_ptr}
use mir.Val.{Val, vstruct, vcons, vnil, of_list, has_ty, WT}
use base.Fml.{Fml, fsep}
use types.Logic.{Logic}
use types.Kit.{Item, Goal, Seq, Step, step, ‵, ◌$◌, move, drop, fsplit, fjoin, fpick, fpack, feq_i, feq_l}
use denote.RattleType.{RattleType, Valss}
use denote.Builtin.{RawPtr}
use denote.RawPtr.{Ptr, ptr_val, rawptr_Lawful}
use denote.Steps.{nothing}
use denote.Param.{layout}
use denote.Param.Laws.{Laws}
use denote.Struct.Struct.{Struct as Fields, within}
use Rattle.std.specs.declared.alloc.Allocator.{Ghosts}
use Rattle.std.proofs.alloc.Calls.{Al, handle_tells, Fits}

abbrev pub word : Ptr → Val → Val
word p h = vstruct (vcons (ptr_val p) (vcons h vnil))

both : (x y : Bool) → T x → T y → T (x && (y && true))
both true true s t = tt
both true false s t = absurd t
both false y s t = absurd s

-- a pointer's machine value has its type, null too
pub pointer_fits : {M : Type 1} {𝓤 : Ura M} (𝓛 : Logic 𝓤) (p : Ptr) → T (has_ty ty_ptr (ptr_val p)) × WT (ptr_val p)
pointer_fits 𝓛 p = ((rawptr_Lawful 𝓛).typed p (ptr_val p ∷ []) refl).0

module _ (Z : RattleType) (LZ : Laws Z) (g : Ghosts Z.Denot) where
  abbrev pub handles : Al
  handles = record { row = Z; laws = LZ; g = g; d = impl [] tnil dnil; drops = impl [] tnil dnil }

  pub word_fits : {M : Type 1} {𝓤 : Ura M} (𝓛 : Logic 𝓤) (p : Ptr) (h : Val) → Fits handles h
      → T (has_ty ty_ptr (ptr_val p) && (has_ty (layout Z) h && true)) × WT (word p h)
  word_fits 𝓛 p h fits = (both (has_ty ty_ptr (ptr_val p)) (has_ty (layout Z) h) (pointer_fits 𝓛 p).0 fits.0, ((pointer_fits 𝓛 p).1, (fits.1, tt)))

  abbrev pub Both : RattleType
  Both = Fields (record { name = []; args = []; types = []; fields = RawPtr ∷ Z ∷ [] })

  module _ {M : Type 1} {𝓤 : Ura M} {𝓛 : Logic 𝓤} {K : Type 0} {Γ : List (Item 𝓤)} {G : Goal 𝓤 𝓛.H} (p : Ptr) (a : Z.Denot) (beside : Fml) where
    pub cut : K → (us : List Val) → ((h : Val) → us ≡ word p h ∷ [] → Fits handles h → Seq K 𝓛 (‵ beside ∷ ‵ (Z.own_val a (h ∷ [])) ∷ Γ) G)
        → Seq K 𝓛 (‵ (fsep (Both.own_val (p, (a, tt)) us) beside) ∷ Γ) G
    cut t us k =
        fsplit t $ fpick t (λ vss. fsplit t $ feq_l t (λ whole. fsplit t $ feq_l t (λ pointer. fsplit t $
        handle_tells handles t a vss.1.0 (λ h handle fits. move t (1 ∷ []) $ drop t $ move t (1 ∷ []) $
        k h (whole ∙ (λ i. vstruct (of_list (pointer i ++ (handle i ++ []))) ∷ [])) fits))))

    pub sew : K → (h : Val) → Step K 𝓛 (‵ (fsep (Both.own_val (p, (a, tt)) (word p h ∷ [])) beside) ∷ Γ) G (‵ beside ∷ ‵ (Z.own_val a (h ∷ [])) ∷ Γ) G
    sew t h = step (λ rest.
        nothing t $ move t (2 ∷ 0 ∷ []) $ fjoin t $ feq_i t (List Val) (ptr_val p ∷ []) (ptr_val p ∷ []) refl $ fjoin t $
        feq_i t (List Val) (word p h ∷ []) (word p h ∷ []) refl $ fjoin t $
        fpack t (Valss (RawPtr ∷ Z ∷ [])) (within (record { name = []; args = []; types = []; fields = RawPtr ∷ Z ∷ [] }) (p, (a, tt)) (word p h ∷ []))
        (ptr_val p ∷ [], (h ∷ [], tt)) $
        fjoin t $ rest)
