-- A slot of nothing owns nothing beside its fields, whatever its pointer is.
use Rattle.std.proofs.Common.{List, [], ◌∷◌, ◌++◌, refl, sym, subst}
use mir.Val.{Val}
use base.Logic.{SProp, ent, emp, id⊢}
use base.Fml.{ftrue, fsep}
use prog.Wp.{WpFn}
use types.Kit.{‵, raw, ◌⊛◌, ◌$◌, ◌∵◌, !, qed, by, move, keep, split, fsplit, fjoin, feq_l, suffices, use0}
use types.Run.{no_more, and_then, returns, enter}
use types.ByLocal.{alloc_all, pass_all, free_all, look_at, get, sets}
use types.Part.{agg}
use contract.Monad.{fact, fact_i}
use contract.Running.{tables}
use denote.Exit.{yes}
use denote.Signature.{plain}
use denote.Builtin.{RawPtr}
use denote.RawPtr.{Ptr, ptr_val}
use denote.Steps.{nothing}
use denote.Triple.Walked.{Stays, stay_dropped, Goes-dropped, walk_of}
use Rattle.std.proofs.raw_atomic.Walks.{proved_at, leaves}
use Rattle.std.proofs.alloc.Calls.{handle_tells}
use Rattle.std.specs.Prelude.{None, ◌≡◌}
use Rattle.std_heap.specs.contracts.Global.{the_row as Handle}
use Rattle.std_heap.proofs.Global.TheLaws.{the_row_laws as handle_laws}
use Rattle.std_heap.specs.contracts.GlobalAllocator.TheImpl.{ghosts}
use Rattle.btcheck_c.proofs.TwoFields.{word, handles, pointer_fits, word_fits, sew}
use Rattle.btcheck_c.specs.contracts.slot.vacate as f
use Rattle.btcheck_c.proofs.slot.vacate.Statement.{statement}
use Rattle.btcheck_c.proofs.slot.vacate.Code as code

pub vacate_spec : {M : Type 1} → statement M
vacate_spec 𝓤 𝓛 𝓜 𝓡 wired =
    let c = f.clauses 𝓛 𝓜.mem 𝓡.returns in let 𝓣 = tables 𝓤 𝓛.H 𝓜 𝓡 𝓡.env in
    let hs : Stays f.ended.signature.params f.ended.kept = (stay_dropped (plain (λ _. RawPtr)) yes, (stay_dropped (plain (λ _. Handle)) yes, tt)) in
    proved_at 𝓛 f.ended hs c 𝓜 𝓡 (
      Goes-dropped 𝓛 0 (plain (λ _. RawPtr)) yes (λ κs x w. refl),
      (Goes-dropped 𝓛 0 (plain (λ _. Handle)) yes (λ κs x w. refl), tt),
    )
    f.Key.name code.function (code.unfolded 𝓤 𝓛.H 𝓜 𝓡 wired) (λ y are.
    let p : Ptr = y.0.3.0 in let a : Handle.Denot = y.0.3.1.0 in
    let Post : Val → SProp 𝓤 = (walk_of 𝓛 f.ended hs c).post y in let Run : List Val → SProp 𝓤 = λ vs. WpFn 𝓤 𝓛.H 𝓣.C 𝓣.Λ code.function vs Post in
    qed 𝓛 ((‵ ftrue ⊛ ‵ (fsep (RawPtr.own_val p y.0.4.0) (fsep (Handle.own_val a y.0.4.1.0) ftrue))) ∷ raw ((c y.0.0 y.0.3).requires y.1) ∷ []) ∵
    split ! $ move ! (1 ∷ []) $ fsplit ! $ feq_l ! (λ pointer. fsplit ! $ handle_tells (handles Handle handle_laws ghosts) ! a y.0.4.1.0 (λ h handle fits.
    suffices ! (Run (ptr_val p ∷ h ∷ [])) (subst (λ (vs : List Val). ent 𝓤 (Run (ptr_val p ∷ h ∷ [])) (Run vs))
    (sym (λ i. pointer i ++ (handle i ++ []))) (id⊢ 𝓤 (Run (ptr_val p ∷ h ∷ [])))) $
    enter ! 𝓣.C 𝓣.Λ code.function (ptr_val p ∷ h ∷ []) Post $ alloc_all ! (λ l. pass_all ! refl (pointer_fits 𝓛 p, (fits, tt)) $
    sets ! (agg ! (and_then ! (get ! refl) (and_then ! (get ! refl) (no_more !)))) refl (word_fits Handle handle_laws ghosts 𝓛 p h fits) $
    nothing ! $ sew Handle handle_laws ghosts p a ftrue ! h $
    use0 𝓛 (raw (fact 𝓤 (None ≡ None))) (fact_i 𝓤 (None ≡ None) (emp 𝓤) refl) $ nothing ! $ nothing ! $ fjoin ! $ nothing ! $ fjoin ! $
    -- [what is left of the parameters; the `ensures`; the slot; ..]
    returns ! (look_at ! 0 refl) $ free_all ! refl $ nothing ! $ keep ! (0 ∷ 1 ∷ 3 ∷ 2 ∷ []) $
    by ! (leaves 𝓛 f.ended hs c y (word p h) (record { at = p; alloc = a; held = None }) (tt, (tt, tt)) (tt, (tt, tt)))))))
