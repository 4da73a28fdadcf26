-- The slot has a value, so it owns what the box that was taken apart owned, and this is taken out again.
use Rattle.std.proofs.Common.{List, [], ◌∷◌, ◌++◌, refl, sym, subst}
use Rattle.std.proofs.lemmas.Bool.{false≢true}
use mir.Val.{Val}
use base.Logic.{SProp, ent, emp, id⊢}
use base.Fml.{Fml, ftrue, fsep}
use prog.Wp.{WpFn}
use types.Kit.{‵, raw, ◌⊛◌, ◌$◌, ◌∵◌, !, qed, by, move, keep, split, fsplit, fjoin, rewrite, suffices, use0}
use types.Run.{stop, fld, of_opd, no_more, and_then, returns, enter}
use types.ByLocal.{alloc_all, pass_all, free_all, look_at, get, get_in, sets}
use types.Part.{agg, sub, whole}
use contract.Monad.{fact, fact_i}
use contract.Running.{tables}
use denote.Exit.{yes}
use denote.RattleType.{RattleType}
use denote.Signature.{plain}
use denote.RawPtr.{Ptr}
use denote.Steps.{nothing, heard}
use denote.Triple.Walked.{Stays, stay_dropped, Goes-dropped, walk_of}
use Rattle.std.proofs.raw_atomic.Walks.{proved_at, leaves}
use Rattle.std.specs.Prelude.{Option, Some, None, IsSome, ◌≡◌}
use Rattle.std.specs.Box.Ownership.{box_owns}
use Rattle.std_heap.specs.contracts.Global.{the_row as Handle}
use Rattle.std_heap.proofs.Global.TheLaws.{the_row_laws as handle_laws}
use Rattle.std_heap.specs.contracts.GlobalAllocator.TheImpl.{ghosts}
use Rattle.btcheck_c.specs.contracts.thing.Thing.{the_row as Value}
use Rattle.btcheck_c.specs.contracts.slot.Slot as slot
use Rattle.btcheck_c.specs.Owning.{slot_owns}
use Rattle.btcheck_c.proofs.TwoFields.{word, pointer_fits, word_fits, cut, sew}
use Rattle.btcheck_c.specs.contracts.slot.Slot.unseal as f
use Rattle.btcheck_c.proofs.slot.Slot.unseal.Statement.{statement}
use Rattle.btcheck_c.proofs.slot.Slot.unseal.Code as code

-- the value that a full slot has
the_value : (o : Option Value.Denot) → IsSome o → (x : Value.Denot) × (o ≡ Some x)
the_value None some = absurd (false≢true some)
the_value (Some x) some = (x, refl)

pub unseal_spec : {M : Type 1} → statement M
unseal_spec 𝓤 𝓛 𝓜 𝓡 wired =
    let c = f.clauses 𝓛 𝓜.mem 𝓡.returns in let 𝓣 = tables 𝓤 𝓛.H 𝓜 𝓡 𝓡.env in let From : RattleType = slot.the_row in
    let hs : Stays f.ended.signature.params f.ended.kept = (stay_dropped (plain (λ _. From)) yes, tt) in
    proved_at 𝓛 f.ended hs c 𝓜 𝓡 (Goes-dropped 𝓛 0 (plain (λ _. From)) yes (λ κs x w. refl), tt) f.Key.name code.function
    (code.unfolded 𝓤 𝓛.H 𝓜 𝓡 wired) (λ y are.
    let d : From.Denot = y.0.3.0 in let p : Ptr = d.at in let a : Handle.Denot = d.alloc in let Asked : Type 0 = IsSome d.held in
    let Post : Val → SProp 𝓤 = (walk_of 𝓛 f.ended hs c).post y in let Run : List Val → SProp 𝓤 = λ vs. WpFn 𝓤 𝓛.H 𝓣.C 𝓣.Λ code.function vs Post in
    qed 𝓛 ((‵ ftrue ⊛ ‵ (fsep (From.own_val d y.0.4.0) ftrue)) ∷ raw (fact 𝓤 Asked) ∷ []) ∵
    move ! (1 ∷ []) $ heard ! Asked (λ asked. let found = the_value d.held asked in let x : Value.Denot = found.0 in
    let owned : Fml = box_owns (ghosts.dealloc_token a) Value p x in
    split ! $ move ! (1 ∷ []) $ fsplit ! $ cut Handle handle_laws ghosts p a (slot_owns a p d.held) ! y.0.4.0 (λ h spelled fits.
    rewrite ! 0 (λ (o : Option Value.Denot). ‵ (slot_owns a p o)) found.1 refl $
    let typed = word_fits Handle handle_laws ghosts 𝓛 p h fits in
    suffices ! (Run (word p h ∷ [])) (subst (λ (vs : List Val). ent 𝓤 (Run (word p h ∷ [])) (Run vs))
    (sym (λ i. spelled i ++ [])) (id⊢ 𝓤 (Run (word p h ∷ [])))) $
    enter ! 𝓣.C 𝓣.Λ code.function (word p h ∷ []) Post $ alloc_all ! (λ l. pass_all ! refl (typed, tt) $
    sets ! (of_opd ! (get_in ! (fld ! refl (stop !)) (sub ! 0 refl (whole !)))) refl (pointer_fits 𝓛 p) $
    sets ! (of_opd ! (get_in ! (fld ! refl (stop !)) (sub ! 1 refl (whole !)))) refl fits $
    sets ! (of_opd ! (get ! refl)) refl (pointer_fits 𝓛 p) $
    sets ! (agg ! (and_then ! (get ! refl) (and_then ! (get ! refl) (no_more !)))) refl typed $
    sew Handle handle_laws ghosts p a owned ! h $
    use0 𝓛 (raw (fact 𝓤 (Some x ≡ d.held))) (fact_i 𝓤 (Some x ≡ d.held) (emp 𝓤) (sym found.1)) $ nothing ! $ nothing ! $ fjoin ! $
    -- [what is left of the parameter; the `ensures`; the box taken apart; ..]
    returns ! (look_at ! 0 refl) $ free_all ! refl $ nothing ! $ keep ! (0 ∷ 1 ∷ 3 ∷ 2 ∷ []) $
    by ! (leaves 𝓛 f.ended hs c y (word p h) (record { at = p; alloc = a; value = x }) (tt, tt) (tt, tt))))))
