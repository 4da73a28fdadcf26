-- `loosen` calls `into_raw_with_allocator`, which gives back a pair: the pointer, and the allocator's handle. What the box
-- owned behind the pointer is handed over as it is; the pair is read field by field, and the struct made of its fields.
use Rattle.std.proofs.Common.{◌≡◌, List, [], ◌∷◌, ◌++◌, refl, sym, ap, ◌∙◌, subst}
use mir.Syntax.{Args, a_type, dcons, dnil}
use mir.Val.{Val, vstruct, of_list}
use mir.MapTy.{inst_fn}
use base.Logic.{SProp, ent, emp, id⊢}
use base.Fml.{Fml, ftrue, fsep, flft}
use prog.Wp.{WpFn}
use types.Kit.{Item, ‵, raw, ◌⊛◌, some, later, ◌$◌, ◌∵◌, !, qed, by, move, keep, drop, split, split3}
use types.Kit.{join, fsplit, fjoin, fpick, feq_l, pick, suffices, use0, use1, await, rewrite}
use types.Run.{stop, fld, of_opd, no_more, and_then, returns, enter}
use types.ByLocal.{alloc_all, pass_all, free_all, look_at, get, get_in, sets, lands_as}
use types.Part.{agg, sub, whole}
use contract.Monad.{fact, fact_i}
use contract.Running.{tables}
use denote.Exit.{no}
use denote.RattleType.{RattleType, owns}
use denote.Signature.{types_at, plain}
use denote.Builtin.{RawPtr}
use denote.RawPtr.{Ptr}
use denote.Steps.{nothing, only, heard}
use denote.Param.{param, bounded}
use denote.Param.Laws.{Laws, param_laws}
use denote.Struct.Tuple.{Tuple}
use denote.Triple.Spec.{triple_of}
use denote.Triple.Call.{calls_at}
use denote.Triple.Table.{framed}
use denote.Triple.Walked.{Stays, stay_dropped, walk_of}
use Rattle.std.proofs.alloc.Calls.{Goes-blank, handle_tells}
use Rattle.std.proofs.raw_atomic.Walks.{proved_at, leaves}
use Rattle.std.specs.Box.Ownership.{box_owns}
use Rattle.std.specs.contracts.boxed.Box as boxed
use Rattle.std.specs.contracts.boxed.Box.into_raw_with_allocator as callee
use Rattle.std.proofs.boxed.Box.into_raw_with_allocator.Met.{met}
use Rattle.btcheck_c.proofs.TwoFields.{handles, word, pointer_fits, word_fits, cut, sew}
use Rattle.btcheck_c.specs.contracts.loose.loosen as f
use Rattle.btcheck_c.proofs.loose.loosen.Statement.{statement}
use Rattle.btcheck_c.proofs.loose.loosen.Code as code

pub loosen_spec : {M : Type 1} → statement M
loosen_spec 𝓤 𝓛 𝓜 𝓡 wired T A L LA g d dx dd allocator glue glued =
    let 𝓣 = tables 𝓤 𝓛.H 𝓜 𝓡 𝓡.env in let R : RattleType = param 0 T in let Z : RattleType = param 1 A in let LZ : Laws Z = param_laws 1 A LA in
    let types : Args = bounded (a_type ∷ a_type ∷ []) (T, (A, tt)) (dcons d (dcons dx (dcons dd dnil))) in let fn = inst_fn types code.function in
    let From : RattleType = boxed.the_row R Z g in let En = f.ended T A g d dx dd in let c = f.clauses T A g d dx dd 𝓛 𝓜.mem 𝓡.returns in
    let Callee = triple_of 𝓛 (callee.signature T A g d dd dx) (callee.spec T A g d dd dx 𝓛 𝓜.mem 𝓡.returns) in
    let hs : Stays En.signature.params En.kept = (stay_dropped (plain (λ _. From)) no, tt) in
    proved_at 𝓛 En hs c 𝓜 𝓡 (Goes-blank 𝓛 2 (plain (λ _. From)) no (λ κs x w. tt), tt) (f.Key.name types) fn
    (code.unfolded 𝓤 𝓛.H 𝓜 𝓡 wired (T, (A, tt)) d dx dd) (λ y are.
    let κs = y.0.0 in let qs = y.0.1 in let b : From.Denot = y.0.3.0 in let a : Z.Denot = b.alloc in let owned : Ptr →
    Fml = λ p. box_owns (g.dealloc_token a) R p b.value in
    let Post : Val → SProp 𝓤 = (walk_of 𝓛 En hs c).post y in let Run : List Val → SProp 𝓤 = λ vs. WpFn 𝓤 𝓛.H 𝓣.C 𝓣.Λ fn vs Post in
    let tokens : Item 𝓤 = ‵ (flft κs.0 qs.0) ⊛ ‵ (flft κs.1.0 qs.1.0) ⊛ ‵ ftrue in
    qed 𝓛 ((tokens ⊛ ‵ (owns (types_at En.signature.params κs) y.0.3 y.0.4)) ∷ raw ((c κs y.0.3).requires y.1) ∷ []) ∵
    -- how the machine stores the box
    split ! $ move ! (1 ∷ []) $ fsplit ! $ cut Z LZ g b.ptr a (owned b.ptr) ! y.0.4.0 (λ h spelled fits. sew Z LZ g b.ptr a (owned b.ptr) ! h $
    let typed = word_fits Z LZ g 𝓛 b.ptr h fits in let z : Callee.Ghost = ((κs, qs, tt, (b, tt), (word b.ptr h ∷ [], tt)), tt) in
    fjoin ! $ move ! (1 ∷ 0 ∷ []) $ join ! $ join ! $ use1 𝓛 (raw (Callee.pre z)) (id⊢ 𝓤 _) $
    suffices ! (Run (word b.ptr h ∷ [])) (subst (λ (vs : List Val). ent 𝓤 (Run (word b.ptr h ∷ [])) (Run vs))
    (sym (λ i. spelled i ++ [])) (id⊢ 𝓤 (Run (word b.ptr h ∷ [])))) $
    enter ! 𝓣.C 𝓣.Λ fn (word b.ptr h ∷ []) Post $ alloc_all ! (λ l. pass_all ! refl (typed, tt) $
    -- let (at, alloc) = Box::into_raw_with_allocator(whole);
    sets ! (of_opd ! (get ! refl)) refl typed $
    calls_at ! (framed 𝓤 𝓛.H 𝓜 𝓣) Callee (met 𝓤 𝓛 𝓜 𝓡 (code.calls-std_alloc::boxed::Box::into_raw_with_allocator 𝓡.env wired) T A L LA
    g d dd dx allocator glued glue) z
    (and_then ! (get ! refl) (no_more !)) (λ u.
    use1 𝓛 (later (some (λ (r : Ptr × A.Denot). (tokens ⊛ ‵ ((Tuple (RawPtr ∷ Z ∷ [])).own_val r (u ∷ []))) ⊛
    some (λ (_ : (Unit {0} × (Unit {0} × Unit {0})) × Unit {0}). ‵ (fsep (fsep ftrue (fsep ftrue ftrue)) ftrue) ⊛ (raw (fact 𝓤 (r.1 ≡ a)) ⊛
    ‵ (owned r.0)))))) (id⊢ 𝓤 _) $
    await ! tt $ pick ! (λ r. split ! $ move ! (1 ∷ []) $ pick ! (λ _. split3 ! $ drop ! $ heard ! (r.1 ≡ a) (λ same.
    -- the pair's pointer and handle
    move ! (1 ∷ []) $ split ! $ move ! (1 ∷ []) $ fpick ! (λ parts. fsplit ! $ feq_l ! (λ pair. fsplit ! $ feq_l ! (λ pointer. fsplit ! $
    rewrite ! 0 (λ (s : A.Denot). ‵ (A.own_val s parts.1.0)) same refl $ handle_tells (handles Z LZ g) ! a parts.1.0 (λ h' handle fits'.
    let p : Ptr = r.0 in let made = word_fits Z LZ g 𝓛 p h' fits' in
    lands_as ! (ap only (pair ∙ (λ j. vstruct (of_list (pointer j ++ (handle j ++ []))) ∷ []))) refl made $
    sets ! (of_opd ! (get_in ! (fld ! refl (stop !)) (sub ! 0 refl (whole !)))) refl (pointer_fits 𝓛 p) $
    sets ! (of_opd ! (get_in ! (fld ! refl (stop !)) (sub ! 1 refl (whole !)))) refl fits' $
    -- Loose { at, alloc }
    sets ! (of_opd ! (get ! refl)) refl fits' $ sets ! (agg ! (and_then ! (get ! refl) (and_then ! (get ! refl) (no_more !)))) refl made $
    move ! (3 ∷ 0 ∷ []) $ sew Z LZ g p a (owned p) ! h' $
    use0 𝓛 (raw (fact 𝓤 (b.value ≡ b.value))) (fact_i 𝓤 (b.value ≡ b.value) (emp 𝓤) refl) $ nothing ! $ nothing ! $ fjoin ! $
    -- [what is left of the box: nothing; the `ensures`; the struct; ..; the tokens]
    returns ! (look_at ! 0 refl) $ free_all ! refl $ keep ! (4 ∷ 0 ∷ 2 ∷ 1 ∷ []) $
    by ! (leaves 𝓛 En hs c y (word p h') (record { at = p; alloc = a; value = b.value }) ((tt, (tt, tt)), tt) (tt, tt)))))))))))))
