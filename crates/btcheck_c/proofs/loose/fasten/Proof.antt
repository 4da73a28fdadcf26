-- `fasten` hands the pointer, the handle and what lies behind the pointer to `from_raw`, and gives back its box.
use Rattle.std.proofs.Common.{◌≡◌, List, [], ◌∷◌, ◌++◌, refl, sym, ap, subst}
use mir.Syntax.{Args, a_type, dcons, dnil}
use mir.Val.{Val, has_ty, WT}
use lib.Dec.{T as IsTrue}
use mir.MapTy.{inst_fn}
use base.Logic.{SProp, ent, id⊢}
use base.Fml.{Fml, ftrue, flft}
use prog.Wp.{WpFn}
use types.Kit.{Item, ‵, raw, ◌⊛◌, some, later, at_ret, ◌$◌, ◌∵◌, !, qed, by, move, keep, drop, split}
use types.Kit.{split3, join, fsplit, fjoin, pick, suffices, use1, await, rewrite, feq_i}
use types.Run.{stop, fld, of_opd, no_more, and_then, first, blocks, exec, returns, enter}
use types.ByLocal.{alloc_all, pass_all, free_all, look_at, get, get_in, sets, lands_last, env}
use types.Part.{sub, whole}
use contract.Monad.{fact}
use contract.BorrowLft.{◌⊑◌}
use contract.Running.{tables}
use denote.Exit.{no}
use denote.RattleType.{RattleType, owns}
use denote.Signature.{types_at, plain}
use denote.RawPtr.{Ptr, ptr_val}
use denote.Steps.{nothing, only}
use denote.Param.{param, layout, bounded}
use denote.Param.Laws.{Laws, param_laws}
use denote.Triple.Clauses.{Lasts, lasts}
use denote.Triple.Spec.{triple_of}
use denote.Triple.Call.{calls_at_last}
use denote.Triple.Table.{framed}
use denote.Triple.Walked.{Stays, stay_dropped, walk_of}
use Rattle.std.proofs.alloc.Calls.{Goes-blank}
use Rattle.std.proofs.alloc.Shapes.{after}
use Rattle.std.proofs.raw_atomic.Walks.{proved_at, leaves}
use Rattle.std.specs.Box.Ownership.{box_owns}
use Rattle.std.specs.contracts.boxed.Box as boxed
use Rattle.std.specs.contracts.boxed.Box.from_raw as callee
use Rattle.std.proofs.boxed.Box.from_raw.Met.{met}
use Rattle.btcheck_c.specs.contracts.loose.Loose as loose
use Rattle.btcheck_c.proofs.TwoFields.{word, pointer_fits, word_fits, cut, sew}
use Rattle.btcheck_c.specs.contracts.loose.fasten as f
use Rattle.btcheck_c.proofs.loose.fasten.Statement.{statement}
use Rattle.btcheck_c.proofs.loose.fasten.Code as code

pub fasten_spec : {M : Type 1} → statement M
fasten_spec 𝓤 𝓛 𝓜 𝓡 wired T A L LA g d dd allocator glued =
    let 𝓣 = tables 𝓤 𝓛.H 𝓜 𝓡 𝓡.env in let R : RattleType = param 0 T in let Z : RattleType = param 1 A in let LZ : Laws Z = param_laws 1 A LA in
    let types : Args = bounded (a_type ∷ a_type ∷ []) (T, (A, tt)) (dcons d (dcons dd dnil)) in let fn = inst_fn types code.function in
    let From : RattleType = loose.the_row R Z g in let To : RattleType = boxed.the_row R Z g in let En = f.ended T A g d dd in
    let c = f.clauses T A g d dd 𝓛 𝓜.mem 𝓡.returns in
    let Callee = triple_of 𝓛 (callee.signature T A g d dd) (callee.spec T A g d dd 𝓛 𝓜.mem 𝓡.returns) in
    let hs : Stays En.signature.params En.kept = (stay_dropped (plain (λ _. From)) no, tt) in
    proved_at 𝓛 En hs c 𝓜 𝓡 (Goes-blank 𝓛 2 (plain (λ _. From)) no (λ κs x w. tt), tt) (f.Key.name types) fn
    (code.unfolded 𝓤 𝓛.H 𝓜 𝓡 wired (T, (A, tt)) d dd) (λ y are.
    let κs = y.0.0 in let qs = y.0.1 in let from : From.Denot = y.0.3.0 in let p : Ptr = from.at in let a : Z.Denot = from.alloc in
    let owned : Fml = box_owns (g.dealloc_token a) R p from.value in
    let Post : Val → SProp 𝓤 = (walk_of 𝓛 En hs c).post y in let Run : List Val → SProp 𝓤 = λ vs. WpFn 𝓤 𝓛.H 𝓣.C 𝓣.Λ fn vs Post in
    let tokens : Item 𝓤 = ‵ (flft κs.0 qs.0) ⊛ ‵ (flft κs.1.0 qs.1.0) ⊛ ‵ ftrue in
    qed 𝓛 ((tokens ⊛ ‵ (owns (types_at En.signature.params κs) y.0.3 y.0.4)) ∷ raw ((c κs y.0.3).requires y.1) ∷ []) ∵
    split ! $ move ! (1 ∷ []) $ fsplit ! $ cut Z LZ g p a owned ! y.0.4.0 (λ h spelled fits.
    let typed = word_fits Z LZ g 𝓛 p h fits in let z : Callee.Ghost = ((κs, qs, tt, (a, (p, tt)), (h ∷ [], (ptr_val p ∷ [], tt))), from.value) in
    -- what `from_raw` asks for: the tokens, its two parameters, that both types outlive them, and the memory
    move ! (4 ∷ []) $ use1 𝓛 (raw (fact 𝓤 (κs.0 ⊑ T.lives)) ⊛ raw (fact 𝓤 (κs.1.0 ⊑ A.lives)) ⊛ ‵ ftrue) (id⊢ 𝓤 _) $ split3 ! $ move ! (2 ∷ []) $ drop ! $
    move ! (1 ∷ 2 ∷ []) $ join ! $ move ! (1 ∷ 0 ∷ []) $ join ! $ move ! (2 ∷ []) $
    feq_i ! (List Val) (ptr_val p ∷ []) (ptr_val p ∷ []) refl $ fjoin ! $ move ! (2 ∷ 0 ∷ []) $ fjoin ! $ move ! (2 ∷ 0 ∷ []) $ join ! $ join ! $
    use1 𝓛 (raw (Callee.pre z)) (id⊢ 𝓤 _) $
    suffices ! (Run (word p h ∷ [])) (subst (λ (vs : List Val). ent 𝓤 (Run (word p h ∷ [])) (Run vs))
    (sym (λ i. spelled i ++ [])) (id⊢ 𝓤 (Run (word p h ∷ [])))) $
    enter ! 𝓣.C 𝓣.Λ fn (word p h ∷ []) Post $ alloc_all ! (λ l. pass_all ! refl (typed, tt) $ let Ev = env fn.locals l in
    -- let Loose { at, alloc } = loose;
    sets ! (of_opd ! (get_in ! (fld ! refl (stop !)) (sub ! 0 refl (whole !)))) refl (pointer_fits 𝓛 p) $
    sets ! (of_opd ! (get_in ! (fld ! refl (stop !)) (sub ! 1 refl (whole !)))) refl fits $
    -- unsafe { Box::from_raw(alloc, at) }
    first ! $ blocks ! $ sets ! (of_opd ! (get ! refl)) refl fits $
    calls_at_last ! (framed 𝓤 𝓛.H 𝓜 𝓣) Callee (met 𝓤 𝓛 𝓜 𝓡 (code.calls-std_alloc::boxed::Box::from_raw 𝓡.env wired) T A L LA g d dd allocator glued) z
    (and_then ! (get ! refl) (and_then ! (get ! refl) (no_more !))) (λ u.
    use1 𝓛 (later (some (λ (r : To.Denot). (tokens ⊛ ‵ (To.own_val r (u ∷ []))) ⊛
    some (λ (ls : Lasts (callee.ended T A g d dd) κs z.0.3). ‵ (lasts (callee.ended T A g d dd) κs z.0.3 ls) ⊛ (raw (fact 𝓤 (r.value ≡ from.value)) ⊛
    raw (fact 𝓤 (r.alloc ≡ a))))))) (id⊢ 𝓤 (Callee.post z u)) $
    await ! tt $ pick ! (λ r. split ! $ move ! (1 ∷ []) $ pick ! (λ _. split3 ! $ drop ! $ move ! (2 ∷ []) $ split ! $ move ! (1 ∷ []) $
    -- how the machine stores the box
    let owned' : Fml = box_owns (g.dealloc_token r.alloc) R r.ptr r.value in
    cut Z LZ g r.ptr r.alloc owned' ! (u ∷ []) (λ h' spelled' fits'. sew Z LZ g r.ptr r.alloc owned' ! h' $
    rewrite ! 0 (λ (vs : List Val). ‵ (To.own_val r vs)) (sym spelled') refl $
    let good : IsTrue (has_ty (layout To) u) × WT u =
    subst (λ v. IsTrue (has_ty (layout To) v) × WT v) (sym (ap only spelled')) (word_fits Z LZ g 𝓛 r.ptr h' fits') in
    lands_last ! refl good $ exec ! 𝓣.C 𝓣.Λ Ev (after 3 fn.body) (at_ret Ev Post) $ sets ! (of_opd ! (get ! refl)) refl good $ nothing ! $ nothing ! $
    fjoin ! $
    returns ! (look_at ! 0 refl) $ free_all ! refl $ keep ! (2 ∷ 0 ∷ 1 ∷ 3 ∷ []) $
    by ! (leaves 𝓛 En hs c y u r ((tt, (tt, tt)), tt) (tt, tt)))))))))
