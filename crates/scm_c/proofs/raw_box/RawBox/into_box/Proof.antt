-- `into_box` hands its two fields to `from_raw`, and answers the box that comes back.
use Rattle.std.proofs.Common.{◌≡◌, List, [], ◌∷◌, refl, sym, ap, subst}
use mir.Syntax.{a_type, dcons, dnil}
use mir.Val.{Val, vptr}
use mir.MapTy.{inst_fn}
use base.Logic.{SProp, id⊢}
use base.Fml.{ftrue, flft}
use prog.Wp.{WpFn}
use types.Kit.{Item, ‵, raw, ◌⊛◌, some, later, at_ret, ◌$◌, ◌∵◌, !, qed, by, move, keep, drop, split, split3, join, fsplit, fjoin, pick, suffices, use1, await, rewrite, feq_i}
use types.Run.{stop, fld, of_opd, no_more, and_then, first, blocks, exec, returns, enter}
use types.ByLocal.{alloc_all, pass_all, free_all, look_at, get, get_in, sets, lands_last, env}
use types.Part.{sub, whole}
use contract.Monad.{fact}
use contract.BorrowLft.{◌⊑◌}
use contract.Running.{tables}
use denote.Exit.{no}
use denote.RattleType.{RattleType, owns}
use denote.Signature.{types_at, plain}
use denote.RawPtr.{block_ptr}
use denote.Steps.{nothing, only}
use denote.Param.{param, layout, bounded}
use denote.Param.Laws.{Laws, param_laws}
use denote.Triple.Clauses.{Lasts, lasts}
use denote.Triple.Spec.{triple_of}
use denote.Triple.Call.{calls_at_last}
use denote.Triple.Walked.{Stays, stay_dropped, walk_of}
use Rattle.core.proofs.alloc.Calls.{Goes-blank}
use Rattle.core.proofs.alloc.Shapes.{after}
use Rattle.core.proofs.atomic.Steps.{fm}
use Rattle.core.proofs.cell.Inside.{Good}
use Rattle.std_alloc.proofs.BoxSteps.Form as form
use Rattle.std_alloc.proofs.BoxSteps.Steps.{box_out, box_in}
use Rattle.std.proofs.raw_atomic.Walks.{proved_at, leaves}
use Rattle.std_alloc.specs.contracts.boxed.Box.from_raw as callee
use Rattle.std_alloc.proofs.boxed.Box.from_raw.Met as callee_is
use Rattle.scm_c.proofs.Beside.{word, word_good, from_word}
use Rattle.scm_c.proofs.RawBoxes.{RawBox, raw_box_out}
use Rattle.scm_c.specs.contracts.raw_box.RawBox.into_box as f
use Rattle.scm_c.proofs.raw_box.RawBox.into_box.Statement.{statement}
use Rattle.scm_c.proofs.raw_box.RawBox.into_box.Code as code

pub into_box_spec : {M : Type 1} → statement M
into_box_spec 𝓤 𝓛 𝓜 𝓡 wired T A lawsT lawsA g d dx dd allocator glue glued =
    -- the value's type and the allocator's, the box over them, and the raw one
    let R : RattleType = param 0 T in let Z : RattleType = param 1 A in let laws : Laws Z = param_laws 1 A lawsA in
    let E : form.Bx = record { row = T; laws = lawsT; al = record { row = A; laws = lawsA; g = g; d = d; drops = dd } } in let Boxed : RattleType = form.B E in
    let Parted : RattleType = RawBox R Z laws g in
    -- the function at these types, and what the call in it keeps to
    let types = bounded (a_type ∷ a_type ∷ []) (T, (A, tt)) (dcons d (dcons dx (dcons dd dnil))) in let fn = inst_fn types code.function in
    let clauses = f.clauses T A g d dx dd 𝓛 𝓜.mem 𝓡.returns in let ended = f.ended T A g d dx dd in
    let stays : Stays ended.signature.params ended.kept = (stay_dropped (plain (λ _. Parted)) no, tt) in
    let boxing = triple_of 𝓛 (callee.signature T A g d dd) (callee.spec T A g d dd 𝓛 𝓜.mem 𝓡.returns) in
    let boxes = callee_is.met 𝓤 𝓛 𝓜 𝓡 (code.calls-std_alloc::boxed::Box::from_raw 𝓡.env wired) T A lawsT lawsA g d dd allocator glued in
    let 𝓣 = tables 𝓤 𝓛.H 𝓜 𝓡 𝓡.env in
    proved_at 𝓛 ended stays clauses 𝓜 𝓡 (Goes-blank 𝓛 2 (plain (λ _. Parted)) no (λ κs x w. tt), tt) (f.Key.name types) fn (code.unfolded 𝓤 𝓛.H 𝓜 𝓡 wired (T, (A, tt)) d dx dd) (λ z are.
    let κs = z.0.0 in let parted : Parted.Denot = z.0.3.0 in let a : A.Denot = parted.alloc in
    let After : Val → SProp 𝓤 = (walk_of 𝓛 ended stays clauses).post z in
    let tokens : Item 𝓤 = ‵ (flft κs.0 z.0.1.0) ⊛ ‵ (flft κs.1.0 z.0.1.1.0) ⊛ ‵ ftrue in
    qed 𝓛 ((tokens ⊛ ‵ (owns (types_at ended.signature.params κs) z.0.3 z.0.4)) ∷ raw ((clauses κs z.0.3).requires z.1) ∷ []) ∵
    split ! $ move ! (1 ∷ []) $ fsplit ! $ raw_box_out R Z laws g ! parted z.0.4.0 (λ b o h is good.
    -- [the block; the allocator; the end of the parameters; the tokens; that both types outlive their lifetimes]
    let w : Val = word (block_ptr b o) h in let typed = word_good Z laws g b o h good in
    let given : boxing.Ghost = ((κs, z.0.1, tt, (a, (block_ptr b o, tt)), (h ∷ [], (vptr b o ∷ [], tt))), parted.value) in
    move ! (4 ∷ []) $ use1 𝓛 (raw (fact 𝓤 (κs.0 ⊑ T.lives)) ⊛ raw (fact 𝓤 (κs.1.0 ⊑ A.lives)) ⊛ ‵ ftrue) (id⊢ 𝓤 _) $ split3 ! $
    move ! (2 ∷ []) $ drop ! $ move ! (1 ∷ 2 ∷ []) $ join ! $ move ! (1 ∷ 0 ∷ []) $ join ! $
    -- the pointer and the allocator are the call's arguments, in the other order
    move ! (2 ∷ []) $ feq_i ! (List Val) (vptr b o ∷ []) (vptr b o ∷ []) refl $ fjoin ! $ move ! (2 ∷ 0 ∷ []) $ fjoin ! $ move ! (2 ∷ 0 ∷ []) $ join ! $ join ! $
    use1 𝓛 (raw (boxing.pre given)) (id⊢ 𝓤 _) $
    suffices ! _ (from_word 𝓤 (λ us. WpFn 𝓤 𝓛.H 𝓣.C 𝓣.Λ fn us After) z.0.4.0 w is) $
    enter ! 𝓣.C 𝓣.Λ fn (w ∷ []) After $ alloc_all ! (λ l. pass_all ! refl (typed, tt) $
    sets ! (of_opd ! (get_in ! (fld ! refl (stop !)) (sub ! 0 refl (whole !)))) refl (tt, tt) $
    sets ! (of_opd ! (get_in ! (fld ! refl (stop !)) (sub ! 1 refl (whole !)))) refl good $
    first ! $ blocks ! $ sets ! (of_opd ! (get ! refl)) refl good $
    calls_at_last ! (fm 𝓛 𝓜 𝓡) boxing boxes given (and_then ! (get ! refl) (and_then ! (get ! refl) (no_more !))) (λ u.
    -- what comes back: the tokens with a box; nothing of the parts; its value, and its allocator
    use1 𝓛 (later (some (λ (r : Boxed.Denot). (tokens ⊛ ‵ (Boxed.own_val r (u ∷ [])))
    ⊛ some (λ (left : Lasts (callee.ended T A g d dd) κs given.0.3). ‵ (lasts (callee.ended T A g d dd) κs given.0.3 left) ⊛ (raw (fact 𝓤 (r.value ≡ parted.value)) ⊛ raw (fact 𝓤 (r.alloc ≡ a))))))) (id⊢ 𝓤 (boxing.post given u)) $
    await ! tt $ pick ! (λ r. split ! $ move ! (1 ∷ []) $ pick ! (λ left. split3 ! $ drop ! $ move ! (2 ∷ []) $ split ! $ move ! (1 ∷ []) $
    -- a box is a word, of its type
    box_out E ! r (u ∷ []) (λ b' o' h' at is' good'. box_in E ! r b' o' r.value at refl $ rewrite ! 0 (λ (us : List Val). ‵ (Boxed.own_val r us)) (sym is') refl $
    let fits : Good (layout Boxed) u = subst (Good (layout Boxed)) (sym (ap only is')) (form.box_typed E h' b' o' good') in
    lands_last ! refl fits $ exec ! 𝓣.C 𝓣.Λ (env fn.locals l) (after 3 fn.body) (at_ret (env fn.locals l) After) $
    sets ! (of_opd ! (get ! refl)) refl fits $ nothing ! $ nothing ! $ fjoin ! $
    returns ! (look_at ! 0 refl) $ free_all ! refl $ keep ! (2 ∷ 0 ∷ 1 ∷ 3 ∷ []) $
    by ! (leaves 𝓛 ended stays clauses z u r ((tt, (tt, tt)), tt) (tt, tt)))))))))
