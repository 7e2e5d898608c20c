-- `into_raw_box` knows the type again to which the pointer points.
use Rattle.std.proofs.Common.{◌≡◌, List, [], ◌∷◌, Option, Some, is_some, IsTrue, refl, ap, ◌∙◌}
use mir.Val.{Val}
use base.Logic.{SProp, emp}
use base.Fml.{ftrue}
use prog.Wp.{WpFn}
use types.Kit.{‵, raw, ◌⊛◌, ◌$◌, ◌∵◌, !, qed, by, move, keep, split, fsplit, fjoin, suffices, use0, rewrite}
use types.Run.{stop, fld, of_opd, no_more, and_then, returns, enter}
use types.ByLocal.{alloc_all, pass_all, free_all, look_at, get, get_in, sets}
use types.Part.{agg, sub, whole}
use contract.Monad.{fact, fact_i}
use contract.Running.{tables}
use denote.Exit.{yes}
use denote.RattleType.{owns}
use denote.RawPtr.{Ptr, block_ptr}
use denote.Signature.{types_at, plain}
use denote.Steps.{nothing, heard}
use denote.Triple.Walked.{Stays, stay_dropped, walk_of}
use Rattle.core.proofs.alloc.Calls.{Goes-blank}
use Rattle.std.proofs.raw_atomic.Walks.{proved_at, leaves}
use Rattle.std.specs.contracts.alloc.Global.{the_row as Heap}
use Rattle.std.proofs.alloc.Global.TheLaws.{the_row_laws as heap_laws}
use Rattle.std.specs.contracts.impls.GlobalAllocator.TheImpl.{ghosts}
use Rattle.scm_open_session.specs.contracts.open_session.OpenSession.{the_row as Value}
use Rattle.scm_c.proofs.Beside.{word, word_good, from_word}
use Rattle.scm_c.proofs.RawBoxes.{placed, raw_box_in}
use Rattle.scm_c.proofs.SessionPtrs.{SessionPtr, some_value, pointer_out}
use Rattle.scm_c.specs.Ownership.{pointer_owns}
use Rattle.scm_open_session.specs.declared.open_session.OpenSession.{OpenSession}
use Rattle.scm_c.specs.contracts.c_session.SessionPtr.into_raw_box as f
use Rattle.scm_c.proofs.c_session.SessionPtr.into_raw_box.Statement.{statement}
use Rattle.scm_c.proofs.c_session.SessionPtr.into_raw_box.Code as code

abbrev stayed : Stays f.ended.signature.params f.ended.kept
stayed = (stay_dropped (plain (λ _. SessionPtr)) yes, tt)

pub into_raw_box_spec : {M : Type 1} → statement M
into_raw_box_spec 𝓤 𝓛 𝓜 𝓡 wired =
    let H = 𝓛.H in let 𝓣 = tables 𝓤 H 𝓜 𝓡 𝓡.env in let En = f.ended in let c = f.clauses 𝓛 𝓜.mem 𝓡.returns in
    proved_at 𝓛 En stayed c 𝓜 𝓡 (Goes-blank 𝓛 0 (plain (λ _. SessionPtr)) yes (λ κs x w. tt), tt) f.Key.name code.function (code.unfolded 𝓤 H 𝓜 𝓡 wired) (λ z are.
    let v = z.0.3.0 in let a = v.alloc in let Post : Val → SProp 𝓤 = (walk_of 𝓛 En stayed c).post z in let Run : List Val → SProp 𝓤 = λ ws. WpFn 𝓤 H 𝓣.C 𝓣.Λ code.function ws Post in
    let Asked = IsTrue (is_some v.value) in
    qed 𝓛 ((‵ ftrue ⊛ ‵ (owns (types_at En.signature.params z.0.0) z.0.3 z.0.4)) ∷ raw (fact 𝓤 Asked) ∷ []) ∵ move ! (1 ∷ []) $ heard ! Asked (λ asked. split ! $ move ! (1 ∷ []) $ fsplit ! $
    let x = (some_value v.value asked).0 in let there = (some_value v.value asked).1 in
    pointer_out ! v z.0.4.0 (λ h ws fits. rewrite ! 0 (λ (o : Option OpenSession). ‵ (pointer_owns Value v.alloc v.at o)) there refl $
    placed Value Heap heap_laws ghosts ! a v.at x (λ b o e.
    let w : Val = word (block_ptr b o) h in let typed = word_good Heap heap_laws ghosts b o h fits in
    let is : z.0.4.0 ≡ w ∷ [] = ws ∙ ap (λ (p : Ptr). word p h ∷ []) e in
    suffices ! _ (from_word 𝓤 Run z.0.4.0 w is) $
    enter ! 𝓣.C 𝓣.Λ code.function (w ∷ []) Post $ alloc_all ! (λ l. pass_all ! refl (typed, tt) $
    sets ! (of_opd ! (get_in ! (fld ! refl (stop !)) (sub ! 0 refl (whole !)))) refl (tt, tt) $
    sets ! (of_opd ! (get_in ! (fld ! refl (stop !)) (sub ! 1 refl (whole !)))) refl fits $
    sets ! (of_opd ! (get ! refl)) refl (tt, tt) $
    sets ! (agg ! (and_then ! (get ! refl) (and_then ! (get ! refl) (no_more !)))) refl typed $
    raw_box_in Value Heap heap_laws ghosts ! b o a h x $
    use0 𝓛 (raw (fact 𝓤 (v.value ≡ Some x))) (fact_i 𝓤 (v.value ≡ Some x) (emp 𝓤) there) $ nothing ! $ nothing ! $ fjoin ! $
    returns ! (look_at ! 0 refl) $ free_all ! refl $ keep ! (4 ∷ 0 ∷ 2 ∷ 1 ∷ []) $
    by ! (leaves 𝓛 En stayed c z w (record { at = block_ptr b o; alloc = a; value = x }) (tt, tt) (tt, tt)))))))
