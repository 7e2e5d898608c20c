-- `of` hands its box to `into_raw_with_allocator`, and makes its two fields of the pair that comes back.
use Rattle.std.proofs.Common.{◌≡◌, [], ◌∷◌, refl, ap, ◌∙◌}
use mir.Syntax.{a_type, dcons, dnil}
use mir.Val.{Val}
use mir.MapTy.{inst_fn}
use base.Logic.{SProp, emp, id⊢}
use base.Fml.{ftrue, fsep, flft}
use prog.Wp.{WpFn}
use types.Kit.{Item, ‵, raw, ◌⊛◌, some, later, ◌$◌, ◌∵◌, !, qed, by, move, keep, drop, split, split3, join, fsplit, fjoin, pick, suffices, use0, use1, await, rewrite}
use types.Run.{stop, fld, of_opd, no_more, and_then, returns, enter}
use types.ByLocal.{alloc_all, pass_all, free_all, look_at, get, get_in, sets, lands_as}
use types.Part.{agg, sub, whole}
use contract.Monad.{fact, fact_i}
use contract.Running.{tables}
use denote.Exit.{no}
use denote.RattleType.{RattleType, owns}
use denote.Signature.{types_at, plain}
use denote.Builtin.{RawPtr}
use denote.RawPtr.{Ptr, block_ptr}
use denote.Steps.{nothing, only, heard}
use denote.Param.{param, bounded}
use denote.Param.Laws.{Laws, param_laws}
use denote.Struct.Tuple.{Tuple}
use denote.Triple.Spec.{triple_of}
use denote.Triple.Call.{calls_at}
use denote.Triple.Walked.{Stays, stay_dropped, walk_of}
use Rattle.core.proofs.alloc.Calls.{Goes-blank}
use Rattle.core.proofs.atomic.Steps.{fm}
use Rattle.std_alloc.proofs.BoxSteps.Form as form
use Rattle.std_alloc.proofs.BoxSteps.Steps.{box_out, box_in}
use Rattle.std.proofs.raw_atomic.Walks.{proved_at, leaves}
use Rattle.std_alloc.specs.contracts.boxed.Box.into_raw_with_allocator as callee
use Rattle.std_alloc.proofs.boxed.Box.into_raw_with_allocator.Met as callee_is
use Rattle.scm_c.proofs.Beside.{word, word_good, beside_out, from_word}
use Rattle.scm_c.proofs.RawBoxes.{block, placed, raw_box_in}
use Rattle.scm_c.specs.contracts.raw_box.RawBox.of as f
use Rattle.scm_c.proofs.raw_box.RawBox.of.Statement.{statement}
use Rattle.scm_c.proofs.raw_box.RawBox.of.Code as code

pub of_spec : {M : Type 1} → statement M
of_spec 𝓤 𝓛 𝓜 𝓡 wired T A lawsT lawsA g d dx dd allocator glue glued =
    -- the value's type and the allocator's, and the box over them
    let R : RattleType = param 0 T in let Z : RattleType = param 1 A in let laws : Laws Z = param_laws 1 A lawsA in
    let E : form.Bx = record { row = T; laws = lawsT; al = record { row = A; laws = lawsA; g = g; d = d; drops = dd } } in let Boxed : RattleType = form.B E in
    -- the function at these types, and what the call in it keeps to
    let types = bounded (a_type ∷ a_type ∷ []) (T, (A, tt)) (dcons d (dcons dx (dcons dd dnil))) in let fn = inst_fn types code.function in
    let clauses = f.clauses T A g d dx dd 𝓛 𝓜.mem 𝓡.returns in let ended = f.ended T A g d dx dd in
    let stays : Stays ended.signature.params ended.kept = (stay_dropped (plain (λ _. Boxed)) no, tt) in
    let parted = triple_of 𝓛 (callee.signature T A g d dd dx) (callee.spec T A g d dd dx 𝓛 𝓜.mem 𝓡.returns) in
    let parts = callee_is.met 𝓤 𝓛 𝓜 𝓡 (code.calls-std_alloc::boxed::Box::into_raw_with_allocator 𝓡.env wired) T A lawsT lawsA g d dd dx allocator glued glue in
    let 𝓣 = tables 𝓤 𝓛.H 𝓜 𝓡 𝓡.env in
    proved_at 𝓛 ended stays clauses 𝓜 𝓡 (Goes-blank 𝓛 2 (plain (λ _. Boxed)) no (λ κs x w. tt), tt) (f.Key.name types) fn (code.unfolded 𝓤 𝓛.H 𝓜 𝓡 wired (T, (A, tt)) d dx dd) (λ z are.
    let κs = z.0.0 in let boxed : Boxed.Denot = z.0.3.0 in let a : A.Denot = boxed.alloc in let x : T.Denot = boxed.value in
    let After : Val → SProp 𝓤 = (walk_of 𝓛 ended stays clauses).post z in
    let tokens : Item 𝓤 = ‵ (flft κs.0 z.0.1.0) ⊛ ‵ (flft κs.1.0 z.0.1.1.0) ⊛ ‵ ftrue in
    qed 𝓛 ((tokens ⊛ ‵ (owns (types_at ended.signature.params κs) z.0.3 z.0.4)) ∷ raw ((clauses κs z.0.3).requires z.1) ∷ []) ∵
    -- a box is a word: the call takes it, with the tokens and the types' facts
    split ! $ move ! (1 ∷ []) $ fsplit ! $ box_out E ! boxed z.0.4.0 (λ b o h at is good. box_in E ! boxed b o x at refl $
    let w : Val = form.word E h b o in let typed = form.box_typed E h b o good in
    let given : parted.Ghost = ((κs, z.0.1, tt, (boxed, tt), (w ∷ [], tt)), tt) in
    fjoin ! $ move ! (1 ∷ 0 ∷ []) $ join ! $ join ! $ use1 𝓛 (raw (parted.pre given)) (id⊢ 𝓤 _) $
    suffices ! _ (from_word 𝓤 (λ us. WpFn 𝓤 𝓛.H 𝓣.C 𝓣.Λ fn us After) z.0.4.0 w is) $
    enter ! 𝓣.C 𝓣.Λ fn (w ∷ []) After $ alloc_all ! (λ l. pass_all ! refl (typed, tt) $
    sets ! (of_opd ! (get ! refl)) refl typed $
    calls_at ! (fm 𝓛 𝓜 𝓡) parted parts given (and_then ! (get ! refl) (no_more !)) (λ u.
    -- what comes back: the tokens with the pair; nothing of the box; the same allocator, and the block
    use1 𝓛 (later (some (λ (r : Ptr × A.Denot). (tokens ⊛ ‵ ((Tuple (RawPtr ∷ Z ∷ [])).own_val r (u ∷ [])))
    ⊛ some (λ (left : (Unit {0} × (Unit {0} × Unit {0})) × Unit {0}). ‵ (fsep (fsep ftrue (fsep ftrue ftrue)) ftrue) ⊛ (raw (fact 𝓤 (r.1 ≡ a)) ⊛ ‵ (block R Z laws g a r.0 x)))))) (id⊢ 𝓤 _) $
    await ! tt $ pick ! (λ r. split ! $ move ! (1 ∷ []) $ pick ! (λ left. split3 ! $ drop ! $ heard ! (r.1 ≡ a) (λ same.
    placed R Z laws g ! a r.0 x (λ b' o' there. move ! (1 ∷ []) $ split ! $ move ! (1 ∷ []) $
    beside_out Z laws g ! r.0 r.1 (u ∷ []) (λ h' pair good'. rewrite ! 0 (λ (y : A.Denot). ‵ (A.own_val y (h' ∷ []))) same refl $
    -- [the allocator; the tokens; the block]: the pair is taken apart, and its parts are the fields
    let made = word_good Z laws g b' o' h' good' in
    lands_as ! (ap only pair ∙ ap (λ (p : Ptr). word p h') there) refl made $
    sets ! (of_opd ! (get_in ! (fld ! refl (stop !)) (sub ! 0 refl (whole !)))) refl (tt, tt) $
    sets ! (of_opd ! (get_in ! (fld ! refl (stop !)) (sub ! 1 refl (whole !)))) refl good' $
    sets ! (of_opd ! (get ! refl)) refl good' $
    sets ! (agg ! (and_then ! (get ! refl) (and_then ! (get ! refl) (no_more !)))) refl made $
    move ! (2 ∷ 0 ∷ []) $ raw_box_in R Z laws g ! b' o' a h' x $
    -- [the raw box; the tokens], and that its value is the box's
    use0 𝓛 (raw (fact 𝓤 (x ≡ x))) (fact_i 𝓤 (x ≡ x) (emp 𝓤) refl) $ nothing ! $ nothing ! $ fjoin ! $
    returns ! (look_at ! 0 refl) $ free_all ! refl $ keep ! (3 ∷ 0 ∷ 2 ∷ 1 ∷ []) $
    by ! (leaves 𝓛 ended stays clauses z (word (block_ptr b' o') h') (record { at = block_ptr b' o'; alloc = a; value = x }) ((tt, (tt, tt)), tt) (tt, tt)))))))))))
