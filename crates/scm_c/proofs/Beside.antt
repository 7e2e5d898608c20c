-- A pointer beside an allocator, as the machine holds them: the two fields of a raw box and of a session's pointer, and the
-- pair into which a box is taken apart. Assumes `Logic`.
use Rattle.std.proofs.Common.{◌≡◌, ℕ, List, [], ◌∷◌, ◌++◌, refl, sym, subst, ◌∙◌}
use mathlib.Core.Bool.{true, ◌&&◌}
use lib.Dec.{T}
use seplogic.Ra.Ura.{Ura}
use mir.Syntax.{impl, tnil, dnil}
use mir.Val.{Val, vstruct, vcons, vnil, of_list, has_ty, WT}
use base.Logic.{SProp, ent, id⊢}
use base.Fml.{Fml}
use types.Logic.{Logic}
use types.Kit.{Item, Goal, Seq, Step, step, ‵, ◌$◌, move, drop, fsplit, fjoin, fpick, fpack, feq_i, feq_l}
use denote.RattleType.{RattleType, Valss}
use denote.Builtin.{RawPtr}
use denote.RawPtr.{Ptr, block_ptr, ptr_val}
use denote.Steps.{nothing}
use denote.Param.{layout}
use denote.Param.Laws.{Laws}
use denote.Struct.Struct.{Shape, Struct, within}
use Rattle.core.specs.declared.alloc.Allocator.{Ghosts}
use Rattle.core.proofs.alloc.Calls.{Al, handle_tells}
use Rattle.core.proofs.cell.Inside.{Good}
use Rattle.std_alloc.proofs.ResultValues.{and_tt}

-- the machine's value: a pointer, and then the allocator's
abbrev pub word : Ptr → Val → Val
word p h = vstruct (vcons (ptr_val p) (vcons h vnil))

module _ (A : RattleType) (laws : Laws A) (g : Ghosts A.Denot) where
  abbrev pub allocator : Al
  allocator = record { row = A; laws = laws; g = g; d = impl [] tnil dnil; drops = impl [] tnil dnil }

  abbrev fields : Shape
  fields = record { name = []; args = []; types = []; fields = RawPtr ∷ A ∷ [] }

  -- what is owned of the two as fields: what is owned of the allocator
  abbrev pub beside : Ptr → A.Denot → List Val → Fml
  beside p a vs = (Struct fields).own_val (p, (a, tt)) vs

  -- a word at a block is of its type
  pub word_good : (b o : ℕ) (h : Val) → Good (layout A) h → T (has_ty (layout A) h && true) × WT (word (block_ptr b o) h)
  word_good b o h good = (and_tt (has_ty (layout A) h) good.0, (tt, (good.1, tt)))

  module _ {M : Type 1} {𝓤 : Ura M} {𝓛 : Logic 𝓤} {K : Type 0} {Γ : List (Item 𝓤)} {G : Goal 𝓤 𝓛.H} where
    -- a struct of the two is a word, and there is what the allocator owns
    pub beside_out : K → (p : Ptr) (a : A.Denot) (vs : List Val)
        → ((h : Val) → vs ≡ word p h ∷ [] → Good (layout A) h → Seq K 𝓛 (‵ (A.own_val a (h ∷ [])) ∷ Γ) G)
        → Seq K 𝓛 (‵ (beside p a vs) ∷ Γ) G
    beside_out t p a vs next =
        fpick t (λ parts. fsplit t $ feq_l t (λ whole. fsplit t $ feq_l t (λ pointer. fsplit t $
        -- [the allocator; the end of the fields]
        move t (1 ∷ []) $ drop t $ handle_tells allocator t a parts.1.0 (λ h one good.
        next h (whole ∙ (λ i. vstruct (of_list (pointer i ++ (one i ++ []))) ∷ [])) good))))

    -- and a word is made of them
    pub beside_in : K → (p : Ptr) (a : A.Denot) (h : Val) → Step K 𝓛 (‵ (beside p a (word p h ∷ [])) ∷ Γ) G (‵ (A.own_val a (h ∷ [])) ∷ Γ) G
    beside_in t p a h = step (λ rest.
        nothing t $ move t (1 ∷ 0 ∷ []) $ fjoin t $
        feq_i t (List Val) (ptr_val p ∷ []) (ptr_val p ∷ []) refl $ fjoin t $
        feq_i t (List Val) (word p h ∷ []) (word p h ∷ []) refl $ fjoin t $
        fpack t (Valss (RawPtr ∷ A ∷ [])) (within fields (p, (a, tt)) (word p h ∷ [])) (ptr_val p ∷ [], (h ∷ [], tt)) $ rest)

-- a run from the one argument w is a run from a list that is that argument
pub from_word : {M : Type 1} (𝓤 : Ura M) (Run : List Val → SProp 𝓤) (vs : List Val) (w : Val) → vs ≡ w ∷ [] → ent 𝓤 (Run (w ∷ [])) (Run (vs ++ []))
from_word 𝓤 Run vs w e = subst (λ (us : List Val). ent 𝓤 (Run (w ∷ [])) (Run us)) (sym (λ i. e i ++ [])) (id⊢ 𝓤 (Run (w ∷ [])))
