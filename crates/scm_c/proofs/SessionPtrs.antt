-- A session's pointer, as the machine holds it: the pointer beside the heap, and the session in its block, if any. Assumes
-- `Logic`.
use Rattle.std.proofs.Common.{◌≡◌, List, [], ◌∷◌, Option, Some, None, is_some, IsTrue, refl}
use Rattle.std.proofs.lemmas.Bool.{false≢true}
use mathlib.Core.Bool.{true, ◌&&◌}
use lib.Dec.{T, lit<}
use mir.Val.{Val, has_ty, WT}
use seplogic.Ra.Ura.{Ura}
use types.Logic.{Logic}
use types.Kit.{Item, Goal, Seq, Step, step, ‵, ◌$◌, move, fsplit, fjoin}
use denote.RattleType.{RattleType}
use denote.RawPtr.{Ptr, null_ptr}
use denote.Param.{layout}
use Rattle.std_alloc.proofs.ResultValues.{and_tt}
use Rattle.core.proofs.cell.Inside.{Good}
use Rattle.std.specs.contracts.alloc.Global.{the_row as Heap}
use Rattle.std.proofs.alloc.Global.TheLaws.{the_row_laws as heap_laws}
use Rattle.std.specs.contracts.impls.GlobalAllocator.TheImpl.{ghosts}
use Rattle.scm_c.specs.Ownership.{pointer_owns}
use Rattle.scm_open_session.specs.declared.open_session.OpenSession.{OpenSession}
use Rattle.scm_open_session.specs.contracts.open_session.OpenSession.{the_row as Value}
use Rattle.scm_c.specs.contracts.c_session.SessionPtr as pointer
use Rattle.scm_c.proofs.Beside.{word, beside_out, beside_in}
use Rattle.scm_c.proofs.RawBoxes as raw_box

-- a session's pointer
abbrev pub SessionPtr : RattleType
SessionPtr = pointer.the_row

-- a raw box of a session, in the heap
abbrev pub RawBox : RattleType
RawBox = raw_box.RawBox Value Heap heap_laws ghosts

-- the value of an option that is not `None`
pub some_value : {A : Type 0} → (o : Option A) → IsTrue (is_some o) → (x : A) × (o ≡ Some x)
some_value None t = absurd (false≢true t)
some_value (Some x) t = (x, refl)

-- a word at null is of its type
pub null_good : (h : Val) → Good (layout Heap) h → T (has_ty (layout Heap) h && true) × WT (word null_ptr h)
null_good h good = (and_tt (has_ty (layout Heap) h) good.0, (record { fits = lit< tt }, (good.1, tt)))

module _ {M : Type 1} {𝓤 : Ura M} {𝓛 : Logic 𝓤} {K : Type 0} {Γ : List (Item 𝓤)} {G : Goal 𝓤 𝓛.H} where
  pub pointer_out : K → (v : SessionPtr.Denot) (vs : List Val)
      → ((h : Val) → vs ≡ word v.at h ∷ [] → Good (layout Heap) h → Seq K 𝓛 (‵ (pointer_owns Value v.alloc v.at v.value) ∷ ‵ (Heap.own_val v.alloc (h ∷ [])) ∷ Γ) G)
      → Seq K 𝓛 (‵ (SessionPtr.own_val v vs) ∷ Γ) G
  pointer_out t v vs next = fsplit t $ beside_out Heap heap_laws ghosts t v.at v.alloc vs (λ h is good. move t (1 ∷ []) $ next h is good)

  pub pointer_in : K → (p : Ptr) (a : Heap.Denot) (h : Val) (o : Option OpenSession)
      → Step K 𝓛 (‵ (SessionPtr.own_val (record { at = p; alloc = a; value = o }) (word p h ∷ [])) ∷ Γ) G (‵ (pointer_owns Value a p o) ∷ ‵ (Heap.own_val a (h ∷ [])) ∷ Γ) G
  pointer_in t p a h o = step (λ rest. move t (1 ∷ []) $ beside_in Heap heap_laws ghosts t p a h $ fjoin t $ rest)
