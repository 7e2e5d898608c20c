-- A raw box, as the machine holds it: its pointer beside its allocator, and the block. Assumes `Logic`.
use Rattle.std.proofs.Common.{◌≡◌, ℕ, List, [], ◌∷◌, ◌∙◌, ap}
use seplogic.Ra.Ura.{Ura}
use mir.Raw.{raw as bare}
use mir.Val.{Val}
use base.Logic.{never, fst∗}
use base.Fml.{Fml}
use types.Logic.{Logic, sem}
use types.Kit.{Item, Goal, Seq, Step, step, ‵, ◌$◌, move, fsplit, fjoin}
use denote.RattleType.{RattleType}
use denote.Memory.{lone}
use denote.Param.{layout}
use denote.Param.Laws.{Laws}
use denote.RawPtr.{Ptr, block_ptr, null_ptr, in_a_block}
use Rattle.core.specs.declared.alloc.Allocator.{Ghosts}
use Rattle.core.proofs.cell.Inside.{Good}
use Rattle.std_alloc.specs.Box.Ownership.{box_owns}
use Rattle.scm_c.specs.contracts.raw_box.RawBox as raw_box
use Rattle.scm_c.proofs.Beside.{word, beside_out, beside_in}

module _ (R A : RattleType) (laws : Laws A) (g : Ghosts A.Denot) where
  abbrev pub RawBox : RattleType
  RawBox = raw_box.the_row R A g

  -- the block that a value lies in, which its allocator gave
  abbrev pub block : A.Denot → Ptr → R.Denot → Fml
  block a p x = box_owns (g.dealloc_token a) R p x

  module _ {M : Type 1} {𝓤 : Ura M} {𝓛 : Logic 𝓤} {K : Type 0} {Γ : List (Item 𝓤)} {G : Goal 𝓤 𝓛.H} where
    -- a block is somewhere, and not at null
    pub placed : K → (a : A.Denot) (p : Ptr) (x : R.Denot) → ((b o : ℕ) → p ≡ block_ptr b o → Seq K 𝓛 (‵ (block a (block_ptr b o) x) ∷ Γ) G) → Seq K 𝓛 (‵ (block a p x) ∷ Γ) G
    placed t a p x next = in_a_block t p (λ q. block a q x) (fst∗ 𝓤 (never 𝓤) (sem 𝓛 (g.dealloc_token a (bare (lone R.mir)) null_ptr))) next

  module _ {M : Type 1} {𝓤 : Ura M} {𝓛 : Logic 𝓤} {K : Type 0} {Γ : List (Item 𝓤)} {G : Goal 𝓤 𝓛.H} where
    pub raw_box_out : K → (v : RawBox.Denot) (vs : List Val)
        → ((b o : ℕ) (h : Val) → vs ≡ word (block_ptr b o) h ∷ [] → Good (layout A) h → Seq K 𝓛 (‵ (block v.alloc (block_ptr b o) v.value) ∷ ‵ (A.own_val v.alloc (h ∷ [])) ∷ Γ) G)
        → Seq K 𝓛 (‵ (RawBox.own_val v vs) ∷ Γ) G
    raw_box_out t v vs next =
        fsplit t $ beside_out A laws g t v.at v.alloc vs (λ h is good. move t (1 ∷ []) $
        placed t v.alloc v.at v.value (λ b o at. next b o h (is ∙ ap (λ (p : Ptr). word p h ∷ []) at) good))

    pub raw_box_in : K → (b o : ℕ) (a : A.Denot) (h : Val) (x : R.Denot)
        → Step K 𝓛 (‵ (RawBox.own_val (record { at = block_ptr b o; alloc = a; value = x }) (word (block_ptr b o) h ∷ [])) ∷ Γ) G (‵ (block a (block_ptr b o) x) ∷ ‵ (A.own_val a (h ∷ [])) ∷ Γ) G
    raw_box_in t b o a h x = step (λ rest. move t (1 ∷ []) $ beside_in A laws g t (block_ptr b o) a h $ fjoin t $ rest)
