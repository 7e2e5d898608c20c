use Rattle.std.proofs.Common.{◌≡◌, ℕ, false, ◌∙◌, sym, refl, inl, inr}
use Rattle.scm_types.specs.declared.keys.SelectionKey.TheVariants as keys
use Rattle.scm_types.specs.Keys.{is_key, line_key_of}
use Rattle.scm_document.proofs.IndexLemmas.{lines-other}
use Rattle.scm_document.proofs.index_pieces.SectionPiece.find.Goals as goal

pub returns-in-None : goal.returns-in-None
returns-in-None c =
    let other = sym c.is_key.ensures ∙ c.if-is_key.false in
    let never : (i : ℕ) → is_key c.args.key (keys.Line (line_key_of c.args.self.now.key i)) ≡ false =
    λ i. elim c.in-None.is [ inl e ↦ rw e refl | inr h ↦ elim h [ inl e ↦ rw e.1 refl | inr e ↦ rw e.1 refl ] ] in
    rw other (sym (lines-other c.args.self.now c.args.key never))
