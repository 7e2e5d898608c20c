use Rattle.std.proofs.Common.{◌≡◌, ℕ, ◌∙◌, ◌⊎◌, false, length, inl, inr, refl, sym}
use Rattle.scm_types.specs.declared.keys.FileKey.{FileKey}
use Rattle.scm_types.specs.declared.keys.LineKey.{LineKey}
use Rattle.scm_types.specs.declared.keys.SelectionKey.{SelectionKey}
use Rattle.scm_types.specs.declared.keys.SelectionKey.TheVariants as keys
use Rattle.scm_types.specs.Keys.{is_key, section_key_of}
use Rattle.scm_layout.proofs.AgreeLemmas.{folds-agree, rows-agree}
use Rattle.scm_layout.proofs.file_rows.FileRows.refold_sections.Goals as goal

-- no section has such a key
unlike : (k : FileKey) (m : ℕ) (key : SelectionKey) → (key ≡ keys.None) ⊎ ((x : FileKey) × (key ≡ keys.File x)) ⊎ ((x : LineKey) × (key ≡ keys.Line x)) → is_key (keys.Section (section_key_of k m)) key ≡ false
unlike k m (keys.Section x) h = elim h [ inl e ↦ absurd cc | inr (inl e) ↦ let f : keys.Section x ≡ keys.File e.0 = e.1 in absurd cc | inr (inr e) ↦ let f : keys.Section x ≡ keys.Line e.0 = e.1 in absurd cc ]
unlike k m _ h = refl

pub returns-in-None : goal.returns-in-None
returns-in-None c =
    let h = c.requires.rows in
    let ks = c.args.set.now in
    let k = c.args.file_key in
    let ss = c.args.file.now.sections in
    let agree = λ (m : ℕ). h.differ.others (keys.Section (section_key_of k m)) (unlike k m c.args.key c.in-None.is) in
    record {
      folded = h.folded ∙ sym (folds-agree ks h.before k 0 ss (λ m low high. agree m));
      sections = h.sections ∙ sym (rows-agree ks h.before k (length ss) 0 0 false ss (λ m low high. agree m));
    }
