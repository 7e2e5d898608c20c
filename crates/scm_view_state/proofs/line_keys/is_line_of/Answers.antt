use Rattle.std.proofs.Common.{◌≡◌, ◌∙◌, ◌⊎◌, inl, inr, false, sym, ap}
use Rattle.scm_types.specs.declared.keys.FileKey.{FileKey}
use Rattle.scm_types.specs.declared.keys.SectionKey.{SectionKey}
use Rattle.scm_types.specs.declared.keys.SelectionKey.{SelectionKey}
use Rattle.scm_types.specs.declared.keys.SelectionKey.TheVariants as keys
use Rattle.scm_selection.specs.KeyLists.{is_line}
use Rattle.scm_view_state.proofs.LineSetLemmas.{line-is-one, other-is-none}
use Rattle.scm_view_state.proofs.line_keys.is_line_of.Goals as goal

no-line : (key : SelectionKey) → (key ≡ keys.None) ⊎ (((x : FileKey) × (key ≡ keys.File x)) ⊎ ((x : SectionKey) × (key ≡ keys.Section x))) → is_line key ≡ false
no-line key (inl e) = ap is_line e
no-line key (inr (inl (x, e))) = ap is_line e
no-line key (inr (inr (x, e))) = ap is_line e

pub returns-in-None : goal.returns-in-None
returns-in-None c = sym (other-is-none c.args.key c.args.files.now (no-line c.args.key c.in-None.is))

pub returns-in-Line : goal.returns-in-Line
returns-in-Line c = c.is_key_of.ensures ∙ line-is-one c.args.key c.args.files.now (ap is_line c.in-Line.is)
