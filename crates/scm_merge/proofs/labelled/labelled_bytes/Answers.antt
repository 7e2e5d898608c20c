use Rattle.std.proofs.Common.{◌∙◌, ap}
use Rattle.scm_merge.specs.declared.texts.Texts.{Texts}
use Rattle.scm_merge.proofs.labelled.labelled_bytes.Goals as goal

pub returns : goal.returns
returns c = record {
  labels = record { ours = c.as_str.result; base = c.as_str-2.result; theirs = c.as_str-3.result };
  ours_is = c.as_str.ensures ∙ ap (λ (t : Texts). t.ours) c.in_ok-texts.ensures;
  base_is = c.as_str-2.ensures ∙ ap (λ (t : Texts). t.base) c.in_ok-texts.ensures;
  theirs_is = c.as_str-3.ensures ∙ ap (λ (t : Texts). t.theirs) c.in_ok-texts.ensures;
  is_with_markers = c.in_ok-bytes.ensures;
}
