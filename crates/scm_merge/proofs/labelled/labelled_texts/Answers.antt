use Rattle.std.proofs.Common.{subst}
use Rattle.scm_merge.specs.declared.texts.Texts.{Texts}
use Rattle.scm_merge.specs.Records.{IsMergeOfTexts}
use Rattle.scm_merge.proofs.labelled.labelled_texts.Goals as goal

pub returns : goal.returns
returns c = λ b o t e. record {
  file = c.in_ok-file.file;
  is_merge = subst (λ (t : Texts). IsMergeOfTexts t c.in_ok-file.file) e c.in_ok-file.ensures;
  is_labelled = c.in_ok-bytes.ensures;
}
