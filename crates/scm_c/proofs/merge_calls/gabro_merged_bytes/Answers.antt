use Rattle.std.proofs.Common.{List, ℕ, length, Option, ap, ◌∙◌, subst}
use Rattle.scm_c_values.specs.Buffers.{over}
use Rattle.scm_merge.specs.declared.by_marks.Merged.{Merged}
use Rattle.scm_merge.specs.Marked.{IsMergedByMarks}
use Rattle.scm_c.proofs.merge_calls.gabro_merged_bytes.Goals as goal

pub returns-in-Some-clause-bytes : goal.returns-in-Some-clause-bytes
returns-in-Some-clause-bytes c = λ _. record {
  merged = c.in-Some.merged;
  is_merged = subst (λ (x : Option Merged). IsMergedByMarks c.args.base.now c.args.ours.now c.args.theirs.now c.args.marks.now x) c.in-Some.is c.in-Ok.ensures;
  long = c.write_text.ensures.len ∙ ap (λ (xs : List ℕ). length xs) c.as_slice.ensures.value;
  written = c.write_text.ensures.written ∙ ap (λ (xs : List ℕ). over xs c.args.out.now) c.as_slice.ensures.value;
}
