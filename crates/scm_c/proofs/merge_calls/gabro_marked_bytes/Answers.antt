use Rattle.std.proofs.Common.{List, ℕ, length, Option, ap, ◌∙◌, subst}
use Rattle.std.specs.Global.{Vec}
use Rattle.scm_c_values.specs.Buffers.{over}
use Rattle.scm_merge.specs.WithMarkers.{IsMergedWithMarkers}
use Rattle.scm_c.proofs.merge_calls.gabro_marked_bytes.Goals as goal

pub returns-in-Some-clause-bytes : goal.returns-in-Some-clause-bytes
returns-in-Some-clause-bytes c = λ _. record {
  bytes = c.in-Some.bytes;
  is_merged = subst (λ (x : Option (Vec ℕ)). IsMergedWithMarkers c.args.marker_length (record { ours = c.args.our_label; base = c.args.base_label; theirs = c.args.their_label }) c.args.base.now c.args.ours.now c.args.theirs.now c.args.marks.now x) c.in-Some.is c.in-Ok.ensures;
  long = c.write_text.ensures.len ∙ ap (λ (xs : List ℕ). length xs) c.as_slice.ensures.value;
  written = c.write_text.ensures.written ∙ ap (λ (xs : List ℕ). over xs c.args.out.now) c.as_slice.ensures.value;
}
