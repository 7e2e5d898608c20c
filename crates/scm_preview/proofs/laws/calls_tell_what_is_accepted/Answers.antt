use Rattle.std.proofs.Common.{ap}
use Rattle.std.specs.Prelude.{ℕ, Result}
use Rattle.scm_types.specs.declared.state.RecordState.{RecordState}
use Rattle.scm_c_values.specs.States.{answer_of, code_of_question, marks_at, side_at}
use Rattle.scm_c_values.specs.Texts.{side_bytes_at}
use Rattle.scm_preview.proofs.CallLemmas.{may-accept, told-the-same}
use Rattle.scm_preview.proofs.laws.calls_tell_what_is_accepted.Goals as goal

pub returns : goal.returns
returns c = record {
  may = λ given kind inner come waits none. may-accept given kind inner come waits none;
  accepts = λ old new may goes. told-the-same old new may goes;
  code = λ old new told file selected. ap (λ (asked : Result RecordState ℕ). code_of_question (side_bytes_at file selected) asked) told.same;
  bytes = λ old new told file selected. ap (λ (asked : Result RecordState ℕ). answer_of (side_bytes_at file selected) asked) told.same;
  side = λ old new told file selected. ap (λ (asked : Result RecordState ℕ). answer_of (side_at file selected) asked) told.same;
  marks = λ old new told file. ap (λ (asked : Result RecordState ℕ). answer_of (marks_at file) asked) told.same;
}
