use Rattle.std.proofs.Common.{ap, ◌∙◌}
use Rattle.scm_types.specs.declared.state.RecordState.{RecordState}
use Rattle.scm_embed.specs.Additions.{Refuses, refusal_of}
use Rattle.scm_embed.proofs.LastLemmas.{refused_for}
use Rattle.scm_embed.proofs.builder.StateBuilder.add.Goals.{in-Ok, in-Err}
use Rattle.scm_embed.proofs.builder.StateBuilder.add.Goals as goal

pub returns-in-Some-clause-err : goal.returns-in-Some-clause-err
returns-in-Some-clause-err c =
    refused_for c.refusal_of.result (refusal_of c.args.addition c.args.self.now) c.in-Some.error
    (c.refusal_of.ensures ∙ ap (λ (state : RecordState). refusal_of c.args.addition state) c.self.view_is) c.in-Some.is

pub returns-clause-err : goal.returns-clause-err
returns-clause-err c = elim c.match-add_to.branch [ in-Ok w ↦ rw w.result-is tt | in-Err w ↦ rw w.result-is Refuses.no_memory ]
