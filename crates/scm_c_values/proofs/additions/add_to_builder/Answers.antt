use Rattle.scm_embed.specs.Additions.{refusal_of}
use Rattle.scm_c_values.proofs.CodeLemmas.{added_code, refused_code}
use Rattle.scm_c_values.proofs.additions.add_to_builder.Goals as goal

pub returns-in-Ok-clause-code : goal.returns-in-Ok-clause-code
returns-in-Ok-clause-code c = added_code (refusal_of c.args.addition c.args.builder.now) c.in-Ok.ensures.good

pub returns-in-Err-clause-code : goal.returns-in-Err-clause-code
returns-in-Err-clause-code c =
    refused_code (refusal_of c.args.addition c.args.builder.now) c.in-Err.error c.error_code.result c.in-Err.ensures.err c.error_code.ensures.code
