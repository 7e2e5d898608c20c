use Rattle.std.proofs.Common.{ap₂}
use Rattle.scm_terminal.specs.Decoders.{decoder}
use Rattle.scm_terminal.proofs.HeardLemmas.{hears_byte}
use Rattle.scm_terminal.proofs.decoder.Decoder.push.Goals as goal

pub returns : goal.returns
returns c = hears_byte _ _ _ _ c.step.ensures.events (ap₂ decoder c.step.ensures.tokenizer c.burst_after-self.ensures)
