use Rattle.std.proofs.Common.{refl, sym, ap, ◌∙◌, Bool, ⊎_elim}
use Rattle.scm_terminal.specs.declared.decoder.Burst.TheVariants.{Empty}
use Rattle.scm_terminal.specs.declared.transitions.SilenceEffect.TheVariants.{Keep, EndEscape, Drop}
use Rattle.scm_terminal.specs.declared.transitions.State.TheVariants as state
use Rattle.scm_terminal.specs.declared.tokenizer.Tokenizer.{Tokenizer}
use Rattle.scm_terminal.specs.Decoders.{decoder, tokenizer}
use Rattle.scm_terminal.proofs.HeardLemmas.{is_lone, rests_interrupt, rests_pasted, rests_plain}
use Rattle.scm_terminal.proofs.decoder.Decoder.idle.Goals as goal

pub returns-in-Interrupt : goal.returns-in-Interrupt
returns-in-Interrupt c =
    rests_interrupt c.args.self.now _ c.if-self.true c.in-Interrupt.is (ap (λ (t : Tokenizer). decoder t Empty) c.new-self.ensures)

pub returns-in-Empty : goal.returns-in-Empty
returns-in-Empty c = rests_pasted c.args.self.now _ c.if-self.true (⊎_elim (λ e. ap is_lone e) (λ e. ap is_lone e) c.in-Empty.is) refl

pub returns-in-Keep : goal.returns-in-Keep
returns-in-Keep c = rests_plain c.args.self.now _ Keep c.if-self.false (sym c.effect_of_silence.ensures ∙ c.in-Keep.is) (λ start bytes kept. kept)

pub returns-in-EndEscape : goal.returns-in-EndEscape
returns-in-EndEscape c =
    rests_plain c.args.self.now _ EndEscape c.if-self.false (sym c.effect_of_silence.ensures ∙ c.in-EndEscape.is)
    (λ start bytes kept. ap (λ (p : Bool). decoder (tokenizer p state.EndedEscape) Empty) c.if-self.false)

pub returns-in-Drop : goal.returns-in-Drop
returns-in-Drop c =
    rests_plain c.args.self.now _ Drop c.if-self.false (sym c.effect_of_silence.ensures ∙ c.in-Drop.is)
    (λ start bytes kept. ap (λ (p : Bool). decoder (tokenizer p state.Ground) Empty) c.if-self.false)
