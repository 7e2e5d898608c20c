use Rattle.std.proofs.Common.{sym, ◌∙◌}
use Rattle.scm_script.proofs.WordLemmas.{one_char, two_chars}
use Rattle.scm_script.proofs.words.only_char.Goals as goal

pub returns-in-Some : goal.returns-in-Some
returns-in-Some c =
    sym (two_chars c.args.text.now c.next.new.self.rest.now c.in_ok-first.first c.in-Some.field-0 c.utf8.text (sym c.chars-chars.ensures.rest ∙ c.in_ok-first.ensures.steps.0) (sym c.next-2.ensures.steps.2 ∙ c.in-Some.is))

pub returns-in-None : goal.returns-in-None
returns-in-None c =
    sym (one_char c.args.text.now c.next.new.self.rest.now c.in_ok-first.first c.utf8.text (sym c.chars-chars.ensures.rest ∙ c.in_ok-first.ensures.steps.0) (sym c.next-2.ensures.steps.2 ∙ c.in-None.is))
