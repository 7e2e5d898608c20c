use Rattle.std.proofs.Common.{◌≡◌, take}
use Rattle.std.specs.Prelude.{string_bytes}
use Rattle.scm_c_values.specs.EventWords.{words_of_list}
use Rattle.scm_c_values.proofs.event_words.words_of_list.Given as goal

abbrev pub invariant-loop-event : goal.invariant-loop-event
invariant-loop-event l = string_bytes l.words ≡ words_of_list (take l.event-index l.events)
