use Rattle.scm_terminal.proofs.ByteLemmas.{byte-blanks, byte-symbols}
use Rattle.scm_terminal.proofs.row.end_of_passed.Goals as goal

pub returns-in-Blanks-clause-passed : goal.returns-in-Blanks-clause-passed
returns-in-Blanks-clause-passed c = λ k from h. rw c.in-Blanks.is (byte-blanks _ (c.end_of_bytes.ensures.bytes k from h))

pub returns-in-Symbols-clause-passed : goal.returns-in-Symbols-clause-passed
returns-in-Symbols-clause-passed c = λ k from h. rw c.in-Symbols.is (byte-symbols _ (c.end_of_bytes-in-Symbols.ensures.bytes k from h))
