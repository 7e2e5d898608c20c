use Rattle.scm_input.specs.KeyTable.{none}
use Rattle.scm_script.specs.Words.{PartialKey, read_prefix}
use Rattle.scm_script.proofs.WordLemmas.{Reads, reads_on}
use Rattle.scm_script.proofs.words.split_prefixes.Goals as goal

read_all : (c : goal.After-split_prefix-3) → Reads (read_prefix (read_prefix (record { modifiers = none; rest = c.args.word.now }))) c.split_prefix-3.result.0 c.split_prefix-3.result.1.now
read_all c =
    let p : PartialKey = record { modifiers = none; rest = c.args.word.now } in let a = c.split_prefix in let b = c.split_prefix-2 in let d = c.split_prefix-3 in
    reads_on (read_prefix p) b.result.0 b.result.1.now d.result.0 d.result.1.now
    (reads_on p a.result.0 a.result.1.now b.result.0 b.result.1.now (a.ensures.modifiers, a.ensures.rest) (b.ensures.modifiers, b.ensures.rest))
    (d.ensures.modifiers, d.ensures.rest)

pub returns-clause-modifiers : goal.returns-clause-modifiers
returns-clause-modifiers c = (read_all c).0

pub returns-clause-rest : goal.returns-clause-rest
returns-clause-rest c = (read_all c).1
