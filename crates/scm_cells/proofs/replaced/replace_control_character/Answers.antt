use Rattle.std.proofs.Common.{arith, refl, rules}
use Rattle.std.specs.Char.{encode_utf8}
use Rattle.scm_cells.specs.Replaced.{replacement}
use Rattle.scm_cells.proofs.ReplacedLemmas.{replacement-at, replacement-printable}
use Rattle.scm_cells.proofs.replaced.replace_control_character.Goals as goal

pub returns-then-code-eq9 : goal.returns-then-code-eq9
unfolding replacement encode_utf8
returns-then-code-eq9 c = replacement-at _ 9 _ c.if-code-eq9.true refl

pub returns-then-code-eq10 : goal.returns-then-code-eq10
unfolding replacement encode_utf8
returns-then-code-eq10 c = replacement-at _ 10 _ c.if-code-eq10.true refl

pub returns-then-code-lt127 : goal.returns-then-code-lt127
returns-then-code-lt127 c = replacement-printable c.args.character (omega arith) (omega arith)

pub returns-then-code-eq127 : goal.returns-then-code-eq127
unfolding replacement encode_utf8
returns-then-code-eq127 c = replacement-at _ 127 _ c.if-code-eq127.true refl

pub returns-then-unwrap_or-eq0 : goal.returns-then-unwrap_or-eq0
unfolding replacement encode_utf8
returns-then-unwrap_or-eq0 c = search rules
