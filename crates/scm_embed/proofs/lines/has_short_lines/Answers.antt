use Rattle.std.proofs.Common.{sym}
use Rattle.scm_types.specs.Limits.{max_text}
use Rattle.scm_embed.proofs.LineLemmas.{lines_fit}
use Rattle.scm_embed.proofs.lines.has_short_lines.Goals as goal

pub returns-then-text-le-MAX_TEXT : goal.returns-then-text-le-MAX_TEXT
returns-then-text-le-MAX_TEXT c = sym (lines_fit max_text c.args.text.now c.if-text-le-MAX_TEXT.true)
