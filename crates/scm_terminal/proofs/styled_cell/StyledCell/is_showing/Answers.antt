use Rattle.std.proofs.Common.{◌∙◌, ap, sym, List, ℕ}
use Rattle.std.specs.Prelude.{[], ◌∷◌, ◌==◌, Option, option_map, string_bytes}
use Rattle.std.specs.Str.{bytes_eq}
use Rattle.std.proofs.lemmas.Slice.Eq.{bytes_eq-Decides}
use Rattle.scm_terminal.proofs.StyledCellLemmas.{same-first, same-if-first, shows-byte, shows-text, letter-decided}
use denote.Ref.{Bor}
use Rattle.scm_terminal.proofs.styled_cell.StyledCell.is_showing.Goals as goal

pub returns-then-is_printable : goal.returns-then-is_printable
returns-then-is_printable c =
    let own = c.self.inside in
    let wanted = ap (λ (o : Option (Bor (List ℕ))). option_map (λ s. s.now) o) c.in-Some.is in
    let printable = sym c.is_printable-in-Some.ensures ∙ c.if-is_printable.true in
    let says = rw (← c.letter_of.ensures) at (letter-decided c.in-Some.symbol.now own.byte printable) in
    rw wanted (same-first (own.byte ∷ []) c.in-Some.symbol.now own.style c.args.style (c.letter_of.result == own.byte) c.code.result c.code-in-Some.result c.args.self.now says c.code.ensures c.code-in-Some.ensures
    (shows-byte own.byte own.is_first _ own.style c.args.self.now printable c.self.view_is))

pub returns-else-is_printable : goal.returns-else-is_printable
returns-else-is_printable c =
    let own = c.self.inside in
    let wanted = ap (λ (o : Option (Bor (List ℕ))). option_map (λ s. s.now) o) c.in-Some.is in
    let same = c.eq-is_text.ensures ∙ ap (λ t. bytes_eq t c.in-Some.symbol.now) c.as_str.ensures.value in
    let says = rw (← same) at (bytes_eq-Decides (string_bytes own.symbol) c.in-Some.symbol.now) in
    rw wanted (same-if-first own.is_first _ c.in-Some.symbol.now own.style c.args.style c.eq-is_text.result c.code.result c.code-in-Some.result c.args.self.now says c.code.ensures c.code-in-Some.ensures
    (shows-text own.byte own.is_first _ own.style c.args.self.now (sym c.is_printable-in-Some.ensures ∙ c.if-is_printable.false) c.self.view_is))
