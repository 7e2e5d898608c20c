use Rattle.std.proofs.Common.{◌+◌, ◌∙◌, sym, ap}
use Rattle.std.specs.Prelude.{option_map}
use Rattle.scm_types.specs.declared.keys.SectionKey.{SectionKey}
use Rattle.scm_types.specs.declared.keys.SelectionKey.TheVariants as keys
use Rattle.scm_types.specs.Keys.{is_key}
use Rattle.scm_document.proofs.IndexLemmas.{line-found, line-other, lines-other}
use Rattle.scm_document.proofs.index_pieces.SectionPiece.find_line.Goals as goal

pub returns-then-not-is_key : goal.returns-then-not-is_key
returns-then-not-is_key c =
    let other = ap (λ (k : SectionKey). is_key (keys.Section k) (keys.Section c.args.self.now.key)) (sym c.section.ensures) ∙ sym c.is_key.ensures ∙ c.if-not-is_key.true in
    sym (lines-other c.args.self.now (keys.Line c.args.line) (λ i. line-other c.args.line c.args.self.now.key i other))

pub returns-in-None : goal.returns-in-None
returns-in-None c =
    let own = ap (λ (k : SectionKey). is_key (keys.Section k) (keys.Section c.args.self.now.key)) (sym c.section.ensures) ∙ sym c.is_key.ensures ∙ c.if-not-is_key.false in
    ap (option_map (λ t. (c.args.self.now.top + t, 1))) (sym c.in-None.is)
    ∙ line-found c.args.self.now c.args.line own c.row_of_line.result _ c.saturating_sub-rows.ensures c.row_of_line.ensures.row c.row_of_line.ensures.fits

pub returns-in-Some : goal.returns-in-Some
returns-in-Some c =
    let own = ap (λ (k : SectionKey). is_key (keys.Section k) (keys.Section c.args.self.now.key)) (sym c.section.ensures) ∙ sym c.is_key.ensures ∙ c.if-not-is_key.false in
    ap (option_map (λ t. (c.args.self.now.top + t, 1))) (sym c.in-Some.is)
    ∙ line-found c.args.self.now c.args.line own c.row_of_line.result _ c.saturating_sub-rows.ensures c.row_of_line.ensures.row c.row_of_line.ensures.fits
