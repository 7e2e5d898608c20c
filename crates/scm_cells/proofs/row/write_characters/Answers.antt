use Rattle.std.proofs.Common.{◌≡◌, ◌∙◌, arith, ap, refl, sym, subst, true}
use Rattle.std.specs.Str.{chars}
use Rattle.scm_cells.specs.Cell.{char_cell}
use Rattle.scm_cells.specs.FrameText.{is_frame_char}
use Rattle.scm_cells.proofs.CharacterLemmas.{char_written, all-characters, frame_char-at}
use Rattle.scm_cells.proofs.FrameTextLemmas.{IsAt-none, IsAt-more, IsAt-read, IsAt-within, IsAt-end}
use Rattle.scm_cells.proofs.MapFrom.{so_far-more, so_far-all}
use Rattle.scm_cells.proofs.row.write_characters.Goals as goal

pub loop-column-init : goal.loop-column-init
loop-column-init c = record { at = IsAt-none _ _ c.utf8.text c.chars-characters.ensures.rest; columns = refl }

pub set_character-requires : goal.set_character-requires
set_character-requires c =
    let next = c.in-Some.ensures.steps.0 in
    subst (λ n. is_frame_char n ≡ true) (IsAt-read _ _ _ _ _ c.loop-column.invariant.at next)
    (frame_char-at c.args.text.now c.loop-column.column-index c.requires.frame (IsAt-within _ _ _ _ _ c.loop-column.invariant.at next))

pub loop-column-preserved : goal.loop-column-preserved
loop-column-preserved c =
    let next = c.in-Some.ensures.steps.0 in
    record {
      at = IsAt-more _ _ _ _ _ c.loop-column.invariant.at next;
      columns = so_far-more (char_written (chars c.args.text.now)) _ _ _ c.column-item.result _ (omega arith) c.loop-column.invariant.columns
          (c.set_character.ensures ∙ ap char_cell (sym (IsAt-read _ _ _ _ _ c.loop-column.invariant.at next)));
    }

pub returns-in_default : goal.returns-in_default
returns-in_default c = absurd (omega (arith, IsAt-end _ _ _ c.loop-column.invariant.at c.in_default.ensures.steps.0.0, c.requires.size))

pub returns : goal.returns
returns c =
    c.loop-column.invariant.columns ∙ so_far-all (char_written (chars c.args.text.now)) c.args.columns.now c.loop-column.column-index (omega arith)
    ∙ all-characters (chars c.args.text.now) c.args.columns.now c.requires.size
