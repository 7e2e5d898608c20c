use Rattle.std.proofs.Common.{rules, ◌∙◌, [], ◌∷◌, sym}
use Rattle.std.proofs.lemmas.Int.{to_z-of_z}
use Rattle.scm_document.specs.Titles.{title_text}
use Rattle.scm_widgets.proofs.HiddenLemmas.{counted-hidden}
use Rattle.scm_widgets.proofs.CoverLemmas.{texts_width-one, cover-in-range, cover-hidden}
use Rattle.scm_document.proofs.title.show_title.Goals as goal

pub show_text-requires : goal.show_text-requires
show_text-requires c =
    rw (c.as_str.ensures.value, c.in_ok-text.ensures.ok) (simp (to_z-of_z, c.ranges.x, c.ranges.y) c.requires)

pub cover_texts-requires : goal.cover_texts-requires
cover_texts-requires c =
    let width = c.in_ok-width.ensures.ok ∙ sym (texts_width-one (title_text c.args.title.now)) in
    simp (to_z-of_z, c.ranges.x, c.ranges.y) (cover-in-range _ _ _ _ (title_text c.args.title.now ∷ []) width c.requires)

pub returns-in_ok-show_text : goal.returns-in_ok-show_text
returns-in_ok-show_text c =
    record {
      ok = rw (c.as_str.ensures.value, c.in_ok-text.ensures.ok) at (simp (to_z-of_z, c.ranges.x, c.ranges.y) at c.in_ok-show_text.ensures.ok);
      counts = search rules;
      rect = search rules;
      err = search rules;
    }

pub returns-in_ok-width : goal.returns-in_ok-width
returns-in_ok-width c =
    let test = simp (to_z-of_z, c.ranges.x, c.ranges.y) at c.is_on_screen.ensures.test in
    let width = c.in_ok-width.ensures.ok ∙ sym (texts_width-one (title_text c.args.title.now)) in
    record {
      ok = simp (to_z-of_z, c.ranges.x, c.ranges.y) at c.cover_texts.ensures.new ∙ cover-hidden c.args.viewport.now.canvas c.args.x c.args.y _ (title_text c.args.title.now ∷ []) width c.is_on_screen.ensures.rows (sym test ∙ c.if-is_on_screen.false);
      counts = counted-hidden _ _ _ _ _ (sym test ∙ c.if-is_on_screen.false) c.cover_texts.ensures.counts;
      rect = search rules;
      err = search rules;
    }
