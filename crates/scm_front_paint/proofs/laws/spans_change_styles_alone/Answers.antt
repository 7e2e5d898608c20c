use Rattle.scm_front_paint.specs.Below.{shown_style}
use Rattle.scm_front_paint.specs.Headers.{labelled}
use Rattle.scm_front_paint.specs.Pane.{offset}
use Rattle.scm_front_paint.proofs.SyntaxLawLemmas.{places-alike, selected-stays, spans-plain, spans-shown, symbols-alike, text-alone}
use Rattle.scm_front_paint.proofs.laws.spans_change_styles_alone.Goals as goal

pub returns : goal.returns
returns c = record {
  symbols = λ theme words one other labels v.
      symbols-alike (offset v.pane v.front.beneath) (shown_style theme v.front.kept.anchor words one v.front.beneath)
      (shown_style theme v.front.kept.anchor words other v.front.beneath) (labelled labels v.front.beneath);
  others = λ theme anchor words one other l row column alike. places-alike theme anchor words one other l row column alike;
  own = λ lines l row. spans-shown lines l row;
  text = λ text spans c style beside. text-alone text spans c style beside;
  selected = λ runs c style e. selected-stays runs c style e;
  attributes = λ syntax. spans-plain syntax;
}
