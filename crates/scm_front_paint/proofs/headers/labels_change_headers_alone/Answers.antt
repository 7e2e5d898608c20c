use Rattle.std.proofs.Common.{refl, ap, Option}
use Rattle.scm_cells.specs.Screen.{Screen}
use Rattle.scm_cells.specs.Symbols.{symbol_at}
use Rattle.scm_record.specs.Painted.{screen_of}
use Rattle.scm_front_paint.specs.Headers.{header_on, label_on, title_end}
use Rattle.scm_front_paint.specs.Labels.{symbol_under}
use Rattle.scm_front_paint.proofs.HeaderLemmas.{beside-title, is-labelled}
use Rattle.scm_front_paint.proofs.LabelLemmas.{last-label}
use Rattle.scm_front_paint.proofs.headers.labels_change_headers_alone.Goals as goal

pub returns : goal.returns
returns c = record {
  size = λ labels l. (refl, refl);
  rows = λ labels l row c e. ap (λ (label : Option Screen). symbol_under label c (symbol_at (screen_of l).rows row c)) e;
  columns = λ labels l row c e. beside-title c (title_end l row) (label_on labels l row) (symbol_at (screen_of l).rows row c)
      (λ s is. (is-labelled labels l row s (header_on l row) refl is).wide) e;
  headers = λ labels l row label e. is-labelled labels l row label (header_on l row) refl e;
  last = λ label labels file section. last-label label labels file section;
}
