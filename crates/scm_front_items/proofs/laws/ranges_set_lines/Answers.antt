use Rattle.std.proofs.Common.{ap, Option}
use Rattle.scm_types.specs.declared.line.SectionChangedLine.{SectionChangedLine}
use Rattle.scm_selection.specs.KeyLists.{all_keys}
use Rattle.scm_front_items.specs.Ranges.{lines_between}
use Rattle.scm_front_items.specs.Targets.{is_as, passes_if_there}
use Rattle.scm_front_items.proofs.MarkLemmas.{all-lines, keeps-all, sets-all, inverted-alone}
use Rattle.scm_front_items.proofs.laws.ranges_set_lines.Goals as goal

pub returns : goal.returns
returns c = record {
  set = λ files a b mark line zero has. sets-all mark line zero (lines_between a b files) files (all-lines a b (all_keys files)) has;
  kept = λ files a b mark old line zero has.
      ap (λ (o : Option SectionChangedLine). passes_if_there (λ (l : SectionChangedLine). is_as old l.is_checked) o)
      (keeps-all mark line zero (lines_between a b files) files (all-lines a b (all_keys files)) has);
  alone = λ file section line mark none is. inverted-alone file section line mark none is;
}
