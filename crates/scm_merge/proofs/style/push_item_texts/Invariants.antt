use Rattle.std.proofs.Common.{◌≡◌, ◌++◌, map, take}
use Rattle.scm_types.specs.declared.line.SectionChangedLine.{SectionChangedLine}
use Rattle.scm_merge.proofs.style.push_item_texts.Given as goal

abbrev pub invariant-loop-item : goal.invariant-loop-item
invariant-loop-item l = l.texts.items ≡ l.fn.texts.items ++ map (λ (item : SectionChangedLine). item.line) (take l.item-index l.items)
