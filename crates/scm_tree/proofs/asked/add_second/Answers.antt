use Rattle.std.proofs.Common.{◌≡◌, ◌-◌, List, Some, length, map, refl, subst, sym}
use Rattle.std.specs.Prelude.{slice_get}
use Rattle.scm_tree.specs.declared.place.Mark.{Mark}
use Rattle.scm_tree.specs.Records.{seen_entry, seen_record}
use Rattle.scm_tree.proofs.ReadLemmas.{second_added}
use Rattle.scm_tree.proofs.asked.add_second.Goals as goal

pub returns : goal.returns
returns c =
    second_added (seen_record c.args.row.now) (map seen_entry c.args.asked.now.old.items) (map seen_entry c.args.asked.now.new.items) c.args.asked.now.count
    c.args.asked.now.marks.items c.add-2.new.items.items c.args.asked.now.moved.items c.add.new.items.items c.in-Some.first c.mark_of.result _
    (subst (λ (ms : List Mark). slice_get ms (length ms - 1) ≡ Some c.in-Some.first) c.as_slice.ensures.value (sym c.in-Some.ensures))
    c.mark_of.ensures refl c.in_ok-add-2.ensures c.in_ok-add.ensures
