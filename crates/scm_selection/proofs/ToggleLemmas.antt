-- What a toggle leaves as it was.
use Rattle.std.proofs.Common.{◌≡◌, ◌⊎◌, inl, inr, ℕ, Bool, List, length, refl, arith, Option, ◌++◌, append-nil, drop, take}
use Rattle.std.proofs.lemmas.List.{drop_all, take_all}
use Rattle.scm_types.specs.declared.file_mode.FileMode.{FileMode}
use Rattle.scm_types.specs.declared.section.Section.{Section}
use Rattle.scm_types.specs.declared.section.Section.TheVariants.{Unchanged, Binary}
use Rattle.scm_selection.specs.Toggle.{after_section}

-- from context and from a binary section nothing follows
pub nothing_follows : (mode : FileMode) (checked : Bool) (list : List Section) (s : Section) → ((lines : List (List ℕ)) × (s ≡ Unchanged lines)) ⊎ ((b : Bool) × (old : Option (List ℕ)) × (new : Option (List ℕ)) × (s ≡ Binary b old new)) → after_section mode checked s list ≡ list
nothing_follows mode checked list s h = elim h [ inl w ↦ rw w.1 refl | inr w ↦ rw w.3 refl ]

-- a whole list that was lent comes back as it was left
pub lent_whole : {A : Type 0} (old new : List A) → length new ≡ length old → take (length old) (new ++ drop (length new) old) ≡ new
lent_whole old new e = rw (drop_all (length new) old (omega arith), append-nil) (take_all (length old) new (omega arith))
