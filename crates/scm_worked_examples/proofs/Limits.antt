-- The largest states that are accepted, and those that are not.
use Rattle.std.proofs.Common.{◌≡◌, ℕ, zero, suc, ◌+◌, Bool, true, false, ◌&&◌, List, [], ◌∷◌, length, replicate, nat_le, refl, ap₂, ◌∙◌, None, arith}
use Rattle.std.specs.List.{list_all}
use Rattle.std.proofs.lemmas.List.{length-replicate}
use Rattle.scm_types.specs.declared.file_mode.FileMode.TheVariants.{Unix}
use Rattle.scm_types.specs.declared.line.SectionChangedLine.{SectionChangedLine}
use Rattle.scm_types.specs.declared.line.ChangeType.TheVariants.{Added}
use Rattle.scm_types.specs.declared.section.Section.TheVariants.{Changed}
use Rattle.scm_types.specs.declared.state.RecordState.{RecordState}
use Rattle.scm_types.specs.Limits.{has_short_texts_in_file, is_accepted_state, is_short_text, max_items, state_size}

abbrev line : SectionChangedLine
line = record { is_checked = false; change_type = Added; line = [] }

-- a state of one file, with one section of so many lines
many : ℕ → RecordState
many n = record {
  is_read_only = false;
  commits = [];
  files = record { old_path = None; path = []; file_mode = Unix 33188; sections = Changed (replicate n line) ∷ [] } ∷ [];
}

short_lines : (n : ℕ) → list_all (λ (l : SectionChangedLine). is_short_text l.line) (replicate n line) ≡ true
short_lines zero = refl
short_lines (suc n) = short_lines n

short_texts : (n : ℕ) → list_all has_short_texts_in_file (many n).files ≡ true
unfolding many
short_texts n = rw (short_lines n) refl

size : (n : ℕ) → state_size (many n) ≡ n + 2
unfolding many
size n = omega (arith, length-replicate n line)

and_true : (b : Bool) → (b && true) ≡ b
and_true true = refl
and_true false = refl

-- the lines count, and the section and the file too
accepted : (n : ℕ) → is_accepted_state (many n) ≡ nat_le (n + 2) max_items
unfolding many
accepted n = ap₂ (λ (k : ℕ) (b : Bool). nat_le k max_items && b) (size n) (short_texts n) ∙ and_true (nat_le (n + 2) max_items)

as_many : is_accepted_state (many 15999998) ≡ true
unfolding max_items
as_many = accepted 15999998

one_more : is_accepted_state (many 15999999) ≡ false
unfolding max_items
one_more = accepted 15999999
