-- What is folded again, and where a move leads, depends on files and sections alone, and not on the lines that are expanded.
use Rattle.std.proofs.Common.{◌≡◌, Bool, false, not, ◌&&◌, List, [], ◌∷◌, ◌++◌, Option, None, refl, ap, ap₂, ◌∙◌}
use Rattle.std.specs.Prelude.{fold, unwrap_or, if◌then◌else◌}
use Rattle.scm_types.specs.declared.file.File.{File}
use Rattle.scm_types.specs.declared.keys.SelectionKey.{SelectionKey}
use Rattle.scm_types.specs.declared.keys.SelectionKey.TheVariants as keys
use Rattle.scm_types.specs.Keys.{file_of, file_of_line, file_of_section, section_of_line}
use Rattle.scm_selection.specs.KeyLists.{all_keys, is_line, is_visible}
use Rattle.scm_selection.specs.KeySet.{has_key}
use Rattle.scm_view_state.specs.LineKeys.{with_lines}
use Rattle.scm_view_state.proofs.LineSetLemmas.{has-with}
use Rattle.scm_front_items.specs.declared.targets.Deed.{Deed}
use Rattle.scm_front_items.specs.declared.targets.Deed.TheVariants.{Fold}
use Rattle.scm_front_items.specs.declared.places.Place.{Place}
use Rattle.scm_front_items.specs.declared.places.Place.TheVariants as places
use Rattle.scm_front_items.specs.Places.{is_stop, moved_to, way_of}
use Rattle.scm_front_items.specs.Search.{kept}
use Rattle.scm_front_items.specs.Plans.{file_folds, fold_of, is_folded, section_around, section_folds}

section-no-line : (key : SelectionKey) → is_line (section_around key) ≡ false
section-no-line keys.None = refl
section-no-line (keys.File key) = refl
section-no-line (keys.Section key) = refl
section-no-line (keys.Line key) = refl

file-no-line : (key : SelectionKey) → is_line (file_of key) ≡ false
file-no-line keys.None = refl
file-no-line (keys.File key) = refl
file-no-line (keys.Section key) = refl
file-no-line (keys.Line key) = refl

module _ (all : Bool) (fs : List File) (e : List SelectionKey) where
  folded-with : (key : SelectionKey) → is_line key ≡ false → is_folded (with_lines all fs e) key ≡ is_folded e key
  folded-with keys.None other = refl
  folded-with (keys.File key) other = ap not (has-with fs e all (keys.File key) other)
  folded-with (keys.Section key) other = ap not (has-with fs e all (keys.Section key) other)
  folded-with (keys.Line key) other = absurd (cc other)

  fold-with : (key : SelectionKey) → is_line key ≡ false → fold_of (with_lines all fs e) key ≡ fold_of e key
  fold-with key other = ap (λ (b : Bool). if b then Fold key ∷ [] else []) (folded-with key other)

  pub section-folds-with : (ks : List SelectionKey) → section_folds (with_lines all fs e) ks ≡ section_folds e ks
  section-folds-with [] = refl
  section-folds-with (k ∷ ks) = ap₂ (λ (a b : List Deed). a ++ b) (fold-with (section_around k) (section-no-line k)) (section-folds-with ks)

  pub file-folds-with : (ks : List SelectionKey) → file_folds (with_lines all fs e) ks ≡ file_folds e ks
  file-folds-with [] = refl
  file-folds-with (k ∷ ks) = ap₂ (λ (a b : List Deed). a ++ b) (fold-with (file_of k) (file-no-line k)) (file-folds-with ks)

  -- ---- a move to a place

  seen-with : (key : SelectionKey) → is_visible (has_key (with_lines all fs e)) key ≡ is_visible (has_key e) key
  seen-with keys.None = refl
  seen-with (keys.File key) = refl
  seen-with (keys.Section key) = has-with fs e all (keys.File (file_of_section key)) refl
  seen-with (keys.Line key) =
      ap₂ (λ (a b : Bool). a && b) (has-with fs e all (keys.File (file_of_line key)) refl) (has-with fs e all (keys.Section (section_of_line key)) refl)

  stop-with : (place : Place) (selection key : SelectionKey) → is_stop place (has_key (with_lines all fs e)) selection key ≡ is_stop place (has_key e) selection key
  stop-with places.First selection key = refl
  stop-with places.Last selection key = seen-with key
  stop-with (places.Section way) selection key = refl
  stop-with (places.File way) selection key = refl

  abbrev after : Place → (SelectionKey → Bool) → SelectionKey → List SelectionKey → Option SelectionKey → Option SelectionKey
  after place is_expanded selection ks found =
      fold (λ (found : Option SelectionKey) (key : SelectionKey). kept (way_of place) found key (is_stop place is_expanded selection key)) found ks

  after-with : (place : Place) (selection : SelectionKey) (ks : List SelectionKey) (found : Option SelectionKey)
      → after place (has_key (with_lines all fs e)) selection ks found ≡ after place (has_key e) selection ks found
  after-with place selection [] found = refl
  after-with place selection (k ∷ ks) found =
      ap (λ (b : Bool). after place (has_key (with_lines all fs e)) selection ks (kept (way_of place) found k b)) (stop-with place selection k)
      ∙ after-with place selection ks (kept (way_of place) found k (is_stop place (has_key e) selection k))

  pub moved-with : (place : Place) (files : List File) (selection : SelectionKey)
      → moved_to place (has_key (with_lines all fs e)) files selection ≡ moved_to place (has_key e) files selection
  moved-with place files selection = ap (λ (found : Option SelectionKey). unwrap_or found selection) (after-with place selection (all_keys files) None)
