-- Rows of a session's screen that name a section, and the labels that they show.
use Rattle.std.proofs.Common.{◌≡◌, ◌⊎◌, ℕ, ◌+◌, ◌-◌, ◌<◌, Bool, true, false, ◌==◌, List, [], ◌∷◌, ◌++◌, length, get_or, refl, sym, ap, ◌∙◌, arith, Option, Some, None, inl, inr}
use Rattle.std.specs.Prelude.{pos, nat_lt, is_some, not, ◌||◌, if◌then◌else◌}
use Rattle.std.specs.List.{concat}
use Rattle.std.specs.Option.{option_or}
use Rattle.std.proofs.lemmas.Bool.{cases_lt}
use Rattle.std.proofs.lemmas.List.{get_or_append_left, get_or_push, length_push}
use Rattle.scm_types.specs.declared.keys.SectionKey.{SectionKey}
use Rattle.scm_types.specs.declared.keys.SelectionKey.{SelectionKey}
use Rattle.scm_types.specs.declared.keys.SelectionKey.TheVariants as keys
use Rattle.scm_cells.specs.Clusters.{text_width}
use Rattle.scm_cells.specs.Replaced.{line_pieces}
use Rattle.scm_cells.specs.Row.{ellipsis}
use Rattle.scm_cells.specs.Screen.{Screen, blank_screen, put_on}
use Rattle.scm_cells.specs.Symbols.{symbol_at}
use Rattle.scm_widgets.specs.declared.ids.ComponentId.{ComponentId}
use Rattle.scm_widgets.specs.declared.ids.ComponentId.TheVariants as ids
use Rattle.scm_record.specs.Frames.{columns_of}
use Rattle.scm_record.specs.Live.{Live}
use Rattle.scm_record.specs.Painted.{screen_of}
use Rattle.scm_front_paint.specs.declared.labels.Label.{Label}
use Rattle.scm_front_paint.specs.Headers.{Folds, IsLabelledHeader, Toggles, box_owner, folded_by, header_on, label_on, last_owner, section_of_key, text_of_header, title_end, toggled_by}
use Rattle.scm_front_paint.specs.Labels.{has_title, is_title, label_row, label_screen, symbol_under, text_of}
use Rattle.scm_front_paint.specs.Symbols.{symbols_of}
use Rattle.scm_front_paint.specs.Words.{is_bare}

-- ---- the owner of a header's end

key-is : (k : SelectionKey) (key : SectionKey) → section_of_key k ≡ Some key → k ≡ keys.Section key
key-is keys.None key e = absurd (cc e)
key-is (keys.File k) key e = absurd (cc e)
key-is (keys.Section k) key e = cc e
key-is (keys.Line k) key e = absurd (cc e)

folded-is : (o : Option ComponentId) (key : SectionKey) → folded_by o ≡ Some key → o ≡ Some (ids.ExpandBox (keys.Section key))
folded-is None key e = absurd (cc e)
folded-is (Some ids.App) key e = absurd (cc e)
folded-is (Some ids.AppFiles) key e = absurd (cc e)
folded-is (Some ids.CommitMessageView) key e = absurd (cc e)
folded-is (Some (ids.CommitEditMessageButton commit)) key e = absurd (cc e)
folded-is (Some ids.MenuBar) key e = absurd (cc e)
folded-is (Some ids.MenuHeader) key e = absurd (cc e)
folded-is (Some (ids.Menu menu)) key e = absurd (cc e)
folded-is (Some (ids.MenuItem item)) key e = absurd (cc e)
folded-is (Some (ids.FileViewHeader k)) key e = absurd (cc e)
folded-is (Some (ids.SelectableItem k)) key e = absurd (cc e)
folded-is (Some (ids.ToggleBox k)) key e = absurd (cc e)
folded-is (Some (ids.ExpandBox k)) key e = ap (λ (x : SelectionKey). Some (ids.ExpandBox x)) (key-is k key e)
folded-is (Some ids.HelpDialog) key e = absurd (cc e)
folded-is (Some ids.HelpDialogQuitButton) key e = absurd (cc e)
folded-is (Some ids.QuitDialog) key e = absurd (cc e)
folded-is (Some (ids.QuitDialogButton button)) key e = absurd (cc e)

toggled-is : (o : Option ComponentId) (key : SectionKey) → toggled_by o ≡ Some key → o ≡ Some (ids.ToggleBox (keys.Section key))
toggled-is None key e = absurd (cc e)
toggled-is (Some ids.App) key e = absurd (cc e)
toggled-is (Some ids.AppFiles) key e = absurd (cc e)
toggled-is (Some ids.CommitMessageView) key e = absurd (cc e)
toggled-is (Some (ids.CommitEditMessageButton commit)) key e = absurd (cc e)
toggled-is (Some ids.MenuBar) key e = absurd (cc e)
toggled-is (Some ids.MenuHeader) key e = absurd (cc e)
toggled-is (Some (ids.Menu menu)) key e = absurd (cc e)
toggled-is (Some (ids.MenuItem item)) key e = absurd (cc e)
toggled-is (Some (ids.FileViewHeader k)) key e = absurd (cc e)
toggled-is (Some (ids.SelectableItem k)) key e = absurd (cc e)
toggled-is (Some (ids.ToggleBox k)) key e = ap (λ (x : SelectionKey). Some (ids.ToggleBox x)) (key-is k key e)
toggled-is (Some (ids.ExpandBox k)) key e = absurd (cc e)
toggled-is (Some ids.HelpDialog) key e = absurd (cc e)
toggled-is (Some ids.HelpDialogQuitButton) key e = absurd (cc e)
toggled-is (Some ids.QuitDialog) key e = absurd (cc e)
toggled-is (Some (ids.QuitDialogButton button)) key e = absurd (cc e)

-- the key that a row names is that of its fold box, or else that of its checkbox
module _ (l : Live) (row : ℕ) (key : SectionKey) where
  abbrev end_by : Option SectionKey → ℕ
  end_by folded = if is_some folded then columns_of l.kind - 3 else columns_of l.kind

  by-fold : (folded : Option SectionKey) → folded_by (last_owner l row) ≡ folded → option_or folded (toggled_by (box_owner l row)) ≡ Some key
      → Folds l row key ⊎ Toggles l row key
  by-fold (Some other) is e = inl (folded-is (last_owner l row) key (is ∙ e), ap end_by is)
  by-fold None is e = inr (toggled-is (box_owner l row) key e, ap end_by is)

  pub names-key : (b : Bool) → (if b then option_or (folded_by (last_owner l row)) (toggled_by (box_owner l row)) else None) ≡ Some key
      → Folds l row key ⊎ Toggles l row key
  names-key true e = by-fold (folded_by (last_owner l row)) refl e
  names-key false e = absurd (cc e)

-- ---- what a label shows

module _ (end : ℕ) (room : Bool) (text : List ℕ) (label : Screen) where
  abbrev row_of : Bool → Option Screen
  row_of none = if none then None else Some (label_screen end (concat (line_pieces text)))

  shown : (b : Bool) → row_of b ≡ Some label → label ≡ label_screen end (concat (line_pieces text))
  shown true e = absurd (cc e)
  shown false e = cc e

  pub label-is : label_row end room text ≡ Some label → label ≡ label_screen end (concat (line_pieces text))
  label-is e = shown ((length text == 0) || not room) e

  pub label-some : label_row end room text ≡ Some label → 0 < length text
  label-some e = some text e
    where
      some : (t : List ℕ) → (if (length t == 0) || not room then None else Some (label_screen end (concat (line_pieces text)))) ≡ Some label → 0 < length t
      some [] f = absurd (cc f)
      some (b ∷ bs) f = omega arith

-- the row of a label has `end` columns, with an ellipsis and without
pub screen-wide : (end : ℕ) (text : List ℕ) → (label_screen end text).width ≡ end
screen-wide end text = wide (nat_lt (end - 6) (text_width text))
  where
    wide : (b : Bool) → (if b then put_on (put_on (blank_screen end 1) 0 (pos 6) text 6 end) 0 (pos (end - 1)) ellipsis 6 end else put_on (blank_screen end 1) 0 (pos 6) text 6 end).width ≡ end
    wide true = refl
    wide false = refl

pub is-labelled : (labels : List Label) (l : Live) (row : ℕ) (label : Screen) (header : Option SectionKey) → header_on l row ≡ header
    → label_row (title_end l row) (has_title (symbols_of (screen_of l)) row (title_end l row)) (text_of_header labels header) ≡ Some label
    → IsLabelledHeader labels l row label
is-labelled labels l row label None is e = absurd (cc e)
is-labelled labels l row label (Some key) is e =
    let end = title_end l row in
    let room = has_title (symbols_of (screen_of l)) row end in
    let text = text_of labels key.file_idx key.section_idx in
    let shows = label-is end room text label e in
    record {
      key = key;
      names = names-key l row key (is_bare l) is;
      some = label-some end room text label e;
      shows = shows;
      wide = ap (λ (s : Screen). s.width) shows ∙ screen-wide end (concat (line_pieces text));
    }

-- ---- places without a label

pub beside-title : (c end : ℕ) (label : Option Screen) (symbol : Option (List ℕ)) → ((s : Screen) → label ≡ Some s → s.width ≡ end)
    → is_title end c ≡ false → symbol_under label c symbol ≡ symbol
beside-title c end None symbol wide e = refl
beside-title c end (Some label) symbol wide e =
    ap (λ (b : Bool). if b then symbol_at label.rows 0 c else symbol) (ap (λ (n : ℕ). is_title n c) (wide label refl) ∙ e)

-- ---- rows

-- no label is on a row if there are none
pub no-label : (l : Live) (row : ℕ) (header : Option SectionKey) → header_on l row ≡ header → None ≡ label_on [] l row
no-label l row header is = go header ∙ ap (λ (h : Option SectionKey). label_row (title_end l row) (has_title (symbols_of (screen_of l)) row (title_end l row)) (text_of_header [] h)) (sym is)
  where
    go : (h : Option SectionKey) → None ≡ label_row (title_end l row) (has_title (symbols_of (screen_of l)) row (title_end l row)) (text_of_header [] h)
    go None = refl
    go (Some key) = refl

-- a row more
pub more-labels : (label : ℕ → Option Screen) (old new : List (Option Screen)) (x : Option Screen) (row : ℕ) → new ≡ old ++ x ∷ [] → length old ≡ row
    → ((k : ℕ) → k < length old → get_or old k None ≡ label k) → x ≡ label row → (k : ℕ) → k < length new → get_or new k None ≡ label k
more-labels label old new x row e many before here k h = elim (cases_lt k (length old)) [
  | inl below ↦ ap (λ (list : List (Option Screen)). get_or list k None) e ∙ get_or_append_left old (x ∷ []) None k below ∙ before k below
  | inr past ↦
      let long : length new ≡ length old + 1 = ap (λ (list : List (Option Screen)). length list) e ∙ length_push old x in
      let is : k ≡ row = omega arith in
      ap (λ (n : ℕ). get_or new n None) is ∙ ap (λ (list : List (Option Screen)). get_or list row None) e ∙ get_or_push old x None row many ∙ here ∙ ap label (sym is)
]
