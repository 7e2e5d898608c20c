-- A test that tells ids apart: each id has numbers of its own.
use Rattle.std.proofs.Common.{◌≡◌, ℕ, List, [], ◌∷◌, refl, sym, ap, ◌∙◌, true, false, Bool}
use Rattle.std.specs.Prelude.{◌==◌, ◌&&◌, nat_eq, if◌then◌else◌}
use Rattle.std.proofs.lemmas.Bool.Decides.{Decides-eqb}
use Rattle.scm_render.specs.Hits.{IsLawful}
use Rattle.scm_types.specs.declared.keys.FileKey.{FileKey}
use Rattle.scm_types.specs.declared.keys.SelectionKey.{SelectionKey}
use Rattle.scm_types.specs.declared.keys.SelectionKey.TheVariants as keys
use Rattle.scm_widgets.specs.declared.ids.QuitDialogButtonId.{QuitDialogButtonId}
use Rattle.scm_widgets.specs.declared.ids.QuitDialogButtonId.TheVariants.{Quit, GoBack}
use Rattle.scm_widgets.specs.declared.ids.ComponentId.{ComponentId}
use Rattle.scm_widgets.specs.declared.ids.ComponentId.TheVariants as ids
use Rattle.scm_types.specs.Keys.{numbers_of, same_numbers}

-- ---- lists of numbers

pub numbers-same : (ms ns : List ℕ) → same_numbers ms ns ≡ true → ms ≡ ns
numbers-same [] [] e = refl
numbers-same [] (n ∷ ns) e = absurd (cc e)
numbers-same (m ∷ ms) [] e = absurd (cc e)
numbers-same (m ∷ ms) (n ∷ ns) e = go (nat_eq m n) refl (numbers-same ms ns) e
  where
    go : (b : Bool) → nat_eq m n ≡ b → (same_numbers ms ns ≡ true → ms ≡ ns) → (b && same_numbers ms ns) ≡ true → m ∷ ms ≡ n ∷ ns
    go true p more q =
        let same : m ≡ n = (Decides-eqb m n).0 p in
        let rest : ms ≡ ns = more q in
        rw (same, rest) refl
    go false p more q = absurd (cc q)

pub numbers-self : (ns : List ℕ) → same_numbers ns ns ≡ true
numbers-self [] = refl
numbers-self (n ∷ ns) =
    let here : nat_eq n n ≡ true = (Decides-eqb n n).1 refl in
    rw here (numbers-self ns)

-- ---- the numbers of an id, and the id of numbers

abbrev pub button_number : QuitDialogButtonId → ℕ
button_number Quit = 0
button_number GoBack = 1

abbrev pub numbers : ComponentId → List ℕ
numbers ids.App = 0 ∷ []
numbers ids.AppFiles = 1 ∷ []
numbers ids.MenuBar = 2 ∷ []
numbers ids.MenuHeader = 3 ∷ []
numbers (ids.Menu k) = 4 ∷ k ∷ []
numbers (ids.MenuItem k) = 5 ∷ k ∷ []
numbers ids.CommitMessageView = 6 ∷ []
numbers (ids.CommitEditMessageButton k) = 7 ∷ k ∷ []
numbers (ids.FileViewHeader k) = 8 ∷ k.commit_idx ∷ k.file_idx ∷ []
numbers (ids.SelectableItem k) = 9 ∷ numbers_of k
numbers (ids.ToggleBox k) = 10 ∷ numbers_of k
numbers (ids.ExpandBox k) = 11 ∷ numbers_of k
numbers ids.QuitDialog = 12 ∷ []
numbers (ids.QuitDialogButton b) = 13 ∷ button_number b ∷ []
numbers ids.HelpDialog = 14 ∷ []
numbers ids.HelpDialogQuitButton = 15 ∷ []

abbrev pub first_number : List ℕ → ℕ
first_number [] = 0
first_number (n ∷ ns) = n

abbrev pub file_at : List ℕ → FileKey
file_at [] = record { commit_idx = 0; file_idx = 0 }
file_at (c ∷ []) = record { commit_idx = c; file_idx = 0 }
file_at (c ∷ (f ∷ ns)) = record { commit_idx = c; file_idx = f }

abbrev pub key_at : List ℕ → SelectionKey
key_at [] = keys.None
key_at (k ∷ []) = keys.None
key_at (k ∷ (c ∷ [])) = keys.None
key_at (k ∷ (c ∷ (f ∷ []))) = keys.File (record { commit_idx = c; file_idx = f })
key_at (k ∷ (c ∷ (f ∷ (s ∷ [])))) = keys.Section (record { commit_idx = c; file_idx = f; section_idx = s })
key_at (k ∷ (c ∷ (f ∷ (s ∷ (l ∷ ns))))) = keys.Line (record { commit_idx = c; file_idx = f; section_idx = s; line_idx = l })

abbrev pub button_at : ℕ → QuitDialogButtonId
button_at n = if n == 0 then Quit else GoBack

abbrev pub id_from : ℕ → List ℕ → ComponentId
id_from k ns =
    if k == 0 then ids.App
    else if k == 1 then ids.AppFiles
    else if k == 2 then ids.MenuBar
    else if k == 3 then ids.MenuHeader
    else if k == 4 then ids.Menu (first_number ns)
    else if k == 5 then ids.MenuItem (first_number ns)
    else if k == 6 then ids.CommitMessageView
    else if k == 7 then ids.CommitEditMessageButton (first_number ns)
    else if k == 8 then ids.FileViewHeader (file_at ns)
    else if k == 9 then ids.SelectableItem (key_at ns)
    else if k == 10 then ids.ToggleBox (key_at ns)
    else if k == 11 then ids.ExpandBox (key_at ns)
    else if k == 12 then ids.QuitDialog
    else if k == 13 then ids.QuitDialogButton (button_at (first_number ns))
    else if k == 14 then ids.HelpDialog
    else ids.HelpDialogQuitButton

abbrev pub id_at : List ℕ → ComponentId
id_at [] = ids.App
id_at (k ∷ ns) = id_from k ns

pub key-back : (k : SelectionKey) → key_at (numbers_of k) ≡ k
key-back keys.None = refl
key-back (keys.File k) = refl
key-back (keys.Section k) = refl
key-back (keys.Line k) = refl

button-back : (b : QuitDialogButtonId) → button_at (button_number b) ≡ b
button-back Quit = refl
button-back GoBack = refl

id-back : (i : ComponentId) → id_at (numbers i) ≡ i
id-back ids.App = refl
id-back ids.AppFiles = refl
id-back ids.MenuBar = refl
id-back ids.MenuHeader = refl
id-back (ids.Menu k) = refl
id-back (ids.MenuItem k) = refl
id-back ids.CommitMessageView = refl
id-back (ids.CommitEditMessageButton k) = refl
id-back (ids.FileViewHeader k) = refl
id-back (ids.SelectableItem k) = ap (λ j. ids.SelectableItem j) (key-back k)
id-back (ids.ToggleBox k) = ap (λ j. ids.ToggleBox j) (key-back k)
id-back (ids.ExpandBox k) = ap (λ j. ids.ExpandBox j) (key-back k)
id-back ids.QuitDialog = refl
id-back (ids.QuitDialogButton b) = ap (λ j. ids.QuitDialogButton j) (button-back b)
id-back ids.HelpDialog = refl
id-back ids.HelpDialogQuitButton = refl

-- ---- the test

abbrev pub same_component : ComponentId → ComponentId → Bool
same_component i j = same_numbers (numbers i) (numbers j)

pub same_component-lawful : IsLawful same_component
same_component-lawful = record {
  same = λ i j e. sym (id-back i) ∙ ap id_at (numbers-same (numbers i) (numbers j) e) ∙ id-back j;
  self = λ i. numbers-self (numbers i);
}
