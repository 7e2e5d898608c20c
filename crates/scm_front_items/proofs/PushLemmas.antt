-- Lists that grow by a loop, item by item.
use Rattle.std.proofs.Common.{◌≡◌, ℕ, ◌+◌, ◌<◌, Bool, true, false, List, [], ◌∷◌, ◌++◌, length, drop, sym, ap, ◌∙◌, append_assoc}
use Rattle.std.specs.Prelude.{filter, if◌then◌else◌}
use Rattle.scm_types.specs.declared.line.SectionChangedLine.{SectionChangedLine}
use Rattle.scm_types.specs.declared.keys.SelectionKey.{SelectionKey}
use Rattle.scm_selection.specs.KeyLists.{line_key, line_keys}
use Rattle.scm_selection.proofs.KeyListLemmas.{line_keys-drop}
use Rattle.scm_front_items.specs.Ranges.{is_between, is_in_range}

-- one key more, if it is taken
either-more : {X : Type 0} (b : Bool) (done : List X) (x : X) (rest : List X)
    → (done ++ (if b then x ∷ [] else [])) ++ rest ≡ done ++ (if b then x ∷ rest else rest)
either-more true done x rest = append_assoc done (x ∷ []) rest
either-more false done x rest = append_assoc done [] rest

-- one line of a range more
pub range-more : (a b : SelectionKey) (keys now : List SelectionKey) (file section i : ℕ) (lines : List SectionChangedLine) → i < length lines
    → now ≡ keys ++ (if is_between a b (line_key file section i) then line_key file section i ∷ [] else [])
    → now ++ filter (is_in_range a b) (line_keys file section (i + 1) (drop (i + 1) lines))
    ≡ keys ++ filter (is_in_range a b) (line_keys file section i (drop i lines))
range-more a b keys now file section i lines h e =
    let rest = filter (is_in_range a b) (line_keys file section (i + 1) (drop (i + 1) lines)) in
    ap (λ (ks : List SelectionKey). ks ++ rest) e
    ∙ either-more (is_between a b (line_key file section i)) keys (line_key file section i) rest
    ∙ ap (λ (ks : List SelectionKey). keys ++ filter (is_in_range a b) ks) (sym (line_keys-drop file section i i lines h))
