-- The steps over lines and sections that are written with markers.
use Rattle.std.proofs.Common.{◌≡◌, ℕ, ◌+◌, ◌<◌, Bool, List, ◌∷◌, ◌++◌, add-one, ap, drop, filter, get_or, length, map, sym, ◌∙◌}
use Rattle.std.proofs.Math.Seq.{drop-cons}
use Rattle.std.proofs.lemmas.List.{map-append}
use Rattle.std.proofs.lemmas.List.Elements.{filter-append}
use Rattle.scm_merge.specs.Markers.{ended, is_line, version_lines}

-- the items from number `k` on begin with item `k`
pub drop-more : {X : Type 0} (xs : List X) (k : ℕ) (x : X) → k < length xs → x ≡ get_or xs k x → drop k xs ≡ x ∷ drop (k + 1) xs
drop-more xs k x h e = (rw add-one (drop-cons xs k x h)) ∙ ap (λ y. y ∷ drop (k + 1) xs) (sym e)

pub version-append : (crlf : Bool) (xs ys : List (List ℕ)) → version_lines crlf (xs ++ ys) ≡ version_lines crlf xs ++ version_lines crlf ys
version-append crlf xs ys = ap (map (ended crlf)) (filter-append is_line xs ys) ∙ map-append (ended crlf) (filter is_line xs) (filter is_line ys)
