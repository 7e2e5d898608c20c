-- Keys of lines, as a map compares them.
use Rattle.std.proofs.Common.{◌≡◌, ℕ, Bool, true, false, ◌&&◌, nat_eq, nat_lt, List, [], ◌∷◌, refl, sym, ap₂, ◌∙◌, arith, Some}
use Rattle.std.specs.Prelude.{cond, if◌then◌else◌}
use Rattle.std.specs.Map.{lookup}
use Rattle.std.specs.Ordering.{is_eq, nat_cmp, ordering_then}
use Rattle.std.specs.declared.cmp.Ordering.{Ordering}
use Rattle.std.specs.declared.cmp.Ordering.TheVariants.{Less, Equal, Greater}
use Rattle.std.proofs.lemmas.Bool.Decides.{nat_tests}
use Rattle.scm_types.specs.declared.keys.LineKey.{LineKey}
use Rattle.scm_front_paint.specs.Syntax.{is_line}
use Rattle.scm_front_paint.specs.SyntaxKeys.{line_order}

equal-numbers : (a b : ℕ) → is_eq (nat_cmp a b) ≡ nat_eq a b
equal-numbers a b = go (nat_lt a b) (nat_eq a b) refl refl
  where
    go : (l e : Bool) → nat_lt a b ≡ l → nat_eq a b ≡ e → is_eq (cond l Less (cond e Equal Greater)) ≡ e
    go true true p q = absurd (grind (arith, nat_tests))
    go true false p q = refl
    go false true p q = refl
    go false false p q = refl

equal-both : (x y : Ordering) → is_eq (ordering_then x y) ≡ (is_eq x && is_eq y)
equal-both Less y = refl
equal-both Equal y = refl
equal-both Greater y = refl

-- a map finds the keys that are equal
pub equal-keys : (a b : LineKey) → is_eq (line_order a b) ≡ is_line a b
equal-keys a b =
    equal-both (nat_cmp a.commit_idx b.commit_idx) _
    ∙ ap₂ (λ (p q : Bool). p && q) (equal-numbers a.commit_idx b.commit_idx)
    (equal-both (nat_cmp a.file_idx b.file_idx) _
    ∙ ap₂ (λ (p q : Bool). p && q) (equal-numbers a.file_idx b.file_idx)
    (equal-both (nat_cmp a.section_idx b.section_idx) _
    ∙ ap₂ (λ (p q : Bool). p && q) (equal-numbers a.section_idx b.section_idx) (equal-numbers a.line_idx b.line_idx)))

-- what two tests find that agree
pub lookup-same : {X : Type 0} (p q : LineKey → Bool) (entries : List (LineKey × X)) → ((key : LineKey) → p key ≡ q key) → lookup p entries ≡ lookup q entries
lookup-same p q [] same = refl
lookup-same p q (e ∷ es) same =
    ap₂ (λ (b : Bool) rest. cond b (Some e.1) rest) (same e.0) (lookup-same p q es same)

-- what is found of a map that has one entry more
pub found-with : {X : Type 0} (key other : LineKey) (value line : X) (entries old new : List (LineKey × X)) → value ≡ line → entries ≡ old
    → lookup (λ (k : LineKey). is_eq (line_order other k)) new
    ≡ cond (is_eq (line_order key other)) (Some value) (lookup (λ (k : LineKey). is_eq (line_order other k)) entries)
    → lookup (is_line other) new ≡ (if is_line key other then Some line else lookup (is_line other) old)
found-with key other value line entries old new same_value same_entries found =
    sym (lookup-same (λ (k : LineKey). is_eq (line_order other k)) (is_line other) new (equal-keys other))
    ∙ found
    ∙ ap₂ (λ (b : Bool) rest. cond b (Some value) rest) (equal-keys key other)
    (lookup-same (λ (k : LineKey). is_eq (line_order other k)) (is_line other) entries (equal-keys other))
    ∙ ap₂ (λ v (list : List (LineKey × _)). if is_line key other then Some v else lookup (is_line other) list) same_value same_entries
