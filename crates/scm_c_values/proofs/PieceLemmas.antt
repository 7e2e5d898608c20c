-- Pieces of a text that stand for something, found one by one.
use Rattle.std.proofs.Common.{◌≡◌, ℕ, suc, ◌+◌, ◌<◌, ◌==◌, List, [], ◌∷◌, ◌++◌, length, take, drop, Bool, true, false, not, cond, if◌then◌else◌, Option, Some, None, option_map, option_and_then, MatchOption, IfSome, IfNone, Result, Ok, Err, IfOk, refl, sym, ap, ◌∙◌, subst, append-nil, append_assoc, arith}
use Rattle.std.proofs.lemmas.Bool.{false≢true}
use Rattle.std.specs.List.{position_or_len, before_first, after_first}
use Rattle.scm_embed.specs.Lines.{with_first}
use Rattle.scm_c_values.specs.Pieces.{Adds, all_of, pieces_of}

-- ---- pieces, cut off one by one

-- whether a byte is a space
abbrev pub is_space : ℕ → Bool
is_space b = b == 32

-- the first piece of a text, and those after it
abbrev Cut : List ℕ → Type 0
Cut s = pieces_of s ≡ before_first is_space s ∷ pieces_of (after_first is_space s)

-- where the first space is, by whether it is the first byte
abbrev place : Bool → List ℕ → ℕ
place t bs = cond (not t) (1 + position_or_len is_space bs) 0

cut-at : (b : ℕ) (bs : List ℕ) (t : Bool) → (position_or_len is_space bs < length bs → Cut bs) → place t bs < suc (length bs)
    → (if t then [] ∷ pieces_of bs else with_first b (pieces_of bs))
    ≡ take (place t bs) (b ∷ bs) ∷ pieces_of (drop (place t bs + 1) (b ∷ bs))
cut-at b bs true rest h = refl
cut-at b bs false rest h =
    let front : 1 + position_or_len is_space bs ≡ suc (position_or_len is_space bs) = omega arith in
    let back : suc (position_or_len is_space bs) + 1 ≡ suc (position_or_len is_space bs + 1) = omega arith in
    rw (front, back) (ap (with_first b) (rest (omega arith)))

first_piece : (s : List ℕ) → position_or_len is_space s < length s → Cut s
first_piece [] h = absurd (omega arith)
first_piece (b ∷ bs) h = cut-at b bs (b == 32) (first_piece bs) h

whole-at : (b : ℕ) (bs : List ℕ) (t : Bool) → (position_or_len is_space bs ≡ length bs → pieces_of bs ≡ bs ∷ []) → place t bs ≡ suc (length bs)
    → (if t then [] ∷ pieces_of bs else with_first b (pieces_of bs)) ≡ (b ∷ bs) ∷ []
whole-at b bs true rest h = absurd (omega arith)
whole-at b bs false rest h = ap (with_first b) (rest (omega arith))

one_piece : (s : List ℕ) → position_or_len is_space s ≡ length s → pieces_of s ≡ s ∷ []
one_piece [] h = refl
one_piece (b ∷ bs) h = whole-at b bs (b == 32) (one_piece bs) h

pub cut_none : {P : Type 0} (r : Option P) (s : List ℕ) (Q : P → Type 0) → MatchOption r (position_or_len is_space s ≡ length s) Q → IfNone r (pieces_of s ≡ s ∷ [])
cut_none None s Q m = one_piece s m
cut_none (Some x) s Q m = tt

pub cut_some : {P : Type 0} (front back : P → List ℕ) (r : Option P) (s : List ℕ)
    → MatchOption r (position_or_len is_space s ≡ length s)
    (λ p. (front p ≡ before_first is_space s) × (back p ≡ after_first is_space s) × (position_or_len is_space s < length s))
    → IfSome r (λ p. pieces_of s ≡ front p ∷ pieces_of (back p))
cut_some front back (Some x) s m = rw (m.0, m.1) (first_piece s m.2)
cut_some front back None s m = tt

-- ---- what is added, piece by piece

pub adds_some : {A : Type 0} (o : Option (List A)) (old new : List A) (t : Bool) → Adds o old new t → t ≡ true → (found : List A) × (o ≡ Some found) × (new ≡ old ++ found)
adds_some (Some found) old new true Adds.added e = (found, refl, refl)
adds_some None old new false Adds.no_word e = absurd (false≢true e)
adds_some None old new true a e = elim a [ ]
adds_some (Some found) old new false a e = elim a [ ]

pub adds_no : {A : Type 0} (o : Option (List A)) (old new : List A) (t : Bool) → Adds o old new t → t ≡ false → o ≡ None
adds_no (Some found) old new true Adds.added e = absurd (false≢true (sym e))
adds_no None old new false Adds.no_word e = refl
adds_no None old new true a e = elim a [ ]
adds_no (Some found) old new false a e = elim a [ ]

pub adds_as : {A : Type 0} (o : Option (List A)) (found old new : List A) → o ≡ Some found → new ≡ old ++ found → Adds o old new true
adds_as o found old new e f = rw (e, f) Adds.added

pub adds_not : {A : Type 0} (o : Option (List A)) (old new : List A) → o ≡ None → Adds o old new false
adds_not o old new e = rw e Adds.no_word

-- ---- pieces

-- What was found so far is added: with what the rest stands for it is all.
pub record Pushed {A : Type 0} (before now : List A) (all rest : Option (List A)) : Type 0 where
  pub done : List A
  pub joined : now ≡ before ++ done
  pub left : all ≡ option_map (λ (more : List A). done ++ more) rest

joined_maps : {A : Type 0} (done found : List A) (o : Option (List A))
    → option_map (λ (more : List A). done ++ more) (option_map (λ (more : List A). found ++ more) o)
    ≡ option_map (λ (more : List A). (done ++ found) ++ more) o
joined_maps {A} done found None = refl
joined_maps {A} done found (Some x) = ap Some (sym (append_assoc done found x))

-- what a piece stands for, and those after it
abbrev both : {A : Type 0} → Option (List A) → Option (List A) → Option (List A)
both {A} first rest = option_and_then (λ (found : List A). option_map (λ (more : List A). found ++ more) rest) first

more-by : {A : Type 0} (before now new : List A) (all first rest : Option (List A)) (found : List A)
    → Pushed before now all (both first rest) → first ≡ Some found → new ≡ now ++ found → Pushed before new all rest
more-by {A} before now new all first rest found p e f = record {
  done = p.done ++ found;
  joined = f ∙ (ap (λ (l : List A). l ++ found) p.joined ∙ append_assoc before p.done found);
  left = p.left ∙ (ap (λ (o : Option (List A)). option_map (λ (more : List A). p.done ++ more) (both o rest)) e ∙ joined_maps p.done found rest);
}

pub pushed_more : {A : Type 0} (of_piece : List ℕ → Option (List A)) (before now new : List A) (all : Option (List A)) (rest piece after : List ℕ) (t : Bool)
    → Pushed before now all (all_of of_piece (pieces_of rest)) → pieces_of rest ≡ piece ∷ pieces_of after
    → Adds (of_piece piece) now new t → t ≡ true → Pushed before new all (all_of of_piece (pieces_of after))
pushed_more {A} of_piece before now new all rest piece after t p cut a e =
    let s = adds_some (of_piece piece) now new t a e in
    more-by before now new all (of_piece piece) (all_of of_piece (pieces_of after)) s.0
    (subst (λ (l : List (List ℕ)). Pushed before now all (all_of of_piece l)) cut p) s.1 s.2

no-by : {A : Type 0} (before now : List A) (all first rest : Option (List A)) → Pushed before now all (both first rest) → first ≡ None → all ≡ None
no-by {A} before now all first rest p e = p.left ∙ ap (λ (o : Option (List A)). option_map (λ (more : List A). p.done ++ more) (both o rest)) e

pub pushed_no : {A : Type 0} (of_piece : List ℕ → Option (List A)) (before now new : List A) (all : Option (List A)) (rest piece : List ℕ) (after : List (List ℕ)) (t : Bool)
    → Pushed before now all (all_of of_piece (pieces_of rest)) → pieces_of rest ≡ piece ∷ after
    → Adds (of_piece piece) now new t → t ≡ false → Adds all before new false
pushed_no {A} of_piece before now new all rest piece after t p cut a e =
    adds_not all before new (no-by before now all (of_piece piece) (all_of of_piece after)
    (subst (λ (l : List (List ℕ)). Pushed before now all (all_of of_piece l)) cut p) (adds_no (of_piece piece) now new t a e))

end-by : {A : Type 0} (of_piece : List ℕ → Option (List A)) (before now new : List A) (all : Option (List A)) (rest : List ℕ) (t known : Bool)
    → Pushed before now all (all_of of_piece (pieces_of rest)) → pieces_of rest ≡ rest ∷ []
    → Adds (of_piece rest) now new known → known ≡ t → Adds all before new t
end-by {A} of_piece before now new all rest false known p cut a e = pushed_no of_piece before now new all rest rest [] known p cut a e
end-by {A} of_piece before now new all rest true known p cut a e =
    let s = adds_some (of_piece rest) now new known a e in
    let q = more-by before now new all (of_piece rest) (all_of of_piece []) s.0
    (subst (λ (l : List (List ℕ)). Pushed before now all (all_of of_piece l)) cut p) s.1 s.2 in
    adds_as all (q.done ++ []) before new q.left (q.joined ∙ ap (λ (l : List A). before ++ l) (sym (append-nil q.done)))

pub pushed_end : {A : Type 0} (of_piece : List ℕ → Option (List A)) (before now new : List A) (all : Option (List A)) (rest : List ℕ) (known : Bool)
    → Pushed before now all (all_of of_piece (pieces_of rest)) → pieces_of rest ≡ rest ∷ []
    → Adds (of_piece rest) now new known → Adds all before new known
pushed_end {A} of_piece before now new all rest known p cut a = end-by of_piece before now new all rest known known p cut a refl

pub pushed_last : {A E : Type 0} (of_piece : List ℕ → Option (List A)) (before now new : List A) (all : Option (List A)) (rest : List ℕ) (r : Result Bool E)
    → Pushed before now all (all_of of_piece (pieces_of rest)) → pieces_of rest ≡ rest ∷ []
    → IfOk r (λ known. Adds (of_piece rest) now new known) → IfOk r (λ known. Adds all before new known)
pushed_last {A} of_piece before now new all rest (Ok known) p cut a = pushed_end of_piece before now new all rest known p cut a
pushed_last {A} of_piece before now new all rest (Err e) p cut a = tt
