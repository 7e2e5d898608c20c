-- Walks from key to key through the visible keys, in either direction.
use Rattle.std.proofs.Common.{◌≡◌, ℕ, ◌+◌, Bool, true, false, cond, ◌&&◌, List, [], ◌∷◌, ◌++◌, length, drop, refl, ap, sym, ◌∙◌, append_assoc, append-nil, arith, nat_eq, nat_lt, Option, Some, None}
use Rattle.std.specs.Prelude.{slice_get, filter, reverse, is_some, position}
use Rattle.std.specs.Option.{option_or, unwrap_or}
use Rattle.std.specs.List.{position_or_len}
use Rattle.std.proofs.lemmas.Bool.Decides.{nat_tests}
use Rattle.std.proofs.lemmas.Grind.{reverse_onto}
use Rattle.std.proofs.lemmas.List.{reverse-append}
use Rattle.scm_types.specs.declared.file.File.{File}
use Rattle.scm_types.specs.declared.keys.SelectionKey.{SelectionKey}
use Rattle.scm_types.specs.declared.keys.SelectionKey.TheVariants as keys
use Rattle.scm_selection.specs.KeySet.{is_key, numbers_of, same_numbers}
use Rattle.scm_selection.specs.KeyLists.{line_keys, sections_keys, files_keys}
use Rattle.scm_selection.specs.Moves.{next_key, previous_key, keys_behind}
use Rattle.scm_selection.specs.KeysAround.{find_last, is_key_of, sections_at, lines_at, keys_after_file, keys_after_section, keys_before, keys_after}
use Rattle.scm_selection.proofs.PartLemmas.{parted_on, parted, joined, if_there, parted-append, both_none, lines-away, sections-away, files-away, not-above, eq-self, file-other, section-other, line-other}
use Rattle.scm_selection.proofs.RelationLemmas.{IsPlaced, placed, next_part, previous_part, behind, kept, next-is, previous-is, behind-is, kept-is, kept-parts, key-same}

-- ---- no key comes twice

-- none of the keys after a key is that key
never-after : (fs : List File) (key : SelectionKey) → parted (is_key key) (keys_after fs key) ≡ None
never-after fs keys.None = refl
never-after fs (keys.File k) =
    both_none (is_key (keys.File k)) (sections_keys k.file_idx 0 (sections_at fs k.file_idx)) (keys_after_file fs k.file_idx)
    (sections-away (is_key (keys.File k)) k.file_idx 0 (sections_at fs k.file_idx) (λ j lo hi. (refl, λ i. refl)))
    (files-away (is_key (keys.File k)) (k.file_idx + 1) (drop (k.file_idx + 1) fs) (λ j lo hi. file-other k j (both (nat_eq k.commit_idx 0) (nat_eq k.file_idx j) (not-above k.file_idx j (omega (arith, lo))))))
  where
    both : (a b : Bool) → b ≡ false → (a && b) ≡ false
    both true b e = e
    both false b e = refl
never-after fs (keys.Section k) =
    both_none (is_key (keys.Section k)) (line_keys k.file_idx k.section_idx 0 (lines_at (sections_at fs k.file_idx) k.section_idx)) (keys_after_section fs k.file_idx k.section_idx)
    (lines-away (is_key (keys.Section k)) k.file_idx k.section_idx 0 (lines_at (sections_at fs k.file_idx) k.section_idx) (λ i lo hi. refl))
    (both_none (is_key (keys.Section k)) (sections_keys k.file_idx (k.section_idx + 1) (drop (k.section_idx + 1) (sections_at fs k.file_idx))) (keys_after_file fs k.file_idx)
    (sections-away (is_key (keys.Section k)) k.file_idx (k.section_idx + 1) (drop (k.section_idx + 1) (sections_at fs k.file_idx)) (λ j lo hi. (later (nat_eq k.commit_idx 0) (nat_eq k.file_idx k.file_idx) (nat_eq k.section_idx j) (not-above k.section_idx j (omega (arith, lo))), λ i. refl)))
    (files-away (is_key (keys.Section k)) (k.file_idx + 1) (drop (k.file_idx + 1) fs) (λ j lo hi. section-other k j (both (nat_eq k.commit_idx 0) (nat_eq k.file_idx j) (not-above k.file_idx j (omega (arith, lo)))))))
  where
    both : (a b : Bool) → b ≡ false → (a && b) ≡ false
    both true b e = e
    both false b e = refl

    later : (a b c : Bool) → c ≡ false → (a && (b && (c && true))) ≡ false
    later true true c e = rw e refl
    later true false c e = refl
    later false b c e = refl
never-after fs (keys.Line k) =
    both_none (is_key (keys.Line k)) (line_keys k.file_idx k.section_idx (k.line_idx + 1) (drop (k.line_idx + 1) (lines_at (sections_at fs k.file_idx) k.section_idx))) (keys_after_section fs k.file_idx k.section_idx)
    (lines-away (is_key (keys.Line k)) k.file_idx k.section_idx (k.line_idx + 1) (drop (k.line_idx + 1) (lines_at (sections_at fs k.file_idx) k.section_idx)) (λ i lo hi. later (nat_eq k.commit_idx 0) (nat_eq k.file_idx k.file_idx) (nat_eq k.section_idx k.section_idx) (nat_eq k.line_idx i) (not-above k.line_idx i (omega (arith, lo)))))
    (both_none (is_key (keys.Line k)) (sections_keys k.file_idx (k.section_idx + 1) (drop (k.section_idx + 1) (sections_at fs k.file_idx))) (keys_after_file fs k.file_idx)
    (sections-away (is_key (keys.Line k)) k.file_idx (k.section_idx + 1) (drop (k.section_idx + 1) (sections_at fs k.file_idx)) (λ j lo hi. (refl, λ i. sooner (nat_eq k.commit_idx 0) (nat_eq k.file_idx k.file_idx) (nat_eq k.section_idx j) (nat_eq k.line_idx i) (not-above k.section_idx j (omega (arith, lo))))))
    (files-away (is_key (keys.Line k)) (k.file_idx + 1) (drop (k.file_idx + 1) fs) (λ j lo hi. line-other k j (both (nat_eq k.commit_idx 0) (nat_eq k.file_idx j) (not-above k.file_idx j (omega (arith, lo)))))))
  where
    both : (a b : Bool) → b ≡ false → (a && b) ≡ false
    both true b e = e
    both false b e = refl

    sooner : (a b c d : Bool) → c ≡ false → (a && (b && (c && (d && true)))) ≡ false
    sooner true true c d e = rw e refl
    sooner true false c d e = refl
    sooner false b c d e = refl

    later : (a b c d : Bool) → d ≡ false → (a && (b && (c && (d && true)))) ≡ false
    later true true true d e = rw e refl
    later true true false d e = refl
    later true false c d e = refl
    later false b c d e = refl

-- no key occurs again after its first occurrence
abbrev pub Once : List SelectionKey → Type 0
Once ks = (k : SelectionKey) → parted (is_key k) (behind (parted (is_key k) ks)) ≡ None

none-kept : (q test : SelectionKey → Bool) (v : Bool) → ((k : SelectionKey) → q k ≡ true → test k ≡ v) → (ks : List SelectionKey) → parted q ks ≡ None → parted q (filter test ks) ≡ None
none-kept q test v same ks e = kept-is q test v same ks ∙ ap (kept v test) e

behind-kept : (q test : SelectionKey → Bool) (a b : Bool) (before after : List SelectionKey) → parted q (filter test after) ≡ None → parted q (behind (kept a test (if_there b before after))) ≡ None
behind-kept q test true true before after e = e
behind-kept q test false true before after e = refl
behind-kept q test true false before after e = refl
behind-kept q test false false before after e = refl

pub once-kept : (test : SelectionKey → Bool) (fs : List File) → Once (filter test (files_keys 0 fs))
once-kept test fs k =
    ap (λ r. parted (is_key k) (behind r)) (kept-parts test fs k)
    ∙ behind-kept (is_key k) test (test k) (is_key_of fs k) (keys_before fs k) (keys_after fs k)
    (none-kept (is_key k) test (test k) (λ j e. ap test (sym (key-same k j e))) (keys_after fs k) (never-after fs k))

-- ---- whether a key is in the list

is-placed : (q : SelectionKey → Bool) (ks : List SelectionKey) → is_some (position q ks) ≡ is_some (parted q ks)
is-placed q ks = go (parted q ks) (position_or_len q ks) (placed q ks)
  where
    go : (r : Option (List SelectionKey × List SelectionKey)) (place : ℕ) → IsPlaced q r ks place → is_some (cond (nat_lt place (length ks)) (Some place) None) ≡ is_some r
    go None place h =
        let out : nat_lt place (length ks) ≡ false = grind (arith, nat_tests) in rw out refl
    go (Some p) place h =
        let l = h.1 in
        let e = h.0 in
        let inside : nat_lt place (length ks) ≡ true = grind (arith, nat_tests) in
        rw inside refl

is-kept : (test : SelectionKey → Bool) (a b : Bool) (before after : List SelectionKey) → is_some (kept b test (if_there a before after)) ≡ (a && b)
is-kept test true true before after = refl
is-kept test true false before after = refl
is-kept test false true before after = refl
is-kept test false false before after = refl

pub among-kept : (test : SelectionKey → Bool) (fs : List File) (key : SelectionKey) → (is_key_of fs key && test key) ≡ is_some (position (is_key key) (filter test (files_keys 0 fs)))
among-kept test fs key =
    sym (is-placed (is_key key) (filter test (files_keys 0 fs))
    ∙ ap is_some (kept-parts test fs key)
    ∙ is-kept test (is_key_of fs key) (test key) (keys_before fs key) (keys_after fs key))

-- ---- a list that is cut at a key

self-numbers : (ns : List ℕ) → same_numbers ns ns ≡ true
self-numbers [] = refl
self-numbers (n ∷ ns) = rw (eq-self n) (self-numbers ns)

key-self : (k : SelectionKey) → is_key k k ≡ true
key-self k = self-numbers (numbers_of k)

parted-found : (q : SelectionKey → Bool) (k : SelectionKey) (xs ys : List SelectionKey) → q k ≡ true → parted q xs ≡ None → parted q (xs ++ (k ∷ ys)) ≡ Some (xs, ys)
parted-found q k xs ys t none =
    parted-append q xs (k ∷ ys)
    ∙ rw (none, t, append-nil xs) refl

abbrev ahead : Option (List SelectionKey × List SelectionKey) → List SelectionKey
ahead None = []
ahead (Some p) = p.0

cut : (k : SelectionKey) (ks before after : List SelectionKey) → parted (is_key k) ks ≡ Some (before, after) → ks ≡ before ++ (k ∷ after)
cut k [] before after e = absurd (cc e)
cut k (x ∷ xs) before after e = go (is_key k x) refl (parted (is_key k) xs) refl (cut k xs) e
  where
    go : (b : Bool) → is_key k x ≡ b → (r : Option (List SelectionKey × List SelectionKey)) → parted (is_key k) xs ≡ r → ((before after : List SelectionKey) → parted (is_key k) xs ≡ Some (before, after) → xs ≡ before ++ (k ∷ after)) → parted_on b x xs r ≡ Some (before, after) → x ∷ xs ≡ before ++ (k ∷ after)
    go true t r h more e =
        let same : k ≡ x = key-same k x t in
        let first : [] ≡ before = ap ahead e in
        let rest : xs ≡ after = ap behind e in
        rw (← first, ← rest, same) refl
    go false t None h more e = absurd (cc e)
    go false t (Some p) h more e =
        let first : x ∷ p.0 ≡ before = ap ahead e in
        let rest : p.1 ≡ after = ap behind e in
        rw (← first, ← rest) (ap (λ js. x ∷ js) (more p.0 p.1 h))

-- a key of a list without repeats does not occur before its index
no-twice : (ks : List SelectionKey) → Once ks → (k : SelectionKey) (xs ys : List SelectionKey) → ks ≡ xs ++ (k ∷ ys) → parted (is_key k) xs ≡ None
no-twice ks once k xs ys e = go (parted (is_key k) xs) refl
  where
    never : (ps zs : List SelectionKey) (r : Option (List SelectionKey × List SelectionKey)) (s : List SelectionKey × List SelectionKey) → joined ps zs r (Some s) ≡ None → ◌≡◌ {A = Option (List SelectionKey × List SelectionKey)} (Some s) None
    never ps zs None s e = absurd (cc e)
    never ps zs (Some p) s e = absurd (cc e)

    go : (r : Option (List SelectionKey × List SelectionKey)) → parted (is_key k) xs ≡ r → parted (is_key k) xs ≡ None
    go None h = h
    go (Some p) h =
        let whole : parted (is_key k) ks ≡ Some (p.0, p.1 ++ (k ∷ ys)) = ap (parted (is_key k)) e ∙ parted-append (is_key k) xs (k ∷ ys) ∙ ap (λ r. joined xs (k ∷ ys) r (parted (is_key k) (k ∷ ys))) h in
        let again : parted (is_key k) (p.1 ++ (k ∷ ys)) ≡ None = ap (λ r. parted (is_key k) (behind r)) (sym whole) ∙ once k in
        let found : parted (is_key k) (k ∷ ys) ≡ Some ([], ys) = rw (key-self k) refl in
        let both : joined p.1 (k ∷ ys) (parted (is_key k) p.1) (Some ([], ys)) ≡ None = ap (joined p.1 (k ∷ ys) (parted (is_key k) p.1)) (sym found) ∙ sym (parted-append (is_key k) p.1 (k ∷ ys)) ∙ again in
        absurd (cc (never p.1 (k ∷ ys) (parted (is_key k) p.1) ([], ys) both))

-- ---- the reversed list

turn-cons : (x : SelectionKey) (xs : List SelectionKey) → reverse (x ∷ xs) ≡ reverse xs ++ (x ∷ [])
turn-cons x xs = reverse_onto xs x []

none-turned : (q : SelectionKey → Bool) (ks : List SelectionKey) → parted q ks ≡ None → parted q (reverse ks) ≡ None
none-turned q [] e = refl
none-turned q (x ∷ xs) e = go (q x) refl (parted q xs) refl (none-turned q xs) e
  where
    go : (b : Bool) → q x ≡ b → (r : Option (List SelectionKey × List SelectionKey)) → parted q xs ≡ r → (parted q xs ≡ None → parted q (reverse xs) ≡ None) → parted_on b x xs r ≡ None → parted q (reverse (x ∷ xs)) ≡ None
    go true t r h more e = absurd (cc e)
    go false t None h more e =
        let last : parted q (x ∷ []) ≡ None = rw t refl in
        ap (parted q) (turn-cons x xs) ∙ both_none q (reverse xs) (x ∷ []) (more h) last
    go false t (Some p) h more e = absurd (cc e)

abbrev turned : Option (List SelectionKey × List SelectionKey) → Option (List SelectionKey × List SelectionKey)
turned None = None
turned (Some p) = Some (reverse p.1, reverse p.0)

module _ (ks : List SelectionKey) (once : Once ks) where
  turned-parts : (k : SelectionKey) (r : Option (List SelectionKey × List SelectionKey)) → parted (is_key k) ks ≡ r → parted (is_key k) (reverse ks) ≡ turned r
  turned-parts k None e = none-turned (is_key k) ks e
  turned-parts k (Some p) e =
      let apart : ks ≡ p.0 ++ (k ∷ p.1) = cut k ks p.0 p.1 e in
      let back : parted (is_key k) p.1 ≡ None = ap (λ r. parted (is_key k) (behind r)) (sym e) ∙ once k in
      let round : reverse ks ≡ reverse p.1 ++ (k ∷ reverse p.0) =
      ap reverse apart ∙ reverse-append p.0 (k ∷ p.1) ∙ ap (λ js. js ++ reverse p.0) (turn-cons k p.1) ∙ append_assoc (reverse p.1) (k ∷ []) (reverse p.0) in
      ap (parted (is_key k)) round ∙ parted-found (is_key k) k (reverse p.1) (reverse p.0) (key-self k) (none-turned (is_key k) p.1 back)

  once-at : (k : SelectionKey) (r : Option (List SelectionKey × List SelectionKey)) → parted (is_key k) ks ≡ r → parted (is_key k) (behind (turned r)) ≡ None
  once-at k None e = refl
  once-at k (Some p) e = none-turned (is_key k) p.0 (no-twice ks once k p.0 p.1 (cut k ks p.0 p.1 e))

  pub once-turned : Once (reverse ks)
  once-turned k = ap (λ r. parted (is_key k) (behind r)) (turned-parts k (parted (is_key k) ks) refl) ∙ once-at k (parted (is_key k) ks) refl

head-append : (xs ys : List SelectionKey) → slice_get (xs ++ ys) 0 ≡ option_or (slice_get xs 0) (slice_get ys 0)
head-append [] ys = refl
head-append (x ∷ xs) ys = refl

last-is : (ks : List SelectionKey) → find_last (λ _. true) ks ≡ slice_get (reverse ks) 0
last-is [] = refl
last-is (x ∷ xs) = ap (λ r. option_or r (Some x)) (last-is xs) ∙ sym (ap (λ js. slice_get js 0) (turn-cons x xs) ∙ head-append (reverse xs) (x ∷ []))

-- the key before is the next one of the reversed list
pub previous-turned : (ks : List SelectionKey) → Once ks → (key other : SelectionKey) → previous_key ks key other ≡ next_key (reverse ks) key other
previous-turned ks once key other =
    previous-is ks key other
    ∙ go (parted (is_key key) ks)
    ∙ sym (next-is (reverse ks) key other ∙ ap (next_part key other) (turned-parts ks once key (parted (is_key key) ks) refl))
  where
    go : (r : Option (List SelectionKey × List SelectionKey)) → previous_part key other r ≡ next_part key other (turned r)
    go None = refl
    go (Some p) = ap (λ r. unwrap_or r key) (last-is p.0)

-- what is in a list is in the reversed list
pub among-turned : (ks : List SelectionKey) → Once ks → (key : SelectionKey) → is_some (position (is_key key) (reverse ks)) ≡ is_some (position (is_key key) ks)
among-turned ks once key =
    is-placed (is_key key) (reverse ks)
    ∙ ap is_some (turned-parts ks once key (parted (is_key key) ks) refl)
    ∙ go (parted (is_key key) ks)
    ∙ sym (is-placed (is_key key) ks)
  where
    go : (r : Option (List SelectionKey × List SelectionKey)) → is_some (turned r) ≡ is_some r
    go None = refl
    go (Some p) = refl

-- ---- a step through a list without repeats

module _ (ks : List SelectionKey) (once : Once ks) (key : SelectionKey) where
  ended : (c : List SelectionKey) → parted (is_key key) c ≡ None → is_key key (unwrap_or (slice_get c 0) key) ≡ true → c ≡ []
  ended [] none e = refl
  ended (k ∷ c) none e =
      let found : parted (is_key key) (k ∷ c) ≡ Some ([], c) = rw e refl in
      absurd (cc (sym none ∙ found))

  ended-at : (r : Option (List SelectionKey × List SelectionKey)) → parted (is_key key) (behind r) ≡ None → is_key key (next_part key key r) ≡ true → behind r ≡ []
  ended-at None none e = refl
  ended-at (Some p) none e = ended p.1 none e

  -- if the step stays at the key, no key comes after it
  pub step-stays : is_key key (next_key ks key key) ≡ true → keys_behind ks key ≡ []
  step-stays e = behind-is ks key ∙ ended-at (parted (is_key key) ks) (once key) (ap (is_key key) (sym (next-is ks key key)) ∙ e)

  gone : (before c : List SelectionKey) → parted (is_key key) ks ≡ Some (before, c) → is_key key (unwrap_or (slice_get c 0) key) ≡ false → c ≡ unwrap_or (slice_get c 0) key ∷ behind (parted (is_key (unwrap_or (slice_get c 0) key)) ks)
  gone before [] h e = absurd (cc (sym (key-self key) ∙ e))
  gone before (k ∷ c) h e =
      let apart : ks ≡ (before ++ (key ∷ [])) ++ (k ∷ c) = cut key ks before (k ∷ c) h ∙ sym (append_assoc before (key ∷ []) (k ∷ c)) in
      let found : parted (is_key k) ks ≡ Some (before ++ (key ∷ []), c) =
      ap (parted (is_key k)) apart ∙ parted-found (is_key k) k (before ++ (key ∷ [])) c (key-self k) (no-twice ks once k (before ++ (key ∷ [])) c apart) in
      ap (λ r. k ∷ behind r) (sym found)

  gone-at : (r : Option (List SelectionKey × List SelectionKey)) → parted (is_key key) ks ≡ r → is_key key (next_part key key r) ≡ false → behind r ≡ next_part key key r ∷ behind (parted (is_key (next_part key key r)) ks)
  gone-at None h e = absurd (cc (sym (key-self key) ∙ e))
  gone-at (Some p) h e = gone p.0 p.1 h e

  -- if it goes on, it goes to the first key after it, and the others come after that one
  pub step-goes : is_key key (next_key ks key key) ≡ false → keys_behind ks key ≡ next_key ks key key ∷ keys_behind ks (next_key ks key key)
  step-goes e =
      let next : next_key ks key key ≡ next_part key key (parted (is_key key) ks) = next-is ks key key in
      behind-is ks key
      ∙ gone-at (parted (is_key key) ks) refl (ap (is_key key) (sym next) ∙ e)
      ∙ ap (λ n. n ∷ behind (parted (is_key n) ks)) (sym next)
      ∙ ap (λ js. next_key ks key key ∷ js) (sym (behind-is ks (next_key ks key key)))
