-- Sets of keys are in ascending order, and a key that is in one is added without a change.
use Rattle.std.proofs.Common.{◌≡◌, ℕ, Bool, true, false, cond, ◌||◌, ◌&&◌, List, [], ◌∷◌, refl, sym, ap, ap₂, ◌∙◌, arith, nat_eq}
use Rattle.std.proofs.lemmas.Bool.Decides.{nat_tests}
use Rattle.std.proofs.lemmas.Cmp.{tied_itself}
use Rattle.std.specs.declared.cmp.Ordering.{Ordering}
use Rattle.std.specs.declared.cmp.Ordering.TheVariants.{Less, Equal, Greater}
use Rattle.std.specs.Ordering.{nat_cmp, is_eq, ordering_reverse, ordering_then, match_ordering}
use Rattle.std.specs.Prelude.{fold}
use Rattle.std.specs.Cmp.{IsTotalOrder}
use Rattle.std.specs.Cmp.Lexicographic.{on_texts, slice_cmp}
use Rattle.scm_types.specs.declared.keys.SelectionKey.{SelectionKey}
use Rattle.scm_selection.proofs.PartLemmas.{eq-self}
use Rattle.scm_selection.proofs.RelationLemmas.{and-left, and-right, key-same}
use Rattle.scm_selection.specs.KeySet.{key_cmp, numbers_of, same_numbers, is_key, has_key, with_key, without_key, with_key_flipped, key_set, is_same_set}

-- the key comes before each key of the list
abbrev pub IsBefore : SelectionKey → List SelectionKey → Type 0
IsBefore key [] = Unit {0}
IsBefore key (k ∷ ks) = (key_cmp key k ≡ Less) × IsBefore key ks

-- the keys ascend
abbrev pub Ascends : List SelectionKey → Type 0
Ascends [] = Unit {0}
Ascends (k ∷ ks) = IsBefore k ks × Ascends ks

self-numbers : (ns : List ℕ) → same_numbers ns ns ≡ true
self-numbers [] = refl
self-numbers (n ∷ ns) = rw (eq-self n) (self-numbers ns)

pub key-self : (k : SelectionKey) → is_key k k ≡ true
key-self k = self-numbers (numbers_of k)

equal-numbers : (ms ns : List ℕ) → same_numbers ms ns ≡ is_eq (slice_cmp nat_cmp ms ns)
equal-numbers [] [] = refl
equal-numbers [] (n ∷ ns) = refl
equal-numbers (m ∷ ms) [] = refl
equal-numbers (m ∷ ms) (n ∷ ns) = ap (λ b. nat_eq m n && b) (equal-numbers ms ns) ∙ sym (first-numbers m n (slice_cmp nat_cmp ms ns))
  where
    first-numbers : (m n : ℕ) (o : Ordering) → is_eq (ordering_then (nat_cmp m n) o) ≡ (nat_eq m n && is_eq o)
    first-numbers m n o = grind (arith, nat_tests)

pub equal-is-same : (a b : SelectionKey) → key_cmp a b ≡ Equal → is_key a b ≡ true
equal-is-same a b e = equal-numbers (numbers_of a) (numbers_of b) ∙ ap is_eq e

order : IsTotalOrder key_cmp
order = on_texts numbers_of

before-all : (a b : SelectionKey) (ks : List SelectionKey) → key_cmp a b ≡ Less → IsBefore b ks → IsBefore a ks
before-all a b [] e h = tt
before-all a b (k ∷ ks) e h = (order.trans a b k e h.0, before-all a b ks e h.1)

turned : (a b : SelectionKey) → key_cmp a b ≡ Greater → key_cmp b a ≡ Less
turned a b e = order.antisymm b a ∙ ap ordering_reverse e

with-before : (key k : SelectionKey) (ks : List SelectionKey) → key_cmp k key ≡ Less → IsBefore k ks → IsBefore k (with_key ks key)
with-before key k [] e h = (e, tt)
with-before key k (x ∷ xs) e h = go (key_cmp key x) (with-before key k xs e h.1)
  where
    go : (o : Ordering) → IsBefore k (with_key xs key) → IsBefore k (match_ordering o (key ∷ x ∷ xs) (x ∷ xs) (x ∷ with_key xs key))
    go Less more = (e, h)
    go Equal more = h
    go Greater more = (h.0, more)

pub with-ascends : (ks : List SelectionKey) (key : SelectionKey) → Ascends ks → Ascends (with_key ks key)
with-ascends [] key h = (tt, tt)
with-ascends (k ∷ ks) key h = go (key_cmp key k) refl (with-ascends ks key h.1)
  where
    go : (o : Ordering) → key_cmp key k ≡ o → Ascends (with_key ks key) → Ascends (match_ordering o (key ∷ k ∷ ks) (k ∷ ks) (k ∷ with_key ks key))
    go Less e more = ((e, before-all key k ks e h.0), h)
    go Equal e more = h
    go Greater e more = (with-before key k ks (turned key k e) h.0, more)

either-before : (b : Bool) (k : SelectionKey) (xs ys : List SelectionKey) → IsBefore k xs → IsBefore k ys → IsBefore k (cond b xs ys)
either-before true k xs ys h g = h
either-before false k xs ys h g = g

without-before : (key k : SelectionKey) (ks : List SelectionKey) → IsBefore k ks → IsBefore k (without_key ks key)
without-before key k [] h = tt
without-before key k (x ∷ xs) h = either-before (is_key key x) k xs (x ∷ without_key xs key) h.1 (h.0, without-before key k xs h.1)

pub either-ascends : (b : Bool) (xs ys : List SelectionKey) → Ascends xs → Ascends ys → Ascends (cond b xs ys)
either-ascends true xs ys h g = h
either-ascends false xs ys h g = g

pub without-ascends : (ks : List SelectionKey) (key : SelectionKey) → Ascends ks → Ascends (without_key ks key)
without-ascends [] key h = tt
without-ascends (k ∷ ks) key h = either-ascends (is_key key k) ks (k ∷ without_key ks key) h.1 (without-before key k ks h.0, without-ascends ks key h.1)

pub flipped-ascends : (ks : List SelectionKey) (key : SelectionKey) → Ascends ks → Ascends (with_key_flipped ks key)
flipped-ascends ks key h = either-ascends (has_key ks key) (without_key ks key) (with_key ks key) (without-ascends ks key h) (with-ascends ks key h)

pub folded-ascends : (ks set : List SelectionKey) → Ascends set → Ascends (fold with_key set ks)
folded-ascends [] set h = h
folded-ascends (k ∷ ks) set h = folded-ascends ks (with_key set k) (with-ascends set k h)

pub set-ascends : (ks : List SelectionKey) → Ascends (key_set ks)
set-ascends ks = folded-ascends ks [] tt

-- ---- a key that is in the set

same-is-equal : (a b : SelectionKey) → is_key a b ≡ true → key_cmp a b ≡ Equal
same-is-equal a b e = ap (key_cmp a) (sym (key-same a b e)) ∙ tied_itself order a

less-is-other : (a b : SelectionKey) (x : Bool) → is_key a b ≡ x → key_cmp a b ≡ Less → x ≡ false
less-is-other a b false e l = refl
less-is-other a b true e l =
    let equal = same-is-equal a b e in
    cc

not-before : (key : SelectionKey) (ks : List SelectionKey) → IsBefore key ks → has_key ks key ≡ false
not-before key [] h = refl
not-before key (k ∷ ks) h =
    let other = less-is-other key k (is_key key k) refl h.0 in
    let rest = not-before key ks h.1 in
    rw (other, rest) refl

-- adding a key of the set changes nothing
pub with-same : (ks : List SelectionKey) (key : SelectionKey) → Ascends ks → has_key ks key ≡ true → with_key ks key ≡ ks
with-same [] key h e = cc
with-same (k ∷ ks) key h e = go (key_cmp key k) refl (is_key key k) refl (λ found. with-same ks key h.1 found) e
  where
    go : (o : Ordering) → key_cmp key k ≡ o → (b : Bool) → is_key key k ≡ b → (has_key ks key ≡ true → with_key ks key ≡ ks) → (b || has_key ks key) ≡ true
        → match_ordering o (key ∷ k ∷ ks) (k ∷ ks) (k ∷ with_key ks key) ≡ k ∷ ks
    go Equal c b s more e = refl
    go Greater c true s more e = let equal = same-is-equal key k s in cc
    go Greater c false s more e = ap (λ (l : List SelectionKey). k ∷ l) (more e)
    go Less c true s more e = let equal = same-is-equal key k s in cc
    go Less c false s more e = let none : has_key ks key ≡ false = not-before key ks (before-all key k ks c h.0) in cc

-- a key that was added is in the set
pub with-has : (ks : List SelectionKey) (key : SelectionKey) → has_key (with_key ks key) key ≡ true
with-has [] key = rw (key-self key) refl
with-has (k ∷ ks) key = go (key_cmp key k) refl (with-has ks key)
  where
    or-true : (b : Bool) → (b || true) ≡ true
    or-true true = refl
    or-true false = refl

    go : (o : Ordering) → key_cmp key k ≡ o → has_key (with_key ks key) key ≡ true → has_key (match_ordering o (key ∷ k ∷ ks) (k ∷ ks) (k ∷ with_key ks key)) key ≡ true
    go Less c more = rw (key-self key) refl
    go Equal c more =
        let is : is_key key k ≡ true = equal-is-same key k c in
        rw is refl
    go Greater c more = rw more (or-true (is_key key k))

-- a key of the set stays in it
pub with-keeps : (ks : List SelectionKey) (key other : SelectionKey) → has_key ks other ≡ true → has_key (with_key ks key) other ≡ true
with-keeps [] key other e = cc
with-keeps (k ∷ ks) key other e = go (key_cmp key k) (is_key other k) refl (λ found. with-keeps ks key other found) e
  where
    or-true : (b : Bool) → (b || true) ≡ true
    or-true true = refl
    or-true false = refl

    go : (o : Ordering) (b : Bool) → is_key other k ≡ b → (has_key ks other ≡ true → has_key (with_key ks key) other ≡ true) → (b || has_key ks other) ≡ true
        → has_key (match_ordering o (key ∷ k ∷ ks) (k ∷ ks) (k ∷ with_key ks key)) other ≡ true
    go Less b s more e = rw s (rw e (or-true (is_key other key)))
    go Equal b s more e = rw s e
    go Greater true s more e = rw s refl
    go Greater false s more e = rw s (more e)

-- ---- what is in the set of a list

twice : (a b : Bool) → (a || b) ≡ (a || (a || b))
twice true b = refl
twice false b = refl

turned-or : (a b c : Bool) → (a || (b || c)) ≡ (b || (a || c))
turned-or true true c = refl
turned-or true false c = refl
turned-or false b c = refl

-- a set with a key added has that key and those that it had
pub with-any : (ks : List SelectionKey) (key other : SelectionKey) → has_key (with_key ks key) other ≡ (is_key other key || has_key ks other)
with-any [] key other = refl
with-any (k ∷ ks) key other = go (key_cmp key k) refl (with-any ks key other)
  where
    go : (o : Ordering) → key_cmp key k ≡ o → has_key (with_key ks key) other ≡ (is_key other key || has_key ks other)
        → has_key (match_ordering o (key ∷ k ∷ ks) (k ∷ ks) (k ∷ with_key ks key)) other ≡ (is_key other key || (is_key other k || has_key ks other))
    go Less e more = refl
    go Equal e more =
        twice (is_key other k) (has_key ks other)
        ∙ ap (λ (x : SelectionKey). is_key other x || (is_key other k || has_key ks other)) (sym (key-same key k (equal-is-same key k e)))
    go Greater e more = ap (λ b. is_key other k || b) more ∙ turned-or (is_key other k) (is_key other key) (has_key ks other)

set-from-has : (ks set : List SelectionKey) (key : SelectionKey) → has_key (fold with_key set ks) key ≡ (has_key ks key || has_key set key)
set-from-has [] set key = refl
set-from-has (k ∷ ks) set key =
    set-from-has ks (with_key set k) key
    ∙ ap (λ b. has_key ks key || b) (with-any set k key)
    ∙ third (has_key ks key) (is_key key k) (has_key set key)
  where
    third : (a b c : Bool) → (a || (b || c)) ≡ ((b || a) || c)
    third true true c = refl
    third true false c = refl
    third false true c = refl
    third false false c = refl

-- the set of a list has the keys of the list
pub set-has : (ks : List SelectionKey) (key : SelectionKey) → has_key (key_set ks) key ≡ has_key ks key
set-has ks key = set-from-has ks [] key ∙ or-false (has_key ks key)
  where
    or-false : (b : Bool) → (b || false) ≡ b
    or-false true = refl
    or-false false = refl

-- ---- sets with the same keys

or-first : (b c : Bool) → b ≡ true → (b || c) ≡ true
or-first true c e = refl
or-first false c e = absurd (cc e)

same-rest : (a b c : Bool) → (a ≡ true → (b ≡ false) × (c ≡ false)) → (a || b) ≡ (a || c) → b ≡ c
same-rest true b c none e = let facts = none refl in facts.0 ∙ sym facts.1
same-rest false b c none e = e

-- a key before all keys of an ascending list is not in it
lower-away : (x y : SelectionKey) (ys : List SelectionKey) → key_cmp x y ≡ Less → IsBefore y ys → has_key (y ∷ ys) x ≡ false
lower-away x y ys e h = not-before x (y ∷ ys) (e, before-all x y ys e h)

-- two ascending lists with the same keys are the same
pub same-set : (xs ys : List SelectionKey) → Ascends xs → Ascends ys → ((k : SelectionKey) → has_key xs k ≡ has_key ys k) → xs ≡ ys
same-set [] [] h g same = refl
same-set [] (y ∷ ys) h g same = absurd (cc (same y, or-first (is_key y y) (has_key ys y) (key-self y)))
same-set (x ∷ xs) [] h g same = absurd (cc (same x, or-first (is_key x x) (has_key xs x) (key-self x)))
same-set (x ∷ xs) (y ∷ ys) h g same = go (key_cmp x y) refl (λ rest. same-set xs ys h.1 g.1 rest)
  where
    go : (o : Ordering) → key_cmp x y ≡ o → (((k : SelectionKey) → has_key xs k ≡ has_key ys k) → xs ≡ ys) → x ∷ xs ≡ y ∷ ys
    go Less e more = absurd (cc (same x, or-first (is_key x x) (has_key xs x) (key-self x), lower-away x y ys e g.0))
    go Greater e more = absurd (cc (same y, or-first (is_key y y) (has_key ys y) (key-self y), lower-away y x xs (turned x y e) h.0))
    go Equal e more =
        let first : x ≡ y = key-same x y (equal-is-same x y e) in
        let none : (k : SelectionKey) → is_key k x ≡ true → (has_key xs k ≡ false) × (has_key ys k ≡ false) =
        λ k is. let at : k ≡ x = key-same k x is in
        (ap (has_key xs) at ∙ not-before x xs h.0, ap (has_key ys) (at ∙ first) ∙ not-before y ys g.0) in
        let rest : (k : SelectionKey) → has_key xs k ≡ has_key ys k =
        λ k. same-rest (is_key k x) (has_key xs k) (has_key ys k) (none k) (same k ∙ ap (λ z. is_key k z || has_key ys k) (sym first)) in
        ap (λ (zs : List SelectionKey). x ∷ zs) (more rest) ∙ ap (λ z. z ∷ ys) first

-- ---- a set without a key

-- two keys are equal either way round
pub key-turned : (a b : SelectionKey) → is_key a b ≡ is_key b a
key-turned a b = go (is_key a b) refl (is_key b a) refl
  where
    go : (x : Bool) → is_key a b ≡ x → (y : Bool) → is_key b a ≡ y → x ≡ y
    go true e true f = refl
    go false e false f = refl
    go true e false f =
        let same : a ≡ b = key-same a b e in
        let itself : is_key b b ≡ true = key-self b in
        let there : is_key b a ≡ true = ap (is_key b) same ∙ itself in
        absurd (cc (f, there))
    go false e true f =
        let same : b ≡ a = key-same b a f in
        let itself : is_key a a ≡ true = key-self a in
        let there : is_key a b ≡ true = ap (is_key a) same ∙ itself in
        absurd (cc (e, there))

-- a set without a key has the others
pub without-any : (ks : List SelectionKey) (key other : SelectionKey) → Ascends ks → has_key (without_key ks key) other ≡ cond (is_key other key) false (has_key ks other)
without-any [] key other h = either (is_key other key)
  where
    either : (b : Bool) → false ≡ cond b false false
    either true = refl
    either false = refl
without-any (k ∷ ks) key other h = go (is_key key k) refl (is_key other key) refl (without-any ks key other h.1)
  where
    kept : (b : Bool) → is_key other k ≡ b → is_key key k ≡ false → is_key other key ≡ true → b ≡ false
    kept false e away same = refl
    kept true e away same = let is : other ≡ key = key-same other key same in absurd (cc (e, away, ap (λ x. is_key x k) is))

    gone : (b : Bool) → is_key other k ≡ b → is_key key k ≡ true → is_key other key ≡ false → b ≡ false
    gone false e there away = refl
    gone true e there away = let is : key ≡ k = key-same key k there in absurd (cc (e, away, ap (is_key other) is))

    go : (b : Bool) → is_key key k ≡ b → (c : Bool) → is_key other key ≡ c → has_key (without_key ks key) other ≡ cond c false (has_key ks other)
        → has_key (cond b ks (k ∷ without_key ks key)) other ≡ cond c false (is_key other k || has_key ks other)
    go true there true same more = ap (has_key ks) (key-same other key same ∙ key-same key k there) ∙ not-before k ks h.0
    go true there false away more = ap (λ a. a || has_key ks other) (sym (gone (is_key other k) refl there away))
    go false there true same more = ap (λ a. a || has_key (without_key ks key) other) (kept (is_key other k) refl there same) ∙ more
    go false there false away more = ap (λ a. is_key other k || a) more

-- ---- sets that are the same

pub same-self : (ks : List SelectionKey) → is_same_set ks ks ≡ true
same-self [] = refl
same-self (k ∷ ks) = ap₂ (λ (a b : Bool). a && b) (key-self k) (same-self ks)

pub same-list : (xs ys : List SelectionKey) → is_same_set xs ys ≡ true → xs ≡ ys
same-list [] [] e = refl
same-list [] (y ∷ ys) e = absurd (cc e)
same-list (x ∷ xs) [] e = absurd (cc e)
same-list (x ∷ xs) (y ∷ ys) e =
    ap₂ (λ (k : SelectionKey) (ks : List SelectionKey). k ∷ ks) (key-same x y (and-left (is_key x y) (is_same_set xs ys) e)) (same-list xs ys (and-right (is_key x y) (is_same_set xs ys) e))
