-- A screen with a changed row, change after change, and what that counts.
use Rattle.std.proofs.Common.{◌≡◌, ℕ, ◌+◌, ◌<◌, ◌≤◌, min, Bool, true, false, List, [], ◌∷◌, length, get_or, drop, refl, sym, ap, ap₂, subst, ◌∙◌, ◌++◌, ◌-◌, arith, ⊎_elim}
use Rattle.std.specs.Prelude.{pos, ◌+ℤ◌, ◌-ℤ◌, ◌≤ℤ◌, slice_set, slice_index_or, nat_lt, if◌then◌else◌, OnOk, OnErr, IfOk, Ok, Err}
use Rattle.std.specs.declared.result.Result.{Result}
use Rattle.std.proofs.lemmas.List.{set-set, get_or-set_same, length-set, set-get_or}
use Rattle.std.proofs.lemmas.Int.{ints}
use Rattle.scm_cells.specs.Beginnings.{Adds, IsCut}
use Rattle.scm_cells.specs.Clusters.{text_width}
use Rattle.scm_cells.specs.Counts.{one_row, one_call, added}
use Rattle.scm_cells.specs.Row.{put, ellipsis}
use Rattle.scm_cells.specs.Screen.{Screen, put_on, after_count}
use Rattle.scm_cells.specs.Spans.{span_texts}
use Rattle.scm_cells.specs.declared.text.Span.{Span}
use Rattle.scm_render.specs.Canvas.{Row}
use Rattle.scm_render.specs.Rows.{put_texts, say_texts}
use Rattle.scm_render.proofs.CountLemmas.{added-twice}
use Rattle.scm_render.proofs.DrawLemmas.{spans-more, spans-none}
use Rattle.scm_widgets.specs.Counts.{drawn}
use Rattle.scm_strips.specs.declared.area.Area.{Area}
use Rattle.scm_strips.specs.Shows.{AreaRow, shows, calls_of}
use Rattle.scm_strips.specs.Painted.{IsSized, with_row, with_texts, with_end, drawn_on, painted, reached}
use Rattle.scm_strips.proofs.TextLemmas.{reached-cut, reached-held, reached-none, reached-then, said, texts-cut, texts-held, texts-none, texts-then}

-- ---- a row changed twice

pub written_twice : (g : Row → Row) (xs : List Row) (i : ℕ) (a : Row) → i < length xs → slice_set (slice_set xs i a) i (g (slice_index_or (slice_set xs i a) i [])) ≡ slice_set xs i (g a)
written_twice g xs i a h = rw (get_or-set_same xs i a [] h) (set-set xs i a (g a))

-- two changes are one
pub drawn-then : (z m n : ℕ) (f g : Row → Row) (s t u : Screen) → z < length s.rows → t ≡ drawn_on z f m s → u ≡ drawn_on z g n t → u ≡ drawn_on z (λ r. g (f r)) (m + n) s
drawn-then z m n f g s t u h p q =
    q ∙ ap (drawn_on z g n) p
    ∙ ap₂ (λ rows counts. record s { rows = rows; counts = counts })
    (written_twice g s.rows z (f (slice_index_or s.rows z [])) h)
    (added-twice s.counts (drawn 0 m) (drawn 0 n))

-- a change after a call is counted
pub called : (z : ℕ) (f : Row → Row) (s t u : Screen) → t ≡ after_count s one_call → u ≡ with_row z f t → u ≡ drawn_on z f 1 s
called z f s t u p q = q ∙ ap (with_row z f) p

pub row-after : (z : ℕ) (s t : Screen) → z < length s.rows → t ≡ after_count s one_call → z < length t.rows
row-after z s t h e = let same = ap (λ (u : Screen). length u.rows) e in omega (arith, h, same)

-- a row is counted, and changed
pub begun : (a : Area) (z : ℕ) (d : AreaRow) (s t u : Screen) → t ≡ after_count s one_row → u ≡ drawn_on z (shows a d) (calls_of d) t → u ≡ painted a z d s
begun a z d s t u p q =
    let all : 0 + calls_of d ≡ calls_of d = omega arith in
    q ∙ ap (drawn_on z (shows a d) (calls_of d)) p
    ∙ ap (λ counts. record s { rows = slice_set s.rows z (shows a d (slice_index_or s.rows z [])); counts = counts })
    (added-twice s.counts one_row (drawn 0 (calls_of d)) ∙ ap (λ k. added s.counts (drawn 1 k)) all)

-- ---- texts

-- one text alone
pub one-text : (s : Screen) (z c : ℕ) (t : List ℕ) (low high : ℕ) → put_on s z (pos c) t low high ≡ with_texts z c (t ∷ []) low high s
unfolding put_texts
one-text s z c t low high = refl

-- a text, and texts behind it
pub row-then : (s t u : Screen) (z c n : ℕ) (first : List ℕ) (ts : List (List ℕ)) (low high : ℕ) → z < length s.rows
    → t ≡ put_on s z (pos c) first low high → n ≡ min (c + text_width first) (high + 1) → u ≡ with_texts z n ts low high t → u ≡ with_texts z c (first ∷ ts) low high s
row-then s t u z c n first ts low high h p e q =
    let row = slice_index_or s.rows z [] in
    q ∙ ap (with_texts z n ts low high) p
    ∙ ap (λ rows. record s { rows = rows })
    (written_twice (λ r. put_texts r (pos n) ts low high) s.rows z (put row (pos c) first low high) h
    ∙ ap (slice_set s.rows z) (texts-then row c n first ts low high e))

-- the end of texts
pub row-end : (s t u : Screen) (z c n : ℕ) (ts : List (List ℕ)) (low high : ℕ) → z < length s.rows
    → t ≡ with_texts z c ts low high s → n ≡ reached high c ts → u ≡ with_end z n low high t → u ≡ with_row z (λ r. say_texts r (pos c) ts low high) s
row-end s t u z c n ts low high h p e q =
    let row = slice_index_or s.rows z [] in
    let cut = put_texts row (pos c) ts low high in
    q ∙ ap₂ (λ k v. with_end z k low high v) e p
    ∙ either (nat_lt high (reached high c ts))
    ∙ ap (λ r. record s { rows = slice_set s.rows z r }) (said row c ts low high)
  where
    either : (b : Bool) → (if b then put_on (with_texts z c ts low high s) z (pos high -ℤ pos 1) ellipsis low high else with_texts z c ts low high s)
        ≡ record s {
          rows = slice_set s.rows z
              (if b then put (put_texts (slice_index_or s.rows z []) (pos c) ts low high) (pos high -ℤ pos 1) ellipsis low high else put_texts (slice_index_or s.rows z []) (pos c) ts low high);
        }
    either true =
        ap (λ rows. record s { rows = rows })
        (written_twice (λ r. put r (pos high -ℤ pos 1) ellipsis low high) s.rows z (put_texts (slice_index_or s.rows z []) (pos c) ts low high) h)
    either false = refl

-- ---- spans side by side

-- a column behind the limit may be any other one
pub held : (z c n : ℕ) (ts : List (List ℕ)) (low high : ℕ) (s : Screen) → n ≡ min c (high + 1) → with_texts z n ts low high s ≡ with_texts z c ts low high s
held z c n ts low high s e =
    ap (λ k. with_texts z k ts low high s) e ∙ ap (λ r. record s { rows = slice_set s.rows z r }) (texts-held (slice_index_or s.rows z []) c ts low high)

pub held-reach : (high c n : ℕ) (ts : List (List ℕ)) → n ≡ min c (high + 1) → reached high n ts ≡ reached high c ts
held-reach high c n ts e = ap (λ k. reached high k ts) e ∙ reached-held high c ts

-- one span, and those behind it
pub spans-then : (z n m : ℕ) (spans : List Span) (i : ℕ) (d : Span) (low high : ℕ) (t u all : Screen) → z < length t.rows → i < length spans
    → u ≡ put_on t z (pos n) (get_or spans i d).0.now low high → m ≡ min (n + text_width (get_or spans i d).0.now) (high + 1)
    → with_texts z n (span_texts (drop i spans)) low high t ≡ all → with_texts z m (span_texts (drop (i + 1) spans)) low high u ≡ all
spans-then z n m spans i d low high t u all h k p e q =
    row-then t u (with_texts z m (span_texts (drop (i + 1) spans)) low high u) z n m (get_or spans i d).0.now (span_texts (drop (i + 1) spans)) low high h p e refl
    ∙ ap (λ ts. with_texts z n ts low high t) (sym (spans-more spans i d k))
    ∙ q

pub spans-reach : (high n m all : ℕ) (spans : List Span) (i : ℕ) (d : Span) → i < length spans → m ≡ min (n + text_width (get_or spans i d).0.now) (high + 1)
    → reached high n (span_texts (drop i spans)) ≡ all → reached high m (span_texts (drop (i + 1) spans)) ≡ all
spans-reach high n m all spans i d k e q =
    reached-then high n m (get_or spans i d).0.now (span_texts (drop (i + 1) spans)) e ∙ ap (reached high n) (sym (spans-more spans i d k)) ∙ q

-- the spans of a line that is cut behind the limit show the line
pub cut-shown : (z c columns : ℕ) (old new us : List (List ℕ)) (low high : ℕ) (s : Screen) → old ≡ [] → columns ≡ high - c → Adds columns old new us
    → with_texts z c new low high s ≡ with_texts z c us low high s
cut-shown z c columns old new us low high s none k h =
    ap (λ ts. with_texts z c ts low high s) (h.added ∙ ap (λ ts. ts ++ h.texts) none)
    ∙ ⊎_elim
    (λ (e : h.texts ≡ us). ap (λ ts. with_texts z c ts low high s) e)
    (λ (cut : IsCut columns h.texts us).
    let reaches : pos high ≤ℤ (pos c +ℤ pos columns) = omega (arith, ints, k) in
    ap (λ r. record s { rows = slice_set s.rows z r }) (texts-cut (slice_index_or s.rows z []) (pos c) columns h.texts us low high cut reaches))
    h.shown

pub cut-reach : (c columns : ℕ) (old new us : List (List ℕ)) (high : ℕ) → old ≡ [] → columns ≡ high - c → Adds columns old new us → reached high c new ≡ reached high c us
cut-reach c columns old new us high none k h =
    ap (reached high c) (h.added ∙ ap (λ ts. ts ++ h.texts) none)
    ∙ ⊎_elim
    (λ (e : h.texts ≡ us). ap (reached high c) e)
    (λ (cut : IsCut columns h.texts us). reached-cut high c h.texts us (subst (λ n. IsCut n h.texts us) k cut))
    h.shown

-- no span is left
pub spans-end : (z n : ℕ) (spans : List Span) (i low high : ℕ) (t all : Screen) → z < length t.rows → length spans ≤ i
    → with_texts z n (span_texts (drop i spans)) low high t ≡ all → t ≡ all
spans-end z n spans i low high t all h k q =
    sym
    (ap (λ ts. with_texts z n ts low high t) (spans-none spans i k)
    ∙ ap (λ r. record t { rows = slice_set t.rows z r }) (texts-none (slice_index_or t.rows z []) (pos n) low high)
    ∙ ap (λ rows. record t { rows = rows }) (set-get_or t.rows z []))
    ∙ q

pub spans-all : (high n all : ℕ) (spans : List Span) (i : ℕ) → n ≤ high + 1 → length spans ≤ i → reached high n (span_texts (drop i spans)) ≡ all → n ≡ all
spans-all high n all spans i h k q = sym (ap (reached high n) (spans-none spans i k) ∙ reached-none high n h) ∙ q

-- ---- outcomes

pub if-ok : {T E : Type 0} (r : Result T E) (P Q : T → Type 0) → ((v : T) → P v → Q v) → IfOk r P → IfOk r Q
if-ok (Ok v) P Q f p = f v p
if-ok (Err e) P Q f p = tt

pub on-ok : {T E P Q : Type 0} (r : Result T E) → (P → Q) → OnOk r P → OnOk r Q
on-ok (Ok v) f p = f p
on-ok (Err e) f p = tt

-- ---- sizes

pub sized-same : (s t : Screen) → t ≡ s → IsSized s t
sized-same s t e = record { width = ap (λ u. u.width) e; height = ap (λ u. length u.rows) e }

pub sized-then : (s t u : Screen) → IsSized s t → IsSized t u → IsSized s u
sized-then s t u h k = record { width = k.width ∙ h.width; height = k.height ∙ h.height }

pub sized-row : (z : ℕ) (f : Row → Row) (s t : Screen) → t ≡ with_row z f s → IsSized s t
sized-row z f s t e =
    record { width = ap (λ u. u.width) e; height = ap (λ u. length u.rows) e ∙ length-set s.rows z (f (slice_index_or s.rows z [])) }

-- after a change that may fail and then leaves the screen
pub sized-put : {T E : Type 0} (r : Result T E) (z : ℕ) (f : Row → Row) (s t : Screen) → OnOk r (t ≡ with_row z f s) → OnErr r (t ≡ s) → IsSized s t
sized-put (Ok v) z f s t p q = sized-row z f s t p
sized-put (Err e) z f s t p q = sized-same s t q

-- ---- rows of several draw calls

pub drawn-two : (z : ℕ) (f g : Row → Row) (s t u : Screen) → z < length s.rows → t ≡ drawn_on z f 1 s → u ≡ drawn_on z g 1 t → u ≡ drawn_on z (λ r. g (f r)) 2 s
drawn-two z f g s t u h p q = drawn-then z 1 1 f g s t u h p q

pub drawn-three : (z : ℕ) (f g k : Row → Row) (s t u v : Screen) → z < length s.rows → t ≡ drawn_on z f 1 s → u ≡ drawn_on z g 1 t → v ≡ drawn_on z k 1 u
    → v ≡ drawn_on z (λ r. k (g (f r))) 3 s
drawn-three z f g k s t u v h p q r = drawn-then z 2 1 (λ x. g (f x)) k s u v h (drawn-two z f g s t u h p q) r

pub drawn-four : (z : ℕ) (f g k l : Row → Row) (s t u v w : Screen) → z < length s.rows → t ≡ drawn_on z f 1 s → u ≡ drawn_on z g 1 t → v ≡ drawn_on z k 1 u → w ≡ drawn_on z l 1 v
    → w ≡ drawn_on z (λ r. l (k (g (f r)))) 4 s
drawn-four z f g k l s t u v w h p q r o = drawn-then z 3 1 (λ x. k (g (f x))) l s v w h (drawn-three z f g k s t u v h p q r) o
