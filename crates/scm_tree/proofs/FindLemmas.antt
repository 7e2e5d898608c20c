-- The row of a path.
use Rattle.std.proofs.Common.{◌≡◌, ℕ, ◌+◌, ◌<◌, ◌≤◌, List, length, get_or, true, false, arith, sym, ◌∙◌, ap, inl, inr}
use Rattle.std.proofs.lemmas.Bool.{false≢true, cases_lt, false_from_ne_true}
use Rattle.scm_tree.specs.declared.row.Row.{Row}
use Rattle.scm_tree.specs.Paths.{is_before}
use Rattle.scm_tree.specs.Rows.{AreInOrder}
use Rattle.scm_tree.proofs.PathLemmas.{before_self, before_total, before_trans}
use Rattle.scm_tree.specs.declared.find.Span.{Span}
use Rattle.scm_tree.specs.Find.{HasNoRow, IsRowFor, IsWithin, starts_before}

pub whole : (rows : List Row) (path : List ℕ) → IsWithin rows path (record { low = 0; high = length rows })
whole rows path = record {
  order = omega arith;
  long = omega arith;
  before = λ i d h. absurd (not_below i h);
  after = λ i d h k. absurd (omega arith);
}
  where
    not_below : (i : ℕ) → i < 0 → ⊥
    not_below i h = omega arith

-- what is before a row that comes before the path comes before the path
early : (rows : List Row) (path : List ℕ) (i m : ℕ) (d : Row) → AreInOrder rows → i < m + 1 → m < length rows → starts_before rows path m d ≡ true → starts_before rows path i d ≡ true
early rows path i m d o h k b = elim (cases_lt i m) [
  | inl l ↦ before_trans (get_or rows i d).path.now (get_or rows m d).path.now path (o i m d l k) b
  | inr l ↦ (let e : i ≡ m = omega arith in ap (λ (n : ℕ). starts_before rows path n d) e ∙ b)
]

late : (rows : List Row) (path : List ℕ) (i m : ℕ) (d : Row) → AreInOrder rows → m ≤ i → i < length rows → starts_before rows path m d ≡ false → starts_before rows path i d ≡ false
late rows path i m d o h k b = elim (cases_lt m i) [
  | inl l ↦ false_from_ne_true (starts_before rows path i d) (λ t. false≢true (sym b ∙ before_trans (get_or rows m d).path.now (get_or rows i d).path.now path (o m i d l k) t))
  | inr l ↦ (let e : i ≡ m = omega arith in ap (λ (n : ℕ). starts_before rows path n d) e ∙ b)
]

pub upper : (rows : List Row) (path : List ℕ) (span : Span) (m : ℕ) → AreInOrder rows → IsWithin rows path span → m < span.high → ((d : Row) → starts_before rows path m d ≡ true) → IsWithin rows path (record { low = m + 1; high = span.high })
upper rows path span m o s h b = record {
  order = omega arith;
  long = s.long;
  before = λ i d k. let l = s.long in let n : m < length rows = omega arith in early rows path i m d o k n (b d);
  after = s.after;
}

pub lower : (rows : List Row) (path : List ℕ) (span : Span) (m : ℕ) → AreInOrder rows → IsWithin rows path span → span.low ≤ m → m < span.high → ((d : Row) → starts_before rows path m d ≡ false) → IsWithin rows path (record { low = span.low; high = m })
lower rows path span m o s h g b = record {
  order = h;
  long = let l = s.long in omega arith;
  before = s.before;
  after = λ i d k l. late rows path i m d o k l (b d);
}

pub found : (rows : List Row) (path : List ℕ) (span : Span) → IsWithin rows path span → span.high ≤ span.low → span.low < length rows → ((d : Row) → is_before path (get_or rows span.low d).path.now ≡ false) → IsRowFor rows path span.low
found rows path span s h k b = record {
  within = k;
  path_is = λ d. before_total (get_or rows span.low d).path.now path (s.after span.low d h k) (b d);
}

same_apart : (p q : List ℕ) → p ≡ q → is_before p q ≡ true → ⊥
same_apart p q e b = false≢true (sym (before_self q) ∙ ap (λ (x : List ℕ). is_before x q) (sym e) ∙ b)

pub none_past : (rows : List Row) (path : List ℕ) (span : Span) → IsWithin rows path span → length rows ≤ span.low → HasNoRow rows path
none_past rows path span s h = record { is_none = λ i d k e. same_apart (get_or rows i d).path.now path e (s.before i d (omega arith)) }

pub none_there : (rows : List Row) (path : List ℕ) (span : Span) → AreInOrder rows → IsWithin rows path span → span.low < length rows → ((d : Row) → is_before path (get_or rows span.low d).path.now ≡ true) → HasNoRow rows path
none_there rows path span o s h b = record {
  is_none = λ i d k e. elim (cases_lt i span.low) [
    | inl l ↦ same_apart (get_or rows i d).path.now path e (s.before i d l)
    | inr l ↦ after i d k e l
  ];
}
  where
    after : (i : ℕ) (d : Row) → i < length rows → (get_or rows i d).path.now ≡ path → span.low ≤ i → ⊥
    after i d k e l = elim (cases_lt span.low i) [
      | inl m ↦ same_apart path (get_or rows i d).path.now (sym e) (before_trans path (get_or rows span.low d).path.now (get_or rows i d).path.now (b d) (o span.low i d m k))
      | inr m ↦ (let x : i ≡ span.low = omega arith in
          same_apart path (get_or rows i d).path.now (sym e) (ap (λ (n : ℕ). is_before path (get_or rows n d).path.now) x ∙ b d))
    ]
