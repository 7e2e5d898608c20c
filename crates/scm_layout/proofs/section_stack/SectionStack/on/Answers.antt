use Rattle.std.proofs.Common.{◌≡◌, ◌∙◌, ◌+◌, ◌-◌, ◌<◌, ℕ, List, length, drop, suc, Some, None, get_or, ap, sym, arith}
use Rattle.std.specs.Prelude.{if◌then◌else◌, nat_lt}
use Rattle.std.proofs.lemmas.Bool.{le-ltb, lt-ltb}
use Rattle.scm_layout.specs.declared.section_rows.SectionRows.{SectionRows}
use Rattle.scm_rows.specs.declared.section_shape.SectionShape.{SectionShape}
use Rattle.scm_rows.specs.declared.section_shape.SectionShape.TheVariants as shapes
use Rattle.scm_layout.proofs.SearchLemmas.{follow-rise, on-last, on-none}
use Rattle.scm_layout.specs.SectionStack.{first_or, rows_by}
use Rattle.scm_layout.proofs.SectionStackLemmas.{length-by, rows-at, there}
use Rattle.scm_layout.proofs.section_stack.SectionStack.on.Goals as goal

-- where a section ends
end-there : (tops : List ℕ) (last : ℕ) (kinds : List SectionShape) (i : ℕ) (d : SectionRows) → length tops ≡ length kinds → i < length tops → (get_or (rows_by tops last kinds) i d).end ≡ first_or (drop (i + 1) tops) last
end-there tops last kinds i d e within = sym (ap (λ (r : SectionRows). r.end) (there (rows_by tops last kinds) i _ d (rows-at tops last kinds i 0 (shapes.Context 0) e within)))

pub begun-count-requires : goal.begun-count-requires
begun-count-requires c = follow-rise (λ (r : SectionRows). r.top) (λ (r : SectionRows). r.end) c.requires.top c.args.self.now c.requires.follow

pub returns-then-count-eq0 : goal.returns-then-count-eq0
returns-then-count-eq0 c =
    sym (on-none (λ (r : SectionRows). r.top) (λ (r : SectionRows). r.end) c.args.row c.requires.top 0 c.args.self.now c.requires.follow (sym c.begun-count.ensures.count ∙ c.if-count-eq0.true))

pub end_at-requires : goal.end_at-requires
end_at-requires c =
    let s = c.self.inside in
    let some : 0 < c.begun-count.result = omega arith in
    omega (arith, some, c.begun-count.ensures.most, ap (λ (ts : List ℕ). length ts) c.as_slice.ensures, length-by s.tops s.end s.shapes c.self.invariant, ap (λ (rs : List SectionRows). length rs) c.self.view_is)

pub returns-then-row-end_at : goal.returns-then-row-end_at
returns-then-row-end_at c =
    let s = c.self.inside in
    let d : SectionRows = (record { top = 0; end = 0; shape = shapes.Context 0 }) in
    let n = c.begun-count.result - 1 in
    let next : c.begun-count.result ≡ suc n = omega arith in
    let zero : 0 + n ≡ n = omega arith in
    let inside : n < length s.tops = omega (arith, next, c.begun-count.ensures.most, length-by s.tops s.end s.shapes c.self.invariant, ap (λ (rs : List SectionRows). length rs) c.self.view_is) in
    let ends : c.end_at.result ≡ (get_or c.args.self.now n d).end =
    c.end_at.ensures ∙ ap (λ (ts : List ℕ). first_or (drop (n + 1) ts) s.end) c.as_slice.ensures ∙ sym (end-there s.tops s.end s.shapes n d c.self.invariant inside) ∙ ap (λ (rs : List SectionRows). (get_or rs n d).end) c.self.view_is in
    let found = on-last (λ (r : SectionRows). r.top) (λ (r : SectionRows). r.end) c.args.row c.requires.top 0 n d c.args.self.now c.requires.follow (sym c.begun-count.ensures.count ∙ next) in
    sym (found ∙ ap (λ b. if b then Some (0 + n) else None) (ap (nat_lt c.args.row) (sym ends) ∙ lt-ltb c.args.row c.end_at.result c.if-row-end_at.true) ∙ ap (λ m. Some m) zero)

pub returns-else-row-end_at : goal.returns-else-row-end_at
returns-else-row-end_at c =
    let s = c.self.inside in
    let d : SectionRows = (record { top = 0; end = 0; shape = shapes.Context 0 }) in
    let n = c.begun-count.result - 1 in
    let next : c.begun-count.result ≡ suc n = omega arith in
    let zero : 0 + n ≡ n = omega arith in
    let inside : n < length s.tops = omega (arith, next, c.begun-count.ensures.most, length-by s.tops s.end s.shapes c.self.invariant, ap (λ (rs : List SectionRows). length rs) c.self.view_is) in
    let ends : c.end_at.result ≡ (get_or c.args.self.now n d).end =
    c.end_at.ensures ∙ ap (λ (ts : List ℕ). first_or (drop (n + 1) ts) s.end) c.as_slice.ensures ∙ sym (end-there s.tops s.end s.shapes n d c.self.invariant inside) ∙ ap (λ (rs : List SectionRows). (get_or rs n d).end) c.self.view_is in
    let found = on-last (λ (r : SectionRows). r.top) (λ (r : SectionRows). r.end) c.args.row c.requires.top 0 n d c.args.self.now c.requires.follow (sym c.begun-count.ensures.count ∙ next) in
    sym (found ∙ ap (λ b. if b then Some (0 + n) else None) (ap (nat_lt c.args.row) (sym ends) ∙ le-ltb c.args.row c.end_at.result c.if-row-end_at.false))
