use Rattle.std.proofs.Common.{◌≡◌, ◌∙◌, ◌+◌, ◌-◌, suc, Some, None, get_or, ap, sym, arith}
use Rattle.std.specs.Prelude.{if◌then◌else◌}
use Rattle.std.proofs.lemmas.Bool.{le-ltb, lt-ltb}
use Rattle.scm_layout.specs.declared.file_rows.FileRows.{FileRows}
use Rattle.scm_layout.proofs.SearchLemmas.{follow-rise, on-last, on-none}
use Rattle.scm_layout.proofs.row_search.file_on.Goals as goal

pub files_begun-count-requires : goal.files_begun-count-requires
files_begun-count-requires c = follow-rise (λ (r : FileRows). r.top) (λ (r : FileRows). r.end) c.requires.top c.args.files.now c.requires.follow

pub returns-then-count-eq0 : goal.returns-then-count-eq0
returns-then-count-eq0 c =
    sym (on-none (λ (r : FileRows). r.top) (λ (r : FileRows). r.end) c.args.row c.requires.top 0 c.args.files.now c.requires.follow (sym c.files_begun-count.ensures.count ∙ c.if-count-eq0.true))

pub returns-then-row-files : goal.returns-then-row-files
returns-then-row-files c =
    let d : FileRows = c.index-files-last.result in
    let n = c.files_begun-count.result - 1 in
    let next : c.files_begun-count.result ≡ suc n = omega arith in
    let zero : 0 + n ≡ n = omega arith in
    let found = on-last (λ (r : FileRows). r.top) (λ (r : FileRows). r.end) c.args.row c.requires.top 0 n d c.args.files.now c.requires.follow (sym c.files_begun-count.ensures.count ∙ next) in
    sym (found ∙ ap (λ b. if b then Some (0 + n) else None) (lt-ltb c.args.row (get_or c.args.files.now n d).end c.if-row-files.true) ∙ ap (λ m. Some m) zero)

pub returns-else-row-files : goal.returns-else-row-files
returns-else-row-files c =
    let d : FileRows = c.index-files-last.result in
    let n = c.files_begun-count.result - 1 in
    let next : c.files_begun-count.result ≡ suc n = omega arith in
    let zero : 0 + n ≡ n = omega arith in
    let found = on-last (λ (r : FileRows). r.top) (λ (r : FileRows). r.end) c.args.row c.requires.top 0 n d c.args.files.now c.requires.follow (sym c.files_begun-count.ensures.count ∙ next) in
    sym (found ∙ ap (λ b. if b then Some (0 + n) else None) (le-ltb c.args.row (get_or c.args.files.now n d).end c.if-row-files.false))
