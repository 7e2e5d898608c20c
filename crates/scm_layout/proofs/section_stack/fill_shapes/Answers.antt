use Rattle.std.proofs.Common.{◌≡◌, ◌∙◌, ◌+◌, ◌<◌, ◌≤◌, ◌++◌, ◌∷◌, [], drop, length, map, take, append-nil, refl, ap, sym, arith}
use Rattle.std.proofs.lemmas.List.{drop_all, take_all}
use Rattle.scm_rows.specs.Heights.{shape_of}
use Rattle.scm_layout.proofs.RowLemmas.{written}
use Rattle.scm_layout.proofs.ZipLemmas.{cut-at}
use Rattle.scm_layout.proofs.section_stack.fill_shapes.Goals as goal

pub loop-index-preserved : goal.loop-index-preserved
loop-index-preserved c =
    let shapes = c.loop-index.shapes in
    let ss = c.args.sections.now in
    let i = c.loop-index.index in
    let s = c.index-sections-index.result in
    let within : i < length shapes = omega (arith, c.requires) in
    let more : map shape_of (drop i ss) ≡ shape_of s ∷ map shape_of (drop (i + 1) ss) = ap (map shape_of) (cut-at ss i s c.loop-index-test.true c.index-sections-index.is) in
    rw c.shape_of.ensures (written shapes i (shape_of s) (map shape_of (drop (i + 1) ss)) (map shape_of ss) within (ap (λ zs. take i shapes ++ zs) (sym more) ∙ c.loop-index.invariant))

pub returns : goal.returns
returns c =
    let shapes = c.loop-index.shapes in
    let ss = c.args.sections.now in
    let i = c.loop-index.index in
    let all : length shapes ≤ i = omega (arith, c.requires) in
    let none : map shape_of (drop i ss) ≡ [] = rw (drop_all i ss c.loop-index-test.false) refl in
    sym (take_all i shapes all) ∙ sym (append-nil (take i shapes)) ∙ ap (λ zs. take i shapes ++ zs) (sym none) ∙ c.loop-index.invariant
