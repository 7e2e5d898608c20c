-- On which rows and columns the boxes of rows lie, one below another.
use Rattle.std.proofs.Common.{◌≡◌, Bool, true, false, refl}
use lib.Utf8.{encode}
use Rattle.unicode_segmentation.proofs.Computing.{unicode_segmentation}
use Rattle.unicode_width.proofs.Computing.{unicode_width}
use Rattle.scm_types.specs.declared.tristate.Tristate.{Tristate}
use Rattle.scm_types.specs.declared.tristate.Tristate.TheVariants.{False, Partial, True}
use Rattle.scm_cells.specs.Clusters.{text_width, clusters, visible_clusters, with_width, visible_width, has_control}
use Rattle.scm_widgets.specs.declared.tristate_box.TristateIconStyle.{TristateIconStyle}
use Rattle.scm_widgets.specs.declared.tristate_box.TristateIconStyle.TheVariants.{Check, Expand}
use Rattle.scm_widgets.specs.Texts.{icon_text, bracketed, box_text}
use Rattle.scm_widgets.specs.Boxes.{IdBox}

-- ---- a box has three columns

bracketed-width : (r f u : Bool) (s : TristateIconStyle) (t : Tristate) → text_width (bracketed r f (icon_text u s t)) ≡ 3
unfolding text_width clusters visible_clusters with_width visible_width has_control encode unicode_segmentation unicode_width
bracketed-width true f u Check False = refl
bracketed-width true f true Check Partial = refl
bracketed-width true f false Check Partial = refl
bracketed-width true f true Check True = refl
bracketed-width true f false Check True = refl
bracketed-width true f u Expand False = refl
bracketed-width true f true Expand Partial = refl
bracketed-width true f false Expand Partial = refl
bracketed-width true f u Expand True = refl
bracketed-width false true u Check False = refl
bracketed-width false true true Check Partial = refl
bracketed-width false true false Check Partial = refl
bracketed-width false true true Check True = refl
bracketed-width false true false Check True = refl
bracketed-width false true u Expand False = refl
bracketed-width false true true Expand Partial = refl
bracketed-width false true false Expand Partial = refl
bracketed-width false true u Expand True = refl
bracketed-width false false u Check False = refl
bracketed-width false false true Check Partial = refl
bracketed-width false false false Check Partial = refl
bracketed-width false false true Check True = refl
bracketed-width false false false Check True = refl
bracketed-width false false u Expand False = refl
bracketed-width false false true Expand Partial = refl
bracketed-width false false false Expand Partial = refl
bracketed-width false false u Expand True = refl

pub box-width : (b : IdBox) → text_width (box_text b) ≡ 3
box-width b = bracketed-width b.is_read_only b.is_focused b.use_unicode b.icon_style b.tristate
