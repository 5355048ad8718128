-- the class and the key that were read stand one after the other
use Rattle.std.proofs.Common.{◌∷◌, ap, ◌∙◌}
use Rattle.header_extract.specs.Class.{settled}
use Rattle.header_extract.specs.Link.{frame_class}
use Rattle.aclc_page.specs.Rows.{class_number}
use Rattle.aclc_page.proofs.Rowing.{row_put}
use Rattle.aclc_page.proofs.records.write_row.Goals as goal

pub returns : goal.returns
returns c =
    row_put c.args.row.now c.class_number.result c.copy_from_slice.new.self c.requires
    ∙ ap (λ number. number ∷ c.copy_from_slice.new.self)
    (c.class_number.ensures ∙ ap class_number c.extract-class.ensures.class)
    ∙ ap (λ key. class_number (settled (frame_class c.args.link c.args.frame.now)).class ∷ key)
    (c.copy_from_slice.ensures.after ∙ c.extract-class.ensures.key)
