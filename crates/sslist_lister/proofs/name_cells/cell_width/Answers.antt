use Rattle.std.proofs.Common.{◌∙◌, ap, List, ℕ, chars, false}
use Rattle.unicode_width.specs.Width.{str_width}
use Rattle.sslist_lister.proofs.CellWidths.{other_bytes_have_columns}
use Rattle.sslist_lister.proofs.CellWidths.{utf8_has_width_of_characters}
use Rattle.sslist_lister.proofs.name_cells.cell_width.Goals as goal

pub returns-in-Ok : goal.returns-in-Ok
returns-in-Ok c =
    let is = c.in-Ok.ensures.cases in
    c.width.ensures.value ∙ ap (λ (t : List ℕ). str_width false (chars t)) is.0
    ∙ utf8_has_width_of_characters c.args.utf8 c.args.cell.now c.if-not-utf8.false is.1

pub returns-in-Err : goal.returns-in-Err
returns-in-Err c =
    other_bytes_have_columns c.args.utf8 c.args.cell.now c.in-Err.ensures.cases.0
