use Rattle.std.proofs.Common.{◌≡◌, ◌∙◌, [], None}
use Rattle.ul_marker.specs.Reading.{printed_marker_of}
use Rattle.laws_exports.proofs.Asked.{all_read, asked_is_given}
use Rattle.laws_exports.proofs.MarkersRead.{empty_alike}
use Rattle.laws_exports.proofs.RowLines.{row_lines}
use Rattle.laws_exports.proofs.laws.lines_are_read.Goals as goal

pub returns : goal.returns
returns c =
    let none : printed_marker_of [] ≡ None = empty_alike ∙ c.readings.ensures.not_read.empty in
    let promises = c.row_promises.ensures in
    let read = row_lines none promises in
    record {
      rows = read;
      read = λ l xs rows ok are silent. all_read _ rows (read l xs rows ok are) silent;
      ask = λ l xs rows ok are. asked_is_given l xs rows _ (read l xs rows ok are) (promises.exact l xs rows ok are);
    }
