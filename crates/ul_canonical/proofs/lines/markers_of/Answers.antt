use Rattle.std.proofs.Common.{◌≡◌, ◌+◌, ◌∷◌, List, [], arith, length, map, sym, ap, ◌∙◌}
use Rattle.std.specs.Prelude.{option_map}
use Rattle.std.proofs.lemmas.Grind.{common_steps}
use Rattle.std.proofs.lemmas.List.{map-append}
use Rattle.ul_marker.specs.Views.{marker_view}
use Rattle.ul_marker.specs.declared.marker.Marker.{Marker}
use Rattle.ul_lines.specs.Lines.{lines_of}
use Rattle.ul_canonical.specs.Lines.{formulas_from, formulas_of}
use Rattle.ul_canonical.proofs.Said.{behind, read_start, reads_end, reads_on, reads_wrong}
use Rattle.ul_canonical.proofs.lines.markers_of.Goals as goal

pub loop-rest-init : goal.loop-rest-init
loop-rest-init c = record {
  reads = ap (λ (ms : List Marker). behind (map marker_view ms) (formulas_from 1 (lines_of c.args.bytes.now))) c.new-markers.ensures.items ∙ read_start c.args.bytes.now;
  room = omega arith;
}

pub returns-in-None : goal.returns-in-None
returns-in-None c =
    reads_wrong c.loop-rest.number (map marker_view c.loop-rest.markers.items) c.loop-rest.rest.now c.first_line.result.0.now c.first_line.result.1.now (formulas_of c.args.bytes.now) c.first_line.ensures.cut
    (sym (ap (option_map marker_view) c.in-None.is) ∙ c.in_ok-line_marker.ensures) c.loop-rest.invariant.reads

pub loop-rest-preserved : goal.loop-rest-preserved
loop-rest-preserved c =
    let before = c.loop-rest.markers.items in
    let marker = c.in-Some.marker in
    record {
      reads =
          ap (λ fs. behind fs (formulas_from (c.loop-rest.number + 1) (lines_of c.first_line.result.1.now))) (ap (map marker_view) c.in_ok-markers-in-Some.ensures ∙ map-append marker_view before (marker ∷ []))
          ∙ reads_on c.loop-rest.number (map marker_view before) (marker_view marker) c.loop-rest.rest.now c.first_line.result.0.now c.first_line.result.1.now (formulas_of c.args.bytes.now) c.first_line.ensures.cut
          (sym (ap (option_map marker_view) c.in-Some.is) ∙ c.in_ok-line_marker.ensures) c.loop-rest.invariant.reads;
      room = omega arith;
    }

pub returns : goal.returns
returns c =
    let none : length c.loop-rest.rest.now ≡ 0 = grind (arith, common_steps) in
    reads_end c.loop-rest.number (map marker_view c.loop-rest.markers.items) c.loop-rest.rest.now (formulas_of c.args.bytes.now) none c.loop-rest.invariant.reads
