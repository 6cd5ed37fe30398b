-- The plain data that a marker stands for.
use Rattle.std.specs.Prelude.{List, map, string_bytes}
use Rattle.ul_comparison.specs.Formulas.{Formula, extra, python, python_list, text, opaque, all, any, Formulas, formulas_of}
use Rattle.ul_marker.specs.declared.marker.Marker.{Marker, fold-Marker}
use Rattle.ul_marker.specs.declared.marker.Marker.TheOpen.{Marker-F}

-- one level of a marker
abbrev pub view_step : Marker-F Formula → Formula
view_step (Marker-F.Extra literal equal) = extra (string_bytes literal) equal
view_step (Marker-F.Python full clause) = python full clause
view_step (Marker-F.PythonList full versions within) = python_list full versions.items within
view_step (Marker-F.Text variable literal equal) = text variable (string_bytes literal) equal
view_step (Marker-F.Opaque atom positive) = opaque atom positive
view_step (Marker-F.All parts) = all (formulas_of parts.items)
view_step (Marker-F.Any parts) = any (formulas_of parts.items)

-- the formula of a marker
abbrev pub marker_view : Marker → Formula
marker_view = fold-Marker Formula view_step

-- the formulas of markers
abbrev pub markers_view : List Marker → Formulas
markers_view ms = formulas_of (map marker_view ms)
