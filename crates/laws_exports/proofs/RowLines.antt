-- The lines of rows are read as their requirements.
use Rattle.std.proofs.Common.{◌≡◌, ◌≢◌, ℕ, List, [], ◌∷◌, ◌++◌, Bool, true, false, inl, inr, Some, None, Contains, refl, sym, ap, subst, ◌∙◌, append_assoc, arith}
use Rattle.std.specs.Prelude.{◌==◌, codes, nat_le}
use Rattle.std.specs.Bool.{one_answer}
use Rattle.std.specs.List.{list_any}
use Rattle.std.proofs.lemmas.Bool.{cases_Bool}
use Rattle.std.proofs.lemmas.Bool.Decides.{nat_tests}
use Rattle.ul_base.specs.Names.{is_normal_byte}
use Rattle.ul_base.specs.declared.node.Node.{Node}
use Rattle.ul_base.proofs.ForCallers.{contains_first, contains_later}
use Rattle.ul_version.specs.Fields.{Fields}
use Rattle.ul_version.specs.Texts.{is_text_byte, version_text}
use Rattle.ul_specifier.proofs.ForCallers.{all-joined, all-weaker}
use Rattle.ul_comparison.specs.Atoms.{is_literal_byte}
use Rattle.ul_comparison.specs.Formulas.{Formula}
use Rattle.ul_comparison.specs.Worlds.{WorldFields, IsWorld}
use Rattle.ul_lines.specs.Lines.{lines_of}
use Rattle.ul_marker.specs.Parts.{asks_extras}
use Rattle.ul_marker.specs.PrintedPaths.{paths_formula}
use Rattle.ul_marker.specs.Reading.{printed_marker_of}
use Rattle.ul_requirement.specs.Reading.{reading_of}
use Rattle.ul_nodes.specs.Plain.{Plain, truth, node, Branches}
use Rattle.ul_nodes.specs.Reduced.{IsReduced}
use Rattle.ul_tree.specs.Regions.{IsRegionTree, region_of}
use Rattle.ul_tree.specs.Values.{tree_holds}
use Rattle.ul_tree.proofs.ForCallers.{no_extra}
use Rattle.ul_marker_text.specs.Headline.{ReadsAs}
use Rattle.ul_marker_text.specs.MarkerText.{marker_text, printed_paths}
use Rattle.ul_marker_text.proofs.ForCallers.{node_reads}
use Rattle.ul_lock.specs.Region.{IsRegion, is_true}
use Rattle.ul_lock.specs.declared.parts.Lock.{Lock}
use Rattle.ul_lock.specs.WellFormed.{IsWellFormed}
use Rattle.ul_sound.proofs.ForCallers.{simplified_region}
use Rattle.ul_reach.specs.Headline.{RowPromises}
use Rattle.ul_reach.specs.Lines.{extra_text, marker_part, row_line, rows_text}
use Rattle.ul_reach.specs.Rows.{AreRows, IsMarked, IsWanted, row_key}
use Rattle.ul_reach.specs.declared.rows.Reached.{Reached}
use Rattle.laws_exports.specs.Lines.{AreRowLines, IsRowLine, read_as}
use Rattle.laws_exports.proofs.Bytes.{Pass, extra_passes, name_passes, none_of, version_passes}
use Rattle.laws_exports.proofs.Cutting.{first_line}
use Rattle.laws_exports.proofs.Fronts.{fronted}
use Rattle.laws_exports.proofs.LineReadings.{marked_as, marked_line, pin_line}
use Rattle.laws_exports.proofs.MarkersRead.{document_reads, formula_if, text_bytes}
use Rattle.laws_exports.proofs.Named.{IsNamed, given_named}
use Rattle.laws_exports.proofs.PlainMarkers.{tree_silent}
use Rattle.laws_exports.proofs.Tails.{marked_text}

-- ---- a row

-- its marker is a region
row_region : (l : Lock) (xs : List (List ℕ)) (r : Reached) → IsWellFormed l → IsWanted l xs (row_key r)
    → IsMarked l xs r → IsRegion r.marker
row_region l xs r ok h m =
    let w : WorldFields = h.1.0 in
    let tree : IsRegionTree m.tree = record {
      reduced = m.reduced;
      truth = λ v x is.
          one_answer (tree_holds m.tree v x) (tree_holds m.tree v []) (m.truth v x is) (m.truth v [] is);
    } in
    simplified_region m.tree l.supported r.marker tree ok.supported.reduced m.simplifies w
    ((m.truth w [] h.1.1).1 h.1.3) h.1.2

row_named : (l : Lock) (xs : List (List ℕ)) (r : Reached) → IsWellFormed l → IsWanted l xs (row_key r)
    → IsNamed r.node r.version
row_named l xs r ok h = given_named l h.1.0 xs (row_key r) ok h.1.3 h.0

region_truth : (t : Plain) → IsRegion t → (w : WorldFields) (x : List ℕ) → IsWorld w → tree_holds t w x ≡ region_of t w
region_truth t region = (no_extra.back t region.reduced region.no_extra).truth

-- ---- its line

-- the row of parts
abbrev row_of : Node → Fields → Plain → Reached
row_of n v t = record { node = n; version = v; marker = t }

by_extras : (n : Node) (v : Fields) (t : Plain) (f : Formula) (b : Bool) → asks_extras f ≡ b
    → marked_as n v (formula_if b f) ≡ read_as (row_of n v t) (Some f)
by_extras n v t f true e = rw e refl
by_extras n v t f false e = rw e refl

-- the line of a row whose marker is printed
marked_row : (n : Node) (v : Fields) (m : List ℕ)
    → fronted n (codes "==" ++ (version_text v ++ ((codes " ; " ++ m) ++ codes "\n")))
    ≡ fronted n (marked_text v m ++ codes "\n")
marked_row n v m =
    let end = append_assoc (version_text v) (codes " ; " ++ m) (codes "\n") in
    ap (λ (t : List ℕ). fronted n (codes "==" ++ t)) (sym end)

-- the formula that is read of a node's text is the one of its paths
formula_is : (l : List ℕ) (d : Plain) (bs : Branches) (f : Formula) → IsReduced (node l d bs)
    → printed_marker_of (marker_text (node l d bs)) ≡ Some f → f ≡ paths_formula (printed_paths (node l d bs))
formula_is l d bs f reduced read =
    let same : Some f ≡ Some (paths_formula (printed_paths (node l d bs))) = sym read ∙ node_reads l d bs reduced in cc

line_is : (n : Node) (v : Fields) (t : Plain) → printed_marker_of [] ≡ None → IsNamed n v → IsRegion t
    → (t ≢ truth true → ReadsAs (marker_text t) t) → IsRowLine (row_line (row_of n v t)) (row_of n v t)
line_is n v (truth true) none named region reads = record {
  marker = None;
  read = pin_line n v named;
  truth = λ w x is. refl;
  silent = λ h. tt;
}
line_is n v (truth false) none named region reads = absurd (region.not_false refl)
line_is n v (node l d bs) none named region reads =
    let t : Plain = node l d bs in
    let m : List ℕ = marker_text t in
    let r : ReadsAs m t = reads (λ e. cc e) in
    let f : Formula = r.formula in
    let line = marked_line n v m f (formula_if (asks_extras f) f) none named (text_bytes t region.reduced) r.read
    (document_reads m f r.read) in
    record {
      marker = Some f;
      read = ap reading_of (marked_row n v m) ∙ (line ∙ by_extras n v t f (asks_extras f) refl);
      truth = λ w x is. r.truth w x is ∙ region_truth t region w x is;
      silent = λ h. ap asks_extras (formula_is l d bs f region.reduced r.read) ∙ tree_silent t h;
    }

-- ---- it is one line

-- a byte that ends no line
abbrev is_printed : ℕ → Bool
is_printed b = nat_le 32 b

name_printed : (b : ℕ) → is_normal_byte b ≡ true → is_printed b ≡ true
name_printed b h = grind (arith, nat_tests)

version_printed : (b : ℕ) → is_text_byte b ≡ true → is_printed b ≡ true
version_printed b h = grind (arith, nat_tests)

literal_printed : (b : ℕ) → is_literal_byte b ≡ true → is_printed b ≡ true
literal_printed b h = grind (arith, nat_tests)

marker_printed : (t : Plain) → IsReduced t → Pass is_printed (marker_part t)
marker_printed t h = elim (cases_Bool (is_true t)) [
  | inl all ↦ rw all refl
  | inr some ↦
      let marker : Pass is_printed (marker_text t) =
      all-weaker is_literal_byte is_printed (marker_text t) literal_printed (text_bytes t h) in
      rw some (all-joined is_printed (codes " ; ") (marker_text t) refl marker)
]

-- a row's line without its end
abbrev line_body : Reached → List ℕ
line_body r = fronted r.node (codes "==" ++ (version_text r.version ++ marker_part r.marker))

body_printed : (r : Reached) → IsNamed r.node r.version → IsReduced r.marker → Pass is_printed (line_body r)
body_printed r named reduced =
    let marker : List ℕ = marker_part r.marker in
    let pin : List ℕ = codes "==" ++ (version_text r.version ++ marker) in
    let version = version_passes is_printed r.version named.version version_printed in
    let extra = extra_passes is_printed r.node.extra named.extra name_printed refl refl in
    let name = name_passes is_printed r.node.name named.name name_printed in
    all-joined is_printed r.node.name (extra_text r.node.extra ++ pin) name
    (all-joined is_printed (extra_text r.node.extra) pin extra
    (all-joined is_printed (codes "==") (version_text r.version ++ marker) refl
    (all-joined is_printed (version_text r.version) marker version (marker_printed r.marker reduced))))

-- the end of a line before other lines
line_end : (r : Reached) (rest : List ℕ) → row_line r ++ rest ≡ line_body r ++ 10 ∷ rest
line_end r rest = simp append_assoc

line_whole : (r : Reached) → row_line r ≡ line_body r ++ 10 ∷ []
line_whole r = simp append_assoc

row_first : (r : Reached) (rest : List ℕ) → IsNamed r.node r.version → IsReduced r.marker
    → lines_of (row_line r ++ rest) ≡ row_line r ∷ lines_of rest
row_first r rest named reduced =
    let free : list_any (λ b. b == 10) (line_body r) ≡ false =
    none_of is_printed 10 (line_body r) refl (body_printed r named reduced) in
    ap lines_of (line_end r rest)
    ∙ (first_line (line_body r) rest free ∙ ap (λ (t : List ℕ). t ∷ lines_of rest) (sym (line_whole r)))

-- ---- all rows

-- what is known of each row
record IsGood (r : Reached) : Type 0 where
  named : IsNamed r.node r.version
  reduced : IsReduced r.marker
  line : IsRowLine (row_line r) r

good_lines : (rows : List Reached) → ((r : Reached) → Contains rows r → IsGood r)
    → AreRowLines (lines_of (rows_text rows)) rows
unfolding lines_of
good_lines [] good = tt
good_lines (r ∷ rows) good =
    let g : IsGood r = good r (contains_first r rows) in
    let cut = row_first r (rows_text rows) g.named g.reduced in
    subst (λ (lines : List (List ℕ)). AreRowLines lines (r ∷ rows)) (sym cut)
    (g.line, good_lines rows (λ s at. good s (contains_later r rows s at)))

pub row_lines : printed_marker_of [] ≡ None → RowPromises → (l : Lock) (xs : List (List ℕ)) (rows : List Reached)
    → IsWellFormed l → AreRows l xs rows → AreRowLines (lines_of (rows_text rows)) rows
row_lines none promises l xs rows ok are = good_lines rows (λ r at.
    let wanted : IsWanted l xs (row_key r) = are.wanted r at in
    let region : IsRegion r.marker = row_region l xs r ok wanted (are.right r at) in
    let named : IsNamed r.node r.version = row_named l xs r ok wanted in
    let read = promises.reads l xs rows r ok are at in
    record { named = named; reduced = region.reduced; line = line_is r.node r.version r.marker none named region read })
